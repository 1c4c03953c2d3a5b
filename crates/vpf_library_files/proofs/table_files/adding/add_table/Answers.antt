use Rattle.std.proofs.Common.{ℕ, List, [], ◌∷◌, ◌∙◌, subst}
use Rattle.vpf_library_files.specs.TableFiles.Adding.{Adds, named_table}
use Rattle.vpf_library_files.proofs.table_files.adding.add_table.Goals as goal

pub returns : goal.returns
returns c =
    λ grid written. subst (λ (name : List ℕ). Adds (named_table name grid ∷ []) c.args.files.now.items c.add_named.new.files.items c.add_named.result)
    (c.as_str.ensures.value ∙ c.in_ok-name.ensures) (c.add_named.ensures grid written)
