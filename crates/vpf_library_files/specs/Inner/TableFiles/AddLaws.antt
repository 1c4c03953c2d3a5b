-- Laws of tables that are added one behind another, proved: some and then others are all added, and the first limit of either is that of all.
use Rattle.std.proofs.Common.{◌≡◌, refl, sym, ap, ◌∙◌, List, [], ◌∷◌, ◌++◌, append_assoc, None, Result, Ok, Err}
use Rattle.std.proofs.lemmas.Grind.{flat_map-append}
use Rattle.std.proofs.lemmas.List.{append-nil}
use Rattle.vpf_source.specs.declared.file.File.{File}
use Rattle.vpf_base.specs.Results.{Told}
use Rattle.vpf_findings.specs.Inner.FirstLaws.{or-assoc}
use Rattle.vpf_findings.specs.Firsts.{◌or◌}
use Rattle.vpf_write.specs.Writing.{first_limit}
use Rattle.vpf_library_files.specs.declared.table_files.errors.AddError.{AddError}
use Rattle.vpf_library_files.specs.declared.table_files.errors.AddError.TheVariants as errors
use Rattle.vpf_library_files.specs.TableFiles.Adding.{Adds, AreAdded, FailsAdding, NamedTable, error_seen, files_made, files_of_table, first_limit_of, made_of_tables, named_limit, unless_limited}

-- the first limit of tables and others behind them
limits-append : (xs ys : List NamedTable) → first_limit_of (xs ++ ys) ≡ (first_limit_of xs or first_limit_of ys)
limits-append [] ys = refl
limits-append (x ∷ xs) ys =
    ap (λ later. named_limit x.name (first_limit x.grid) or later) (limits-append xs ys)
    ∙ sym (or-assoc (named_limit x.name (first_limit x.grid)) (first_limit_of xs) (first_limit_of ys))

-- it is that of the others where the first pass none
limits_later : (xs ys : List NamedTable) → first_limit_of xs ≡ None → first_limit_of (xs ++ ys) ≡ first_limit_of ys
limits_later xs ys h = limits-append xs ys ∙ ap (λ o. o or first_limit_of ys) h

-- their files
files-append : (xs ys : List NamedTable) → files_made (xs ++ ys) ≡ files_made xs ++ files_made ys
files-append xs ys = flat_map-append files_of_table xs ys

-- no tables are added
pub none_added : (old : List File) → AreAdded [] old old
none_added old = (refl, sym (append-nil old))

-- some tables are added, and then others
pub added_then : (xs ys : List NamedTable) (old mid new : List File) → AreAdded xs old mid → AreAdded ys mid new → AreAdded (xs ++ ys) old new
added_then xs ys old mid new a b = (
  limits_later xs ys a.0 ∙ b.0,
  b.1 ∙ ap (λ fs. fs ++ files_made ys) a.1 ∙ append_assoc old (files_made xs) (files_made ys) ∙ ap (λ fs. old ++ fs) (sym (files-append xs ys)),
)

-- some are added, and then others aren't
pub fails_then : (xs ys : List NamedTable) (old mid : List File) (e : AddError) → AreAdded xs old mid → FailsAdding ys e → FailsAdding (xs ++ ys) e
fails_then xs ys old mid (errors.Limit name limit) a b = limits_later xs ys a.0 ∙ b
fails_then xs ys old mid errors.NoMemory a b = b

-- where some aren't, the others don't matter
pub fails_first : (xs ys : List NamedTable) (e : AddError) → FailsAdding xs e → FailsAdding (xs ++ ys) e
fails_first xs ys (errors.Limit name limit) a = limits-append xs ys ∙ ap (λ o. o or first_limit_of ys) a
fails_first xs ys errors.NoMemory a = a

-- some are added, and then others are or aren't
pub adds_then : {V : Type 0} (xs ys : List NamedTable) (old mid new : List File) (r : Result V AddError) → AreAdded xs old mid → Adds ys mid new r → Adds (xs ++ ys) old new r
adds_then xs ys old mid new (Ok v) a b = added_then xs ys old mid new a b
adds_then xs ys old mid new (Err e) a b = fails_then xs ys old mid e a b

-- the files that were added behind none are those that are made
pub made_are : (tables : List NamedTable) (files : List File) → AreAdded tables [] files → made_of_tables tables ≡ Ok files
made_are tables files a = ap (unless_limited tables) a.0 ∙ ap Ok (sym a.1)

-- and the limit that was passed is the first
pub made_fail : (tables : List NamedTable) (e : AddError) → FailsAdding tables e → Told (error_seen e) (made_of_tables tables)
made_fail tables (errors.Limit name limit) a = ap (unless_limited tables) a
made_fail tables errors.NoMemory a = a
