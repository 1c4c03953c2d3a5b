use Rattle.std.proofs.Common.{ℕ, List, ap, ◌∙◌, subst}
use Rattle.vpf_head.specs.Head.{Head}
use Rattle.vpf_tiling.specs.Ranks.{numbered}
use Rattle.vpf_write.specs.Writing.{Writes}
use Rattle.vpf_primitive_tables.specs.TableForms.Forms.{head_like, pair_kinds}
use Rattle.vpf_glue.specs.GluedTables.Grids.{entity_sources, glued_entity_row}
use Rattle.vpf_glue.proofs.entities.write_entities.Goals as goal

pub put_all-requires-clause-head : goal.put_all-requires-clause-head
put_all-requires-clause-head c = c.in_ok-made.ensures.head ∙ ap (λ (name : List ℕ). head_like c.args.form.now.table (pair_kinds name)) c.requires.form.name

pub returns : goal.returns
returns c =
    let rows = numbered (glued_entity_row c.args.form.now.table.head.columns c.args.faces.now) (entity_sources c.args.faces.now) in
    let head = c.in_ok-put_all.ensures.head ∙ c.in_ok-made.ensures.head ∙ ap (λ (name : List ℕ). head_like c.args.form.now.table (pair_kinds name)) c.requires.form.name in
    subst (λ (h : Head). Writes (record { head = h; rows = numbered (glued_entity_row c.args.form.now.table.head.columns c.args.faces.now) (entity_sources c.args.faces.now) }) c.finish.result) head
    (c.finish.ensures.written rows c.in_ok-put_all.ensures.put)
