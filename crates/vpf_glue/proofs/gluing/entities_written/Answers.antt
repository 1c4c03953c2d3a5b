use Rattle.std.proofs.Common.{◌≡◌, ℕ, List, length, sym, ap, ◌∙◌, arith}
use Rattle.std.specs.Prelude.{flat_map}
use Rattle.vpf_prims.specs.Coverages.{CoverageTables}
use Rattle.vpf_prims.specs.Libraries.{library_of}
use Rattle.vpf_renumbering.specs.TilingLawsWhole.{tiles_in, whole_entities}
use Rattle.vpf_primitive_tables.specs.TableForms.Forms.{head_like, pair_kinds}
use Rattle.vpf_primitive_tables.specs.Inner.TableForms.CountedLaws.{length-numbered}
use Rattle.vpf_glue.specs.GluedTables.Grids.{entity_sources, glued_entity_grid, glued_entity_row}
use Rattle.vpf_glue.proofs.EntityLemmas.{as_many}
use Rattle.vpf_glue.proofs.gluing.entities_written.Goals as goal

pub returns-then-count-from : goal.returns-then-count-from
returns-then-count-from c =
    let f = c.args.form.now in
    let count = c.entity_count-count.ensures
    ∙ ap (λ (v : CoverageTables). length (flat_map (whole_entities (library_of v)) (tiles_in (library_of v)))) c.checked.ensures in
    c.overfull.ensures.limit (glued_entity_grid c.args.form.now.table c.args.faces.now)
    (sym (c.header.ensures ∙ ap (λ (name : List ℕ). head_like c.args.form.now.table (pair_kinds name)) c.requires.name))
    (length-numbered (glued_entity_row c.args.form.now.table.head.columns c.args.faces.now) (entity_sources c.args.faces.now) ∙ as_many c.args.faces.now ∙ sym count)

pub write_entities-requires-clause-few : goal.write_entities-requires-clause-few
write_entities-requires-clause-few c =
    let count : c.entity_count-count.result ≡ length (entity_sources c.args.faces.now) = c.entity_count-count.ensures
    ∙ ap (λ (v : CoverageTables). length (flat_map (whole_entities (library_of v)) (tiles_in (library_of v)))) c.checked.ensures ∙ sym (as_many c.args.faces.now) in
    omega (arith, c.from.ensures)
