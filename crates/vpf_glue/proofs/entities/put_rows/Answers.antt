use Rattle.std.proofs.Common.{◌≡◌, ℕ, ◌+◌, List, [], ◌∷◌, ◌++◌, codes, length, map, ◌<◌, ◌≤◌, sym, ap, ◌∙◌, subst, arith}
use Rattle.vpf_head.specs.Head.{Head}
use Rattle.vpf_table.specs.Grid.{Row}
use Rattle.vpf_prims.specs.Coverages.{CoverageTables}
use Rattle.vpf_prims.specs.Libraries.{library_of}
use Rattle.vpf_write.specs.Revise.Revising.{FitsElsewhere, revised}
use Rattle.vpf_write.specs.Inner.Tallies.{Holds}
use Rattle.vpf_renumbering.specs.Inner.GluedFaces.Faces.{entity_face}
use Rattle.vpf_primitive_tables.specs.TableForms.Forms.{head_like, pair_kinds, pair_values}
use Rattle.vpf_glue.specs.GluedTables.Grids.{EntitySource, entity_source, glued_entity_row}
use Rattle.vpf_glue.specs.Inner.Sources.{IsRight}
use Rattle.vpf_glue.proofs.EntityLemmas.{entity_like, entity_listed, entity_row, no_source, rows_more}
use Rattle.std.proofs.lemmas.List.{length-map, take_all}
use Rattle.vpf_tiling.specs.Ranks.{numbered_from}
use Rattle.vpf_glue.proofs.entities.put_rows.Goals as goal

pub containing_face-face-requires : goal.containing_face-face-requires
containing_face-face-requires c =
    entity_listed c.args.faces.now c.args.tile (c.loop-k.k + 1) c.args.end.now c.requires.table (omega arith, omega (arith, c.len-k-end.ensures.value))

pub put-requires-clause-head : goal.put-requires-clause-head
put-requires-clause-head c = c.loop-k.invariant.head ∙ c.requires.head ∙ ap (λ (name : List ℕ). head_like c.args.form.now.table (pair_kinds name)) (sym c.requires.form.name)

pub put-requires-clause-others : goal.put-requires-clause-others
put-requires-clause-others c =
    let right = subst IsRight c.checked.ensures c.numbers_are_right.ensures in
    let columns = c.args.form.now.table.head.columns in
    let row = c.row_of-row.result in
    let face = c.containing_face-face.result in
    subst (λ (name : List ℕ). FitsElsewhere (pair_values name c.args.form.now.table.head.columns (c.args.before + c.loop-k.k + 1) c.containing_face-face.result) c.loop-k.made.head.columns c.row_of-row.result) (sym c.requires.form.name)
    (subst (λ (h : Head). FitsElsewhere (pair_values (codes "containing_face") c.args.form.now.table.head.columns (c.args.before + c.loop-k.k + 1) c.containing_face-face.result) h.columns c.row_of-row.result)
    (sym (c.loop-k.invariant.head ∙ c.requires.head))
    (c.rows_of_tiles_fit.ensures.entities c.args.faces.now c.args.form.now.table c.args.end.now
    (entity_like c.args.faces.now c.args.tile c.args.form.now.table c.args.end.now right c.requires.form.like c.requires.table c.requires.sound)
    (c.args.before + c.loop-k.k + 1) c.containing_face-face.result c.row_of-row.result c.row_of-row.ensures.fits))

pub loop-k-preserved : goal.loop-k-preserved
loop-k-preserved c = record {
  head = c.in_ok-put.ensures.head ∙ c.loop-k.invariant.head;
  put = λ rows h.
      let columns = c.args.form.now.table.head.columns in
      let sources = map (entity_source c.args.tile c.args.end.now.head.columns) c.args.end.now.rows in
      let few : c.loop-k.k < length c.args.end.now.rows = omega (arith, c.len-k-end.ensures.value) in
      let long : length (map (entity_source c.args.tile c.args.end.now.head.columns) c.args.end.now.rows) ≡ length c.args.end.now.rows =
      length-map c.args.end.now.rows (entity_source c.args.tile c.args.end.now.head.columns) in
      let put = rw c.requires.form.name at c.in_ok-put.ensures.put in
      rows_more c.loop-k.made c.put.new.made rows (c.args.before + 1) (c.args.before + c.loop-k.k + 1) (glued_entity_row columns c.args.faces.now) sources c.loop-k.k no_source
      (revised (pair_values (codes "containing_face") columns (c.args.before + c.loop-k.k + 1) c.containing_face-face.result) c.row_of-row.result)
      (omega arith) (omega arith)
      (entity_row columns c.args.faces.now c.args.tile c.loop-k.k (c.args.before + c.loop-k.k + 1) c.containing_face-face.result c.args.end.now c.row_of-row.result c.requires.table few
      c.row_of-row.ensures.row c.containing_face-face.ensures.number)
      put (c.loop-k.invariant.put rows h);
}

pub returns-clause-put : goal.returns-clause-put
returns-clause-put c = λ rows h.
    let f = glued_entity_row c.args.form.now.table.head.columns c.args.faces.now in
    let sources = map (entity_source c.args.tile c.args.end.now.head.columns) c.args.end.now.rows in
    let long : length (map (entity_source c.args.tile c.args.end.now.head.columns) c.args.end.now.rows) ≡ length c.args.end.now.rows =
    length-map c.args.end.now.rows (entity_source c.args.tile c.args.end.now.head.columns) in
    let past : length (map (entity_source c.args.tile c.args.end.now.head.columns) c.args.end.now.rows) ≤ c.loop-k.k = omega (arith, c.len-k-end.ensures.value) in
    subst (λ (xs : List EntitySource). Holds c.loop-k.made (rows ++ numbered_from (c.args.before + 1) (glued_entity_row c.args.form.now.table.head.columns c.args.faces.now) xs))
    (take_all c.loop-k.k sources past) (c.loop-k.invariant.put rows h)
