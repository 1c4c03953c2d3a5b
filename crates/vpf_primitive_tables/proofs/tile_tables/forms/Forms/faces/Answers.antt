use Rattle.std.proofs.Common.{◌≤◌, ◌∙◌, ℕ, List, ◌∷◌, codes, length, map, ap, sym, subst, arith}
use Rattle.std.specs.Prelude.{All, nat_eq}
use Rattle.std.proofs.lemmas.List.Elements.{All-cons}
use Rattle.vpf_prims.specs.Lists.{first_item}
use Rattle.vpf_prims.specs.Numbering.{IsRowOf}
use Rattle.vpf_prims.specs.Reading.{PrimitiveTables}
use Rattle.vpf_tiling.specs.Presence.{held_faces, holds_face}
use Rattle.vpf_tiling.specs.Tiles.{Ring, tiled_rings}
use Rattle.vpf_cutting.specs.Inner.Cuts.{plan_by}
use Rattle.vpf_cut_rings.specs.Inner.Rings.{first_rings_of, ring_of}
use Rattle.vpf_primitive_tables.specs.TileTables.Grids.{faces_of_tile}
use Rattle.vpf_primitive_tables.proofs.table_forms.CountedRows.{made_of_numbers, rows_within}
use Rattle.vpf_primitive_tables.specs.Inner.TableForms.CountedLaws.{length-numbered}
use Rattle.vpf_primitive_tables.proofs.tile_tables.FormLemmas.{face_rows, written_like}
use Rattle.vpf_primitive_tables.proofs.tile_tables.forms.Forms.faces.Goals as goal

pub write_pairs-requires-clause-rows : goal.write_pairs-requires-clause-rows
write_pairs-requires-clause-rows c =
    let cut = c.args.cut.now in
    let n = length cut.source.faces in
    let held = held_faces cut.source (plan_by cut.plan) c.args.tile in
    let within = rows_within (holds_face cut.source (plan_by cut.plan) c.args.tile) n in
    let some : 1 ≤ n = c.plan_holds.ensures.tileable.well_formed.numbered.universe in
    let whole : All (IsRowOf n) (1 ∷ held) = All-cons (IsRowOf n) 1 held ((omega arith), some) within in
    let is = c.as_slice-faces.ensures.value ∙ c.in_ok-all.ensures ∙ ap (λ (xs : List ℕ). 1 ∷ xs) c.faces_in.ensures.faces in
    let here : All (IsRowOf n) c.as_slice-faces.result.now = subst (All (IsRowOf n)) (sym is) whole in
    subst (λ (n : ℕ). All (IsRowOf n) c.as_slice-faces.result.now) (face_rows cut.source c.self.inside c.args.self.now c.requires.source c.self.view_is) here

pub write_pairs-requires-clause-each : goal.write_pairs-requires-clause-each
write_pairs-requires-clause-each c =
    let first = λ (k : ℕ). first_item (λ (r : Ring). nat_eq r.face k) (map ring_of c.args.rings.now) in
    let names = λ (k f : ℕ). first k in
    let faces = c.as_slice-faces.result.now in
    ap (λ (xs : List ℕ). length xs) (c.deref.ensures.value ∙ c.in_ok-ring_ptrs.ensures.firsts ∙ sym (made_of_numbers first faces)) ∙ length-numbered names faces

pub returns : goal.returns
returns c =
    let cut = c.args.cut.now in
    let rings = tiled_rings cut.source (plan_by cut.plan) c.args.tile in
    let first = λ (k : ℕ). first_item (λ (r : Ring). nat_eq r.face k) rings in
    let names = λ (k f : ℕ). first k in
    let faces = c.as_slice-faces.result.now in
    let is = c.as_slice-faces.ensures.value ∙ c.in_ok-all.ensures ∙ ap (λ (xs : List ℕ). 1 ∷ xs) c.faces_in.ensures.faces in
    let told = c.deref.ensures.value ∙ c.in_ok-ring_ptrs.ensures.firsts ∙ ap (λ (rs : List Ring). first_rings_of (length faces) rs) c.requires.rings ∙ sym (made_of_numbers first faces) in
    written_like c.self.inside.fac.name (codes "ring_ptr") c.self.inside.fac.table c.args.self.now.fac names faces (faces_of_tile cut.source (plan_by cut.plan) c.args.tile) c.write_pairs.result c.self.invariant.ring_ptr
    (ap (λ (t : PrimitiveTables). t.fac) c.self.view_is) is (c.write_pairs.ensures names told)
