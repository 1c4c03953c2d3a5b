use Rattle.std.proofs.Common.{◌≡◌, ◌+◌, ◌^◌, ◌<◌, ◌≤◌, sym, subst, arith, length}
use Rattle.vpf_prims.specs.Coverages.{CoverageTables, last_tile}
use Rattle.vpf_prims.specs.Libraries.{library_of}
use Rattle.vpf_prims.specs.Numbering.{IsRowOf}
use Rattle.vpf_prims.specs.Primitives.{face_count}
use Rattle.vpf_renumbering.proofs.glued_faces.CountLemmas.{IsFaceNumber, counts_long, number_at, row_tile}
use Rattle.vpf_renumbering.proofs.glued_faces.faces.GluedFaces.face_number.Goals as goal

pub index-requires : goal.index-requires
index-requires c =
    let row : IsRowOf (face_count (library_of c.self.inside.checked.now) c.args.tile) c.args.face =
    subst (λ (v : CoverageTables). IsRowOf (face_count (library_of v) c.args.tile) c.args.face) (sym c.self.view_is) c.requires in
    let inside : c.args.tile ≤ last_tile c.self.inside.checked.now = row_tile c.self.inside.checked.now c.args.tile c.args.face row in
    let long : length c.self.inside.counts.items ≡ last_tile c.self.inside.checked.now + 2 = counts_long c.self.inside.checked.now c.self.inside.counts.items c.self.invariant in
    omega arith

pub overflow_add-result : goal.overflow_add-result
overflow_add-result c =
    let row : IsRowOf (face_count (library_of c.self.inside.checked.now) c.args.tile) c.args.face =
    subst (λ (v : CoverageTables). IsRowOf (face_count (library_of v) c.args.tile) c.args.face) (sym c.self.view_is) c.requires in
    let n : IsFaceNumber c.self.inside.checked.now c.args.tile c.args.face (c.index.result.now + c.args.face) =
    number_at c.self.inside.checked.now c.self.inside.counts.items c.self.invariant c.args.tile c.args.face c.index.result.now row c.if-face-eq-UNIVERSE.false c.index.ensures in
    let few : c.index.result.now + c.args.face < 2 ^ 25 = n.few in
    omega arith

pub returns-clause-number : goal.returns-clause-number
returns-clause-number c =
    let row : IsRowOf (face_count (library_of c.self.inside.checked.now) c.args.tile) c.args.face =
    subst (λ (v : CoverageTables). IsRowOf (face_count (library_of v) c.args.tile) c.args.face) (sym c.self.view_is) c.requires in
    (subst (λ (v : CoverageTables). IsFaceNumber v c.args.tile c.args.face (c.index.result.now + c.args.face)) c.self.view_is
    (number_at c.self.inside.checked.now c.self.inside.counts.items c.self.invariant c.args.tile c.args.face c.index.result.now row c.if-face-eq-UNIVERSE.false c.index.ensures)).is

pub returns-clause-row : goal.returns-clause-row
returns-clause-row c =
    let row : IsRowOf (face_count (library_of c.self.inside.checked.now) c.args.tile) c.args.face =
    subst (λ (v : CoverageTables). IsRowOf (face_count (library_of v) c.args.tile) c.args.face) (sym c.self.view_is) c.requires in
    (subst (λ (v : CoverageTables). IsFaceNumber v c.args.tile c.args.face (c.index.result.now + c.args.face)) c.self.view_is
    (number_at c.self.inside.checked.now c.self.inside.counts.items c.self.invariant c.args.tile c.args.face c.index.result.now row c.if-face-eq-UNIVERSE.false c.index.ensures)).row

pub returns-clause-few : goal.returns-clause-few
returns-clause-few c =
    let row : IsRowOf (face_count (library_of c.self.inside.checked.now) c.args.tile) c.args.face =
    subst (λ (v : CoverageTables). IsRowOf (face_count (library_of v) c.args.tile) c.args.face) (sym c.self.view_is) c.requires in
    (number_at c.self.inside.checked.now c.self.inside.counts.items c.self.invariant c.args.tile c.args.face c.index.result.now row c.if-face-eq-UNIVERSE.false c.index.ensures).few
