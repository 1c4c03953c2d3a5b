use Rattle.std.proofs.Common.{◌≡◌, ℕ, ◌*◌, ◌^◌, ◌<◌, ◌≤◌, sym, subst, arith, length, map, ◌+◌}
use Rattle.std.specs.List.{range_with_len}
use Rattle.std.specs.Prelude.{flat_map}
use Rattle.vpf_base.specs.Limits.{most_rows}
use Rattle.vpf_prims.specs.Coverages.{CoverageTables, last_tile}
use Rattle.vpf_prims.specs.Libraries.{library_of}
use Rattle.vpf_tiling_laws.specs.Gluing.Glued.{plus_darts}
use Rattle.vpf_tiling_laws.specs.Gluing.Whole.{WholeFace, whole_of}
use Rattle.vpf_renumbering.specs.Inner.GluedFaces.Faces.{HasFewFaces, faces_before}
use Rattle.vpf_renumbering.proofs.glued_faces.FewLemmas.{few_faces}
use Rattle.vpf_renumbering.proofs.glued_faces.faces.GluedFaces.new.Goals as goal

most : (n r e : ℕ) → n ≤ r → r ≤ 2 * e → e ≤ most_rows → n ≤ 2 * most_rows
most n r e a b h = omega arith

few : (c : CoverageTables) → HasFewFaces (library_of c) → length (plus_darts (whole_of (library_of c))) ≤ most_rows → length (whole_of (library_of c)).faces ≤ 2 * most_rows
few c f h = most (length (whole_of (library_of c)).faces) (length (flat_map (λ (g : WholeFace). g.rings) (whole_of (library_of c)).faces)) (length (plus_darts (whole_of (library_of c)))) f.faces f.rings h

small : (n : ℕ) → n ≤ 2 * most_rows → n < 2 ^ 32
small n h = omega arith

pub counts-requires : goal.counts-requires
counts-requires c =
    subst (λ (v : CoverageTables). length (whole_of (library_of v)).faces < 2 ^ 32) (sym c.coverage.ensures)
    (small (length (whole_of (library_of c.args.checked.now)).faces) (few c.args.checked.now (few_faces (library_of c.args.checked.now) c.faces_are_joined.ensures) c.requires))

pub invariant_of-result : goal.invariant_of-result
invariant_of-result c = record {
  edges = c.requires;
  faces = few c.args.checked.now (few_faces (library_of c.args.checked.now) c.faces_are_joined.ensures) c.requires;
  counted = subst (λ (v : CoverageTables). c.in_ok-counts.counts.items ≡ map (faces_before (library_of v)) (range_with_len 0 (last_tile v + 2))) c.coverage.ensures c.in_ok-counts.ensures;
}
