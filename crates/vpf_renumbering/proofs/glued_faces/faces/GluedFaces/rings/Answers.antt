use Rattle.std.proofs.Common.{◌≡◌, ◌+◌, ◌*◌, ◌≤◌, ◌∙◌, sym, ap, subst, arith, List, length}
use Rattle.std.specs.Prelude.{All}
use Rattle.vpf_prims.specs.Coverages.{CoverageTables, last_tile}
use Rattle.vpf_prims.specs.Libraries.{library_of}
use Rattle.vpf_tiling_laws.specs.Gluing.Glued.{plus_darts, universe_rings}
use Rattle.vpf_tiling_laws.specs.Gluing.Whole.{whole_of}
use Rattle.vpf_renumbering.specs.declared.glued_faces.rings.GluedRing.{GluedRing}
use Rattle.vpf_renumbering.specs.Inner.GluedFaces.Faces.{IsJoined}
use Rattle.vpf_renumbering.specs.Inner.GluedFaces.Rings.{HasHomeStart, rings_glued}
use Rattle.vpf_renumbering.proofs.glued_faces.FewLemmas.{few_faces}
use Rattle.vpf_renumbering.proofs.glued_faces.RingLemmas.{all_made, made_map, no_rings_yet, rings_few, tiles_more}
use Rattle.vpf_renumbering.proofs.glued_faces.faces.GluedFaces.rings.Goals as goal
use Rattle.vpf_renumbering.proofs.glued_faces.faces.GluedFaces.rings.Goals.{else-loop-tile-test, then-loop-tile-test+in_ok-push_tile_rings+else-tile-tile-end}

pub loop-tile-init : goal.loop-tile-init
loop-tile-init c = record {
  made = subst (λ (v : CoverageTables). rings_glued (library_of v) c.in_ok-rings.rings.items ≡ universe_rings (whole_of (library_of v))) c.checked-checked.ensures c.in_ok-rings.ensures.rings
      ∙ no_rings_yet (universe_rings (whole_of (library_of c.args.self.now)));
  home = subst (λ (v : CoverageTables). All (HasHomeStart (library_of v)) c.in_ok-rings.rings.items) c.checked-checked.ensures c.in_ok-rings.ensures.home;
}

pub loop-tile-preserved : goal.loop-tile-preserved
loop-tile-preserved c = record {
  made = tiles_more (library_of c.args.self.now) c.loop-tile.tile (universe_rings (whole_of (library_of c.args.self.now))) (rings_glued (library_of c.args.self.now) c.loop-tile.rings.items)
      (rings_glued (library_of c.args.self.now) c.push_tile_rings.new.rings.items) c.in_ok-push_tile_rings.ensures.rings c.loop-tile.invariant.made;
  home = c.in_ok-push_tile_rings.ensures.home;
}

pub returns-clause-rings : goal.returns-clause-rings
returns-clause-rings c =
    let last : last_tile c.coverage.result.now ≡ last_tile c.args.self.now = ap last_tile (c.coverage.ensures ∙ c.checked-checked.ensures) in
    elim c.loop-tile-test.branch [
      | else-loop-tile-test w ↦ absurd (omega arith)
      | then-loop-tile-test+in_ok-push_tile_rings+else-tile-tile-end w ↦ (
          let end : c.loop-tile.tile + 1 ≡ last_tile c.args.self.now + 1 = omega arith in
          sym (made_map (library_of c.args.self.now) c.loop-tile-test.rings.items) ∙ ap (λ v. rings_glued (library_of c.args.self.now) v.items) w.rings-is
          ∙ tiles_more (library_of c.args.self.now) c.loop-tile.tile (universe_rings (whole_of (library_of c.args.self.now))) (rings_glued (library_of c.args.self.now) c.loop-tile.rings.items)
          (rings_glued (library_of c.args.self.now) w.push_tile_rings.new.rings.items) w.in_ok-push_tile_rings.ensures.rings c.loop-tile.invariant.made
          ∙ all_made (library_of c.args.self.now) (c.loop-tile.tile + 1) end)
    ]

pub returns-clause-home : goal.returns-clause-home
returns-clause-home c = elim c.loop-tile-test.branch [
  | else-loop-tile-test w ↦ absurd (omega arith)
  | then-loop-tile-test+in_ok-push_tile_rings+else-tile-tile-end w ↦
      subst (λ (xs : List GluedRing). All (HasHomeStart (library_of c.args.self.now)) xs) (sym (ap (λ v. v.items) w.rings-is)) w.in_ok-push_tile_rings.ensures.home
]

pub returns-clause-few : goal.returns-clause-few
returns-clause-few c =
    let joined : IsJoined (library_of c.args.self.now) = subst (λ (v : CoverageTables). IsJoined (library_of v)) c.checked-checked.ensures c.faces_are_joined.ensures in
    rings_few c.args.self.now (few_faces (library_of c.args.self.now) joined) c.faces_have_few_edges.ensures c.in_ok-rings.rings.items c.loop-tile-test.rings.items
    (subst (λ (v : CoverageTables). length c.in_ok-rings.rings.items ≤ 2 * length (plus_darts (whole_of (library_of v)))) c.checked-checked.ensures c.in_ok-rings.ensures.few)
    (subst (λ (v : CoverageTables). rings_glued (library_of v) c.in_ok-rings.rings.items ≡ universe_rings (whole_of (library_of v))) c.checked-checked.ensures c.in_ok-rings.ensures.rings)
    (returns-clause-rings c)
