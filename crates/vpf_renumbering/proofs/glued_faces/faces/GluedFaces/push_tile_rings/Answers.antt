use Rattle.std.proofs.Common.{◌≡◌, ◌-◌, ◌∙◌, ◌++◌, sym, ap, arith, length, Option, None, Some}
use Rattle.std.specs.Option.{option_map}
use Rattle.vpf_prims.specs.Coverages.{CoverageTables, tile_at}
use Rattle.vpf_prims.specs.Libraries.{library_of, primitives_in}
use Rattle.vpf_prims.specs.Primitives.{face_count, faces_in}
use Rattle.vpf_prims.specs.Reading.{primitives_of}
use Rattle.vpf_prims.specs.Tables.{TileTables}
use Rattle.vpf_renumbering.specs.Inner.GluedFaces.Rings.{rings_glued}
use Rattle.vpf_renumbering.proofs.glued_faces.RingLemmas.{faces_more, none_made, tile_made}
use Rattle.vpf_renumbering.proofs.glued_faces.faces.GluedFaces.push_tile_rings.Goals as goal

pub returns-in_default-clause-rings : goal.returns-in_default-clause-rings
returns-in_default-clause-rings c =
    let none : None ≡ tile_at c.coverage.result.now c.args.tile = ap (option_map (λ t. t.now)) (sym c.in_default.is) ∙ c.tile.ensures in
    none_made c.args.self.now c.args.tile (none ∙ ap (λ (v : CoverageTables). tile_at v c.args.tile) (c.coverage.ensures ∙ c.checked.ensures))
    (rings_glued (library_of c.args.self.now) c.args.rings.now.items)

pub loop-k-preserved : goal.loop-k-preserved
loop-k-preserved c = record {
  made = faces_more (library_of c.args.self.now) c.args.tile c.loop-k.k (rings_glued (library_of c.args.self.now) c.args.rings.now.items)
      (rings_glued (library_of c.args.self.now) c.loop-k.rings.items) (rings_glued (library_of c.args.self.now) c.push_face_rings.new.rings.items)
      c.in_ok-push_face_rings.ensures.rings c.loop-k.invariant.made;
  home = c.in_ok-push_face_rings.ensures.home;
}

pub returns-clause-rings : goal.returns-clause-rings
returns-clause-rings c =
    let there : Some c.in-Some.tables.now ≡ tile_at c.args.self.now c.args.tile =
    c.in-Some.ensures ∙ ap (λ (v : CoverageTables). tile_at v c.args.tile) (c.coverage.ensures ∙ c.checked.ensures) in
    let many : length (primitives_of c.in-Some.tables.now.tables).faces ≡ face_count (library_of c.args.self.now) c.args.tile =
    ap (λ (o : Option TileTables). length (faces_in (primitives_in o))) there in
    let all : c.loop-k.k ≡ face_count (library_of c.args.self.now) c.args.tile - 1 = omega (arith, c.faces.ensures.value, c.saturating_sub-k-end.ensures) in
    c.loop-k.invariant.made
    ∙ ap (λ v. rings_glued (library_of c.args.self.now) c.args.rings.now.items ++ v) (tile_made (library_of c.args.self.now) c.args.tile c.loop-k.k all)
