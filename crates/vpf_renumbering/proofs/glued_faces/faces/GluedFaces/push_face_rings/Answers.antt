use Rattle.std.proofs.Common.{◌≡◌, ◌≢◌, ℕ, ◌^◌, ◌<◌, ◌≤◌, ◌++◌, ◌∙◌, sym, ap, subst, arith, List, length, map, get_or}
use Rattle.std.proofs.lemmas.List.{take_all}
use Rattle.std.proofs.lemmas.List.Elements.{All-push}
use Rattle.std.specs.Prelude.{All}
use Rattle.vpf_cutting.specs.Inner.Copies.Presence.{items_in}
use Rattle.vpf_darts.specs.Darts.{tile_dart_code}
use Rattle.vpf_prims.specs.Coverages.{CoverageTables}
use Rattle.vpf_prims.specs.Libraries.{library_of}
use Rattle.vpf_prims.specs.Lists.{kth}
use Rattle.vpf_prims.specs.Numbering.{IsRowOf}
use Rattle.vpf_prims.specs.Primitives.{absent_ring}
use Rattle.vpf_prims.specs.Reading.{primitives_of}
use Rattle.vpf_prims.specs.References.{id_of}
use Rattle.vpf_wing.specs.Links.{links_of}
use Rattle.vpf_tiling_laws.specs.Gluing.Whole.{ring_start_dart}
use Rattle.vpf_cut_rings.specs.Inner.PlaceLaws.{IsRingOfFace, kept_at}
use Rattle.vpf_renumbering.specs.Inner.GluedFaces.Rings.{HasHomeStart, rings_glued}
use Rattle.vpf_renumbering.proofs.glued_faces.RingLemmas.{face_made, more_made, one_ring, ring_at, start_home}
use Rattle.vpf_renumbering.proofs.glued_faces.faces.GluedFaces.push_face_rings.Goals as goal

not_zero : (f : ℕ) → 2 ≤ f → f ≢ 0
not_zero f two e = let e' : f ≡ 0 = e in omega arith

pub ring-edge-requires : goal.ring-edge-requires
ring-edge-requires c =
    let many : length c.in_tile-ring-items.result.now ≡ length (items_in c.args.by_face.now c.args.face) = ap length c.in_tile-ring-items.ensures.items in
    let inside : c.loop-ring.ring-index < length (items_in c.args.by_face.now c.args.face) = omega arith in
    subst (λ (xs : List ℕ). IsRowOf (length (primitives_of c.args.tables.now.tables).rings) (get_or xs c.loop-ring.ring-index 0)) (sym c.in_tile-ring-items.ensures.items)
    (kept_at (primitives_of c.args.tables.now.tables) c.args.by_face.now c.requires.kept c.args.face (not_zero c.args.face c.requires.other) c.loop-ring.ring-index inside).row

pub loop-ring-preserved : goal.loop-ring-preserved
loop-ring-preserved c =
    let many : length c.in_tile-ring-items.result.now ≡ length (items_in c.args.by_face.now c.args.face) = ap length c.in_tile-ring-items.ensures.items in
    let inside : c.loop-ring.ring-index < length (items_in c.args.by_face.now c.args.face) = omega arith in
    let kept : IsRingOfFace (primitives_of c.args.tables.now.tables) c.args.face (get_or (items_in c.args.by_face.now c.args.face) c.loop-ring.ring-index 0) =
    kept_at (primitives_of c.args.tables.now.tables) c.args.by_face.now c.requires.kept c.args.face (not_zero c.args.face c.requires.other) c.loop-ring.ring-index inside in
    let edge : c.ring-edge.result.1
    ≡ id_of (kth (primitives_of c.args.tables.now.tables).rings (get_or (items_in c.args.by_face.now c.args.face) c.loop-ring.ring-index 0) absent_ring).start_edge =
    c.ring-edge.ensures.edge
    ∙ ap (λ (xs : List ℕ). id_of (kth (primitives_of c.args.tables.now.tables).rings (get_or xs c.loop-ring.ring-index 0) absent_ring).start_edge) c.in_tile-ring-items.ensures.items in
    let start : tile_dart_code c.start_dart-start.result ≡ ring_start_dart (links_of (library_of c.args.self.now)) c.args.tile c.ring-edge.result.1 c.args.face =
    subst (λ (v : CoverageTables). tile_dart_code c.start_dart-start.result ≡ ring_start_dart (links_of (library_of v)) c.args.tile c.ring-edge.result.1 c.args.face)
    (c.coverage.ensures ∙ c.checked.ensures) c.start_dart-start.ensures in
    record {
      made = more_made (library_of c.args.self.now) c.args.tile c.args.face (items_in c.args.by_face.now c.args.face) c.loop-ring.ring-index inside c.args.rings.now.items
          c.loop-ring.rings.items c.push.new.self.items (record { face = c.face_number-number.result; start = c.start_dart-start.result }) c.in_ok-push.ensures.items
          (one_ring c.args.self.now c.args.tile c.args.face (get_or (items_in c.args.by_face.now c.args.face) c.loop-ring.ring-index 0) c.face_number-number.result c.ring-edge.result.1
          c.args.tables.now c.start_dart-start.result c.requires.tile c.face_number-number.ensures.number start edge)
          c.loop-ring.invariant.made;
      home = subst (All (HasHomeStart (library_of c.args.self.now))) (sym c.in_ok-push.ensures.items)
          (All-push (HasHomeStart (library_of c.args.self.now)) c.loop-ring.rings.items (record { face = c.face_number-number.result; start = c.start_dart-start.result })
          c.loop-ring.invariant.home (record {
            home = start_home c.args.self.now c.requires.joined c.args.tile c.args.face (get_or (items_in c.args.by_face.now c.args.face) c.loop-ring.ring-index 0) c.ring-edge.result.1
                c.args.tables.now c.start_dart-start.result c.requires.tile kept c.requires.other start edge;
            face = (let few : c.face_number-number.result < 2 ^ 25 = c.face_number-number.ensures.few in omega arith);
          }));
    }

pub returns-clause-rings : goal.returns-clause-rings
returns-clause-rings c =
    let many : length c.in_tile-ring-items.result.now ≡ length (items_in c.args.by_face.now c.args.face) = ap length c.in_tile-ring-items.ensures.items in
    let all : length (items_in c.args.by_face.now c.args.face) ≤ c.loop-ring.ring-index = omega arith in
    c.loop-ring.invariant.made
    ∙ ap (λ ks. rings_glued (library_of c.args.self.now) c.args.rings.now.items ++ map (ring_at (library_of c.args.self.now) c.args.tile c.args.face) ks)
    (take_all c.loop-ring.ring-index (items_in c.args.by_face.now c.args.face) all)
    ∙ ap (λ v. rings_glued (library_of c.args.self.now) c.args.rings.now.items ++ v)
    (face_made c.args.self.now c.args.tile c.args.face c.args.tables.now c.requires.tile c.args.by_face.now c.requires.kept c.requires.other)
