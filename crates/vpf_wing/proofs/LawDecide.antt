-- There is no finding on a tile, or on an untiled coverage, exactly where it is well formed.
use Rattle.std.proofs.Common.{◌≡◌, ℕ, Option, None, Some, List, map, sym, ap, ◌∙◌}
use Rattle.vpf_findings.specs.Findings.{Disagreement}
use Rattle.vpf_findings.specs.Firsts.{◌or◌, first_of_rows}
use Rattle.vpf_findings.specs.Inner.FirstLaws.{or-none_both}
use Rattle.vpf_prims.specs.declared.rows.Edge.{Edge}
use Rattle.vpf_prims.specs.References.{id_of}
use Rattle.vpf_prims.specs.Primitives.{FacePrimitive, NodePrimitive, Primitives, Library, edges_in, faces_in, rings_in, nodes_in, ring_count, own_edge}
use Rattle.vpf_prims.specs.Numbering.{IsRowOf, IsNumbered}
use Rattle.vpf_prims.specs.Reading.{primitives_of}
use Rattle.vpf_prims.specs.Tables.{TileTables}
use Rattle.vpf_wing.specs.declared.rings.Ring.{Ring}
use Rattle.vpf_wing.specs.Nexts.{MakeMap}
use Rattle.vpf_wing.specs.Wings.{wings_finding}
use Rattle.vpf_wing.specs.CycleLines.{tile_columns, wing_cell, sides_line, own_ring, rings_finding, node_lines, cycles_finding}
use Rattle.vpf_wing.specs.WellFormed.{StartsRing, HasCycles}
use Rattle.vpf_wing.specs.Inner.Laws.{CyclesDecide}
use Rattle.vpf_wing.proofs.MapLemmas.{map_has_none}
use Rattle.vpf_wing.proofs.MapLemmas as maps
use Rattle.vpf_wing.proofs.LawRows.{none_both}
use Rattle.vpf_wing.proofs.LawDarts.{AtPlace, at_place}
use Rattle.vpf_wing.proofs.LawLinks.{rows_of}
use Rattle.vpf_wing.proofs.LawPlaces.{IsTile}
use Rattle.vpf_wing.proofs.LawNumbers.{tile_of}
use Rattle.vpf_wing.proofs.LawNodes.{nodes_line, names_edge, turn_together, nodes_silent}
use Rattle.vpf_wing.proofs.LawCycles.{sides_lines, have_nexts, nexts_apart, makes_map, sides_together, pairs_by_lines, pairs_by_sides, sides_silent}
use Rattle.vpf_wing.proofs.LawRings.{PairsTogether, rings_of, ring_at, ring_cycle_is, ring_start_some, starts_at}
use Rattle.vpf_wing.proofs.LawRounds.{RingHolds, pointers_of, pointer_lines, ringless_lines, rings_lines, names_ring, pointers_silent, ring_holds, rings_silent, rings_start, cycles_have_rings, ringless_silent, rings_once, once_from, rings_together, apart_from}

-- the finding on a tile by its own numbers
abbrev finding_by : ℕ → TileTables → List Edge → (pointers : List ℕ) → List Ring → (firsts : List ℕ) → Option Disagreement
finding_by t T edges pointers rings firsts =
    wings_finding (tile_columns t T) (wing_cell T.tables) edges
    or first_of_rows (sides_line t T edges) 1 edges
    or rings_finding t T edges pointers rings
    or first_of_rows (node_lines t T edges) 1 firsts

abbrev finding_in : ℕ → TileTables → Option Primitives → Option Disagreement
finding_in t T o =
    finding_by t T (map own_edge (edges_in o)) (map (λ (f : FacePrimitive). id_of f.ring_ptr) (faces_in o)) (map own_ring (rings_in o))
    (map (λ (n : NodePrimitive). id_of n.first_edge) (nodes_in o))

finding_is : (L : Library) (t : ℕ) (T : TileTables) → L.tile t ≡ Some (primitives_of T.tables) → cycles_finding t T ≡ finding_in t T (L.tile t)
unfolding cycles_finding
finding_is L t T e = sym (ap (finding_in t T) e)

-- no line on a tile says anything
record NoLines (L : Library) (t : ℕ) (T : TileTables) : Type 0 where
  pub wings : wings_finding (tile_columns t T) (wing_cell T.tables) (rows_of L t) ≡ None
  pub sides : sides_lines L t T ≡ None
  pub pointers : pointer_lines L t T ≡ None
  pub ringless : ringless_lines L t T ≡ None
  pub rings : rings_lines L t T ≡ None
  pub nodes : nodes_line L t T ≡ None

no_lines : (L : Library) (t : ℕ) (T : TileTables) → finding_in t T (L.tile t) ≡ None → NoLines L t T
no_lines L t T none =
    let a =
    or-none_both (wings_finding (tile_columns t T) (wing_cell T.tables) (rows_of L t))
    (sides_lines L t T or rings_finding t T (rows_of L t) (pointers_of L t) (rings_of L t) or nodes_line L t T) none in
    let b = or-none_both (sides_lines L t T) (rings_finding t T (rows_of L t) (pointers_of L t) (rings_of L t) or nodes_line L t T) a.1 in
    let c = or-none_both (rings_finding t T (rows_of L t) (pointers_of L t) (rings_of L t)) (nodes_line L t T) b.1 in
    let d = or-none_both (pointer_lines L t T) (ringless_lines L t T or rings_lines L t T) c.0 in
    let e = or-none_both (ringless_lines L t T) (rings_lines L t T) d.1 in
    record { wings = a.0; sides = b.0; pointers = d.0; ringless = e.0; rings = e.1; nodes = c.1 }

no_finding : (L : Library) (t : ℕ) (T : TileTables) → NoLines L t T → finding_in t T (L.tile t) ≡ None
no_finding L t T n =
    let rings : rings_finding t T (rows_of L t) (pointers_of L t) (rings_of L t) ≡ None = none_both _ _ n.pointers (none_both _ _ n.ringless n.rings) in
    none_both _ _ n.wings (none_both _ _ n.sides (none_both _ _ rings n.nodes))

has_cycles : (L : Library) (t : ℕ) (T : TileTables) → IsTile L t → IsNumbered L t → NoLines L t T → HasCycles L t
has_cycles L t T tile numbered n =
    let made : MakeMap (rows_of L t) = maps.makes_map (tile_columns t T) (wing_cell T.tables) (rows_of L t) n.wings in
    let pairs : PairsTogether L t = pairs_by_lines L t T n.sides in
    let rings : (r : ℕ) → IsRowOf (ring_count L t) r → RingHolds L t r = ring_holds L t T n.rings in
    record {
      next = have_nexts L t tile made;
      next_apart = nexts_apart L t tile made;
      node = turn_together L t T tile numbered made n.nodes;
      sides = sides_together L t T tile made n.sides;
      ring_cycle = rings_start L t tile numbered rings;
      cycle_ring = cycles_have_rings L t T tile numbered made n.ringless;
      ring_once = rings_once L t tile made pairs rings;
      together = rings_together L t rings;
      ring_ptr = names_ring L t T n.pointers;
      first_edge = names_edge L t T tile numbered n.nodes;
    }

ring_of_cycles : (L : Library) (t r : ℕ) → IsTile L t → IsNumbered L t → MakeMap (rows_of L t) → PairsTogether L t → HasCycles L t → IsRowOf (ring_count L t) r
    → RingHolds L t r
ring_of_cycles L t r tile numbered made pairs h row =
    let d : (d : ℕ) × StartsRing L t r d = h.ring_cycle r row in
    let a : AtPlace L t d.0 = at_place L t d.0 d.1.dart in
    let s = starts_at L t r d.0 tile d.1 a in
    record {
      apart = apart_from L t h.together r row;
      starts = ring_start_some L t (ring_at L t r) a.place s;
      once = once_from L t r a.place tile made numbered h.ring_once row a.below (ring_cycle_is L t (ring_at L t r) a.place pairs a.below s);
    }

cycles_have_none : (L : Library) (t : ℕ) (T : TileTables) → IsTile L t → IsNumbered L t → HasCycles L t → NoLines L t T
cycles_have_none L t T tile numbered h =
    let made : MakeMap (rows_of L t) = makes_map L t tile h.next h.next_apart in
    let pairs : PairsTogether L t = pairs_by_sides L t tile made h.sides in
    record {
      wings = map_has_none (tile_columns t T) (wing_cell T.tables) (rows_of L t) made;
      sides = sides_silent L t T tile made h.sides;
      pointers = pointers_silent L t T h.ring_ptr;
      ringless = ringless_silent L t T tile made pairs h.cycle_ring;
      rings = rings_silent L t T (λ r row. ring_of_cycles L t r tile numbered made pairs h row);
      nodes = nodes_silent L t T tile numbered made h.node h.first_edge;
    }

pub cycles_decide : CyclesDecide
cycles_decide L t T e last few numbered =
    let tile : IsTile L t = tile_of L t last few numbered in
    let is : cycles_finding t T ≡ finding_in t T (L.tile t) = finding_is L t T e in (
      λ none. has_cycles L t T tile numbered (no_lines L t T (sym is ∙ none)),
      λ h. is ∙ no_finding L t T (cycles_have_none L t T tile numbered h),
    )
