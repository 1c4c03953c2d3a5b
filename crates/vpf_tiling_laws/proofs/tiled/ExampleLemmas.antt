-- The example may be tiled by its plan.
use Rattle.std.proofs.Common.{◌≡◌, ◌≢◌, ℕ, zero, suc, ◌^◌, ◌<◌, ◌≤◌, true, refl, sym, ap, ◌∙◌, subst, inl, inr, arith, [], ◌∷◌, None, Some, length}
use Rattle.std.specs.Prelude.{codes}
use Rattle.vpf_darts.specs.Darts.{code, tile_in, edge_in, sign_in, flip}
use Rattle.vpf_prims.specs.Lists.{kth}
use Rattle.vpf_prims.specs.References.{plain}
use Rattle.vpf_prims.specs.Primitives.{untiled, absent_edge, absent_face, absent_ring, absent_node, edge_count}
use Rattle.vpf_prims.specs.Numbering.{IsRowOf, IsPlain, IsEdgeOf, IsFaceOf, IsRingOf, IsNodeOf, IsNumbered}
use Rattle.vpf_prims.specs.Reading.{primitives_of}
use Rattle.vpf_prims.specs.Tables.{TileTables}
use Rattle.vpf_wing.specs.CycleLines.{loops_finding, cycles_finding, ring_cycle, ring_dart}
use Rattle.vpf_wing.specs.Inner.Laws.{CyclesDecide, LoopsDecide}
use Rattle.vpf_wing.specs.Nexts.{tail, face, wing, next_dart}
use Rattle.vpf_wing.specs.Places.{next_place, least_place}
use Rattle.vpf_wing.specs.WellFormed.{IsWellFormed}
use Rattle.vpf_wing.specs.Inner.DartLaws.{IsThere, has-there, sign-cases, code-parts}
use Rattle.vpf_trace.specs.Example.{plain_table}
use Rattle.vpf_tiling.specs.Presence.{untiled_links, face_of}
use Rattle.vpf_tiling.specs.Plans.{IsPlan, HasPlaces, IsTileable}
use Rattle.vpf_tiling_laws.specs.Inner.Tiled.Example.{coverage, plan}

-- the tables of the example
abbrev tables : TileTables
tables = record {
  first = 0;
  tables = record {
    edg = plain_table
        (codes "id" ∷ codes "start_node" ∷ codes "end_node" ∷ codes "right_face" ∷ codes "left_face" ∷ codes "right_edge" ∷ codes "left_edge"
        ∷ codes "tile_line" ∷ [])
        ((1 ∷ 1 ∷ 2 ∷ 2 ∷ 1 ∷ 3 ∷ 2 ∷ 0 ∷ []) ∷ (2 ∷ 2 ∷ 1 ∷ 3 ∷ 1 ∷ 3 ∷ 1 ∷ 0 ∷ []) ∷ (3 ∷ 1 ∷ 2 ∷ 3 ∷ 2 ∷ 2 ∷ 1 ∷ 1 ∷ []) ∷ []);
    fac = plain_table (codes "id" ∷ codes "ring_ptr" ∷ []) ((1 ∷ 1 ∷ []) ∷ (2 ∷ 2 ∷ []) ∷ (3 ∷ 3 ∷ []) ∷ []);
    rng = plain_table (codes "id" ∷ codes "face_id" ∷ codes "start_edge" ∷ []) ((1 ∷ 1 ∷ 1 ∷ []) ∷ (2 ∷ 2 ∷ 1 ∷ []) ∷ (3 ∷ 3 ∷ 2 ∷ []) ∷ []);
    cnd = plain_table (codes "id" ∷ codes "first_edge" ∷ []) ((1 ∷ 1 ∷ []) ∷ (2 ∷ 1 ∷ []) ∷ []);
    end = None;
  };
}

tables_say : primitives_of tables.tables ≡ coverage
tables_say = refl

is_plain : (low last n : ℕ) → low ≤ n → n ≤ last → IsPlain low last (plain n)
is_plain low last n a b = record { id = n; is = refl; from_low = a; to_last = b }

edge_is : (k : ℕ) → IsRowOf 3 k → IsEdgeOf (untiled coverage) 0 k (kth coverage.edges k absent_edge)
edge_is zero r = absurd (let a = r.0 in omega arith)
edge_is (suc zero) r = record {
  id = refl;
  start_node = inl (is_plain 1 2 1 (omega arith) (omega arith));
  end_node = inl (is_plain 1 2 2 (omega arith) (omega arith));
  right_face = inl (is_plain 1 3 2 (omega arith) (omega arith));
  left_face = inl (is_plain 1 3 1 (omega arith) (omega arith));
  right_edge = inl (is_plain 1 3 3 (omega arith) (omega arith));
  left_edge = inl (is_plain 1 3 2 (omega arith) (omega arith));
  mark = inl refl;
}
edge_is (suc (suc zero)) r = record {
  id = refl;
  start_node = inl (is_plain 1 2 2 (omega arith) (omega arith));
  end_node = inl (is_plain 1 2 1 (omega arith) (omega arith));
  right_face = inl (is_plain 1 3 3 (omega arith) (omega arith));
  left_face = inl (is_plain 1 3 1 (omega arith) (omega arith));
  right_edge = inl (is_plain 1 3 3 (omega arith) (omega arith));
  left_edge = inl (is_plain 1 3 1 (omega arith) (omega arith));
  mark = inl refl;
}
edge_is (suc (suc (suc zero))) r = record {
  id = refl;
  start_node = inl (is_plain 1 2 1 (omega arith) (omega arith));
  end_node = inl (is_plain 1 2 2 (omega arith) (omega arith));
  right_face = inl (is_plain 1 3 3 (omega arith) (omega arith));
  left_face = inl (is_plain 1 3 2 (omega arith) (omega arith));
  right_edge = inl (is_plain 1 3 2 (omega arith) (omega arith));
  left_edge = inl (is_plain 1 3 1 (omega arith) (omega arith));
  mark = inr refl;
}
edge_is (suc (suc (suc (suc k)))) r = absurd (let b = r.1 in omega arith)

face_is : (k : ℕ) → IsRowOf 3 k → IsFaceOf (untiled coverage) 0 k (kth coverage.faces k absent_face)
face_is zero r = absurd (let a = r.0 in omega arith)
face_is (suc zero) r = record { id = refl; ring_ptr = is_plain 0 3 1 (omega arith) (omega arith) }
face_is (suc (suc zero)) r = record { id = refl; ring_ptr = is_plain 1 3 2 (omega arith) (omega arith) }
face_is (suc (suc (suc zero))) r = record { id = refl; ring_ptr = is_plain 1 3 3 (omega arith) (omega arith) }
face_is (suc (suc (suc (suc k)))) r = absurd (let b = r.1 in omega arith)

ring_is : (k : ℕ) → IsRowOf 3 k → IsRingOf (untiled coverage) 0 k (kth coverage.rings k absent_ring)
ring_is zero r = absurd (let a = r.0 in omega arith)
ring_is (suc zero) r = record { id = refl; face = is_plain 1 3 1 (omega arith) (omega arith); start_edge = is_plain 1 3 1 (omega arith) (omega arith) }
ring_is (suc (suc zero)) r = record { id = refl; face = is_plain 1 3 2 (omega arith) (omega arith); start_edge = is_plain 1 3 1 (omega arith) (omega arith) }
ring_is (suc (suc (suc zero))) r =
    record { id = refl; face = is_plain 1 3 3 (omega arith) (omega arith); start_edge = is_plain 1 3 2 (omega arith) (omega arith) }
ring_is (suc (suc (suc (suc k)))) r = absurd (let b = r.1 in omega arith)

node_is : (k : ℕ) → IsRowOf 2 k → IsNodeOf (untiled coverage) 0 k (kth coverage.nodes k absent_node)
node_is zero r = absurd (let a = r.0 in omega arith)
node_is (suc zero) r = record { id = refl; first_edge = is_plain 1 3 1 (omega arith) (omega arith) }
node_is (suc (suc zero)) r = record { id = refl; first_edge = is_plain 1 3 1 (omega arith) (omega arith) }
node_is (suc (suc (suc k))) r = absurd (let b = r.1 in omega arith)

numbered : IsNumbered (untiled coverage) 0
numbered = record {
  edges = edge_is;
  faces = face_is;
  rings = ring_is;
  nodes = node_is;
  entities = λ k r. absurd (let a = r.0 in let b : k ≤ 0 = r.1 in omega arith);
  universe = (let z : 1 ≤ 3 = omega arith in z);
}

few : length coverage.edges < 2 ^ 24
few = let z : length coverage.edges ≡ 3 = refl in omega arith

nothing_on_loops : loops_finding 0 tables ≡ None
nothing_on_loops = refl

nothing_on_cycles : cycles_finding 0 tables ≡ None
unfolding code tail face wing next_dart next_place least_place cycles_finding ring_cycle ring_dart
nothing_on_cycles = refl

is_well_formed : LoopsDecide → CyclesDecide → IsWellFormed coverage
is_well_formed loops cycles = record {
  numbered = numbered;
  loops = (loops tables few).0 nothing_on_loops;
  cycles = (cycles (untiled coverage) 0 tables (ap Some (sym tables_say)) (omega arith) few numbered).0 nothing_on_cycles;
}

-- a dart of the example is one of six
data OneOfSix (d : ℕ) : Type 0 where
  plus : (e : ℕ) → IsRowOf 3 e → d ≡ code 0 e 0 → OneOfSix d
  minus : (e : ℕ) → IsRowOf 3 e → d ≡ code 0 e 1 → OneOfSix d

one_of_six : (d : ℕ) → (untiled_links coverage).has d ≡ true → OneOfSix d
one_of_six d h =
    let i : IsThere (untiled coverage) d = has-there (untiled coverage) d h in
    let l = i.to_last in
    let zero_tile : tile_in d ≡ 0 = omega arith in
    let most : edge_in d ≤ 3 = subst (λ t. edge_in d ≤ edge_count (untiled coverage) t) zero_tile i.to_count in
    let whole : code 0 (edge_in d) (sign_in d) ≡ d = ap (λ t. code t (edge_in d) (sign_in d)) (sym zero_tile) ∙ code-parts d in
    elim (sign-cases d) [
      | inl s ↦ plus (edge_in d) (i.from_one, most) (sym whole ∙ ap (code 0 (edge_in d)) s)
      | inr s ↦ minus (edge_in d) (i.from_one, most) (sym whole ∙ ap (code 0 (edge_in d)) s)
    ]

-- no edge has the universe on both sides
one_side : (e : ℕ) → IsRowOf 3 e → face_of coverage (code 0 e 0) ≢ 1
unfolding code tile_in edge_in sign_in
one_side zero r q = absurd (let a = r.0 in omega arith)
one_side (suc zero) r q = absurd (let z : 2 ≡ 1 = q in omega arith)
one_side (suc (suc zero)) r q = absurd (let z : 3 ≡ 1 = q in omega arith)
one_side (suc (suc (suc zero))) r q = absurd (let z : 3 ≡ 1 = q in omega arith)
one_side (suc (suc (suc (suc k)))) r q = absurd (let b = r.1 in omega arith)

other_code : (e : ℕ) → flip (code 0 e 1) ≡ code 0 e 0
unfolding code flip
other_code e = omega arith

has_places : HasPlaces coverage
has_places = record {
  edges = λ d h one other. elim (one_of_six d h) [
    | plus e r s ↦ one_side e r (ap (face_of coverage) (sym s) ∙ one)
    | minus e r s ↦ one_side e r (ap (face_of coverage) (sym (other_code e)) ∙ ap (λ x. face_of coverage (flip x)) (sym s) ∙ other)
  ];
  entities = λ n r e. absurd (let a = r.0 in let b : n ≤ 0 = r.1 in omega arith);
}

is_plan : IsPlan coverage plan 2
is_plan = record { some = omega arith; from_one = first; to_last = last }
  where
    first : (f : ℕ) → 2 ≤ f → f ≤ 3 → 1 ≤ plan f
    first zero a b = absurd (omega arith)
    first (suc zero) a b = absurd (omega arith)
    first (suc (suc zero)) a b = omega arith
    first (suc (suc (suc zero))) a b = omega arith
    first (suc (suc (suc (suc f)))) a b = absurd (omega arith)

    last : (f : ℕ) → 2 ≤ f → f ≤ 3 → plan f ≤ 2
    last zero a b = absurd (omega arith)
    last (suc zero) a b = absurd (omega arith)
    last (suc (suc zero)) a b = omega arith
    last (suc (suc (suc zero))) a b = omega arith
    last (suc (suc (suc (suc f)))) a b = absurd (omega arith)

pub is_tileable : LoopsDecide → CyclesDecide → IsTileable coverage plan 2
is_tileable loops cycles = record { few = few; well_formed = is_well_formed loops cycles; plans = is_plan; places = has_places }
