-- A node has no finding exactly where its darts are one cycle of turn and its first edge is at it.
use Rattle.std.proofs.Common.{◌≡◌, ℕ, zero, suc, ◌+◌, ◌-◌, ◌*◌, ◌^◌, ◌<◌, ◌≤◌, ◌⊎◌, true, eqb, Option, None, List, length, map, get_or, refl, sym, ap, subst, ◌∙◌, arith, inl, inr}
use Rattle.std.proofs.lemmas.Bool.{eqb-true}
use Rattle.std.proofs.lemmas.List.{length-map}
use Rattle.vpf_darts.specs.Darts.{code}
use Rattle.vpf_darts.specs.Maps.{turn}
use Rattle.vpf_darts.specs.Cycles.{count_of}
use Rattle.vpf_darts.specs.Inner.OrbitLaws.{Returns}
use Rattle.vpf_findings.specs.Findings.{Disagreement}
use Rattle.vpf_findings.specs.Firsts.{first_of_rows}
use Rattle.vpf_findings.specs.Inner.FirstLaws.{or-none_both, unless_none}
use Rattle.vpf_prims.specs.declared.rows.Edge.{Edge}
use Rattle.vpf_prims.specs.Lists.{kth, first_item}
use Rattle.vpf_prims.specs.References.{id_of}
use Rattle.vpf_prims.specs.Primitives.{NodePrimitive, Library, absent_node, tile_nodes, edge_count, node_count}
use Rattle.vpf_prims.specs.Numbering.{IsRowOf, IsNumbered}
use Rattle.vpf_prims.specs.Tables.{TileTables}
use Rattle.vpf_wing.specs.Nexts.{edge_at, dart_at, tail, MakeMap}
use Rattle.vpf_wing.specs.Places.{flip_place, turn_place, turn_size, tails}
use Rattle.vpf_wing.specs.Walks.{LeadsTo}
use Rattle.vpf_wing.specs.CycleLines.{at_node_line, turn_line, node_lines}
use Rattle.vpf_wing.specs.Links.{links_of, local_map, tail_node}
use Rattle.vpf_wing.specs.WellFormed.{IsDartOf, IsAtNode}
use Rattle.vpf_wing.proofs.MapLemmas.{next_edge}
use Rattle.vpf_wing.proofs.LawFacts.{same, unless_holds, either_is, either_from, zero_or_some}
use Rattle.vpf_wing.proofs.LawRows.{row_none, row_silent, none_both}
use Rattle.vpf_wing.proofs.LawFirsts.{item-map, first_row, first_passes, first_at}
use Rattle.vpf_wing.proofs.LawCounts.{shorter, same_counts, places_of, places_of-once, places_of-has, places_of-some, length-places_of, IsPlace}
use Rattle.vpf_wing.proofs.LawDarts.{AtPlace, number_at, at_place, number_dart}
use Rattle.vpf_wing.proofs.LawLinks.{rows_of, rows_count, number_tail, flip_below, flip_back, head_flip, plus_number, minus_code, plus_dart, minus_dart}
use Rattle.vpf_wing.proofs.LawOrbits.{KeepsApart, StaysBelow, after, steps_is, leads_back, leads_on, round_of}
use Rattle.vpf_wing.proofs.LawPlaces.{AreAmong, IsTile, dart_back, next_is_place, stays_below, keeps_apart, below_rows, turns_by, turns_of}
use Rattle.vpf_wing.proofs.LawNumbers.{plain_row, tail_row}
use Rattle.vpf_wing.proofs.LawTurns.{round_size, round_to, round_has, length-tails, tail_at, next_tail}

-- a turn keeps the tail
turn_keeps_tail : (edges : List Edge) → AreAmong edges → MakeMap edges → (p : ℕ) → p < 2 * length edges
    → tail edges (dart_at (turn_place edges p)) ≡ tail edges (dart_at p)
turn_keeps_tail edges among made p h =
    let hq : flip_place p < 2 * length edges = flip_below (length edges) p h in
    let x = made.one (flip_place p) hq in
    let low : 1 ≤ x.0.edge = subst (λ k. 1 ≤ k) (sym (next_edge edges (dart_at (flip_place p)) x.0 x.1)) (among (flip_place p) hq).0 in
    ap (λ v. tail edges (dart_at v)) (next_is_place edges (flip_place p) x.0 hq x.1)
    ∙ ap (tail edges) (dart_back x.0 low)
    ∙ next_tail edges (dart_at (flip_place p)) x.0 x.1
    ∙ head_flip edges p

turn_stays : (edges : List Edge) → AreAmong edges → StaysBelow (turn_place edges) (2 * length edges)
turn_stays edges among p h = stays_below edges among (flip_place p) (flip_below (length edges) p h)

turn_apart : (edges : List Edge) → AreAmong edges → MakeMap edges → KeepsApart (turn_place edges)
turn_apart edges among made p q e =
    let f : flip_place p ≡ flip_place q = keeps_apart edges among made (flip_place p) (flip_place q) e in
    sym (flip_back p) ∙ ap flip_place f ∙ flip_back q

turn_tails : (edges : List Edge) → AreAmong edges → MakeMap edges → (k p : ℕ) → p < 2 * length edges
    → tail edges (dart_at (after (turn_place edges) k p)) ≡ tail edges (dart_at p)
turn_tails edges among made zero p h = refl
turn_tails edges among made (suc k) p h = turn_tails edges among made k (turn_place edges p) (turn_stays edges among p h) ∙ turn_keeps_tail edges among made p h

-- the darts at a node
abbrev DartsAt : List Edge → ℕ → List ℕ
DartsAt edges n = places_of n 0 (tails edges)

darts_at_has : (edges : List Edge) (n p : ℕ) → p < 2 * length edges → tail edges (dart_at p) ≡ n → 0 < count_of p (DartsAt edges n)
darts_at_has edges n p h e =
    let z : p - 0 ≡ p = omega arith in
    places_of-has n 0 (tails edges) p (omega arith) (omega (arith, length-tails edges)) (rw z (tail_at edges p h ∙ e))

-- a dart at a node
pub record IsAt (edges : List Edge) (n p : ℕ) : Type 0 where
  pub below : p < 2 * length edges
  pub tail : Rattle.vpf_wing.specs.Nexts.tail edges (dart_at p) ≡ n

darts_at_is : (edges : List Edge) (n p : ℕ) → 0 < count_of p (DartsAt edges n) → IsAt edges n p
darts_at_is edges n p h =
    let r : IsPlace n 0 p (tails edges) = places_of-some n 0 (tails edges) p h in
    let in' : p < 2 * length edges = omega (arith, r.high, length-tails edges) in
    let z : p - 0 ≡ p = omega arith in
    record { below = in'; tail = sym (tail_at edges p in') ∙ (rw z at r.key_is) }

-- all darts at a node are on the cycle of turn of one
abbrev AreOneTurn : List Edge → (n s : ℕ) → Type 0
AreOneTurn edges n s = (p : ℕ) → p < 2 * length edges → tail edges (dart_at p) ≡ n → LeadsTo (turn_place edges) s p

-- what is on the round of a dart at a node is at the node
round_in : (edges : List Edge) → AreAmong edges → MakeMap edges → (n s : ℕ) → IsAt edges n s → (r : Returns (turn_place edges) (λ d. d < 2 * length edges) s)
    → (p : ℕ) → count_of p r.darts ≤ count_of p (DartsAt edges n)
round_in edges among made n s at r p = elim (zero_or_some (count_of p r.darts)) [
  | inl none ↦ omega arith
  | inr some ↦ (
      let to : LeadsTo (turn_place edges) s p = round_to (turn_place edges) (2 * length edges) s r p some in
      let e : tail edges (dart_at p) ≡ n =
      ap (λ v. tail edges (dart_at v)) (sym (steps_is (turn_place edges) to.0 s p to.1)) ∙ turn_tails edges among made to.0 s at.below ∙ at.tail in
      omega (arith, r.once p, darts_at_has edges n p (r.hold p some) e))
]

turn_is_one : (edges : List Edge) → AreAmong edges → MakeMap edges → (n s : ℕ) → IsAt edges n s → turn_size edges s ≡ count_of n (tails edges)
    → AreOneTurn edges n s
turn_is_one edges among made n s at size p h e =
    let r = round_of (turn_place edges) (2 * length edges) s (turn_apart edges among made) (turn_stays edges among) at.below in
    let few : length (DartsAt edges n) ≤ length r.darts =
    omega (arith, size, round_size (turn_place edges) (2 * length edges) s r, length-places_of n 0 (tails edges)) in
    let le : count_of p (DartsAt edges n) ≤ count_of p r.darts = same_counts r.darts (DartsAt edges n) (round_in edges among made n s at r) few p in
    round_to (turn_place edges) (2 * length edges) s r p (omega (arith, darts_at_has edges n p h e))

one_has_size : (edges : List Edge) → AreAmong edges → MakeMap edges → (n s : ℕ) → IsAt edges n s → AreOneTurn edges n s
    → turn_size edges s ≡ count_of n (tails edges)
one_has_size edges among made n s at one =
    let r = round_of (turn_place edges) (2 * length edges) s (turn_apart edges among made) (turn_stays edges among) at.below in
    let back : (p : ℕ) → count_of p (DartsAt edges n) ≤ count_of p r.darts = λ p. elim (zero_or_some (count_of p (DartsAt edges n))) [
      | inl none ↦ omega arith
      | inr some ↦ (
          let i : IsAt edges n p = darts_at_is edges n p some in
          let there : 0 < count_of p r.darts = round_has (turn_place edges) (2 * length edges) s (turn_apart edges among made) r p (one p i.below i.tail) in
          omega (arith, places_of-once n 0 (tails edges) p))
    ] in
    let le : length r.darts ≤ length (DartsAt edges n) = shorter r.darts (DartsAt edges n) (round_in edges among made n s at r) in
    let ge : length (DartsAt edges n) ≤ length r.darts = shorter (DartsAt edges n) r.darts back in
    omega (arith, round_size (turn_place edges) (2 * length edges) s r, length-places_of n 0 (tails edges))

-- the first dart at a node
record FirstAt (edges : List Edge) (n first : ℕ) : Type 0 where
  pub place : ℕ
  pub is : first ≡ suc place
  pub at : IsAt edges n place

first_of_node : (edges : List Edge) (n f : ℕ) → first_item (λ x. eqb x n) (tails edges) ≡ f → 0 < f → FirstAt edges n f
first_of_node edges n zero e h = absurd (omega arith)
first_of_node edges n (suc p) e h =
    let some : 1 ≤ first_item (λ x. eqb x n) (tails edges) = omega arith in
    let row = first_row (λ x. eqb x n) (tails edges) 0 some in
    let high = row.1 in
    let is : eqb (kth (tails edges) (first_item (λ x. eqb x n) (tails edges)) 0) n ≡ true = first_passes (λ x. eqb x n) (tails edges) 0 some in
    let is' : eqb (get_or (tails edges) p 0) n ≡ true = subst (λ k. eqb (kth (tails edges) k 0) n ≡ true) e is in
    let in' : p < 2 * length edges = omega (arith, length-tails edges) in
    record { place = p; is = refl; at = record { below = in'; tail = sym (tail_at edges p in') ∙ eqb-true (get_or (tails edges) p 0) n is' } }

some_of_node : (edges : List Edge) (n p : ℕ) → IsAt edges n p → 0 < first_item (λ x. eqb x n) (tails edges)
some_of_node edges n p at =
    let in' = at.below in
    let high : suc p ≤ length (tails edges) = omega (arith, length-tails edges) in
    (first_at (λ x. eqb x n) (tails edges) 0 (suc p) (omega arith, high) (same (get_or (tails edges) p 0) n (tail_at edges p at.below ∙ at.tail))).0

-- where a node has no finding, its darts are on one cycle of turn
pub turn_by_line : (t : ℕ) (T : TileTables) (edges : List Edge) → AreAmong edges → MakeMap edges → (n : ℕ) → turn_line t T edges n ≡ None
    → (p q : ℕ) → IsAt edges n p → IsAt edges n q → LeadsTo (turn_place edges) p q
turn_by_line t T edges among made n none p q hp hq =
    let f : FirstAt edges n (first_item (λ x. eqb x n) (tails edges)) =
    first_of_node edges n (first_item (λ x. eqb x n) (tails edges)) refl (some_of_node edges n p hp) in
    let none' = rw f.is at none in
    let size : turn_size edges f.place ≡ count_of n (tails edges) = eqb-true (turn_size edges f.place) (count_of n (tails edges)) (unless_none _ _ none') in
    let one : AreOneTurn edges n f.place = turn_is_one edges among made n f.place f.at size in
    let back : LeadsTo (turn_place edges) p f.place =
    leads_back (turn_place edges) (2 * length edges) (turn_apart edges among made) (turn_stays edges among) f.place p f.at.below (one p hp.below hp.tail) in
    leads_on (turn_place edges) p f.place q back (one q hq.below hq.tail)

pub line_by_turn : (t : ℕ) (T : TileTables) (edges : List Edge) → AreAmong edges → MakeMap edges → (n : ℕ)
    → ((p q : ℕ) → IsAt edges n p → IsAt edges n q → LeadsTo (turn_place edges) p q) → turn_line t T edges n ≡ None
line_by_turn t T edges among made n all = elim (zero_or_some (first_item (λ x. eqb x n) (tails edges))) [
  | inl none ↦ rw none refl
  | inr some ↦ (
      let f : FirstAt edges n (first_item (λ x. eqb x n) (tails edges)) = first_of_node edges n (first_item (λ x. eqb x n) (tails edges)) refl some in
      let size = one_has_size edges among made n f.place f.at (λ p h e. all f.place p f.at (record { below = h; tail = e })) in
      rw f.is (unless_holds _ _ (same (turn_size edges f.place) (count_of n (tails edges)) size)))
]

-- ---- the same by the numbers of darts

-- the first edges of the nodes of a tile
abbrev pub firsts_of : Library → ℕ → List ℕ
firsts_of L t = map (λ (n : NodePrimitive). id_of n.first_edge) (tile_nodes L t)

pub firsts_count : (L : Library) (t : ℕ) → length (firsts_of L t) ≡ node_count L t
firsts_count L t = length-map (tile_nodes L t) (λ (n : NodePrimitive). id_of n.first_edge)

first_of_row : (L : Library) (t k : ℕ) → kth (firsts_of L t) k 0 ≡ id_of (kth (tile_nodes L t) k absent_node).first_edge
first_of_row L t k = item-map (λ (n : NodePrimitive). id_of n.first_edge) (tile_nodes L t) k absent_node

plus_tail : (L : Library) (t e : ℕ) → edge_count L t < 2 ^ 24 → IsRowOf (edge_count L t) e
    → tail_node (links_of L) (code t e 0) ≡ (edge_at (rows_of L t) e).start_node
unfolding tail
plus_tail L t e few row =
    let low = row.0 in
    let high = row.1 in
    ap (tail_node (links_of L)) (plus_number t e row.0) ∙ number_tail L t (2 * (e - 1)) (omega arith) ∙ ap (tail (rows_of L t)) (plus_dart e row.0)

minus_tail : (L : Library) (t e : ℕ) → edge_count L t < 2 ^ 24 → IsRowOf (edge_count L t) e
    → tail_node (links_of L) (code t e 1) ≡ (edge_at (rows_of L t) e).end_node
unfolding tail
minus_tail L t e few row =
    let low = row.0 in
    let high = row.1 in
    ap (tail_node (links_of L)) (minus_code t e row.0) ∙ number_tail L t (2 * (e - 1) + 1) (omega arith) ∙ ap (tail (rows_of L t)) (minus_dart e row.0)

at_node_is : (L : Library) (t e n : ℕ) → edge_count L t < 2 ^ 24 → IsRowOf (edge_count L t) e
    → ((edge_at (rows_of L t) e).start_node ≡ n) ⊎ ((edge_at (rows_of L t) e).end_node ≡ n) → IsAtNode (links_of L) t e n
at_node_is L t e n few row (inl s) = inl (plus_tail L t e few row ∙ s)
at_node_is L t e n few row (inr s) = inr (minus_tail L t e few row ∙ s)

at_node_from : (L : Library) (t e n : ℕ) → edge_count L t < 2 ^ 24 → IsRowOf (edge_count L t) e
    → IsAtNode (links_of L) t e n → ((edge_at (rows_of L t) e).start_node ≡ n) ⊎ ((edge_at (rows_of L t) e).end_node ≡ n)
at_node_from L t e n few row (inl s) = inl (sym (plus_tail L t e few row) ∙ s)
at_node_from L t e n few row (inr s) = inr (sym (minus_tail L t e few row) ∙ s)

-- the first edge of a node is there
first_there : (L : Library) (t n : ℕ) → IsNumbered L t → IsRowOf (node_count L t) n
    → IsRowOf (edge_count L t) (id_of (kth (tile_nodes L t) n absent_node).first_edge)
first_there L t n numbered row = plain_row 1 (edge_count L t) (kth (tile_nodes L t) n absent_node).first_edge (numbered.nodes n row).first_edge

-- a node names an edge at it
abbrev pub NamesEdge : Library → ℕ → Type 0
NamesEdge L t = (n : ℕ) → IsRowOf (node_count L t) n → IsAtNode (links_of L) t (id_of (kth (tile_nodes L t) n absent_node).first_edge) n

-- the darts that begin at a node are one cycle of turn
abbrev pub TurnTogether : Library → ℕ → Type 0
TurnTogether L t =
    (d e : ℕ) → IsDartOf (links_of L) t d → IsDartOf (links_of L) t e → tail_node (links_of L) d ≡ tail_node (links_of L) e
    → LeadsTo (turn (local_map (links_of L))) d e

-- the lines on the nodes of a tile
abbrev pub nodes_line : Library → ℕ → TileTables → Option Disagreement
nodes_line L t T = first_of_rows (node_lines t T (rows_of L t)) 1 (firsts_of L t)

node_row : (L : Library) (t : ℕ) (T : TileTables) → nodes_line L t T ≡ None → (n : ℕ) → IsRowOf (node_count L t) n
    → (at_node_line t T (rows_of L t) n (id_of (kth (tile_nodes L t) n absent_node).first_edge) ≡ None) × (turn_line t T (rows_of L t) n ≡ None)
node_row L t T none n row =
    let line : node_lines t T (rows_of L t) n (kth (firsts_of L t) n 0) ≡ None =
    row_none (node_lines t T (rows_of L t)) (firsts_of L t) 0 none n (subst (λ c. IsRowOf c n) (sym (firsts_count L t)) row) in
    or-none_both (at_node_line t T (rows_of L t) n (id_of (kth (tile_nodes L t) n absent_node).first_edge)) (turn_line t T (rows_of L t) n)
    (subst (λ e. node_lines t T (rows_of L t) n e ≡ None) (first_of_row L t n) line)

pub names_edge : (L : Library) (t : ℕ) (T : TileTables) → IsTile L t → IsNumbered L t → nodes_line L t T ≡ None → NamesEdge L t
names_edge L t T tile numbered none n row =
    let e : ℕ = id_of (kth (tile_nodes L t) n absent_node).first_edge in
    at_node_is L t e n tile.few (first_there L t n numbered row) (either_is _ _ _ _ (unless_none _ _ (node_row L t T none n row).0))

-- the place of a dart at a node
number_at_node : (L : Library) (t d : ℕ) → IsTile L t → (a : AtPlace L t d) → tail (rows_of L t) (dart_at a.place) ≡ tail_node (links_of L) d
number_at_node L t d tile a =
    let few = tile.few in
    let in' = a.below in
    sym (number_tail L t a.place (omega arith)) ∙ ap (tail_node (links_of L)) a.is

pub turn_together : (L : Library) (t : ℕ) (T : TileTables) → IsTile L t → IsNumbered L t → MakeMap (rows_of L t) → nodes_line L t T ≡ None → TurnTogether L t
turn_together L t T tile numbered made none d e hd he one =
    let a : AtPlace L t d = at_place L t d hd in
    let b : AtPlace L t e = at_place L t e he in
    let n : ℕ = tail (rows_of L t) (dart_at a.place) in
    let line = (node_row L t T none (tail (rows_of L t) (dart_at a.place)) (tail_row L t a.place numbered a.below)).1 in
    let at_a : IsAt (rows_of L t) (tail (rows_of L t) (dart_at a.place)) a.place = record { below = below_rows L t a.place a.below; tail = refl } in
    let at_b : IsAt (rows_of L t) (tail (rows_of L t) (dart_at a.place)) b.place = record {
      below = below_rows L t b.place b.below;
      tail = number_at_node L t e tile b ∙ sym one ∙ sym (number_at_node L t d tile a);
    } in
    let to : LeadsTo (turn_place (rows_of L t)) a.place b.place = turn_by_line t T (rows_of L t) tile.among made n line a.place b.place at_a at_b in
    let to' : LeadsTo (turn (local_map (links_of L))) (number_at t a.place) (number_at t b.place) = turns_of L t tile a.place b.place a.below to in
    subst (λ v. LeadsTo (turn (local_map (links_of L))) v e) a.is (subst (λ v. LeadsTo (turn (local_map (links_of L))) (number_at t a.place) v) b.is to')

-- and back
pub nodes_silent : (L : Library) (t : ℕ) (T : TileTables) → IsTile L t → IsNumbered L t → MakeMap (rows_of L t) → TurnTogether L t → NamesEdge L t
    → nodes_line L t T ≡ None
nodes_silent L t T tile numbered made together names = row_silent (node_lines t T (rows_of L t)) (firsts_of L t) 0 (λ n row.
    let row' : IsRowOf (node_count L t) n = subst (λ c. IsRowOf c n) (firsts_count L t) row in
    let few = tile.few in
    let e : ℕ = id_of (kth (tile_nodes L t) n absent_node).first_edge in
    let at : at_node_line t T (rows_of L t) n (id_of (kth (tile_nodes L t) n absent_node).first_edge) ≡ None =
    unless_holds _ _ (either_from _ _ _ _ (at_node_from L t e n tile.few (first_there L t n numbered row') (names n row'))) in
    let turns : turn_line t T (rows_of L t) n ≡ None = line_by_turn t T (rows_of L t) tile.among made n (λ p q hp hq.
    let bp : p < 2 * edge_count L t = subst (λ c. p < 2 * c) (rows_count L t) hp.below in
    let bq : q < 2 * edge_count L t = subst (λ c. q < 2 * c) (rows_count L t) hq.below in
    let tails : tail_node (links_of L) (number_at t p) ≡ tail_node (links_of L) (number_at t q) =
    number_tail L t p (omega arith) ∙ hp.tail ∙ sym hq.tail ∙ sym (number_tail L t q (omega arith)) in
    turns_by L t tile p q bp (together (number_at t p) (number_at t q) (number_dart L t p tile.last tile.few bp)
    (number_dart L t q tile.last tile.few bq) tails)) in
    subst (λ v. node_lines t T (rows_of L t) n v ≡ None) (sym (first_of_row L t n)) (none_both _ _ at turns))
