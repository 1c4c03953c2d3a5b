-- The nodes of the renumbered coverage are those of the coverage under new numbers.
use Rattle.std.proofs.Common.{◌≡◌, ℕ, zero, suc, ◌≤◌, true, cond, sym, ap, ◌∙◌, subst, arith, List, [], length}
use Rattle.vpf_darts.specs.Darts.{flip}
use Rattle.vpf_darts.specs.Maps.{turn}
use Rattle.vpf_prims.specs.Lists.{kth}
use Rattle.vpf_prims.specs.Numbering.{IsRowOf}
use Rattle.vpf_prims.specs.Primitives.{Primitives, absent_node, untiled}
use Rattle.vpf_wing.specs.Walks.{LeadsTo, Steps, least_after}
use Rattle.vpf_wing.specs.Inner.DartLaws.{flip-flip, flip-has, stands_in}
use Rattle.vpf_trace.specs.CarriedLines.{node_carried}
use Rattle.vpf_tiling.specs.Ranks.{is_least, numbered}
use Rattle.vpf_tiling.specs.Inner.RankLaws.{numbered_many}
use Rattle.vpf_tiling.specs.Presence.{coverage_map, dart_name, next_of, tail_of, untiled_links}
use Rattle.vpf_tiling.specs.Inner.PresenceLaws.{in_zero, source_next, stands_filter, tail_next}
use Rattle.vpf_tiling.specs.Plans.{IsTileable}
use Rattle.vpf_tiling_laws.specs.Tiled.Names.{dart_behind, is_name}
use Rattle.vpf_tiling_laws.proofs.tiled.LineLemmas.{Behind, behind, behind_name, name_is_name, named_flip, named_next}
use Rattle.vpf_tiling_laws.proofs.tiled.RowLemmas.{item_numbered}
use Rattle.vpf_tiling_laws.proofs.tiled.WalkLemmas.{few_steps, leads_join, least_below, least_is, least_on, steps_keep}
use Rattle.vpf_tiling_laws.specs.Gluing.Whole.{Whole, whole_named}
use Rattle.vpf_tiling_laws.specs.Gluing.Glued.{glued_edges, glued_node, first_darts, listed_at}
use Rattle.vpf_tiling_laws.specs.Inner.Gluing.Renumbering.{NodesAreMoved, NodesStayApart, new_node}
use Rattle.vpf_tiling_laws.proofs.gluing.PlaceLemmas.{Placed, place_apart, placed}
use Rattle.vpf_tiling_laws.proofs.gluing.EdgeNumbers.{name_stands}

-- where a walk stays in a list, two darts that lead to each other have the same least dart after them
least_same : (f : ℕ → ℕ) (P : ℕ → Type 0) (ys : List ℕ) → ((x : ℕ) → P x → P (f x)) → ((x : ℕ) → P x → stands_in x ys ≡ true) → (x y : ℕ) → P x → P y
    → LeadsTo f x y → LeadsTo f y x → least_after f (length ys) x ≡ least_after f (length ys) y
least_same f P ys h s x y px py xy yx = (
    let n : ℕ = length ys in
    let u : ℕ = least_after f (length ys) x in
    let v : ℕ = least_after f (length ys) y in
    let a = few_steps f P ys h s x v px (leads_join f x y v xy (least_on f n y)) in
    let b = few_steps f P ys h s y u py (leads_join f y x u yx (least_on f n x)) in
    let i : u ≤ v = least_below f n a.0 x v a.1 a.2 in
    let j : v ≤ u = least_below f n b.0 y u b.1 b.2 in
    omega arith)

-- the next dart round the tail, by names
abbrev named_turn : Primitives → (ℕ → ℕ) → ℕ → ℕ → ℕ
named_turn c plan tiles = turn (whole_named c plan tiles).darts

turn_name : (c : Primitives) (plan : ℕ → ℕ) (tiles : ℕ) → IsTileable c plan tiles → (d : ℕ) → (untiled_links c).has d ≡ true
    → named_turn c plan tiles (dart_name c plan d) ≡ dart_name c plan (next_of c (flip d))
turn_name c plan tiles w d h =
    ap (whole_named c plan tiles).darts.next (named_flip c plan tiles w (coverage_map c) d h)
    ∙ named_next c plan tiles w (coverage_map c) (flip d) (flip-has (untiled c) d h)

turn_has : (c : Primitives) (plan : ℕ → ℕ) (tiles : ℕ) → IsTileable c plan tiles → (d : ℕ) → (untiled_links c).has d ≡ true
    → (untiled_links c).has (next_of c (flip d)) ≡ true
turn_has c plan tiles w d h = (source_next c w.well_formed (flip d) (flip-has (untiled c) d h)).has

-- the name of a dart that begins at this node
record IsNamedAt (c : Primitives) (plan : ℕ → ℕ) (n x : ℕ) : Type 0 where
  name : is_name c plan x ≡ true
  tail : tail_of c (dart_behind c plan x) ≡ n

named_at : (c : Primitives) (plan : ℕ → ℕ) (tiles : ℕ) → IsTileable c plan tiles → (d : ℕ) → (untiled_links c).has d ≡ true
    → IsNamedAt c plan (tail_of c d) (dart_name c plan d)
named_at c plan tiles w d h = record { name = name_is_name c plan tiles w d h; tail = ap (tail_of c) (behind_name c plan tiles w d h) }

-- the turn of such a name is one too
turn_keeps : (c : Primitives) (plan : ℕ → ℕ) (tiles : ℕ) → IsTileable c plan tiles → (n x : ℕ) → IsNamedAt c plan n x
    → IsNamedAt c plan n (named_turn c plan tiles x)
turn_keeps c plan tiles w n x k = (
    let b : Behind c plan x = behind c plan tiles w x k.name in
    let d : ℕ = dart_behind c plan x in
    let h : (untiled_links c).has (next_of c (flip d)) ≡ true = turn_has c plan tiles w d b.has in
    let is : dart_name c plan (next_of c (flip d)) ≡ named_turn c plan tiles x =
    sym (turn_name c plan tiles w d b.has) ∙ ap (named_turn c plan tiles) b.named in
    let tail : tail_of c (next_of c (flip d)) ≡ n =
    tail_next c w.well_formed (flip d) (flip-has (untiled c) d b.has) ∙ ap (tail_of c) (flip-flip d) ∙ k.tail in
    subst (IsNamedAt c plan n) is (subst (λ m. IsNamedAt c plan m (dart_name c plan (next_of c (flip d)))) tail
    (named_at c plan tiles w (next_of c (flip d)) h)))

-- and it stands among the names
named_stands : (c : Primitives) (plan : ℕ → ℕ) (tiles : ℕ) → IsTileable c plan tiles → (n x : ℕ) → IsNamedAt c plan n x
    → stands_in x (whole_named c plan tiles).order ≡ true
named_stands c plan tiles w n x k = (
    let b : Behind c plan x = behind c plan tiles w x k.name in
    subst (λ z. stands_in z (whole_named c plan tiles).order ≡ true) b.named (name_stands c plan tiles w (dart_behind c plan x) b.has))

-- turns of darts are turns of names
turns_named : (c : Primitives) (plan : ℕ → ℕ) (tiles : ℕ) → IsTileable c plan tiles → (k d e : ℕ) → (untiled_links c).has d ≡ true
    → Steps (turn (coverage_map c)) k d e → Steps (named_turn c plan tiles) k (dart_name c plan d) (dart_name c plan e)
turns_named c plan tiles w zero d e h s = ap (dart_name c plan) s
turns_named c plan tiles w (suc k) d e h s =
    subst (λ v. Steps (named_turn c plan tiles) k v (dart_name c plan e)) (sym (turn_name c plan tiles w d h))
    (turns_named c plan tiles w k (next_of c (flip d)) e (turn_has c plan tiles w d h) s)

-- the turns lead round a node
leads_round : (c : Primitives) (plan : ℕ → ℕ) (tiles : ℕ) → IsTileable c plan tiles → (d e : ℕ) → (untiled_links c).has d ≡ true
    → (untiled_links c).has e ≡ true → tail_of c d ≡ tail_of c e → LeadsTo (named_turn c plan tiles) (dart_name c plan d) (dart_name c plan e)
leads_round c plan tiles w d e hd he tails = (
    let l : LeadsTo (turn (coverage_map c)) d e = w.well_formed.cycles.node d e (in_zero c d hd) (in_zero c e he) tails in
    (l.0, turns_named c plan tiles w l.0 d e hd l.1))

-- the least name at the node where a dart begins
abbrev least_at : Primitives → (ℕ → ℕ) → ℕ → ℕ → ℕ
least_at c plan tiles d = least_after (named_turn c plan tiles) (length (whole_named c plan tiles).order) (dart_name c plan d)

least_named : (c : Primitives) (plan : ℕ → ℕ) (tiles : ℕ) → IsTileable c plan tiles → (d : ℕ) → (untiled_links c).has d ≡ true
    → IsNamedAt c plan (tail_of c d) (least_at c plan tiles d)
least_named c plan tiles w d h = (
    let l : LeadsTo (named_turn c plan tiles) (dart_name c plan d) (least_at c plan tiles d) =
    least_on (named_turn c plan tiles) (length (whole_named c plan tiles).order) (dart_name c plan d) in
    steps_keep (named_turn c plan tiles) (IsNamedAt c plan (tail_of c d)) (turn_keeps c plan tiles w (tail_of c d)) l.0 (dart_name c plan d)
    (least_at c plan tiles d) (named_at c plan tiles w d h) l.1)

least_stands : (c : Primitives) (plan : ℕ → ℕ) (tiles : ℕ) → IsTileable c plan tiles → (d : ℕ) → (untiled_links c).has d ≡ true
    → stands_in (least_at c plan tiles d) (first_darts (whole_named c plan tiles)) ≡ true
least_stands c plan tiles w d h =
    stands_filter (is_least (named_turn c plan tiles) (length (whole_named c plan tiles).order)) (least_at c plan tiles d) (whole_named c plan tiles).order
    (least_is (named_turn c plan tiles) (IsNamedAt c plan (tail_of c d)) (whole_named c plan tiles).order (turn_keeps c plan tiles w (tail_of c d))
    (named_stands c plan tiles w (tail_of c d)) (dart_name c plan d) (named_at c plan tiles w d h))
    (named_stands c plan tiles w (tail_of c d) (least_at c plan tiles d) (least_named c plan tiles w d h))

pub nodes_stay_apart : NodesStayApart
nodes_stay_apart c plan tiles w d e hd he = (
  λ same. (
      let least : least_at c plan tiles d ≡ least_at c plan tiles e =
      place_apart (least_at c plan tiles d) (least_at c plan tiles e) (first_darts (whole_named c plan tiles)) (least_stands c plan tiles w d hd)
      (least_stands c plan tiles w e he) same in
      sym (least_named c plan tiles w d hd).tail ∙ ap (λ x. tail_of c (dart_behind c plan x)) least ∙ (least_named c plan tiles w e he).tail),
  λ tails.
      ap (λ x. listed_at x (first_darts (whole_named c plan tiles)))
      (least_same (named_turn c plan tiles) (IsNamedAt c plan (tail_of c d)) (whole_named c plan tiles).order (turn_keeps c plan tiles w (tail_of c d))
      (named_stands c plan tiles w (tail_of c d)) (dart_name c plan d) (dart_name c plan e) (named_at c plan tiles w d hd)
      (subst (λ n. IsNamedAt c plan n (dart_name c plan e)) (sym tails) (named_at c plan tiles w e he))
      (leads_round c plan tiles w d e hd he tails) (leads_round c plan tiles w e d he hd (sym tails))),
)

pub nodes_are_moved : NodesAreMoved
nodes_are_moved c plan tiles w d h = (
    let W : Whole = whole_named c plan tiles in
    let m : ℕ = least_at c plan tiles d in
    let a : Placed m (first_darts W) = placed m (first_darts W) (least_stands c plan tiles w d h) in
    let many : length (numbered (glued_node W (glued_edges W)) (first_darts W)) ≡ length (first_darts W) =
    numbered_many (glued_node W (glued_edges W)) 1 (first_darts W) in
    let k : IsNamedAt c plan (tail_of c d) m = least_named c plan tiles w d h in
    record {
      number = subst (λ n. IsRowOf n (new_node c plan tiles d)) (sym many) a.row;
      carried =
          ap (λ row. row.carried) (item_numbered (glued_node W (glued_edges W)) (first_darts W) (listed_at m (first_darts W)) absent_node 0 a.row)
          ∙ ap W.node a.item
          ∙ ap (λ b. cond b (node_carried (untiled c) 0 (tail_of c (dart_behind c plan m))) []) k.name
          ∙ ap (λ n. (kth c.nodes n absent_node).carried) k.tail;
    })
