-- The cycles and the nodes of the tiles of a tiled library.
use Rattle.std.proofs.Common.{◌≡◌, ℕ, zero, suc, ◌≤◌, true, cond, refl, sym, ap, ◌∙◌, subst, inl, inr, arith, List, [], ◌∷◌}
use Rattle.std.specs.Option.{unwrap_or}
use Rattle.std.proofs.lemmas.Bool.{and_parts, and_from, or_cases, or_left}
use Rattle.vpf_darts.specs.Darts.{flip}
use Rattle.vpf_darts.specs.Inner.Laws.{ComesRoundTo}
use Rattle.vpf_darts.specs.Maps.{DartMap, turn, is_of_any, without, without_edge}
use Rattle.vpf_prims.specs.Primitives.{Primitives}
use Rattle.vpf_wing.specs.Walks.{Steps, LeadsTo}
use Rattle.vpf_wing.specs.Links.{DartLinks, tail_node, local_next, local_map}
use Rattle.vpf_tiling.specs.Presence.{untiled_links, coverage_map, next_of, tail_of, face_of, holds_face, is_within, is_present, copy_in, absent_darts, tile_map}
use Rattle.vpf_wing.specs.WellFormed.{IsDartOf}
use Rattle.vpf_tiling.specs.Plans.{IsTileable}
use Rattle.vpf_tiling_laws.proofs.tiled.Parts.{HasLinks, OfTiled, OneNode, SidesMeet}
use Rattle.vpf_wing.specs.Inner.DartLaws.{never_both}
use Rattle.vpf_tiling_laws.proofs.tiled.Facts.{MapLaws}
use Rattle.vpf_tiling_laws.proofs.tiled.CopyLemmas.{copies_have_links}
use Rattle.vpf_tiling_laws.proofs.tiled.SideLemmas.{node_apart}
use Rattle.vpf_tiling_laws.proofs.tiled.FollowLemmas.{tile_next, present_stays, next_is_first, copy_flip, library_links, tail_at}
use Rattle.vpf_tiling_laws.proofs.tiled.NextLemmas.{face_id, sides_apart, tile_arrives, tile_next_is_local}
use Rattle.vpf_tiling_laws.proofs.tiled.AcrossLemmas.{CopyHere, copy_here}
use Rattle.vpf_tiling.specs.Inner.PresenceLaws.{face_next, in_zero, present_flip, present_has, source_next}

pub without_flip : (m : DartMap) (es : List ℕ) → (without m es).flip ≡ m.flip
unfolding without_edge
without_flip m [] = refl
without_flip m (e ∷ es) = without_flip (without_edge m e) es

-- what is absent is stepped over
pub steps_after : (c : Primitives) (plan : ℕ → ℕ) (t k n x y e : ℕ) → is_present c plan t e ≡ true
    → ComesRoundTo (coverage_map c) (is_of_any flip (absent_darts c plan t)) k x y → Steps (turn (coverage_map c)) n x e
    → (j : ℕ) × (j ≤ n) × Steps (turn (coverage_map c)) j y e
steps_after c plan t zero n x y e h m q = (n, omega arith, subst (λ z. Steps (turn (coverage_map c)) n z e) m.1 q)
steps_after c plan t (suc k) zero x y e h m q =
    absurd (never_both (is_of_any flip (absent_darts c plan t) e) (ap (is_of_any flip (absent_darts c plan t)) (sym q) ∙ m.0) (present_stays c plan t e h))
steps_after c plan t (suc k) (suc n) x y e h m q =
    (let r : (j : ℕ) × (j ≤ n) × Steps (turn (coverage_map c)) j y e = steps_after c plan t k n (turn (coverage_map c) x) y e h m.1 q in
    (r.0, omega arith, r.2))

pub turn_there : (c : Primitives) (plan : ℕ → ℕ) (t d : ℕ) → turn (tile_map c plan t) d ≡ (tile_map c plan t).next (flip d)
turn_there c plan t d = ap (λ f. (tile_map c plan t).next (f d)) (without_flip (coverage_map c) (absent_darts c plan t))

-- where a node's darts are one cycle, so are its present ones
pub local_turns : MapLaws → (c : Primitives) (plan : ℕ → ℕ) (tiles : ℕ) → IsTileable c plan tiles → (t fuel n d e : ℕ) → n ≤ fuel → is_present c plan t d ≡ true
    → is_present c plan t e ≡ true → Steps (turn (coverage_map c)) n d e → (j : ℕ) × Steps (turn (tile_map c plan t)) j d e
local_turns law c plan tiles w t fuel zero d e le hd he q = (0, q)
local_turns law c plan tiles w t zero (suc n) d e le hd he q = absurd (omega arith)
local_turns law c plan tiles w t (suc fuel) (suc n) d e le hd he q = (
    let hf : is_present c plan t (flip d) ≡ true = present_flip c plan t d hd in
    let y : ℕ = (tile_map c plan t).next (flip d) in
    let m = next_is_first law c plan tiles w t (flip d) hf in
    let r : (j : ℕ) × (j ≤ n) × Steps (turn (coverage_map c)) j y e = steps_after c plan t m.0 n (turn (coverage_map c) d) y e he m.1 q in
    let le' = r.1 in
    let ih : (j : ℕ) × Steps (turn (tile_map c plan t)) j y e =
    local_turns law c plan tiles w t fuel r.0 y e (omega arith) (tile_arrives law c plan tiles w t (flip d) hf).here he r.2 in
    (suc ih.0, subst (λ z. Steps (turn (tile_map c plan t)) ih.0 z e) (sym (turn_there c plan t d)) ih.1))

pub next_at : MapLaws → (c : Primitives) (plan : ℕ → ℕ) (tiles : ℕ) → IsTileable c plan tiles → (t d : ℕ) → is_present c plan t d ≡ true
    → (local_map (library_links c plan tiles)).next (copy_in c plan t d) ≡ copy_in c plan t ((tile_map c plan t).next d)
next_at law c plan tiles w t d h = (
    let C : DartLinks = library_links c plan tiles in
    let x : ℕ = copy_in c plan t d in
    let q : HasLinks c plan tiles t d = copies_have_links c plan tiles w t d h in
    ap (λ b. cond b (unwrap_or (local_next C x) x) x) q.has ∙ ap (λ o. unwrap_or o x) (tile_next_is_local law c plan tiles w t d h))

pub turn_at : MapLaws → (c : Primitives) (plan : ℕ → ℕ) (tiles : ℕ) → IsTileable c plan tiles → (t d : ℕ) → is_present c plan t d ≡ true
    → turn (local_map (library_links c plan tiles)) (copy_in c plan t d) ≡ copy_in c plan t (turn (tile_map c plan t) d)
turn_at law c plan tiles w t d h =
    ap (local_map (library_links c plan tiles)).next (copy_flip c plan t d) ∙ next_at law c plan tiles w t (flip d) (present_flip c plan t d h)
    ∙ ap (copy_in c plan t) (sym (turn_there c plan t d))

pub turns_at : MapLaws → (c : Primitives) (plan : ℕ → ℕ) (tiles : ℕ) → IsTileable c plan tiles → (t k d e : ℕ) → is_present c plan t d ≡ true
    → Steps (turn (tile_map c plan t)) k d e → Steps (turn (local_map (library_links c plan tiles))) k (copy_in c plan t d) (copy_in c plan t e)
turns_at law c plan tiles w t zero d e h q = ap (copy_in c plan t) q
turns_at law c plan tiles w t (suc k) d e h q = (
    let h' : is_present c plan t (turn (tile_map c plan t) d) ≡ true =
    ap (is_present c plan t) (turn_there c plan t d) ∙ (tile_arrives law c plan tiles w t (flip d) (present_flip c plan t d h)).here in
    subst (λ z. Steps (turn (local_map (library_links c plan tiles))) k z (copy_in c plan t e)) (sym (turn_at law c plan tiles w t d h))
    (turns_at law c plan tiles w t k (turn (tile_map c plan t) d) e h' q))

-- what is so of each two copies in a tile is so of its darts
pub at_two : (P : ℕ → ℕ → Type 0) (c : Primitives) (plan : ℕ → ℕ) (tiles : ℕ) → IsTileable c plan tiles → (t : ℕ)
    → ((d e : ℕ) → is_present c plan t d ≡ true → is_present c plan t e ≡ true → P (copy_in c plan t d) (copy_in c plan t e)) → (x y : ℕ)
    → IsDartOf (library_links c plan tiles) t x → IsDartOf (library_links c plan tiles) t y → P x y
at_two P c plan tiles w t f x y hx hy = (
    let a : CopyHere c plan t x = copy_here c plan tiles w t x hx in
    let b : CopyHere c plan t y = copy_here c plan tiles w t y hy in
    subst (λ z. P z y) a.copy (subst (P (copy_in c plan t a.dart)) b.copy (f a.dart b.dart a.present b.present)))

pub one_node : MapLaws → OfTiled OneNode
one_node law c plan tiles w t =
    at_two (λ x y. tail_node (library_links c plan tiles) x ≡ tail_node (library_links c plan tiles) y
    → LeadsTo (turn (local_map (library_links c plan tiles))) x y) c plan tiles w t (λ d e hd he same. (
    let tails : tail_of c d ≡ tail_of c e = node_apart c plan t d e hd he (sym (tail_at c plan tiles w t d hd) ∙ same ∙ tail_at c plan tiles w t e he) in
    let r : LeadsTo (turn (coverage_map c)) d e =
    w.well_formed.cycles.node d e (in_zero c d (present_has c plan t d hd)) (in_zero c e (present_has c plan t e he)) tails in
    let l : (j : ℕ) × Steps (turn (tile_map c plan t)) j d e = local_turns law c plan tiles w t r.0 r.0 d e (omega arith) hd he r.1 in
    (l.0, turns_at law c plan tiles w t l.0 d e hd l.1)))

pub within_present : (c : Primitives) (plan : ℕ → ℕ) (t d : ℕ) → is_within c plan t d ≡ true → is_present c plan t d ≡ true
within_present c plan t d f = or_left (is_within c plan t d) (is_within c plan t (flip d)) f

pub within_face : (c : Primitives) (plan : ℕ → ℕ) (t d e : ℕ) → is_within c plan t d ≡ true → (untiled_links c).has e ≡ true → face_of c e ≡ face_of c d
    → is_within c plan t e ≡ true
within_face c plan t d e h he same =
    and_from ((untiled_links c).has e) (holds_face c plan t (face_of c e)) he
    (ap (holds_face c plan t) same ∙ (and_parts ((untiled_links c).has d) (holds_face c plan t (face_of c d)) h).1)

-- a face of the tile goes round there as it does in the coverage
pub next_within : MapLaws → (c : Primitives) (plan : ℕ → ℕ) (tiles : ℕ) → IsTileable c plan tiles → (t d : ℕ) → is_within c plan t d ≡ true
    → (is_within c plan t (next_of c d) ≡ true) × ((local_map (library_links c plan tiles)).next (copy_in c plan t d) ≡ copy_in c plan t (next_of c d))
next_within law c plan tiles w t d f = (
    let h : is_present c plan t d ≡ true = within_present c plan t d f in
    let hd : (untiled_links c).has d ≡ true = present_has c plan t d h in
    let f' : is_within c plan t (next_of c d) ≡ true =
    within_face c plan t d (next_of c d) f (source_next c w.well_formed d hd).has (face_next c w.well_formed d hd) in
    (f', next_at law c plan tiles w t d h ∙ ap (copy_in c plan t) (tile_next law c plan tiles w t d h (within_present c plan t (next_of c d) f'))))

pub nexts_at : MapLaws → (c : Primitives) (plan : ℕ → ℕ) (tiles : ℕ) → IsTileable c plan tiles → (t k d e : ℕ) → is_within c plan t d ≡ true
    → Steps (next_of c) k d e → Steps (local_map (library_links c plan tiles)).next k (copy_in c plan t d) (copy_in c plan t e)
nexts_at law c plan tiles w t zero d e f q = ap (copy_in c plan t) q
nexts_at law c plan tiles w t (suc k) d e f q = (
    let r : (is_within c plan t (next_of c d) ≡ true) × ((local_map (library_links c plan tiles)).next (copy_in c plan t d) ≡ copy_in c plan t (next_of c d)) =
    next_within law c plan tiles w t d f in
    subst (λ z. Steps (local_map (library_links c plan tiles)).next k z (copy_in c plan t e)) (sym r.1) (nexts_at law c plan tiles w t k (next_of c d) e r.0 q))

pub same_within : (c : Primitives) (plan : ℕ → ℕ) (t d : ℕ) → is_present c plan t d ≡ true → face_of c d ≡ face_of c (flip d) → is_within c plan t d ≡ true
same_within c plan t d h e = elim (or_cases (is_within c plan t d) (is_within c plan t (flip d)) h) [
  | inl a ↦ a
  | inr b ↦ within_face c plan t (flip d) d b (present_has c plan t d h) e
]

pub sides_meet : MapLaws → OfTiled SidesMeet
sides_meet law c plan tiles w t x hx = (
    let C : DartLinks = library_links c plan tiles in
    let k : CopyHere c plan t x = copy_here c plan tiles w t x hx in
    subst (λ z. (C.face z).id ≡ (C.face (flip z)).id → LeadsTo (local_map C).next z (flip z)) k.copy (at k.dart k.present))
  where
    at : (d : ℕ) → is_present c plan t d ≡ true
        → ((library_links c plan tiles).face (copy_in c plan t d)).id ≡ ((library_links c plan tiles).face (flip (copy_in c plan t d))).id
        → LeadsTo (local_map (library_links c plan tiles)).next (copy_in c plan t d) (flip (copy_in c plan t d))
    at d h e = (
        let C : DartLinks = library_links c plan tiles in
        let q : HasLinks c plan tiles t d = copies_have_links c plan tiles w t d h in
        let r : HasLinks c plan tiles t (flip d) = copies_have_links c plan tiles w t (flip d) (present_flip c plan t d h) in
        let faces : face_id c plan t (face_of c (flip d)) ≡ face_id c plan t (face_of c d) =
        sym (ap (λ k. k.id) r.face) ∙ ap (λ z. (C.face z).id) (sym (copy_flip c plan t d)) ∙ sym e ∙ ap (λ k. k.id) q.face in
        let same : face_of c d ≡ face_of c (flip d) = sides_apart c plan w.well_formed t d h faces in
        let s : LeadsTo (next_of c) d (flip d) = w.well_formed.cycles.sides d (in_zero c d (present_has c plan t d h)) same in (
          s.0,
          subst (λ z. Steps (local_map C).next s.0 (copy_in c plan t d) z) (sym (copy_flip c plan t d))
              (nexts_at law c plan tiles w t s.0 d (flip d) (same_within c plan t d h same) s.1),
        ))
