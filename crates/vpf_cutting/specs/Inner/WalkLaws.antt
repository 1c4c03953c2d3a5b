-- What is so of the darts of a coverage by their edges, and of the edges that are passed over where a tile is walked.
use Rattle.std.proofs.Common.{◌≡◌, ℕ, zero, suc, ◌+◌, ◌^◌, ◌<◌, ◌≤◌, Bool, true, false, not, cond, eqb}
use Rattle.std.proofs.Common.{◌||◌, ◌&&◌, refl, sym, ap, ◌∙◌, subst, inl, inr, arith, List, [], ◌∷◌, length, map}
use Rattle.std.specs.List.{AllByRecursion, range_with_len}
use Rattle.std.specs.Prelude.{filter}
use Rattle.std.proofs.lemmas.Bool.{cases_Bool, cases_eq, and_from, or_cases, or_from, or_left, or_right, eqb-true, eq-eqb, ne_eqb}
use Rattle.vpf_darts.specs.Darts.{code, tile_in, edge_in, flip}
use Rattle.vpf_darts.specs.Maps.{AreEdges, is_of, is_of_any}
use Rattle.vpf_prims.specs.Numbering.{IsRowOf}
use Rattle.vpf_prims.specs.Primitives.{Primitives, untiled, edge_count}
use Rattle.vpf_wing.specs.Inner.DartLaws.{IsThere, code-edge, code-tile, darts-stand, flip-flip, flip-has, has-there, never_both, stands_in, there-has}
use Rattle.vpf_tiling.specs.Plans.{IsTileable}
use Rattle.vpf_tiling.specs.Presence.{absent_darts, coverage_map, edge_darts, face_of, has_edge, has_node}
use Rattle.vpf_tiling.specs.Presence.{holds_face, home, is_present, is_within, tail_of, untiled_links}
use Rattle.vpf_tiling.specs.Inner.PresenceLaws.{any_from, dart_is, holds_from, in_faces, in_zero, of_any_from, plus_or, present_has, stands_filter, up_stands}
use Rattle.vpf_tiling.specs.Ranks.{up_to}

-- an edge of a dart in tile 0 has a number of 32 bits
code-small : (e s : ℕ) → tile_in (code 0 e s) ≤ 0 → e < 2 ^ 32
unfolding tile_in code
code-small e s h = omega arith

-- the darts of the rows of edges are those that there are
pub row_has : (c : Primitives) (e s : ℕ) → length c.edges < 2 ^ 24 → s < 2 → IsRowOf (length c.edges) e → (untiled_links c).has (code 0 e s) ≡ true
row_has c e s few hs row = (
    let top : e ≤ length c.edges = row.1 in
    let small : e < 2 ^ 32 = omega arith in
    let t : tile_in (code 0 e s) ≡ 0 = code-tile 0 e s small hs in
    let k : edge_in (code 0 e s) ≡ e = code-edge 0 e s small hs in
    there-has (untiled c) (code 0 e s) (record {
      from_one = subst (λ z. 1 ≤ z) (sym k) row.0;
      to_count = subst (λ z. edge_in (code 0 e s) ≤ edge_count (untiled c) z) (sym t) (subst (λ z. z ≤ length c.edges) (sym k) row.1);
      to_last = omega arith;
    }))

pub has_row : (c : Primitives) (e s : ℕ) → s < 2 → (untiled_links c).has (code 0 e s) ≡ true → IsRowOf (length c.edges) e
has_row c e s hs h = (
    let i : IsThere (untiled c) (code 0 e s) = has-there (untiled c) (code 0 e s) h in
    let small : e < 2 ^ 32 = code-small e s i.to_last in
    let t : tile_in (code 0 e s) ≡ 0 = code-tile 0 e s small hs in
    let k : edge_in (code 0 e s) ≡ e = code-edge 0 e s small hs in
    let low : 1 ≤ e = subst (λ z. 1 ≤ z) k i.from_one in
    let high : e ≤ length c.edges = subst (λ z. z ≤ length c.edges) k (subst (λ z. edge_in (code 0 e s) ≤ edge_count (untiled c) z) t i.to_count) in
    (low, high))

-- an edge that is present in a tile is one of the coverage
pub has_edge_row : (c : Primitives) (plan : ℕ → ℕ) (t e : ℕ) → has_edge c plan t e ≡ true → IsRowOf (length c.edges) e
has_edge_row c plan t e h = has_row c e 0 (omega arith) (present_has c plan t (code 0 e 0) h)

-- a dart whose edge is present has its tail there
pub tail_there : (c : Primitives) (plan : ℕ → ℕ) (t d : ℕ) → is_present c plan t d ≡ true → has_node c plan t (tail_of c d) ≡ true
tail_there c plan t d h =
    any_from (λ x. is_present c plan t x && eqb (tail_of c x) (tail_of c d)) (untiled_links c).darts d (darts-stand (untiled c) d (present_has c plan t d h))
    (and_from (is_present c plan t d) (eqb (tail_of c d) (tail_of c d)) h (eq-eqb (tail_of c d) (tail_of c d) refl))

-- a dart with a face of the tile is within it
planned_within : (c : Primitives) (plan : ℕ → ℕ) (tiles : ℕ) → IsTileable c plan tiles → (t d : ℕ) → (untiled_links c).has d ≡ true
    → (face_of c d ≡ 1 → ⊥) → plan (face_of c d) ≡ t → is_within c plan t d ≡ true
planned_within c plan tiles w t d h other is =
    and_from ((untiled_links c).has d) (holds_face c plan t (face_of c d)) h
    (holds_from c plan t (face_of c d) (in_faces c w.well_formed d h) other is)

pub home_past : (c : Primitives) (plan : ℕ → ℕ) (d : ℕ) → face_of c d ≡ 1 → home c plan d ≡ plan (face_of c (flip d))
home_past c plan d one = ap (λ b. cond b (plan (face_of c (flip d))) (plan (face_of c d))) (eq-eqb (face_of c d) 1 one)

pub home_here : (c : Primitives) (plan : ℕ → ℕ) (d : ℕ) → (face_of c d ≡ 1 → ⊥) → home c plan d ≡ plan (face_of c d)
home_here c plan d other = ap (λ b. cond b (plan (face_of c (flip d))) (plan (face_of c d))) (ne_eqb (face_of c d) 1 other)

-- a dart is present in its home
pub home_there : (c : Primitives) (plan : ℕ → ℕ) (tiles : ℕ) → IsTileable c plan tiles → (d : ℕ) → (untiled_links c).has d ≡ true
    → is_present c plan (home c plan d) d ≡ true
home_there c plan tiles w d h = elim (cases_eq (face_of c d) 1) [
  | inl one ↦
      or_right (is_within c plan (home c plan d) d) (is_within c plan (home c plan d) (flip d))
      (planned_within c plan tiles w (home c plan d) (flip d) (flip-has (untiled c) d h) (w.places.edges d h one) (sym (home_past c plan d one)))
  | inr other ↦
      or_left (is_within c plan (home c plan d) d) (is_within c plan (home c plan d) (flip d))
      (planned_within c plan tiles w (home c plan d) d h other (sym (home_here c plan d other)))
]

or_turned : (a b : Bool) → (a || b) ≡ (b || a)
or_turned true true = refl
or_turned true false = refl
or_turned false true = refl
or_turned false false = refl

-- the other dart of an edge is present with it
pub present_other : (c : Primitives) (plan : ℕ → ℕ) (t d : ℕ) → is_present c plan t (flip d) ≡ is_present c plan t d
present_other c plan t d =
    ap (λ x. is_within c plan t (flip d) || is_within c plan t x) (flip-flip d) ∙ or_turned (is_within c plan t (flip d)) (is_within c plan t d)

-- among edges that pass a test of both their darts alike, a dart that fails it is of none
of_none : (q : ℕ → Bool) (x : ℕ) → q x ≡ false → q (flip x) ≡ false → (es : List ℕ) → is_of_any flip (filter q es) x ≡ false
of_none q x h g [] = refl
of_none q x h g (e ∷ es) = elim (cases_Bool (q e)) [
  | inl t ↦
      rw t (or_from (is_of flip e x) (is_of_any flip (filter q es) x)
      (or_from (eqb x e) (eqb x (flip e)) (ne_eqb x e (λ s. never_both (q x) (ap q s ∙ t) h))
      (ne_eqb x (flip e) (λ s. never_both (q (flip x)) (ap q (ap flip s ∙ flip-flip e) ∙ t) g))) (of_none q x h g es))
  | inr f ↦ rw f (of_none q x h g es)
]

-- a present dart is of no absent edge
pub present_kept : (c : Primitives) (plan : ℕ → ℕ) (t x : ℕ) → is_present c plan t x ≡ true → is_of_any flip (absent_darts c plan t) x ≡ false
present_kept c plan t x h = of_none (λ d. not (is_present c plan t d)) x (ap not h) (ap not (present_other c plan t x ∙ h)) (edge_darts c)

in_map : (f : ℕ → ℕ) (x : ℕ) (xs : List ℕ) → stands_in x xs ≡ true → stands_in (f x) (map f xs) ≡ true
in_map f x [] s = absurd (never_both false s refl)
in_map f x (y ∷ ys) s = elim (or_cases (eqb x y) (stands_in x ys) s) [
  | inl a ↦ or_left (eqb (f x) (f y)) (stands_in (f x) (map f ys)) (eq-eqb (f x) (f y) (ap f (eqb-true x y a)))
  | inr b ↦ or_right (eqb (f x) (f y)) (stands_in (f x) (map f ys)) (in_map f x ys b)
]

-- a dart that isn't present is of an absent edge
absent_passed : (c : Primitives) (plan : ℕ → ℕ) (t x : ℕ) → (untiled_links c).has x ≡ true → is_present c plan t x ≡ false
    → is_of_any flip (absent_darts c plan t) x ≡ true
absent_passed c plan t x there none = (
    let i : IsThere (untiled c) x = has-there (untiled c) x there in
    let last : edge_in x ≤ length c.edges = subst (λ s. edge_in x ≤ edge_count (untiled c) s) (in_zero c x there).tile i.to_count in
    let plus : ℕ = code 0 (edge_in x) 0 in
    let stands : stands_in plus (edge_darts c) ≡ true =
    in_map (λ k. code 0 k 0) (edge_in x) (up_to (length c.edges)) (up_stands (length c.edges) (edge_in x) i.from_one last) in
    let q : ℕ → Bool = λ d. not (is_present c plan t d) in
    let of : (q plus ≡ true) × (is_of flip plus x ≡ true) = elim (plus_or x (dart_is c x there)) [
      | inl s ↦ (ap q s ∙ ap not none, or_left (eqb x plus) (eqb x (flip plus)) (eq-eqb x plus (sym s)))
      | inr s ↦ (
        ap q s ∙ ap not (present_other c plan t x ∙ none),
        or_right (eqb x plus) (eqb x (flip plus)) (eq-eqb x (flip plus) (sym (flip-flip x) ∙ ap flip (sym s))),
      )
    ] in
    of_any_from flip plus x (absent_darts c plan t) (stands_filter q plus (edge_darts c) of.0 stands) of.1)

-- a dart is passed over exactly where its edge isn't present
pub passed_is : (c : Primitives) (plan : ℕ → ℕ) (t x : ℕ) → (untiled_links c).has x ≡ true
    → is_of_any flip (absent_darts c plan t) x ≡ not (is_present c plan t x)
passed_is c plan t x there = elim (cases_Bool (is_present c plan t x)) [
  | inl p ↦ present_kept c plan t x p ∙ ap not (sym p)
  | inr n ↦ absent_passed c plan t x there n ∙ ap not (sym n)
]

-- a dart that isn't passed over is present
pub kept_present : (c : Primitives) (plan : ℕ → ℕ) (t x : ℕ) → (untiled_links c).has x ≡ true → is_of_any flip (absent_darts c plan t) x ≡ false
    → is_present c plan t x ≡ true
kept_present c plan t x there h = elim (cases_Bool (is_present c plan t x)) [
  | inl p ↦ p
  | inr n ↦ absurd (never_both (is_of_any flip (absent_darts c plan t) x) (absent_passed c plan t x there n) h)
]

all_up : (P : ℕ → Type 0) (f : ℕ → ℕ) (a n : ℕ) → ((e : ℕ) → a ≤ e → e < a + n → P (f e)) → AllByRecursion P (map f (range_with_len a n))
all_up P f a zero h = tt
all_up P f a (suc n) h = (h a (omega arith) (omega arith), all_up P f (a + 1) n (λ e x y. h e (omega arith) (omega arith)))

all_filter : (P : ℕ → Type 0) (q : ℕ → Bool) (xs : List ℕ) → AllByRecursion P xs → AllByRecursion P (filter q xs)
all_filter P q [] a = tt
all_filter P q (x ∷ xs) a = elim (cases_Bool (q x)) [ inl t ↦ rw t (a.0, all_filter P q xs a.1) | inr f ↦ rw f (all_filter P q xs a.1) ]

-- the absent edges are edges of the coverage
pub absent_edges : (c : Primitives) (plan : ℕ → ℕ) (t : ℕ) → length c.edges < 2 ^ 24 → AreEdges (coverage_map c) (absent_darts c plan t)
absent_edges c plan t few =
    all_filter (λ e. (untiled_links c).has e ≡ true) (λ d. not (is_present c plan t d)) (edge_darts c)
    (all_up (λ e. (untiled_links c).has e ≡ true) (λ e. code 0 e 0) 1 (length c.edges)
    (λ e a b. row_has c e 0 few (omega arith) (a, (let h : e < 1 + length c.edges = b in omega arith))))
