-- The darts of a tile: those that are present, in their order.
use Rattle.std.proofs.Common.{[], ◌≡◌, ℕ, zero, suc, ◌<◌, Bool, true, false, not, ◌||◌, ◌&&◌, refl, sym, ap, ◌∙◌, inl, inr, arith, List, ◌∷◌, ◌++◌, length}
use Rattle.std.specs.Prelude.{filter, flat_map}
use Rattle.std.specs.List.{AllByRecursion}
use Rattle.std.proofs.lemmas.Bool.{cases_Bool}
use Rattle.std.proofs.lemmas.List.Concat.{flat_map-append}
use Rattle.std.proofs.lemmas.List.Elements.{filter-append}
use Rattle.vpf_darts.specs.Darts.{code, flip}
use Rattle.vpf_darts.specs.Maps.{DartMap, is_of, is_of_any, without, without_edge}
use Rattle.vpf_prims.specs.Primitives.{Primitives, untiled}
use Rattle.vpf_wing.specs.Inner.DartLaws.{darts-stand, flip-flip, never_both, stands_in}
use Rattle.vpf_wing.specs.Links.{row_darts}
use Rattle.vpf_tiling.specs.Presence.{absent_darts, coverage_map, has_edge, is_present, present_edges, tile_map, untiled_links}
use Rattle.vpf_tiling.specs.Inner.PresenceLaws.{other-code, present_flip, present_has, stands_filter}
use Rattle.vpf_tiling.specs.Inner.RankLaws.{up-last}
use Rattle.vpf_tiling.specs.Ranks.{up_to}
use Rattle.vpf_cutting.specs.Inner.WalkLaws.{passed_is}
use Rattle.vpf_cut_rings.proofs.OrderLemmas.{same_test}
use Rattle.vpf_cut_rings.specs.Inner.OrderLaws.{RisesStrictly as Rises, all_more, kept_stands}

-- ---- what is left of the map in a tile

parted : (a b c : Bool) → (a && not b) && not c ≡ a && not (b || c)
parted true true c = refl
parted true false c = refl
parted false b c = refl

kept_all : (a : Bool) → a ≡ a && true
kept_all true = refl
kept_all false = refl

live_left : (m : DartMap) (es : List ℕ) (d : ℕ) → (without m es).live d ≡ (m.live d && not (is_of_any m.flip es d))
unfolding without_edge
live_left m [] d = kept_all (m.live d)
live_left m (e ∷ es) d = live_left (without_edge m e) es d ∙ parted (m.live d) (is_of m.flip e d) (is_of_any m.flip es d)

-- the darts of a tile are those that are present
pub tile_live : (c : Primitives) (plan : ℕ → ℕ) (t d : ℕ) → (tile_map c plan t).live d ≡ is_present c plan t d
tile_live c plan t d = live_left (coverage_map c) (absent_darts c plan t) d ∙ (elim (cases_Bool ((untiled_links c).has d)) [
  | inl h ↦
      ap (λ b. b && not (is_of_any flip (absent_darts c plan t) d)) h ∙ ap not (passed_is c plan t d h) ∙ twice (is_present c plan t d)
  | inr n ↦ ap (λ b. b && not (is_of_any flip (absent_darts c plan t) d)) n ∙ sym (nowhere n)
])
  where
    twice : (b : Bool) → not (not b) ≡ b
    twice true = refl
    twice false = refl

    nowhere : (untiled_links c).has d ≡ false → is_present c plan t d ≡ false
    nowhere n = elim (cases_Bool (is_present c plan t d)) [ inl p ↦ absurd (never_both ((untiled_links c).has d) (present_has c plan t d p) n) | inr f ↦ f ]

-- ---- the list of the darts of a tile

-- the two darts of an edge
abbrev pub both_darts : ℕ → List ℕ
both_darts e = code 0 e 0 ∷ code 0 e 1 ∷ []

minus_present : (c : Primitives) (plan : ℕ → ℕ) (t e : ℕ) → is_present c plan t (code 0 e 1) ≡ has_edge c plan t e
minus_present c plan t e = same_test _ _
    (λ h. ap (is_present c plan t) (sym (other-code e)) ∙ present_flip c plan t (code 0 e 1) h)
    (λ h. ap (is_present c plan t) (sym (ap flip (sym (other-code e)) ∙ flip-flip (code 0 e 1))) ∙ present_flip c plan t (code 0 e 0) h)

last_darts : (c : Primitives) (plan : ℕ → ℕ) (t e : ℕ) → filter (is_present c plan t) (both_darts e) ≡ flat_map both_darts (filter (has_edge c plan t) (e ∷ []))
last_darts c plan t e = elim (cases_Bool (has_edge c plan t e)) [
  | inl h ↦ rw (h, minus_present c plan t e ∙ h) refl
  | inr n ↦ rw (n, minus_present c plan t e ∙ n) refl
]

darts_to : (c : Primitives) (plan : ℕ → ℕ) (t n : ℕ) → filter (is_present c plan t) (row_darts 0 n) ≡ flat_map both_darts (filter (has_edge c plan t) (up_to n))
darts_to c plan t zero = refl
darts_to c plan t (suc n) =
    filter-append (is_present c plan t) (row_darts 0 n) (both_darts (suc n))
    ∙ ap (λ xs. xs ++ filter (is_present c plan t) (both_darts (suc n))) (darts_to c plan t n)
    ∙ ap (λ xs. flat_map both_darts (filter (has_edge c plan t) (up_to n)) ++ xs) (last_darts c plan t (suc n))
    ∙ sym (flat_map-append both_darts (filter (has_edge c plan t) (up_to n)) (filter (has_edge c plan t) (suc n ∷ [])))
    ∙ sym (ap (flat_map both_darts) (ap (filter (has_edge c plan t)) (up-last n) ∙ filter-append (has_edge c plan t) (up_to n) (suc n ∷ [])))

-- the darts of a tile, edge by edge
pub darts_by_edges : (c : Primitives) (plan : ℕ → ℕ) (t : ℕ) → filter (is_present c plan t) (untiled_links c).darts ≡ flat_map both_darts (present_edges c plan t)
darts_by_edges c plan t = darts_to c plan t (length c.edges)

pub darts_are_live : (c : Primitives) (plan : ℕ → ℕ) (t d : ℕ) → stands_in d (filter (is_present c plan t) (untiled_links c).darts) ≡ (tile_map c plan t).live d
darts_are_live c plan t d = same_test _ _
    (λ s. tile_live c plan t d ∙ (kept_stands (is_present c plan t) d (untiled_links c).darts s).0)
    (λ h. (let p : is_present c plan t d ≡ true = sym (tile_live c plan t d) ∙ h in
    stands_filter (is_present c plan t) d (untiled_links c).darts p (darts-stand (untiled c) d (present_has c plan t d p))))

-- ---- darts rise

rises_by_two : (xs : List ℕ) (a b : ℕ) → Rises xs → AllByRecursion (λ x. x < a) xs → a < b → Rises (xs ++ a ∷ b ∷ [])
rises_by_two [] a b r low lt = ((lt, tt), (tt, tt))
rises_by_two (x ∷ xs) a b r low lt = (below x xs r.0 low.0, rises_by_two xs a b r.1 low.1 lt)
  where
    below : (x : ℕ) (xs : List ℕ) → AllByRecursion (λ y. x < y) xs → x < a → AllByRecursion (λ y. x < y) (xs ++ a ∷ b ∷ [])
    below x [] up h = (h, (omega arith, tt))
    below x (y ∷ ys) up h = (up.0, below x ys up.1 h)

all_by_two : (P : ℕ → Type 0) (xs : List ℕ) (a b : ℕ) → AllByRecursion P xs → P a → P b → AllByRecursion P (xs ++ a ∷ b ∷ [])
all_by_two P [] a b h pa pb = (pa, (pb, tt))
all_by_two P (x ∷ xs) a b h pa pb = (h.0, all_by_two P xs a b h.1 pa pb)

code_steps : (e : ℕ) → (code 0 e 0 < code 0 e 1) × (code 0 e 1 < code 0 (suc e) 0)
unfolding code
code_steps e = (omega arith, omega arith)

row_below : (n : ℕ) → AllByRecursion (λ d. d < code 0 (suc n) 0) (row_darts 0 n)
row_below zero = tt
row_below (suc n) =
    let s = code_steps (suc n) in
    let first : code 0 (suc n) 0 < code 0 (suc (suc n)) 0 = omega arith in
    let second : code 0 (suc n) 1 < code 0 (suc (suc n)) 0 = omega arith in
    all_by_two (λ d. d < code 0 (suc (suc n)) 0) (row_darts 0 n) (code 0 (suc n) 0) (code 0 (suc n) 1)
    (all_more (λ d. d < code 0 (suc n) 0) (λ d. d < code 0 (suc (suc n)) 0) (λ d h. omega arith) (row_darts 0 n) (row_below n)) first second

pub row_rises : (n : ℕ) → Rises (row_darts 0 n)
row_rises zero = tt
row_rises (suc n) = rises_by_two (row_darts 0 n) (code 0 (suc n) 0) (code 0 (suc n) 1) (row_rises n) (row_below n) (code_steps (suc n)).0
