-- Cycles written out, and what stands in them.
use Rattle.std.proofs.Common.{◌≡◌, ◌≢◌, ℕ, zero, suc, ◌+◌, ◌<◌, ◌≤◌, Bool, true, false, ◌&&◌, ◌==◌}
use Rattle.std.proofs.Common.{if◌then◌else◌, List, [], ◌∷◌, ◌++◌, map, refl, sym, ap, ◌∙◌, inl, inr, arith}
use Rattle.std.proofs.lemmas.Bool.{cases_Bool, cases_eq}
use Rattle.std.proofs.lemmas.Bool.Decides.{nat_tests}
use Rattle.std.proofs.lemmas.List.{map-append}
use Rattle.std.specs.List.{range_with_len}
use Rattle.std.proofs.lemmas.List.FromFn.{map-range_with_len_more}
use Rattle.vpf_darts.specs.Cycles.{IsCycle, count_of}
use Rattle.vpf_vectors.specs.Cells.Corners.{Way, East, North, West, South}
use Rattle.vpf_vectors.specs.Cells.Maps.{pick}
use Rattle.vpf_vectors.proofs.cells.WayLemmas.{turn_way}

-- ways by number
abbrev pub way_number : Way → ℕ
way_number East = 0
way_number North = 1
way_number West = 2
way_number South = 3

abbrev pub same_way : Way → Way → Bool
same_way v w = way_number v == way_number w

-- how often a direction stands in a list
abbrev pub count_way : Way → List Way → ℕ
count_way v [] = 0
count_way v (w ∷ ws) = (if same_way w v then 1 else 0) + count_way v ws

way_in : ℕ → Way
way_in zero = East
way_in (suc zero) = North
way_in (suc (suc zero)) = West
way_in (suc (suc (suc k))) = South

way_in-number : (w : Way) → way_in (way_number w) ≡ w
unfolding way_in
way_in-number East = refl
way_in-number North = refl
way_in-number West = refl
way_in-number South = refl

pub ways_equal : (v w : Way) → same_way v w ≡ true → v ≡ w
ways_equal v w h = let e : way_number v ≡ way_number w = grind (arith, nat_tests) in sym (way_in-number v) ∙ ap way_in e ∙ way_in-number w

pub same_way-refl : (w : Way) → same_way w w ≡ true
same_way-refl East = refl
same_way-refl North = refl
same_way-refl West = refl
same_way-refl South = refl

-- a dart stands among those picked as often as its direction among all
pub count_picked : (p : Way → Bool) (num : Way → ℕ) (d : ℕ) (among : Bool) (v : Way) → ((w : Way) → (p w && (num w == d)) ≡ (among && same_way w v))
    → (ws : List Way) → count_of d (pick p num ws) ≡ (if among then count_way v ws else 0)
count_picked p num d true v h [] = refl
count_picked p num d false v h [] = refl
count_picked p num d true v h (w ∷ ws) = let i = count_picked p num d true v h ws in let e = h w in elim (cases_Bool (p w)) [
  | inl t ↦ (let f : (num w == d) ≡ same_way w v = rw t at e in rw (t, f, i) refl)
  | inr t ↦ (let f : false ≡ same_way w v = rw t at e in rw (t, i, ← f) (omega arith))
]
count_picked p num d false v h (w ∷ ws) = let i = count_picked p num d false v h ws in let e = h w in elim (cases_Bool (p w)) [
  | inl t ↦ (let f : (num w == d) ≡ false = rw t at e in rw (t, f, i) refl)
  | inr t ↦ rw (t, i) refl
]

-- the test that it takes, from what it means
pub picked_by : (p : Way → Bool) (num : Way → ℕ) (d : ℕ) (among : Bool) (v : Way) → (among ≡ true → (p v ≡ true) × (num v ≡ d))
    → ((w : Way) → p w ≡ true → num w ≡ d → (among ≡ true) × (w ≡ v)) → (w : Way) → (p w && (num w == d)) ≡ (among && same_way w v)
picked_by p num d among v here only w = elim (cases_Bool (among && same_way w v)) [
  | inl t ↦ (
      let both : (among ≡ true) × (same_way w v ≡ true) = grind arith in
      let e : w ≡ v = ways_equal w v both.1 in
      let ok = here both.0 in
      let pw : p w ≡ true = ap p e ∙ ok.0 in
      let nw : num w ≡ d = ap num e ∙ ok.1 in
      grind (arith, nat_tests))
  | inr f ↦ elim (cases_Bool (p w && (num w == d))) [
    | inl t ↦ (
        let pw : p w ≡ true = grind arith in
        let nw : num w ≡ d = grind (arith, nat_tests) in
        let ok = only w pw nw in
        let s : same_way w v ≡ true = ap (λ k. same_way k v) ok.1 ∙ same_way-refl v in
        let a : among ≡ true = ok.0 in
        cc)
    | inr g ↦ g ∙ sym f
  ]
]

pub all_ways : (v : Way) → count_way v (East ∷ North ∷ West ∷ South ∷ []) ≡ 1
all_ways East = refl
all_ways North = refl
all_ways West = refl
all_ways South = refl

-- the darts that leave a corner are one cycle, where at least one of two opposite directions is there
pub turn_cycle : (p : Way → Bool) (num : Way → ℕ) (turn : ℕ → ℕ) → ((w : Way) → p w ≡ true → turn (num w) ≡ num (turn_way p w))
    → (p East ≡ false → p West ≡ true) → (p North ≡ false → p South ≡ true) → IsCycle turn (pick p num (East ∷ North ∷ West ∷ South ∷ []))
turn_cycle p num turn h one two = elim (cases_Bool (p East)) [
  | inl e ↦ elim (cases_Bool (p North)) [
    | inl n ↦ elim (cases_Bool (p West)) [
      | inl w ↦ elim (cases_Bool (p South)) [
        | inl s ↦ (let a = h East e in let b = h North n in let c = h West w in let d = h South s in grind arith)
        | inr s ↦ (let a = h East e in let b = h North n in let c = h West w in grind arith)
      ]
      | inr w ↦ elim (cases_Bool (p South)) [
        | inl s ↦ (let a = h East e in let b = h North n in let d = h South s in grind arith)
        | inr s ↦ (let a = h East e in let b = h North n in grind arith)
      ]
    ]
    | inr n ↦ (let s = two n in elim (cases_Bool (p West)) [
      | inl w ↦ (let a = h East e in let c = h West w in let d = h South s in grind arith)
      | inr w ↦ (let a = h East e in let d = h South s in grind arith)
    ])
  ]
  | inr e ↦ (let w = one e in elim (cases_Bool (p North)) [
    | inl n ↦ elim (cases_Bool (p South)) [
      | inl s ↦ (let b = h North n in let c = h West w in let d = h South s in grind arith)
      | inr s ↦ (let b = h North n in let c = h West w in grind arith)
    ]
    | inr n ↦ (let s = two n in let c = h West w in let d = h South s in grind arith)
  ])
]

-- the lists f i, f (i + 1) and so on
map_ranged : (g f : ℕ → ℕ) (i k : ℕ) → ((j : ℕ) → i ≤ j → j < i + k → g (f j) ≡ f (j + 1))
    → map g (map f (range_with_len i k)) ≡ map f (range_with_len (i + 1) k)
map_ranged g f i zero h = refl
map_ranged g f i (suc k) h =
    let a = h i (omega arith) (omega arith) in
    let b = map_ranged g f (i + 1) k (λ j low high. h j (omega arith) (omega arith)) in
    cc

pub ranged_cycle : (g f : ℕ → ℕ) (k : ℕ) → ((j : ℕ) → j < k → g (f j) ≡ f (j + 1)) → g (f k) ≡ f 0 → IsCycle g (map f (range_with_len 0 (suc k)))
ranged_cycle g f k h last =
    let e : k + 1 ≡ suc k = omega arith in
    ap (λ m. map g (map f (range_with_len 0 m))) (sym e) ∙ ap (map g) (map-range_with_len_more f 0 k k (omega arith))
    ∙ map-append g (map f (range_with_len 0 k)) (f k ∷ [])
    ∙ ap (λ xs. xs ++ g (f k) ∷ []) (map_ranged g f 0 k (λ j low high. h j (omega arith))) ∙ ap (λ x. map f (range_with_len 1 k) ++ x ∷ []) last

pub ranged_none : (f : ℕ → ℕ) (d i k : ℕ) → ((j : ℕ) → i ≤ j → j < i + k → f j ≢ d) → count_of d (map f (range_with_len i k)) ≡ 0
ranged_none f d i zero h = refl
ranged_none f d i (suc k) h =
    let a : f i ≢ d = h i (omega arith) (omega arith) in
    let b = ranged_none f d (i + 1) k (λ j low high. h j (omega arith) (omega arith)) in
    let c : (f i == d) ≡ false = grind (arith, nat_tests) in
    rw (c, b) refl

pub ranged_one : (f : ℕ → ℕ) (d p i k : ℕ) → i ≤ p → p < i + k → f p ≡ d → ((j : ℕ) → i ≤ j → j < i + k → f j ≡ d → j ≡ p)
    → count_of d (map f (range_with_len i k)) ≡ 1
ranged_one f d p i zero low high e only = absurd (omega arith)
ranged_one f d p i (suc k) low high e only = elim (cases_eq i p) [
  | inl q ↦ (
      let fi : f i ≡ d = ap f q ∙ e in
      let c : (f i == d) ≡ true = grind (arith, nat_tests) in
      let b = ranged_none f d (i + 1) k (λ j lo hi same. (let z : j ≡ p = only j (omega arith) (omega arith) same in omega arith)) in
      rw (c, b) refl)
  | inr q ↦ (
      let c : (f i == d) ≡ false = elim (cases_Bool (f i == d)) [
        | inl t ↦ (let fi : f i ≡ d = grind (arith, nat_tests) in absurd (q (only i (omega arith) (omega arith) fi)))
        | inr g ↦ g
      ] in
      let b = ranged_one f d p (i + 1) k (omega arith) (omega arith) e (λ j lo hi same. only j (omega arith) (omega arith) same) in
      rw (c, b) refl)
]
