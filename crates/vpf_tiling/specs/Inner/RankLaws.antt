-- Numbers that pass a test, counted; and rows by ranks: the row of a number stands at its rank.
use Rattle.std.proofs.Common.{◌≡◌, ℕ, zero, suc, ◌+◌, ◌<◌, ◌≤◌, Bool, true, false, refl, sym, ap, ◌∙◌, subst, inl, inr, arith, List, [], ◌∷◌, ◌++◌, length, length-append, ◌≢◌, get_or}
use Rattle.std.specs.Prelude.{if◌then◌else◌, count_by, filter}
use Rattle.std.proofs.lemmas.List.Elements.{filter-append}
use Rattle.std.proofs.lemmas.List.Sums.{length-filter}
use Rattle.std.specs.List.{range_with_len}
use Rattle.std.proofs.lemmas.Bool.{cases_Bool, cases_eq}
use Rattle.vpf_tiling.specs.Ranks.{up_to, rank, numbered_from, numbered}
use Rattle.std.proofs.lemmas.List.{get_or_append_left, get_or_push}
use Rattle.vpf_prims.specs.Lists.{kth}

range-last : (a n : ℕ) → range_with_len a (suc n) ≡ range_with_len a n ++ (a + n) ∷ []
range-last a zero = ap (λ k. k ∷ []) (let e : a ≡ a + 0 = omega arith in e)
range-last a (suc n) =
    ap (λ z. a ∷ z) (range-last (a + 1) n ∙ ap (λ k. range_with_len (a + 1) n ++ k ∷ []) (let e : (a + 1) + n ≡ a + suc n = omega arith in e))

-- the numbers to the next end with it
pub up-last : (n : ℕ) → up_to (suc n) ≡ up_to n ++ suc n ∷ []
up-last n = range-last 1 n ∙ ap (λ k. up_to n ++ k ∷ []) (let e : 1 + n ≡ suc n = omega arith in e)

-- how much a number counts
abbrev pub weight : Bool → ℕ
weight b = if b then 1 else 0

one-passing : (p : ℕ → Bool) (x : ℕ) → length (filter p (x ∷ [])) ≡ weight (p x)
one-passing p x = elim (cases_Bool (p x)) [ inl t ↦ rw t refl | inr f ↦ rw f refl ]

count-last : (p : ℕ → Bool) (a n : ℕ) → count_by p (range_with_len a (suc n)) ≡ weight (p (a + n)) + count_by p (range_with_len a n)
count-last p a n =
    let before : List ℕ = range_with_len a n in
    let m : ℕ = weight (p (a + n)) in
    let split : filter p (range_with_len a (suc n)) ≡ filter p before ++ filter p ((a + n) ∷ []) =
    ap (filter p) (range-last a n) ∙ filter-append p before ((a + n) ∷ []) in
    let all : count_by p (range_with_len a (suc n)) ≡ length (filter p before ++ filter p ((a + n) ∷ [])) =
    sym (length-filter p (range_with_len a (suc n))) ∙ ap length split in
    let sum : length (filter p before ++ filter p ((a + n) ∷ [])) ≡ length (filter p before) + length (filter p ((a + n) ∷ [])) =
    length-append (filter p before) (filter p ((a + n) ∷ [])) in
    let last : length (filter p ((a + n) ∷ [])) ≡ m = one-passing p (a + n) in
    let most : length (filter p before) ≡ count_by p before = length-filter p before in
    omega arith

-- one number more has one more below it, if that passes
pub rank-step : (p : ℕ → Bool) (n m : ℕ) → weight (p n) ≡ m → rank p (suc n) ≡ m + rank p n
rank-step p n m h = count-last p 0 n ∙ ap (λ k. weight (p k) + rank p n) (let e : 0 + n ≡ n = omega arith in e) ∙ ap (λ w. w + rank p n) h

pub filter_one : (p : ℕ → Bool) (x : ℕ) → p x ≡ true → filter p (x ∷ []) ≡ x ∷ []
filter_one p x h = rw h refl

pub filter_none : (p : ℕ → Bool) (x : ℕ) → p x ≡ false → filter p (x ∷ []) ≡ []
filter_none p x h = rw h refl

pub numbered_append : {R : Type 0} → (row : ℕ → ℕ → R) (k : ℕ) (xs ys : List ℕ)
    → numbered_from k row (xs ++ ys) ≡ numbered_from k row xs ++ numbered_from (length xs + k) row ys
numbered_append row k [] ys = ap (λ j. numbered_from j row ys) (let e : k ≡ 0 + k = omega arith in e)
numbered_append row k (x ∷ xs) ys =
    ap (λ z. row k x ∷ z) (numbered_append row (suc k) xs ys
    ∙ ap (λ j. numbered_from (suc k) row xs ++ numbered_from j row ys) (let e : length xs + suc k ≡ length (x ∷ xs) + k = omega arith in e))

pub numbered_many : {X R : Type 0} → (row : ℕ → X → R) (k : ℕ) (xs : List X) → length (numbered_from k row xs) ≡ length xs
numbered_many row k [] = refl
numbered_many row k (x ∷ xs) = let e : length (numbered_from (suc k) row xs) ≡ length xs = numbered_many row (suc k) xs in omega arith

-- the numbers to n that pass are as many as the rank says
pub count_is : (p : ℕ → Bool) → p 0 ≡ false → (n : ℕ) → length (filter p (up_to n)) ≡ rank p (suc n)
count_is p h zero = ap (λ b. 0 + weight b) (sym h)
count_is p h (suc n) = elim (cases_Bool (p (suc n))) [
  | inl t ↦ (
      let e : length (filter p (up_to (suc n))) ≡ length (filter p (up_to n) ++ (suc n ∷ [])) =
      ap length (ap (filter p) (up-last n) ∙ filter-append p (up_to n) (suc n ∷ []) ∙ ap (λ z. filter p (up_to n) ++ z) (filter_one p (suc n) t)) in
      let f : length (filter p (up_to n) ++ (suc n ∷ [])) ≡ length (filter p (up_to n)) + 1 = length-append (filter p (up_to n)) (suc n ∷ []) in
      let g : length (filter p (up_to n)) ≡ rank p (suc n) = count_is p h n in
      let r : rank p (suc (suc n)) ≡ 1 + rank p (suc n) = rank-step p (suc n) 1 (ap weight t) in
      omega arith)
  | inr u ↦ (
      let e : length (filter p (up_to (suc n))) ≡ length (filter p (up_to n) ++ []) =
      ap length (ap (filter p) (up-last n) ∙ filter-append p (up_to n) (suc n ∷ []) ∙ ap (λ z. filter p (up_to n) ++ z) (filter_none p (suc n) u)) in
      let f : length (filter p (up_to n) ++ []) ≡ length (filter p (up_to n)) + 0 = length-append (filter p (up_to n)) [] in
      let g : length (filter p (up_to n)) ≡ rank p (suc n) = count_is p h n in
      let r : rank p (suc (suc n)) ≡ 0 + rank p (suc n) = rank-step p (suc n) 0 (ap weight u) in
      omega arith)
]

pub rank-below : (p : ℕ → Bool) (n : ℕ) → rank p n ≤ rank p (suc n)
rank-below p n = elim (cases_Bool (p n)) [
  | inl t ↦ (let r : rank p (suc n) ≡ 1 + rank p n = rank-step p n 1 (ap weight t) in omega arith)
  | inr u ↦ (let r : rank p (suc n) ≡ 0 + rank p n = rank-step p n 0 (ap weight u) in omega arith)
]

pub rank_rises : (p : ℕ → Bool) (e n : ℕ) → p e ≡ true → e ≤ n → rank p e < rank p (suc n)
rank_rises p e n h le = elim (cases_eq e n) [
  | inl same ↦ (let r : rank p (suc e) ≡ 1 + rank p e = rank-step p e 1 (ap weight h) in subst (λ w. rank p e < rank p (suc w)) same (omega arith))
  | inr ne ↦ rank_later p e n h le ne
]
  where
    rank_later : (p : ℕ → Bool) (e n : ℕ) → p e ≡ true → e ≤ n → e ≢ n → rank p e < rank p (suc n)
    rank_later p e zero h le ne = absurd (ne (omega arith))
    rank_later p e (suc n) h le ne = (let b : rank p (suc n) ≤ rank p (suc (suc n)) = rank-below p (suc n) in elim (cases_eq e n) [
      | inl same ↦
          (let r : rank p (suc e) ≡ 1 + rank p e = rank-step p e 1 (ap weight h) in let s : rank p e < rank p (suc n) =
          subst (λ w. rank p e < rank p (suc w)) same (omega arith) in omega arith)
      | inr other ↦ (let s : rank p e < rank p (suc n) = rank_later p e n h (omega arith) other in omega arith)
    ])

-- the row of a number that passes
pub row_at_rank : {R : Type 0} → (row : ℕ → ℕ → R) (p : ℕ → Bool) (n e : ℕ) (d : R) → p 0 ≡ false → p e ≡ true → 1 ≤ e → e ≤ n
    → get_or (numbered row (filter p (up_to n))) (rank p e) d ≡ row (rank p e + 1) e
row_at_rank row p zero e d z h one le = absurd (omega arith)
row_at_rank row p (suc n) e d z h one le = (
    let a : List ℕ = filter p (up_to n) in
    let split : filter p (up_to (suc n)) ≡ a ++ filter p (suc n ∷ []) = ap (filter p) (up-last n) ∙ filter-append p (up_to n) (suc n ∷ []) in
    let whole : numbered row (filter p (up_to (suc n))) ≡ numbered_from 1 row a ++ numbered_from (length a + 1) row (filter p (suc n ∷ [])) =
    ap (numbered row) split ∙ numbered_append row 1 a (filter p (suc n ∷ [])) in
    let many : length a ≡ rank p (suc n) = count_is p z n in
    let long : length (numbered_from 1 row a) ≡ length a = numbered_many row 1 a in
    ap (λ w. get_or w (rank p e) d) whole ∙ (elim (cases_eq e (suc n)) [
      | inl same ↦ (
          let here : rank p e ≡ rank p (suc n) = ap (rank p) same in
          let t : p (suc n) ≡ true = ap p (sym same) ∙ h in
          ap (λ w. get_or (numbered_from 1 row a ++ numbered_from (length a + 1) row w) (rank p e) d) (filter_one p (suc n) t)
          ∙ get_or_push (numbered_from 1 row a) (row (length a + 1) (suc n)) d (rank p e) (omega arith) ∙ ap (λ w. row (w + 1) (suc n)) (many ∙ sym here)
          ∙ ap (row (rank p e + 1)) (sym same))
      | inr ne ↦ (
          let lt : rank p e < rank p (suc n) = rank_rises p e n h (omega arith) in
          get_or_append_left (numbered_from 1 row a) (numbered_from (length a + 1) row (filter p (suc n ∷ []))) d (rank p e) (omega arith)
          ∙ row_at_rank row p n e d z h one (omega arith))
    ]))

-- the same by numbers from 1
pub row_of_number : {R : Type 0} → (row : ℕ → ℕ → R) (p : ℕ → Bool) (n e : ℕ) (d : R) → p 0 ≡ false → p e ≡ true → 1 ≤ e → e ≤ n
    → kth (numbered row (filter p (up_to n))) (rank p e + 1) d ≡ row (rank p e + 1) e
row_of_number row p n e d z h one le =
    (let s : rank p e + 1 ≡ suc (rank p e) = omega arith in ap (λ k. kth (numbered row (filter p (up_to n))) k d) s ∙ row_at_rank row p n e d z h one le)
