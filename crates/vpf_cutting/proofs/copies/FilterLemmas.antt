-- What is in a filter of a range, and where.
use Rattle.std.proofs.Common.{◌≡◌, ℕ, zero, suc, ◌+◌, ◌<◌, ◌≤◌, Bool, true, false, eqb, ◌||◌, cond, ◌⊎◌, List, [], ◌∷◌, length, get_or, refl, sym, ap, ◌∙◌, subst, inl, inr, arith, filter, count_by}
use Rattle.std.specs.List.{range_with_len, AllByRecursion}
use Rattle.std.proofs.lemmas.Bool.{cases_Bool, cases_eq, eq-eqb, ne_eqb, or_from, or_left}
use Rattle.std.proofs.lemmas.List.Sums.{sum_by-cons}
use Rattle.vpf_cutting.specs.Inner.Copies.Presence.{is_one_of}
use Rattle.vpf_cutting.proofs.copies.RisingLemmas.{Rises}

not_in_cond : (b : Bool) (a i : ℕ) (xs : List ℕ) → eqb a i ≡ false → is_one_of xs i ≡ false → is_one_of (cond b (a ∷ xs) xs) i ≡ false
not_in_cond true a i xs h n = or_from (eqb a i) (is_one_of xs i) h n
not_in_cond false a i xs h n = n

pub not_in_filter : (p : ℕ → Bool) (n a i : ℕ) → (i < a) ⊎ (a + n ≤ i) → is_one_of (filter p (range_with_len a n)) i ≡ false
not_in_filter p zero a i h = refl
not_in_filter p (suc n) a i h = not_in_cond (p a) a i (filter p (range_with_len (a + 1) n)) (ne_eqb a i (λ e. elim h [ inl lt ↦ absurd (omega arith) | inr ge ↦ absurd (omega arith) ])) (not_in_filter p n (a + 1) i (elim h [ inl lt ↦ inl (omega arith) | inr ge ↦ inr (omega arith) ]))

in_here : (b : Bool) (a i : ℕ) (xs : List ℕ) → a ≡ i → is_one_of xs i ≡ false → is_one_of (cond b (a ∷ xs) xs) i ≡ b
in_here true a i xs e n = or_left (eqb a i) (is_one_of xs i) (eq-eqb a i e)
in_here false a i xs e n = n

in_rest : (b : Bool) (a i : ℕ) (xs : List ℕ) → eqb a i ≡ false → is_one_of (cond b (a ∷ xs) xs) i ≡ is_one_of xs i
in_rest true a i xs h = ap (λ c. c || is_one_of xs i) h
in_rest false a i xs h = refl

pub in_filter : (p : ℕ → Bool) (n a i : ℕ) → a ≤ i → i < a + n → is_one_of (filter p (range_with_len a n)) i ≡ p i
in_filter p zero a i l h = absurd (omega arith)
in_filter p (suc n) a i l h = elim (cases_eq a i) [
  | inl e ↦ in_here (p a) a i (filter p (range_with_len (a + 1) n)) e (not_in_filter p n (a + 1) i (inl (omega arith))) ∙ ap p e
  | inr ne ↦ in_rest (p a) a i (filter p (range_with_len (a + 1) n)) (ne_eqb a i ne) ∙ in_filter p n (a + 1) i (omega arith) (omega arith)
]

-- ---- a filter of a range rises

pub above_filter : (p : ℕ → Bool) (n a x : ℕ) → x < a → AllByRecursion (λ y. x < y) (filter p (range_with_len a n))
above_filter p zero a x h = tt
above_filter p (suc n) a x h = step (p a) (above_filter p n (a + 1) x (omega arith))
  where
    step : (b : Bool) → AllByRecursion (λ y. x < y) (filter p (range_with_len (a + 1) n)) → AllByRecursion (λ y. x < y) (cond b (a ∷ filter p (range_with_len (a + 1) n)) (filter p (range_with_len (a + 1) n)))
    step true r = (h, r)
    step false r = r

pub filter_up : (p : ℕ → Bool) (n a : ℕ) → Rises (filter p (range_with_len a n))
filter_up p zero a = tt
filter_up p (suc n) a = step (p a) (filter_up p n (a + 1))
  where
    step : (b : Bool) → Rises (filter p (range_with_len (a + 1) n)) → Rises (cond b (a ∷ filter p (range_with_len (a + 1) n)) (filter p (range_with_len (a + 1) n)))
    step true r = (above_filter p n (a + 1) a (omega arith), r)
    step false r = r

all_at : (x : ℕ) (xs : List ℕ) → AllByRecursion (λ y. x < y) xs → (k : ℕ) → k < length xs → x < get_or xs k 0
all_at x [] a k h = absurd (omega arith)
all_at x (y ∷ ys) a zero h = a.0
all_at x (y ∷ ys) a (suc k) h = all_at x ys a.1 k (omega arith)

pub up_at : (xs : List ℕ) → Rises xs → (i j : ℕ) → i ≤ j → j < length xs → get_or xs i 0 ≤ get_or xs j 0
up_at [] u i j l h = absurd (omega arith)
up_at (x ∷ xs) u zero zero l h = omega arith
up_at (x ∷ xs) u zero (suc j) l h = let lt : x < get_or xs j 0 = all_at x xs u.0 j (omega arith) in omega arith
up_at (x ∷ xs) u (suc i) zero l h = absurd (omega arith)
up_at (x ∷ xs) u (suc i) (suc j) l h = up_at xs u.1 i j (omega arith) (omega arith)

-- ---- the place of a number in a filter is its rank

pub record IsFound (p : ℕ → Bool) (a k x : ℕ) : Type 0 where
  pub from : a ≤ x
  pub passes : p x ≡ true
  pub rank : (m : ℕ) → a + m ≡ x + 1 → count_by p (range_with_len a m) ≡ k + 1

count_one : (p : ℕ → Bool) (a m : ℕ) → count_by p (range_with_len a (suc m)) ≡ cond (p a) 1 0 + count_by p (range_with_len (a + 1) m)
count_one p a m = sum_by-cons (λ x. cond (p x) 1 0) a (range_with_len (a + 1) m)

first_found : (p : ℕ → Bool) (a x : ℕ) → a ≡ x → p a ≡ true → IsFound p a 0 x
first_found p a x e t = record {
  from = omega arith;
  passes = ap p (sym e) ∙ t;
  rank = λ m h. (let one : m ≡ suc 0 = omega arith in ap (λ m. count_by p (range_with_len a m)) one ∙ count_one p a 0 ∙ ap (λ b. cond b 1 0 + 0) t);
}

more_found : (b : Bool) (p : ℕ → Bool) (a k j x : ℕ) → p a ≡ b → j ≡ cond b 1 0 + k → IsFound p (a + 1) k x → IsFound p a j x
more_found b p a k j x t e f = let l : a + 1 ≤ x = f.from in record {
  from = omega arith;
  passes = f.passes;
  rank = λ m h. rank_of m h;
}
  where
    rank_of : (m : ℕ) → a + m ≡ x + 1 → count_by p (range_with_len a m) ≡ j + 1
    rank_of zero h = let l : a + 1 ≤ x = f.from in absurd (omega arith)
    rank_of (suc m) h =
        let r : count_by p (range_with_len (a + 1) m) ≡ k + 1 = f.rank m (omega arith) in
        let s : count_by p (range_with_len a (suc m)) ≡ cond b 1 0 + count_by p (range_with_len (a + 1) m) = count_one p a m ∙ ap (λ c. cond c 1 0 + count_by p (range_with_len (a + 1) m)) t in
        let g : cond b 1 0 + (k + 1) ≡ j + 1 = omega arith in
        s ∙ ap (λ n. cond b 1 0 + n) r ∙ g

pub found : (p : ℕ → Bool) (n a k x : ℕ) → k < length (filter p (range_with_len a n)) → get_or (filter p (range_with_len a n)) k 0 ≡ x → IsFound p a k x
found p zero a k x h e = absurd (omega arith)
found p (suc n) a k x h e = elim (cases_Bool (p a)) [
  | inl t ↦ head (λ j. found p n (a + 1) j x) k (subst (λ b. k < length (cond b (a ∷ filter p (range_with_len (a + 1) n)) (filter p (range_with_len (a + 1) n)))) t h) (subst (λ b. get_or (cond b (a ∷ filter p (range_with_len (a + 1) n)) (filter p (range_with_len (a + 1) n))) k 0 ≡ x) t e) t
  | inr f ↦ more_found false p a k k x f (omega arith) (found p n (a + 1) k x (subst (λ b. k < length (cond b (a ∷ filter p (range_with_len (a + 1) n)) (filter p (range_with_len (a + 1) n)))) f h) (subst (λ b. get_or (cond b (a ∷ filter p (range_with_len (a + 1) n)) (filter p (range_with_len (a + 1) n))) k 0 ≡ x) f e))
]
  where
    head : ((j : ℕ) → j < length (filter p (range_with_len (a + 1) n)) → get_or (filter p (range_with_len (a + 1) n)) j 0 ≡ x → IsFound p (a + 1) j x) → (k : ℕ) → k < length (a ∷ filter p (range_with_len (a + 1) n)) → get_or (a ∷ filter p (range_with_len (a + 1) n)) k 0 ≡ x → p a ≡ true → IsFound p a k x
    head more zero h e t = first_found p a x e t
    head more (suc k) h e t = more_found true p a k (suc k) x t (omega arith) (more k (omega arith) e)
