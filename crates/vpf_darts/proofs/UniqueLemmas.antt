-- There is one listing of a map.
use Rattle.std.proofs.Common.{[], ◌≡◌, ℕ, ◌+◌, ◌<◌, ◌≤◌, Bool, List, ◌∷◌, ◌++◌, map, refl, sym, ap, ◌∙◌, inl, inr, arith, subst}
use Rattle.std.specs.List.{concat, AllByRecursion}
use Rattle.std.proofs.lemmas.Bool.{cases_eq, cases_lt}
use Rattle.vpf_darts.specs.Cycles.{count_of, IsCycle, IsListing, BeginsWithLeast, FirstsRise, first_of}
use Rattle.vpf_darts.specs.Inner.CycleLaws.{count_of-append, count_of-here, count_of-not_here}

pub counted_holds : (P : ℕ → Type 0) (xs : List ℕ) → AllByRecursion P xs → (d : ℕ) → 0 < count_of d xs → P d
counted_holds P [] all d h = absurd (omega arith)
counted_holds P (x ∷ xs) all d h = elim (cases_eq x d) [
  | inl e ↦ subst P e all.0
  | inr ne ↦ counted_holds P xs all.1 d (count_of-not_here x d xs ne h)
]

pub not_counted : (x : ℕ) (xs : List ℕ) → AllByRecursion (λ y. x < y) xs → count_of x xs ≡ 0
not_counted x xs all = elim (cases_lt 0 (count_of x xs)) [
  | inl some ↦ (let lt : x < x = counted_holds (λ y. x < y) xs all x some in absurd (omega arith))
  | inr none ↦ omega arith
]

-- two walks from one dart to their first return are one
pub one_way : (next : ℕ → ℕ) (x u : ℕ) (ps qs : List ℕ) → map next (u ∷ ps) ≡ ps ++ x ∷ [] → map next (u ∷ qs) ≡ qs ++ x ∷ [] → count_of x ps ≡ 0 → count_of x qs ≡ 0 → ps ≡ qs
one_way next x u [] [] ha hb na nb = refl
one_way next x u [] (b ∷ qs) ha hb na nb = (let e : x ≡ b = cc in let some : 0 < count_of x (b ∷ qs) = subst (λ v. 0 < count_of v (b ∷ qs)) (sym e) (count_of-here b qs) in absurd (omega arith))
one_way next x u (a ∷ ps) [] ha hb na nb = (let e : x ≡ a = cc in let some : 0 < count_of x (a ∷ ps) = subst (λ v. 0 < count_of v (a ∷ ps)) (sym e) (count_of-here a ps) in absurd (omega arith))
one_way next x u (a ∷ ps) (b ∷ qs) ha hb na nb =
    let e : a ≡ b = cc in
    let ha' : map next (a ∷ ps) ≡ ps ++ x ∷ [] = cc in
    let hb0 : map next (b ∷ qs) ≡ qs ++ x ∷ [] = cc in
    let hb' : map next (a ∷ qs) ≡ qs ++ x ∷ [] = subst (λ v. map next (v ∷ qs) ≡ qs ++ x ∷ []) (sym e) hb0 in
    let na' : count_of x ps ≡ 0 = omega arith in
    let nb' : count_of x qs ≡ 0 = omega arith in
    let ih : ps ≡ qs = one_way next x a ps qs ha' hb' na' nb' in
    cc

pub one_cycle : (next : ℕ → ℕ) (xs ys : List ℕ) → IsCycle next xs → IsCycle next ys → BeginsWithLeast xs → BeginsWithLeast ys → first_of xs ≡ first_of ys → xs ≡ ys
one_cycle next [] ys hx hy lx ly e = absurd hx
one_cycle next (x ∷ xs) [] hx hy lx ly e = absurd hy
one_cycle next (x ∷ xs) (y ∷ ys) hx hy lx ly e =
    let hy' : map next (x ∷ ys) ≡ ys ++ x ∷ [] = subst (λ v. map next (v ∷ ys) ≡ ys ++ v ∷ []) (sym e) hy in
    let ly' : AllByRecursion (λ z. x < z) ys = subst (λ v. AllByRecursion (λ z. v < z) ys) (sym e) ly in
    let same : xs ≡ ys = one_way next x x xs ys hx hy' (not_counted x xs lx) (not_counted x ys ly') in
    cc

pub least_of_list : (xs : List ℕ) → BeginsWithLeast xs → (d : ℕ) → 0 < count_of d xs → first_of xs ≤ d
least_of_list [] l d h = absurd l
least_of_list (x ∷ xs) l d h = elim (cases_eq x d) [
  | inl e ↦ omega arith
  | inr ne ↦ (let lt : x < d = counted_holds (λ y. x < y) xs l d (count_of-not_here x d xs ne h) in omega arith)
]

pub above_first : (x : ℕ) (ls : List (List ℕ)) → AllByRecursion BeginsWithLeast ls → AllByRecursion (λ ys. x < first_of ys) ls → (d : ℕ) → 0 < count_of d (concat ls) → x < d
above_first x [] least above d h = absurd (omega arith)
above_first x (ys ∷ ls) least above d h =
    let split : count_of d (ys ++ concat ls) ≡ count_of d ys + count_of d (concat ls) = count_of-append d ys (concat ls) in
    elim (cases_lt 0 (count_of d ys)) [
      | inl here ↦ (let le : first_of ys ≤ d = least_of_list ys least.0 d here in let lt : x < first_of ys = above.0 in omega arith)
      | inr none ↦ above_first x ls least.1 above.1 d (omega arith)
    ]

pub least_of_all : (xs : List ℕ) (ls : List (List ℕ)) → AllByRecursion BeginsWithLeast (xs ∷ ls) → FirstsRise (xs ∷ ls) → (d : ℕ) → 0 < count_of d (concat (xs ∷ ls)) → first_of xs ≤ d
least_of_all xs ls least rise d h =
    let split : count_of d (xs ++ concat ls) ≡ count_of d xs + count_of d (concat ls) = count_of-append d xs (concat ls) in
    elim (cases_lt 0 (count_of d xs)) [
      | inl here ↦ least_of_list xs least.0 d here
      | inr none ↦ (let lt : first_of xs < d = above_first (first_of xs) ls least.1 rise.0 d (omega arith) in omega arith)
    ]

pub first_in : (next : ℕ → ℕ) (xs : List ℕ) (ls : List (List ℕ)) → IsCycle next xs → 0 < count_of (first_of xs) (concat (xs ∷ ls))
first_in next [] ls h = absurd h
first_in next (x ∷ xs) ls h = (let here : 0 < count_of x (x ∷ xs) = count_of-here x xs in rw count_of-append (omega arith))

pub one_listing : (next : ℕ → ℕ) (ls ms : List (List ℕ)) → AllByRecursion (IsCycle next) ls → AllByRecursion (IsCycle next) ms → AllByRecursion BeginsWithLeast ls → AllByRecursion BeginsWithLeast ms → FirstsRise ls → FirstsRise ms → ((d : ℕ) → count_of d (concat ls) ≡ count_of d (concat ms)) → ls ≡ ms
one_listing next [] [] cl cm ll lm rl rm same = refl
one_listing next [] (ys ∷ ms) cl cm ll lm rl rm same = (let some : 0 < count_of (first_of ys) (concat (ys ∷ ms)) = first_in next ys ms cm.0 in let none : 0 ≡ count_of (first_of ys) (concat (ys ∷ ms)) = same (first_of ys) in absurd (omega arith))
one_listing next (xs ∷ ls) [] cl cm ll lm rl rm same = (let some : 0 < count_of (first_of xs) (concat (xs ∷ ls)) = first_in next xs ls cl.0 in let none : count_of (first_of xs) (concat (xs ∷ ls)) ≡ 0 = same (first_of xs) in absurd (omega arith))
one_listing next (xs ∷ ls) (ys ∷ ms) cl cm ll lm rl rm same =
    let a : first_of xs ≤ first_of ys = least_of_all xs ls ll rl (first_of ys) (rw same (first_in next ys ms cm.0)) in
    let b : first_of ys ≤ first_of xs = least_of_all ys ms lm rm (first_of xs) (rw (← same (first_of xs)) (first_in next xs ls cl.0)) in
    let firsts : first_of xs ≡ first_of ys = omega arith in
    let lists : xs ≡ ys = one_cycle next xs ys cl.0 cm.0 ll.0 lm.0 firsts in
    let rest : (d : ℕ) → count_of d (concat ls) ≡ count_of d (concat ms) = λ d.
    (let s : count_of d (xs ++ concat ls) ≡ count_of d (ys ++ concat ms) = same d in
    let p : count_of d (xs ++ concat ls) ≡ count_of d xs + count_of d (concat ls) = count_of-append d xs (concat ls) in
    let q : count_of d (ys ++ concat ms) ≡ count_of d ys + count_of d (concat ms) = count_of-append d ys (concat ms) in
    let r : count_of d xs ≡ count_of d ys = ap (count_of d) lists in omega arith) in
    let ih : ls ≡ ms = one_listing next ls ms cl.1 cm.1 ll.1 lm.1 rl.1 rm.1 rest in
    cc

pub listing_unique : (next : ℕ → ℕ) (live : ℕ → Bool) (ls ms : List (List ℕ)) → IsListing next live ls → IsListing next live ms → ls ≡ ms
listing_unique next live ls ms a b = one_listing next ls ms a.cycles.cycles b.cycles.cycles a.least b.least a.rise b.rise (λ d. a.cycles.once d ∙ sym (b.cycles.once d))
