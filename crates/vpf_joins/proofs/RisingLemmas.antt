-- Numbers of rows, each once, as they rise.
use Rattle.std.proofs.Common.{◌≡◌, ℕ, suc, ◌+◌, ◌-◌, ◌<◌, ◌≤◌, Bool, true, false, List, [], ◌∷◌, ◌++◌, append_assoc, append-nil, sym, subst, arith}
use Rattle.std.specs.Prelude.{filter}
use Rattle.std.specs.List.{All, range_with_len}
use Rattle.std.proofs.lemmas.List.Elements.{All-filter}
use Rattle.std.proofs.lemmas.List.FromFn.{get_or-range_with_len, length-range_with_len}
use Rattle.vpf_prims.specs.Numbering.{IsRowOf}

-- the next number passes
pub rising_hit : (p : ℕ → Bool) (k n : ℕ) (numbers more whole : List ℕ) → k < n → p (k + 1) ≡ true → more ≡ numbers ++ (k + 1) ∷ []
    → numbers ++ filter p (range_with_len (k + 1) (n - k)) ≡ whole → more ++ filter p (range_with_len (k + 1 + 1) (n - (k + 1))) ≡ whole
rising_hit p k n numbers more whole h hit pushed left =
    let e : n - k ≡ suc (n - (k + 1)) = omega arith in
    let d = rw (e, hit) at left in
    rw (pushed, append_assoc) d

-- it doesn't
pub rising_miss : (p : ℕ → Bool) (k n : ℕ) (numbers whole : List ℕ) → k < n → p (k + 1) ≡ false
    → numbers ++ filter p (range_with_len (k + 1) (n - k)) ≡ whole → numbers ++ filter p (range_with_len (k + 1 + 1) (n - (k + 1))) ≡ whole
rising_miss p k n numbers whole h miss left =
    let e : n - k ≡ suc (n - (k + 1)) = omega arith in
    rw (e, miss) at left

range_rows : (n : ℕ) → All (IsRowOf n) (range_with_len 1 n)
range_rows n i d h =
    let m : i < n = omega (arith, h, length-range_with_len 1 n) in
    let e = get_or-range_with_len 1 n i d m in
    (omega (arith, e), omega (arith, e))

-- all that passed are numbers of rows
pub rising_rows : (p : ℕ → Bool) (k n : ℕ) (numbers : List ℕ) → n ≤ k
    → numbers ++ filter p (range_with_len (k + 1) (n - k)) ≡ filter p (range_with_len 1 n) → All (IsRowOf n) numbers
rising_rows p k n numbers h left =
    let e : n - k ≡ 0 = omega arith in
    let d = rw (e, append-nil) at left in
    subst (All (IsRowOf n)) (sym d) (All-filter p (IsRowOf n) (range_with_len 1 n) (range_rows n))
