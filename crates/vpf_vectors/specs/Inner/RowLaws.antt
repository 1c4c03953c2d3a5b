-- Rows that are put one after another.
use Rattle.std.proofs.Common.{[], ◌≡◌, ℕ, ◌+◌, ◌-◌, ◌<◌, ◌≤◌, List, ◌∷◌, ◌++◌, length, map, take, get_or, sym, ap, subst, ◌∙◌, arith}
use Rattle.std.specs.List.{enumerate_from}
use Rattle.std.proofs.lemmas.List.{take_more, take_all, map-append}
use Rattle.std.proofs.lemmas.List.FromFn.{length-enumerate_from, get_or-enumerate_from}
use Rattle.vpf_table.specs.Grid.{Row}
use Rattle.vpf_write.specs.Inner.Tallies.{Tally, Holds}

one_more : {X : Type 0} (f : ℕ × X → Row) (first : ℕ) (xs : List X) (i : ℕ) (d : X) → i < length xs
    → map f (take (i + 1) (enumerate_from first xs)) ≡ map f (take i (enumerate_from first xs)) ++ f (first + i, get_or xs i d) ∷ []
one_more f first xs i d h =
    let l = length-enumerate_from first xs in
    let lt : i < length (enumerate_from first xs) = omega (arith, l) in
    ap (map f) (take_more (enumerate_from first xs) i (0, d) lt)
    ∙ ap (λ y. map f (take i (enumerate_from first xs) ++ y ∷ [])) (get_or-enumerate_from first xs i (0, d) h)
    ∙ map-append f (take i (enumerate_from first xs)) ((first + i, get_or xs i d) ∷ [])

-- one more row with its id
pub put_rows_more : {X : Type 0} (w : Tally) (f : ℕ × X → Row) (first i id : ℕ) (xs : List X) (d : X) → i < length xs → id ≡ first + i
    → Holds w (map f (take i (enumerate_from first xs)) ++ f (id, get_or xs i d) ∷ []) → Holds w (map f (take (i + 1) (enumerate_from first xs)))
put_rows_more w f first i id xs d lt e h =
    subst (Holds w) (ap (λ k. map f (take i (enumerate_from first xs)) ++ f (k, get_or xs i d) ∷ []) e ∙ sym (one_more f first xs i d lt)) h

-- all of them
pub put_rows_all : {X : Type 0} (w : Tally) (f : ℕ × X → Row) (first i : ℕ) (xs : List X) → length xs ≤ i
    → Holds w (map f (take i (enumerate_from first xs))) → Holds w (map f (enumerate_from first xs))
put_rows_all w f first i xs le h =
    let l = length-enumerate_from first xs in
    let all : length (enumerate_from first xs) ≤ i = omega (arith, l) in
    subst (λ ys. Holds w (map f ys)) (take_all i (enumerate_from first xs) all) h
