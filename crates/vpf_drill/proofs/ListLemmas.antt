-- What is counted of the cycles of a listing, one by one.
use Rattle.std.proofs.Common.{◌≡◌, ℕ, ◌+◌, ◌≤◌, List, length, drop, max, Some, ap, sym, ◌∙◌, arith}
use Rattle.std.proofs.Math.Nat.{le-max_left, le-max_right, max-le}
use Rattle.std.specs.Prelude.{slice_get}
use Rattle.std.proofs.lemmas.List.{at_drop_more}
use Rattle.std.proofs.lemmas.Option.{get_or_from_slice_get, slice_get_within}
use Rattle.vpf_darts.specs.declared.darts.TileDart.{TileDart}
use Rattle.vpf_drill.specs.Counting.{dart_count, longest}

pub one_more : (cycles : List (List TileDart)) (i : ℕ) (cycle : List TileDart) → slice_get cycles i ≡ Some cycle
    → dart_count (drop i cycles) ≡ length cycle + dart_count (drop (i + 1) cycles)
one_more cycles i cycle e =
    at_drop_more dart_count cycles i cycle (slice_get_within cycles i cycle e)
    ∙ ap (λ (c : List TileDart). length c + dart_count (drop (i + 1) cycles)) (get_or_from_slice_get cycles i cycle cycle e)

longer : (cycles : List (List TileDart)) (i : ℕ) (cycle : List TileDart) → slice_get cycles i ≡ Some cycle
    → longest (drop i cycles) ≡ max (length cycle) (longest (drop (i + 1) cycles))
longer cycles i cycle e =
    at_drop_more longest cycles i cycle (slice_get_within cycles i cycle e)
    ∙ ap (λ (c : List TileDart). max (length c) (longest (drop (i + 1) cycles))) (get_or_from_slice_get cycles i cycle cycle e)

-- the greatest of three
max_of_three : (a b c : ℕ) → max (max a b) c ≡ max a (max b c)
max_of_three a b c =
    let b_within : b ≤ max a (max b c) = omega (arith, le-max_left b c, le-max_right a (max b c)) in
    let c_within : c ≤ max a (max b c) = omega (arith, le-max_right b c, le-max_right a (max b c)) in
    let a_over : a ≤ max (max a b) c = omega (arith, le-max_left a b, le-max_left (max a b) c) in
    let b_over : b ≤ max (max a b) c = omega (arith, le-max_right a b, le-max_left (max a b) c) in
    let low : max (max a b) c ≤ max a (max b c) = max-le (max-le (le-max_left a (max b c)) b_within) c_within in
    let high : max a (max b c) ≤ max (max a b) c = max-le a_over (max-le b_over (le-max_right (max a b) c)) in
    omega (arith, low, high)

-- the longest so far, with one more
pub longest_so_far : (cycles : List (List TileDart)) (i most : ℕ) (cycle : List TileDart) → slice_get cycles i ≡ Some cycle
    → max (max most (length cycle)) (longest (drop (i + 1) cycles)) ≡ max most (longest (drop i cycles))
longest_so_far cycles i most cycle e =
    max_of_three most (length cycle) (longest (drop (i + 1) cycles)) ∙ ap (max most) (sym (longer cycles i cycle e))
