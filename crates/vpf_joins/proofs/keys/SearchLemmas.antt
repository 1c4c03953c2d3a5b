-- Where the rows of a key stand among rows in the order of their keys.
use Rattle.std.proofs.Common.{◌≡◌, ℕ, zero, suc, ◌+◌, ◌-◌, ◌≤◌, Bool, true, false, ltb, leb, cond, List, [], ◌∷◌, length, map, take, drop, refl, sym, ap, ◌∙◌, inl, inr, arith}
use Rattle.std.proofs.Common.{Ordering, Less, Equal, Greater}
use Rattle.std.specs.Prelude.{filter, slice_index_or, slice_range}
use Rattle.std.specs.Cmp.{IsTotalOrder}
use Rattle.std.specs.List.{AllWithin}
use Rattle.std.specs.List.Sorted.{IsNonDecreasingBy, IsPartitionedBy}
use Rattle.std.specs.Ordering.{is_eq, is_le, is_lt, ordering_index, ordering_reverse}
use Rattle.std.proofs.lemmas.Bool.{cases_lt, false≢true}
use Rattle.std.proofs.lemmas.List.Sorted.{IsPartitionedBy-leb, IsPartitionedBy-ltb, searchable_from_sorted}
use Rattle.vpf_value.specs.Values.{Value, view}
use Rattle.vpf_theme.specs.Ordering.{value_cmp}
use Rattle.vpf_joins.specs.declared.keys.keyed.KeyedRow.{KeyedRow}
use Rattle.vpf_joins.specs.Keys.Keys.{AreBelow, AreByKey, AreUpTo, Keyed, is_join_key, keyed_of, rows_with, same_join_key, standing}
use Rattle.vpf_joins.proofs.keys.KeyLemmas.{has_key, no_key, rows_are, same_by_order}

-- ---- each test of the order splits the rows

index_lt : (c : Ordering) → is_lt c ≡ ltb (ordering_index c) 1
index_lt Less = refl
index_lt Equal = refl
index_lt Greater = refl

index_le : (c : Ordering) → is_le c ≡ leb (ordering_index c) 1
index_le Less = refl
index_le Equal = refl
index_le Greater = refl

rises : IsTotalOrder value_cmp → (key : Value) (rows : List KeyedRow) → AreByKey rows → IsNonDecreasingBy (λ row. ordering_index (standing key row)) rows
rises order key rows sorted = searchable_from_sorted order (λ (row : KeyedRow). view row.key) rows key sorted

pub below_partitioned : IsTotalOrder value_cmp → (key : Value) (rows : List KeyedRow) → AreByKey rows → IsPartitionedBy (λ row. is_lt (standing key row)) rows
below_partitioned order key rows sorted i j d le inside h =
    index_lt (standing key (slice_index_or rows i d))
    ∙ IsPartitionedBy-ltb (λ row. ordering_index (standing key row)) rows 1 (rises order key rows sorted) i j d le inside (sym (index_lt (standing key (slice_index_or rows j d))) ∙ h)

pub up_to_partitioned : IsTotalOrder value_cmp → (key : Value) (rows : List KeyedRow) → AreByKey rows → IsPartitionedBy (λ row. is_le (standing key row)) rows
up_to_partitioned order key rows sorted i j d le inside h =
    index_le (standing key (slice_index_or rows i d))
    ∙ IsPartitionedBy-leb (λ row. ordering_index (standing key row)) rows 1 (rises order key rows sorted) i j d le inside (sym (index_le (standing key (slice_index_or rows j d))) ∙ h)

-- ---- what passes a test stands side by side

pub filter_between : {X : Type 0} (p : X → Bool) (xs : List X) (i n : ℕ) → i + n ≤ length xs → AllWithin (λ x. p x ≡ false) xs 0 i → AllWithin (λ x. p x ≡ true) xs i (i + n) → AllWithin (λ x. p x ≡ false) xs (i + n) (length xs)
    → filter p xs ≡ take n (drop i xs)
filter_between p [] zero zero within front mid back = refl
filter_between p [] zero (suc n) within front mid back = absurd (omega arith)
filter_between p [] (suc i) n within front mid back = absurd (omega arith)
filter_between p (x ∷ xs) zero zero within front mid back =
    let out : p x ≡ false = back zero x (omega arith) (omega arith) in
    rw out (filter_between p xs zero zero (omega arith) (λ k d from to. absurd (omega arith)) (λ k d from to. absurd (omega arith)) (λ k d from to. back (suc k) d (omega arith) (omega arith)))
filter_between p (x ∷ xs) zero (suc n) within front mid back =
    let in_it : p x ≡ true = mid zero x (omega arith) (omega arith) in
    rw in_it (ap (λ ys. x ∷ ys) (filter_between p xs zero n (omega arith) (λ k d from to. absurd (omega arith)) (λ k d from to. mid (suc k) d (omega arith) (omega arith)) (λ k d from to. back (suc k) d (omega arith) (omega arith))))
filter_between p (x ∷ xs) (suc i) n within front mid back =
    let out : p x ≡ false = front zero x (omega arith) (omega arith) in
    rw out (filter_between p xs i n (omega arith) (λ k d from to. front (suc k) d (omega arith) (omega arith)) (λ k d from to. mid (suc k) d (omega arith) (omega arith)) (λ k d from to. back (suc k) d (omega arith) (omega arith)))

-- ---- the rows of a key

lower_is_le : (c : Ordering) → is_lt c ≡ true → is_le c ≡ true
lower_is_le Less h = refl
lower_is_le Equal h = absurd (false≢true h)
lower_is_le Greater h = absurd (false≢true h)

pub bounds_rise : (key : Value) (rows : List KeyedRow) (start end : ℕ) → start ≤ length rows → AreBelow key rows start → AreUpTo key rows end → start ≤ end
bounds_rise key [] start end within below up_to = omega arith
bounds_rise key (row ∷ rows) start end within below up_to = elim (cases_lt end start) [
  | inr le ↦ le
  | inl lt ↦ absurd (false≢true (sym (up_to.1 end row (omega arith) (omega arith)) ∙ lower_is_le (standing key (slice_index_or (row ∷ rows) end row)) (below.0 end row (omega arith) lt)))
]

turned : (c : Ordering) → is_eq (ordering_reverse c) ≡ is_eq c
turned Less = refl
turned Equal = refl
turned Greater = refl

not_lower : (c : Ordering) → is_lt c ≡ true → is_eq c ≡ false
not_lower Less h = refl
not_lower Equal h = absurd (false≢true h)
not_lower Greater h = refl

between_is : (c : Ordering) → is_lt c ≡ false → is_le c ≡ true → is_eq c ≡ true
between_is Less h k = absurd (false≢true (sym h))
between_is Equal h k = refl
between_is Greater h k = absurd (false≢true k)

not_higher : (c : Ordering) → is_le c ≡ false → is_eq c ≡ false
not_higher Less h = refl
not_higher Equal h = absurd (false≢true (sym h))
not_higher Greater h = refl

-- a row has the key where it stands neither below nor above
has_is : IsTotalOrder value_cmp → (key : Value) (row : KeyedRow) → is_join_key key ≡ true → has_key key row ≡ is_eq (standing key row)
has_is order key row is = same_by_order key (view row.key) is ∙ ap is_eq (order.antisymm key (view row.key)) ∙ turned (standing key row)

pub rows_between : IsTotalOrder value_cmp → (key : Value) (rows : List KeyedRow) (start end : ℕ) → is_join_key key ≡ true → start ≤ length rows → end ≤ length rows → AreBelow key rows start → AreUpTo key rows end
    → map (λ (r : KeyedRow). r.at) (slice_range rows start end) ≡ rows_with key (map keyed_of rows)
rows_between order key rows start end is start_within end_within below up_to =
    let le = bounds_rise key rows start end start_within below up_to in
    let at : ℕ → KeyedRow → KeyedRow = λ k d. slice_index_or rows k d in
    sym (
    rows_are key rows
    ∙ ap (map (λ (r : KeyedRow). r.at))
    (filter_between (has_key key) rows start (end - start) (omega arith)
    (λ k d from to. has_is order key (at k d) is ∙ not_lower (standing key (at k d)) (below.0 k d from to))
    (λ k d from to. has_is order key (at k d) is ∙ between_is (standing key (at k d)) (below.1 k d from (omega arith)) (up_to.0 k d (omega arith) (omega arith)))
    (λ k d from to. has_is order key (at k d) is ∙ not_higher (standing key (at k d)) (up_to.1 k d (omega arith) to))))

-- what isn't a key has no rows
none_step : (b : Bool) (row : Keyed) (rows : List Keyed) → b ≡ false → [] ≡ map (λ (k : Keyed). k.at) rows → [] ≡ map (λ (k : Keyed). k.at) (cond b (row ∷ rows) rows)
none_step true row rows h none = absurd (false≢true (sym h))
none_step false row rows h none = none

pub no_rows : (key : Value) (rows : List Keyed) → is_join_key key ≡ false → [] ≡ rows_with key rows
no_rows key [] h = refl
no_rows key (row ∷ rows) h = none_step (same_join_key key row.key) row (filter (λ (k : Keyed). same_join_key key k.key) rows) (no_key key row.key h) (no_rows key rows h)
