-- The order of values tells keys apart, and a stable sort by it keeps the rows of each.
use std.Path.{fun_ext}
use Rattle.std.proofs.Common.{◌≡◌, Bool, true, false, not, ◌&&◌, ◌||◌, cond, List, [], ◌∷◌, map, refl, sym, ap, ◌∙◌, inl, inr}
use Rattle.std.proofs.Common.{Ordering, Less, Equal, Greater}
use Rattle.std.specs.Prelude.{filter}
use Rattle.std.specs.Cmp.{IsTotalOrder}
use Rattle.std.specs.List.{list_any}
use Rattle.std.specs.List.Sorted.{IsPermutation, IsStableBy, ties}
use Rattle.std.specs.Ordering.{is_eq, is_lt, ordering_reverse}
use Rattle.std.proofs.lemmas.Bool.{cases_Bool, false≢true, or_cases}
use Rattle.std.proofs.lemmas.Bool.Decides.{Decides-int_eq}
use Rattle.std.proofs.lemmas.List.Sorted.{list_any-IsPermutation}
use Rattle.std.proofs.lemmas.Map.Text.{is_eq-slice_cmp}
use Rattle.std.proofs.lemmas.Slice.Eq.{bytes_eq-Decides}
use Rattle.vpf_value.specs.Values.{Value, TextOf, NumberOf, view}
use Rattle.vpf_theme.specs.Ordering.{value_cmp}
use Rattle.vpf_joins.specs.declared.keys.keyed.KeyedRow.{KeyedRow}
use Rattle.vpf_joins.specs.declared.keys.keyed.RowAt.{RowAt}
use Rattle.vpf_joins.specs.Keys.Keys.{Keyed, is_join_key, keyed_of, rows_with, same_join_key}

-- ---- one key

abbrev pub has_key : Value → KeyedRow → Bool
has_key key row = same_join_key key (view row.key)

-- of keys the order tells which are one
pub same_by_order : (v w : Value) → is_join_key v ≡ true → same_join_key v w ≡ is_eq (value_cmp v w)
same_by_order (NumberOf a) (NumberOf b) h = refl
same_by_order (TextOf a) (TextOf b) h = sym (is_eq-slice_cmp a b)
same_by_order (NumberOf a) w h = refl
same_by_order (TextOf a) w h = refl
same_by_order v w h = absurd (false≢true h)

-- what isn't a key is one with nothing
pub no_key : (v w : Value) → is_join_key v ≡ false → same_join_key v w ≡ false
no_key (NumberOf a) w h = absurd (false≢true (sym h))
no_key (TextOf a) w h = absurd (false≢true (sym h))
no_key v w h = refl

same_is_key : (v w : Value) → same_join_key v w ≡ true → is_join_key v ≡ true
same_is_key (NumberOf a) w h = refl
same_is_key (TextOf a) w h = refl
same_is_key v w h = absurd (false≢true h)

same_is : (v w : Value) → same_join_key v w ≡ true → v ≡ w
same_is (NumberOf a) (NumberOf b) h = ap NumberOf ((Decides-int_eq a b).0 h)
same_is (TextOf a) (TextOf b) h = ap TextOf ((bytes_eq-Decides a b).0 h)
same_is v w h = absurd (false≢true h)

-- ---- the rows of a key

rows_step : (b : Bool) (row : KeyedRow) (ks : List Keyed) (rows : List KeyedRow) → map (λ (k : Keyed). k.at) ks ≡ map (λ (r : KeyedRow). r.at) rows
    → map (λ (k : Keyed). k.at) (cond b (keyed_of row ∷ ks) ks) ≡ map (λ (r : KeyedRow). r.at) (cond b (row ∷ rows) rows)
rows_step true row ks rows h = ap (λ (places : List RowAt). row.at ∷ places) h
rows_step false row ks rows h = h

pub rows_are : (key : Value) (rows : List KeyedRow) → rows_with key (map keyed_of rows) ≡ map (λ (r : KeyedRow). r.at) (filter (has_key key) rows)
rows_are key [] = refl
rows_are key (row ∷ rows) = rows_step (has_key key row) row (filter (λ (k : Keyed). same_join_key key k.key) (map keyed_of rows)) (filter (has_key key) rows) (rows_are key rows)

-- ---- a stable sort

some_of : {X : Type 0} (p : X → Bool) (xs : List X) → list_any p xs ≡ true → (x : X) × (p x ≡ true)
some_of p [] h = absurd (false≢true h)
some_of p (x ∷ xs) h = elim (or_cases (p x) (list_any p xs) h) [ inl t ↦ (x, t) | inr more ↦ some_of p xs more ]

none_step : {X : Type 0} (b rest : Bool) (x : X) (ys : List X) → (b || rest) ≡ false → (rest ≡ false → ys ≡ []) → cond b (x ∷ ys) ys ≡ []
none_step true rest x ys h more = absurd (false≢true (sym h))
none_step false rest x ys h more = more h

none_of : {X : Type 0} (p : X → Bool) (xs : List X) → list_any p xs ≡ false → filter p xs ≡ []
none_of p [] h = refl
none_of p (x ∷ xs) h = none_step (p x) (list_any p xs) x (filter p xs) h (none_of p xs)

-- a stable sort keeps what passes a test, where what passes it is what ties with any that does
stable_filter : {X : Type 0} (p : X → Bool) (lt : X → X → Bool) → ((x y : X) → p x ≡ true → ties lt x y ≡ p y) → (old new : List X) → IsPermutation old new → IsStableBy lt old new → filter p new ≡ filter p old
stable_filter {X} p lt by old new same stable = elim (cases_Bool (list_any p old)) [
  | inl some ↦ (
      let x = some_of p old some in
      let e : ties lt x.0 ≡ p = fun_ext (λ y. by x.0 y x.1) in
      sym (ap (λ (q : X → Bool). filter q new) e) ∙ stable x.0 ∙ ap (λ (q : X → Bool). filter q old) e)
  | inr none ↦ none_of p new (sym (list_any-IsPermutation p old new same) ∙ none) ∙ sym (none_of p old none)
]

tied : (c : Ordering) → (not (is_lt c) && not (is_lt (ordering_reverse c))) ≡ is_eq c
tied Less = refl
tied Equal = refl
tied Greater = refl

abbrev pub is_below : KeyedRow → KeyedRow → Bool
is_below a b = is_lt (value_cmp (view a.key) (view b.key))

-- what ties with a row of a key has that key
ties_same : IsTotalOrder value_cmp → (key : Value) (a b : KeyedRow) → has_key key a ≡ true → ties is_below a b ≡ has_key key b
ties_same order key a b h =
    let e : key ≡ view a.key = same_is key (view a.key) h in
    let is : is_join_key (view a.key) ≡ true = ap is_join_key (sym e) ∙ same_is_key key (view a.key) h in
    ap (λ c. not (is_lt (value_cmp (view a.key) (view b.key))) && not (is_lt c)) (order.antisymm (view b.key) (view a.key))
    ∙ tied (value_cmp (view a.key) (view b.key))
    ∙ sym (same_by_order (view a.key) (view b.key) is)
    ∙ ap (λ (v : Value). same_join_key v (view b.key)) (sym e)

pub sort_keeps : IsTotalOrder value_cmp → (old new : List KeyedRow) → IsPermutation old new → IsStableBy is_below old new
    → (key : Value) → rows_with key (map keyed_of new) ≡ rows_with key (map keyed_of old)
sort_keeps order old new same stable key =
    rows_are key new
    ∙ ap (map (λ (r : KeyedRow). r.at)) (stable_filter (has_key key) is_below (ties_same order key) old new same stable)
    ∙ sym (rows_are key old)
