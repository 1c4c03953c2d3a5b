-- Rows that fit their columns, value by value.
use Rattle.std.proofs.Common.{◌≡◌, ◌≢◌, ℕ, zero, suc, ◌<◌, List, [], ◌∷◌, length, map, get_or, All, AllPairs, Contains, Option, Some, None, slice_get, unwrap_or, inl, inr, refl, sym, ap, ◌∙◌, subst, arith}
use Rattle.std.specs.Option.{IsSomeAnd, option_map}
use Rattle.std.proofs.lemmas.Bool.Decides.{eqb_tells}
use Rattle.std.proofs.lemmas.Grind.{common_steps}
use Rattle.std.proofs.lemmas.List.{length-map}
use Rattle.std.proofs.lemmas.List.Elements.{All-head, All-tail}
use Rattle.vpf_triplet.specs.declared.kinds.Kind.{Kind}
use Rattle.vpf_triplet.specs.declared.kinds.Count.{Count}
use Rattle.vpf_triplet.specs.declared.kinds.Count.TheVariants.{Fixed}
use Rattle.vpf_value.specs.Values.{Value}
use Rattle.vpf_value.specs.Inner.Fitting.{FitsCell}
use Rattle.vpf_head.specs.Head.{Col}
use Rattle.vpf_table.specs.Canonical.{FitsRow}
use Rattle.vpf_table.specs.Grid.{Row}
use Rattle.vpf_write.specs.declared.revise.changes.NewKind.{NewKind}
use Rattle.vpf_write.specs.Revise.Revising.{NewValue, FitsIn, FitsElsewhere, revised_value, value_for, revised_column, kind_for, revised, with_kinds}
use Rattle.vpf_write.proofs.revise.Placing.{length-each, slice_get-each, before_map}

-- a row that fits has a value for each column
width_fits : (columns : List Col) (row : Row) → FitsRow columns row → length row ≡ length columns
width_fits [] [] fits = refl
width_fits [] (v ∷ vs) fits = elim fits [ ]
width_fits (c ∷ cs) [] fits = elim fits [ ]
width_fits (c ∷ cs) (v ∷ vs) fits = grind (arith, width_fits cs vs fits.1)

-- and each fits its column
value_fits : (columns : List Col) (row : Row) (c : ℕ) (column : Col) (value : Value) → FitsRow columns row → slice_get columns c ≡ Some column
    → slice_get row c ≡ Some value → FitsCell column.kind column.count value
value_fits [] row c column value fits e f = cc
value_fits (x ∷ xs) [] c column value fits e f = elim fits [ ]
value_fits (x ∷ xs) (v ∷ vs) zero column value fits e f =
    let same : x ≡ column = cc in
    let equal : v ≡ value = cc in
    subst (λ (column : Col). FitsCell column.kind column.count value) same (subst (λ (value : Value). FitsCell x.kind x.count value) equal fits.0)
value_fits (x ∷ xs) (v ∷ vs) (suc c) column value fits e f = value_fits xs vs c column value fits.1 e f

-- a row fits where there is a value for each column, which fits it
row_fits : (columns : List Col) (row : Row) → length row ≡ length columns
    → ((c : ℕ) (column : Col) (value : Value) → slice_get columns c ≡ Some column → slice_get row c ≡ Some value → FitsCell column.kind column.count value) → FitsRow columns row
row_fits [] [] width fits = tt
row_fits [] (v ∷ vs) width fits = absurd (omega arith)
row_fits (x ∷ xs) [] width fits = absurd (omega arith)
row_fits (x ∷ xs) (v ∷ vs) width fits = (fits 0 x v refl refl, row_fits xs vs (omega arith) (λ c column value e f. fits (suc c) column value e f))

-- a column that a new value names has one
named_has : (changes : List NewValue) (c k d : ℕ) → k < length (map (λ (new : NewValue). new.column) changes) → get_or (map (λ (new : NewValue). new.column) changes) k d ≡ c → value_for c changes ≡ None → ⊥
named_has [] c k d within is none = absurd (omega arith)
named_has (new ∷ changes) c zero d within is none = grind (arith, common_steps)
named_has (new ∷ changes) c (suc k) d within is none =
    let rest = named_has changes c k d (omega arith) is in
    grind (arith, common_steps, rest)

-- where a column has no new value, it has no new kind
no_kind : (kinds : List NewKind) (changes : List NewValue) (c : ℕ) → All (λ (kind : NewKind). Contains (map (λ (new : NewValue). new.column) changes) kind.column) kinds
    → value_for c changes ≡ None → kind_for c kinds ≡ None
no_kind [] changes c named none = refl
no_kind (kind ∷ kinds) changes c named none =
    let here = All-head (λ (kind : NewKind). Contains (map (λ (new : NewValue). new.column) changes) kind.column) kind kinds named in
    let rest = no_kind kinds changes c (All-tail (λ (kind : NewKind). Contains (map (λ (new : NewValue). new.column) changes) kind.column) kind kinds named) none in
    let has : kind.column ≡ c → ⊥ = λ e. named_has changes c here.0 kind.column here.1 (here.2 ∙ e) none in
    grind (arith, common_steps, has, rest)

-- the values of a row that fits go with the new kinds of other columns
pub others_fit : (kinds : List NewKind) (changes : List NewValue) (columns : List Col) (row : Row)
    → All (λ (kind : NewKind). Contains (map (λ (new : NewValue). new.column) changes) kind.column) kinds → FitsRow columns row
    → FitsElsewhere changes (with_kinds kinds columns) row
others_fit kinds changes columns row named fits = record {
  width = width_fits columns row fits ∙ sym (length-each (λ at. revised_column kinds at.0 at.1) 0 columns);
  fits = λ c column value e f none.
      let was = before_map (revised_column kinds c) (slice_get columns c) column (sym (slice_get-each (λ at. revised_column kinds at.0 at.1) 0 c c columns (omega arith)) ∙ e) in
      let old = no_kind kinds changes c named none in
      let own = value_fits columns row c was.0 value fits was.1 f in
      let kept : was.0 ≡ column = grind (arith, common_steps, was.2, old) in
      subst (λ (column : Col). FitsCell column.kind column.count value) kept own;
}

-- each new kind is for a column of new kinds
own_columns : (kinds : List NewKind) → All (λ (kind : NewKind). Contains (map (λ (kind : NewKind). kind.column) kinds) kind.column) kinds
own_columns kinds = λ k d within.
    (k, (rw length-map within), grind (arith, common_steps))

-- the same where the new values are for the columns of new kinds
pub same_fit : (kinds : List NewKind) (changes : List NewValue) (columns : List Col) (row : Row)
    → map (λ (kind : NewKind). kind.column) kinds ≡ map (λ (new : NewValue). new.column) changes → FitsRow columns row
    → FitsElsewhere changes (with_kinds kinds columns) row
same_fit kinds changes columns row same fits =
    others_fit kinds changes columns row (subst (λ (list : List ℕ). All (λ (kind : NewKind). Contains list kind.column) kinds) same (own_columns kinds)) fits

-- a new value fits its column
new_fits : (columns : List Col) (changes : List NewValue) (c : ℕ) (value : Value) → All (FitsIn columns) changes → value_for c changes ≡ Some value
    → IsSomeAnd (slice_get columns c) (λ column. FitsCell column.kind column.count value)
new_fits columns [] c value fits e = cc
new_fits columns (new ∷ changes) c value fits e =
    let here = All-head (FitsIn columns) new changes fits in
    let rest = new_fits columns changes c value (All-tail (FitsIn columns) new changes fits) in
    elim (eqb_tells new.column c) [
      | inl t ↦ (
          let same : new.value ≡ value = grind (arith, common_steps, t.0, e) in
          subst (λ (c : ℕ). IsSomeAnd (slice_get columns c) (λ column. FitsCell column.kind column.count value)) t.1
          (subst (λ (value : Value). IsSomeAnd (slice_get columns new.column) (λ column. FitsCell column.kind column.count value)) same here))
      | inr f ↦ rest (grind (arith, common_steps, f.0, e))
    ]

-- the value that stands in a column after it fits there
either_fits : (changes : List NewValue) (columns : List Col) (row : Row) (c : ℕ) (column : Col) (was : Value) (told : Option Value) → value_for c changes ≡ told
    → All (FitsIn columns) changes → FitsElsewhere changes columns row → slice_get columns c ≡ Some column → slice_get row c ≡ Some was
    → FitsCell column.kind column.count (unwrap_or told was)
either_fits changes columns row c column was None e fits others f g = others.fits c column was f g e
either_fits changes columns row c column was (Some value) e fits others f g =
    subst (λ (at : Option Col). IsSomeAnd at (λ column. FitsCell column.kind column.count value)) f (new_fits columns changes c value fits e)

-- a revised row fits where the new values do, and the others
pub revised_fits : (changes : List NewValue) (columns : List Col) (row : Row) → All (FitsIn columns) changes → FitsElsewhere changes columns row
    → FitsRow columns (revised changes row)
revised_fits changes columns row fits others =
    row_fits columns (revised changes row) (length-each (λ at. revised_value changes at.0 at.1) 0 row ∙ others.width) (λ c column value e f.
    let was = before_map (revised_value changes c) (slice_get row c) value (sym (slice_get-each (λ at. revised_value changes at.0 at.1) 0 c c row (omega arith)) ∙ f) in
    subst (λ (value : Value). FitsCell column.kind column.count value) was.2 (either_fits changes columns row c column was.0 (value_for c changes) refl fits others e was.1))

-- where the columns differ, each takes its own new kind
own_kind : (kinds : List NewKind) (kind : NewKind) (k : ℕ) (d : NewKind) → AllPairs (λ (a b : NewKind). a.column ≢ b.column) kinds → k < length kinds
    → get_or kinds k d ≡ kind → kind_for kind.column kinds ≡ Some kind.kind
own_kind [] kind k d apart within is = absurd (omega arith)
own_kind (x ∷ xs) kind zero d apart within is = grind (arith, common_steps)
own_kind (x ∷ xs) kind (suc k) d apart within is =
    let other : x.column ≢ kind.column = λ e. apart 0 (suc k) d (omega arith) within (e ∙ ap (λ (kind : NewKind). kind.column) (sym is)) in
    let rest = own_kind xs kind k d (λ i j e lt le. apart (suc i) (suc j) e (omega arith) (omega arith)) (omega arith) is in
    grind (arith, common_steps, other, rest)

-- no new kind for a column
no_own : (kinds : List NewKind) (c : ℕ) → All (λ (kind : NewKind). kind.column ≢ c) kinds → kind_for c kinds ≡ None
no_own [] c apart = refl
no_own (x ∷ xs) c apart =
    let other = All-head (λ (kind : NewKind). kind.column ≢ c) x xs apart in
    let rest = no_own xs c (All-tail (λ (kind : NewKind). kind.column ≢ c) x xs apart) in
    grind (arith, common_steps, other, rest)

-- the value fits the column that is told
abbrev HasRoomFor : Value → Option Col → Type 0
HasRoomFor value o = IsSomeAnd o (λ column. FitsCell column.kind column.count value)

-- the column with this kind, where one is told
abbrev told_column : Option Kind → Option Col → Option Col
told_column told o = option_map (λ (column : Col). record column { kind = unwrap_or told column.kind }) o

-- a value of its new kind fits a column of one value
one_fits : (o : Option Col) (kind : Kind) (value : Value) → IsSomeAnd o (λ column. column.count ≡ Fixed 1) → FitsCell kind (Fixed 1) value
    → HasRoomFor value (told_column (Some kind) o)
one_fits None kind value one fits = elim one [ ]
one_fits (Some x) kind value one fits = subst (λ (count : Count). FitsCell kind count value) (sym one) fits

-- without a new kind the column is as it was
same_fits : (o : Option Col) (value : Value) → HasRoomFor value o → HasRoomFor value (told_column None o)
same_fits None value fits = fits
same_fits (Some x) value fits = fits

-- what fits the column that is told fits that of the list
there_fits : (kinds : List NewKind) (columns : List Col) (c : ℕ) (told : Option Kind) (value : Value) → kind_for c kinds ≡ told
    → HasRoomFor value (told_column told (slice_get columns c)) → HasRoomFor value (slice_get (with_kinds kinds columns) c)
there_fits kinds columns c told value e fits =
    let at : slice_get (with_kinds kinds columns) c ≡ told_column (kind_for c kinds) (slice_get columns c) = slice_get-each (λ at. revised_column kinds at.0 at.1) 0 c c columns (omega arith) in
    subst (HasRoomFor value) (sym at) (subst (λ (told : Option Kind). HasRoomFor value (told_column told (slice_get columns c))) (sym e) fits)

-- where each new kind is for another column, a value of it fits
pub taken_fits : (kinds : List NewKind) (columns : List Col) (kind : NewKind) (value : Value) → AllPairs (λ (a b : NewKind). a.column ≢ b.column) kinds
    → Contains kinds kind → IsSomeAnd (slice_get columns kind.column) (λ column. column.count ≡ Fixed 1) → FitsCell kind.kind (Fixed 1) value
    → FitsIn (with_kinds kinds columns) (record { column = kind.column; value = value })
taken_fits kinds columns kind value apart held one fits =
    there_fits kinds columns kind.column (Some kind.kind) value (own_kind kinds kind held.0 kind apart held.1 held.2)
    (one_fits (slice_get columns kind.column) kind.kind value one fits)

-- a value that fits a column without a new kind fits it still
pub kept_fits : (kinds : List NewKind) (columns : List Col) (new : NewValue) → All (λ (kind : NewKind). kind.column ≢ new.column) kinds → FitsIn columns new
    → FitsIn (with_kinds kinds columns) new
kept_fits kinds columns new apart fits =
    there_fits kinds columns new.column None new.value (no_own kinds new.column apart) (same_fits (slice_get columns new.column) new.value fits)
