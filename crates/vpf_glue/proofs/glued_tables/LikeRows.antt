-- A row that fits a table fits another one with the same columns, but for the columns that get new values.
use Rattle.std.proofs.Common.{[], ◌≡◌, ℕ, zero, suc, Bool, true, false, List, ◌∷◌, ◌++◌, length, Option, Some, None, slice_get, refl, sym, ap, ◌∙◌, subst, inl, inr}
use Rattle.std.specs.Prelude.{find, ◌==◌}
use Rattle.std.specs.List.{AllByRecursion, IsDistinct}
use Rattle.std.specs.Option.{option_and_then, option_map, option_or}
use Rattle.std.proofs.lemmas.Bool.{cases_Bool, eq-eqb}
use Rattle.std.proofs.lemmas.List.Folds.{find-append}
use Rattle.vpf_triplet.specs.declared.kinds.Kind.{Kind}
use Rattle.vpf_triplet.specs.declared.kinds.Count.{Count}
use Rattle.vpf_value.specs.Inner.Fitting.{FitsCell}
use Rattle.vpf_value.specs.Values.{Value}
use Rattle.vpf_head.specs.Folding.{same_name}
use Rattle.vpf_head.specs.Head.{Col, names, place_of}
use Rattle.vpf_table.specs.Grid.{Row}
use Rattle.vpf_prims.specs.Columns.{column_of}
use Rattle.vpf_prims.specs.Reading.{has_role}
use Rattle.vpf_prims.specs.Roles.{Role}
use Rattle.vpf_prims.specs.Suiting.{carried_columns}
use Rattle.vpf_numbers.specs.Matching.{HaveSameColumns, form_of}
use Rattle.vpf_write.specs.declared.revise.changes.NewKind.{NewKind}
use Rattle.vpf_write.specs.Revise.Revising.{FitsElsewhere, NewValue, revised_column, value_for, with_kinds}
use Rattle.vpf_primitive_tables.specs.TableForms.Forms.{named_value}
use Rattle.vpf_glue.proofs.glued_tables.PlaceLemmas.{StandAlike, as_many, beside, stands_at}
use Rattle.vpf_primitive_tables.specs.Inner.TableForms.ColumnLaws.{same_names}

-- two tables whose columns are like those of a third
pub record AreAlike (roles : List Role) (like there : List Col) : Type 0 where
  pub model : List Col
  pub first : HaveSameColumns roles like model
  pub second : HaveSameColumns roles there model
  pub apart : IsDistinct same_name (names like)
  pub apart_there : IsDistinct same_name (names there)

pub stand_alike : (roles : List Role) (like there : List Col) → AreAlike roles like there → StandAlike like there
stand_alike roles like there a = λ name. a.first.places name ∙ sym (a.second.places name)

-- ---- columns without a role

kept_by : (roles : List Role) (P : Col → Type 0) (y x : Col) (xs : List Col) (b : Bool) → has_role roles y ≡ b
    → AllByRecursion P (carried_columns roles (y ∷ xs)) → AllByRecursion P (carried_columns roles xs)
kept_by roles P y x xs true e all = rw e at all
kept_by roles P y x xs false e all = (let both = rw e at all in both.1)

-- what is so of all of them is so of each
kept_at : (roles : List Role) (P : Col → Type 0) (columns : List Col) (c : ℕ) (x : Col) → AllByRecursion P (carried_columns roles columns)
    → slice_get columns c ≡ Some x → has_role roles x ≡ false → P x
kept_at roles P [] c x all e none = absurd cc
kept_at roles P (y ∷ ys) zero x all e none =
    let same : y ≡ x = cc in
    let out : has_role roles y ≡ false = ap (has_role roles) same ∙ none in
    let both = rw out at all in
    subst P same both.0
kept_at roles P (y ∷ ys) (suc c) x all e none = kept_at roles P ys c x (kept_by roles P y x ys (has_role roles y) refl all) e none

-- the form of the model's column at a place
abbrev form_at : List Col → ℕ → Option (Kind × Count)
form_at model c = option_map form_of (slice_get model c)

-- is that of a column there without a role
form_is : (roles : List Role) (columns model : List Col) (c : ℕ) (x : Col) → HaveSameColumns roles columns model → IsDistinct same_name (names columns)
    → slice_get columns c ≡ Some x → has_role roles x ≡ false → form_at model c ≡ Some (form_of x)
form_is roles columns model c x same apart e none =
    let place : place_of x.name model ≡ Some c = sym (same.places x.name) ∙ stands_at columns x.name c x apart e (same_names.refl x.name) in
    let form : option_map form_of (column_of model x.name) ≡ Some (form_of x) =
    kept_at roles (λ (column : Col). option_map form_of (column_of model column.name) ≡ Some (form_of column)) columns c x same.forms e none in
    sym (ap (λ (o : Option ℕ). option_map form_of (option_and_then (slice_get model) o)) place) ∙ form

same_form : (a b : Kind × Count) → Some a ≡ Some b → a ≡ b
same_form a b e = cc

-- so two columns at one place without a role have the same form
pub carried_forms : (roles : List Role) (like there : List Col) (c : ℕ) (x y : Col) → AreAlike roles like there → slice_get like c ≡ Some x → slice_get there c ≡ Some y
    → has_role roles x ≡ false → has_role roles y ≡ false → form_of x ≡ form_of y
carried_forms roles like there c x y a e f none other =
    same_form (form_of x) (form_of y) (sym (form_is roles like a.model c x a.first a.apart e none) ∙ form_is roles there a.model c y a.second a.apart_there f other)

-- ---- columns without a new value

none_or : (a b : Option Value) → option_or a b ≡ None → (a ≡ None) × (b ≡ None)
none_or None b e = (refl, e)
none_or (Some x) b e = absurd cc

told_value : (o p : Option NewValue) → option_map (λ (new : NewValue). new.value) (option_or o p)
    ≡ option_or (option_map (λ (new : NewValue). new.value) o) (option_map (λ (new : NewValue). new.value) p)
told_value None p = refl
told_value (Some x) p = refl

-- none of two lists has one
pub none_of_both : (a b : List NewValue) (c : ℕ) → value_for c (a ++ b) ≡ None → (value_for c a ≡ None) × (value_for c b ≡ None)
none_of_both a b c e =
    none_or (value_for c a) (value_for c b)
    (sym (ap (λ (o : Option NewValue). option_map (λ (new : NewValue). new.value) o) (find-append (λ (new : NewValue). new.column == c) a b)
    ∙ told_value (find (λ (new : NewValue). new.column == c) a) (find (λ (new : NewValue). new.column == c) b)) ∙ e)

some_told : (columns : List Col) (name : List ℕ) (v : Value) (c : ℕ) → place_of name columns ≡ Some c → value_for c (named_value columns name v) ≡ None → ⊥
some_told columns name v c e none =
    let test : (c == c) ≡ true = eq-eqb c c refl in
    let told : value_for c (named_value columns name v) ≡ Some v = rw (e, test) refl in
    let bad : None ≡ Some v = sym none ∙ told in
    absurd cc

-- the column hasn't the name of a new value
pub unnamed : (columns : List Col) (name : List ℕ) (v : Value) (c : ℕ) (x : Col) → IsDistinct same_name (names columns) → slice_get columns c ≡ Some x
    → value_for c (named_value columns name v) ≡ None → same_name name x.name ≡ false
unnamed columns name v c x apart e none = elim (cases_Bool (same_name name x.name)) [
  | inl is ↦ absurd (some_told columns name v c (stands_at columns name c x apart e is) none)
  | inr other ↦ other
]

-- ---- rows

before_kinds : (news : List NewKind) (c : ℕ) (o : Option Col) (column : Col) → option_map (revised_column news c) o ≡ Some column
    → (x : Col) × (o ≡ Some x) × (revised_column news c x ≡ column)
before_kinds news c None column e = absurd cc
before_kinds news c (Some x) column e = (x, refl, (cc))

kept_kind : (news : List NewKind) (c : ℕ) (x y : Col) (value : Value) → form_of x ≡ form_of y
    → FitsCell (revised_column news c y).kind y.count value → FitsCell (revised_column news c x).kind x.count value
kept_kind news c x y value e fits =
    let kind : x.kind ≡ y.kind = ap (λ (f : Kind × Count). f.0) e in
    let count : x.count ≡ y.count = ap (λ (f : Kind × Count). f.1) e in
    let P : Kind → Count → Type 0 = λ kind count. FitsCell (revised_column news c (record x { kind = kind })).kind count value in
    subst (λ (kind : Kind). FitsCell (revised_column news c (record x { kind = kind })).kind x.count value) (sym kind)
    (subst (λ (count : Count). FitsCell (revised_column news c (record x { kind = y.kind })).kind count value) (sym count) fits)

-- what the law of columns with new kinds says
pub record PlacesColumns : Type 0 where
  pub width : (news : List NewKind) (columns : List Col) → length (with_kinds news columns) ≡ length columns
  pub each : (news : List NewKind) (columns : List Col) (c : ℕ) → slice_get (with_kinds news columns) c ≡ option_map (revised_column news c) (slice_get columns c)

-- the columns at one place without a new value have the same form
abbrev pub KeepForms : List Role → (like there : List Col) → List NewValue → Type 0
KeepForms roles like there values =
    (c : ℕ) (x y : Col) → slice_get like c ≡ Some x → slice_get there c ≡ Some y → same_name x.name y.name ≡ true → value_for c values ≡ None → form_of x ≡ form_of y

-- then what fits the one elsewhere fits the other elsewhere
pub fits_alike : PlacesColumns → (roles : List Role) (like there : List Col) (news : List NewKind) (values : List NewValue) (row : Row) → AreAlike roles like there
    → KeepForms roles like there values → FitsElsewhere values (with_kinds news there) row → FitsElsewhere values (with_kinds news like) row
fits_alike law roles like there news values row a forms fits =
    let alike = stand_alike roles like there a in
    record {
      width = fits.width ∙ law.width news there ∙ sym (as_many like there a.apart a.apart_there alike) ∙ sym (law.width news like);
      fits = λ c column value e f none.
          let x = before_kinds news c (slice_get like c) column (sym (law.each news like c) ∙ e) in
          let y = beside like there c x.0 a.apart alike x.1 in
          let column_there : slice_get (with_kinds news there) c ≡ Some (revised_column news c y.column) =
          law.each news there c ∙ ap (λ (o : Option Col). option_map (revised_column news c) o) y.at in
          let own : FitsCell (revised_column news c y.column).kind y.column.count value = fits.fits c (revised_column news c y.column) value column_there f none in
          let here : FitsCell (revised_column news c x.0).kind x.0.count value = kept_kind news c x.0 y.column value (forms c x.0 y.column x.1 y.at y.named none) own in
          subst (λ (column : Col). FitsCell column.kind column.count value) x.2 here;
    }
