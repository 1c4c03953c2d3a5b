-- The cells of columns without a role, which have no new values.
use Rattle.std.proofs.Common.{[], ◌≡◌, ◌≢◌, ℕ, suc, ◌+◌, ◌<◌, Bool, true, false, cond, ◌||◌, List, ◌∷◌, ◌++◌, length, map, get_or, slice_get, option_to_list, Option, Some, None, refl, sym, ap, ◌∙◌, subst, arith}
use Rattle.std.specs.List.{AllByRecursion, enumerate_from, list_any}
use Rattle.std.specs.Option.{option_map, unwrap_or}
use Rattle.std.proofs.lemmas.Bool.{false≢true}
use Rattle.std.proofs.lemmas.List.{get_or-map}
use Rattle.std.proofs.lemmas.Option.{get_or_from_slice_get, slice_get_within}
use Rattle.vpf_value.specs.Values.{Value}
use Rattle.vpf_head.specs.Folding.{same_name}
use Rattle.vpf_head.specs.Head.{Col, names, place_of}
use Rattle.vpf_table.specs.Grid.{Row}
use Rattle.vpf_write.specs.declared.revise.changes.NewKind.{NewKind}
use Rattle.vpf_write.specs.Revise.Revising.{NewValue, value_for, revised, revised_column, revised_value, with_kinds}
use Rattle.vpf_prims.specs.Reading.{carried_in, has_role}
use Rattle.vpf_prims.specs.Roles.{Role}
use Rattle.vpf_primitive_tables.specs.Inner.TileReading.ChangeLaws.{found_later, name_there}
use Rattle.vpf_primitive_tables.specs.Inner.TableForms.ColumnLaws.{same_names}
use Rattle.vpf_primitive_tables.specs.Inner.TileReading.CellLaws.{values_said}

-- a column of this name has one of the roles
abbrev pub is_role_name : List Role → List ℕ → Bool
is_role_name roles name = list_any (λ role. same_name role.name name) roles

-- two names that are one have the same roles
same_role : (roles : List Role) (a b : List ℕ) → same_name a b ≡ true → is_role_name roles a ≡ is_role_name roles b
same_role [] a b h = refl
same_role (role ∷ roles) a b h =
    let one : same_name role.name a ≡ same_name role.name b = same_names.symm role.name a ∙ same_names.congr a b role.name h ∙ same_names.symm b role.name in
    λ i. (one i || same_role roles a b h i)

-- a name of a role stands in no column without one
apart_from : (roles : List Role) (columns : List Col) (name : List ℕ) (c d : ℕ) (column : Col) → is_role_name roles name ≡ true
    → slice_get columns c ≡ Some column → has_role roles column ≡ false → place_of name columns ≡ Some d → d ≢ c
apart_from roles columns name c d column is at bare e same =
    let within : c < length columns = slice_get_within columns c column at in
    let there : get_or (names columns) c [] ≡ column.name =
    get_or-map (λ (x : Col). x.name) columns c column [] within ∙ ap (λ (x : Col). x.name) (get_or_from_slice_get columns c column column at) in
    let one : same_name name column.name ≡ true =
    subst (λ (x : List ℕ). same_name name x ≡ true) (ap (λ k. get_or (names columns) k []) same ∙ there) (name_there name columns d e) in
    false≢true (sym bare ∙ sym (same_role roles name column.name one) ∙ is)

-- a new value in the column of a role is none in a column without one
bare_step : (roles : List Role) (columns : List Col) (c : ℕ) (column : Col) → slice_get columns c ≡ Some column → has_role roles column ≡ false
    → (name : List ℕ) (v : Value) (rest : List NewValue) → is_role_name roles name ≡ true → (o : Option ℕ) → place_of name columns ≡ o
    → value_for c (option_to_list (option_map (λ c. record { column = c; value = v }) o) ++ rest) ≡ value_for c rest
bare_step roles columns c column at bare name v rest is None e = refl
bare_step roles columns c column at bare name v rest is (Some d) e =
    found_later (λ c v. record { column = c; value = v }) (λ (new : NewValue). new.column) (λ (new : NewValue). new.value) (λ c v. refl) (λ c v. refl)
    c d v rest (apart_from roles columns name c d column is at bare e)

-- where only columns of roles have new values, one without a role has none
bare_none : (roles : List Role) (columns : List Col) (c : ℕ) (column : Col) → slice_get columns c ≡ Some column → has_role roles column ≡ false
    → (pairs : List (List ℕ × Value)) → AllByRecursion (λ (p : List ℕ × Value). is_role_name roles p.0 ≡ true) pairs → value_for c (values_said columns pairs) ≡ None
bare_none roles columns c column at bare [] are = refl
bare_none roles columns c column at bare (p ∷ pairs) are =
    bare_step roles columns c column at bare p.0 p.1 (values_said columns pairs) are.0 (place_of p.0 columns) refl
    ∙ bare_none roles columns c column at bare pairs are.1

-- one cell more, which is carried as it is or not at all
one_carried : (b : Bool) (x y : Value) (xs ys : List Value) → (b ≡ false → x ≡ y) → xs ≡ ys → cond b xs (x ∷ xs) ≡ cond b ys (y ∷ ys)
one_carried true x y xs ys first e = e
one_carried false x y xs ys first e = λ i. first refl i ∷ e i

-- cells without new values are carried as they are
all_carried : (roles : List Role) (kinds : List NewKind) (changes : List NewValue) (n : ℕ) (columns : List Col) (row : Row)
    → ((i m : ℕ) (column : Col) → m ≡ n + i → slice_get columns i ≡ Some column → has_role roles column ≡ false → value_for m changes ≡ None)
    → carried_in roles (map (λ at. revised_column kinds at.0 at.1) (enumerate_from n columns))
    (map (λ at. revised_value changes at.0 at.1) (enumerate_from n row)) ≡ carried_in roles columns row
all_carried roles kinds changes n [] row none = refl
all_carried roles kinds changes n (column ∷ columns) [] none = refl
all_carried roles kinds changes n (column ∷ columns) (cell ∷ row) none =
    one_carried (has_role roles column) (revised_value changes n cell) cell
    (carried_in roles (map (λ at. revised_column kinds at.0 at.1) (enumerate_from (n + 1) columns))
    (map (λ at. revised_value changes at.0 at.1) (enumerate_from (n + 1) row)))
    (carried_in roles columns row) (λ bare. ap (λ o. unwrap_or o cell) (none 0 n column (omega arith) refl bare))
    (all_carried roles kinds changes (n + 1) columns row (λ i m other e at bare. none (suc i) m other (omega arith) at bare))

-- what a row carries stays where only columns of roles have new values
pub carried_kept : (roles : List Role) (kinds : List NewKind) (columns : List Col) (pairs : List (List ℕ × Value)) (row : Row)
    → AllByRecursion (λ (p : List ℕ × Value). is_role_name roles p.0 ≡ true) pairs
    → carried_in roles (with_kinds kinds columns) (revised (values_said columns pairs) row) ≡ carried_in roles columns row
carried_kept roles kinds columns pairs row are =
    all_carried roles kinds (values_said columns pairs) 0 columns row (λ i m column e at bare.
    bare_none roles columns m column (subst (λ (k : ℕ). slice_get columns k ≡ Some column) (let k : i ≡ m = omega arith in k) at) bare pairs are)
