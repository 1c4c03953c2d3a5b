-- The columns and cells without a role, one after another.
use Rattle.std.proofs.Common.{[], ◌≡◌, ℕ, zero, suc, ◌+◌, ◌-◌, ◌<◌, ◌≤◌, Bool, true, false, Option, Some, None, List, ◌∷◌, length, drop, add-one, refl, sym, ap, ◌∙◌, arith, inl, inr}
use Rattle.std.specs.Prelude.{◌↔◌, IsTrue, slice_get}
use Rattle.std.proofs.Math.Seq.{drop-cons}
use Rattle.std.proofs.lemmas.Bool.{cases_lt}
use Rattle.std.proofs.lemmas.Option.{get_or_from_slice_get}
use Rattle.vpf_value.specs.Values.{Value, TextOf}
use Rattle.vpf_head.specs.Head.{Col}
use Rattle.vpf_table.specs.Grid.{Row, Grid}
use Rattle.vpf_findings.specs.Firsts.{◌or◌}
use Rattle.vpf_prims.specs.Lists.{kth}
use Rattle.vpf_prims.specs.Numbering.{IsRowOf}
use Rattle.vpf_prims.specs.Roles.{Role}
use Rattle.vpf_prims.specs.Reading.{carried_in, has_role}
use Rattle.vpf_prims.specs.Suiting.{carried_columns}
use Rattle.vpf_cross.specs.Carrying.{CarryNone, Difference, IsNextCarried, carried_at, cell_difference, first_difference}

-- an empty row carries nothing
pub empty_carries : (roles : List Role) (columns : List Col) → [] ≡ carried_in roles columns []
empty_carries roles [] = refl
empty_carries roles (c ∷ columns) = refl

-- a row that carries nothing differs from none
pub none_here : (cs : List Col) (ys : List Value) → first_difference cs [] ys ≡ None
none_here [] ys = refl
none_here (c ∷ cs) ys = refl

pub none_there : (cs : List Col) (xs : List Value) → first_difference cs xs [] ≡ None
none_there [] xs = refl
none_there (c ∷ cs) [] = refl
none_there (c ∷ cs) (x ∷ xs) = refl

-- a column without a role is carried
pub columns_found : (roles : List Role) (columns : List Col) (c : ℕ) (column : Col) → c < length columns → slice_get columns c ≡ Some column → has_role roles column ≡ false
    → carried_columns roles (drop c columns) ≡ column ∷ carried_columns roles (drop (c + 1) columns)
columns_found roles columns c column h is bare = rw (drop-cons columns c column, get_or_from_slice_get columns c column column is, bare, add-one) refl

pub columns_passed : (roles : List Role) (columns : List Col) (c : ℕ) (column : Col) → c < length columns → slice_get columns c ≡ Some column → has_role roles column ≡ true
    → carried_columns roles (drop (c + 1) columns) ≡ carried_columns roles (drop c columns)
columns_passed roles columns c column h is has = rw (drop-cons columns c column, get_or_from_slice_get columns c column column is, has, add-one) refl

-- and its cell is
pub cell_found : (roles : List Role) (columns : List Col) (row : Row) (c : ℕ) (column : Col) (cell : Value) → length row ≡ length columns → c < length columns
    → slice_get columns c ≡ Some column → slice_get row c ≡ Some cell → has_role roles column ≡ false
    → carried_in roles (drop c columns) (drop c row) ≡ cell ∷ carried_in roles (drop (c + 1) columns) (drop (c + 1) row)
cell_found roles columns row c column cell width h is there bare =
    let k : c < length row = omega arith in
    rw (drop-cons columns c column, drop-cons row c cell, get_or_from_slice_get columns c column column is, get_or_from_slice_get row c cell cell there, bare, add-one) refl

-- the cell of a column with a role isn't
pub cell_passed : (roles : List Role) (columns : List Col) (row : Row) (c : ℕ) (column : Col) → length row ≡ length columns → c < length columns
    → slice_get columns c ≡ Some column → has_role roles column ≡ true
    → carried_in roles (drop (c + 1) columns) (drop (c + 1) row) ≡ carried_in roles (drop c columns) (drop c row)
cell_passed roles columns row c column width h is has =
    let k : c < length row = omega arith in
    rw (drop-cons columns c column, drop-cons row c (TextOf []), get_or_from_slice_get columns c column column is, has, add-one) refl

drop_past : {A : Type 0} (xs : List A) (c : ℕ) → length xs ≤ c → drop c xs ≡ []
drop_past [] zero h = refl
drop_past [] (suc c) h = refl
drop_past (x ∷ xs) zero h = absurd (omega arith)
drop_past (x ∷ xs) (suc c) h = drop_past xs c (omega arith)

-- past the columns nothing is carried
pub cells_end : (roles : List Role) (columns : List Col) (row : Row) (c : ℕ) → length columns ≤ c → carried_in roles (drop c columns) (drop c row) ≡ []
cells_end roles columns row c h = rw (drop_past columns c h) refl

pub columns_end : (roles : List Role) (columns : List Col) (c : ℕ) → length columns ≤ c → carried_columns roles (drop c columns) ≡ []
columns_end roles columns c h = rw (drop_past columns c h) refl

-- there is none past the end
pub item_past : {X : Type 0} (xs : List X) (k : ℕ) (d : X) → length xs < k → kth xs k d ≡ d
item_past xs zero d h = refl
item_past [] (suc k) d h = refl
item_past (x ∷ xs) (suc zero) d h = absurd (omega arith)
item_past (x ∷ xs) (suc (suc k)) d h = item_past xs (suc k) d (omega arith)

-- what stands at a place
pub some_at : {X : Type 0} (xs : List X) (i : ℕ) → i < length xs → (x : X) × (slice_get xs i ≡ Some x)
some_at [] i h = absurd (omega arith)
some_at (x ∷ xs) zero h = (x, refl)
some_at (x ∷ xs) (suc i) h = some_at xs i (omega arith)

-- the next cell that a row carries
pub next_cell : (roles : List Role) (columns : List Col) (row : Row) (from d : ℕ) (cell : Value) → length row ≡ length columns → IsNextCarried roles columns from d
    → slice_get row d ≡ Some cell → carried_in roles (drop from columns) (drop from row) ≡ cell ∷ carried_in roles (drop (d + 1) columns) (drop (d + 1) row)
next_cell roles columns row from d cell width next there =
    let column = some_at columns d next.within in
    let bare : has_role roles column.0 ≡ false = rw column.1 at next.bare in
    sym (next.between row width) ∙ cell_found roles columns row d column.0 cell width next.within column.1 there bare

-- there is none
pub no_cell : (roles : List Role) (columns : List Col) (row : Row) (from : ℕ) → length row ≡ length columns → CarryNone roles columns from (length columns)
    → carried_in roles (drop from columns) (drop from row) ≡ []
no_cell roles columns row from width none = sym (none row width) ∙ cells_end roles columns row (length columns) (omega arith)

-- the carried cells of one row from a column on, against those of another
abbrev pub difference_from : List Role → List Col → Row → ℕ → List Value → Option Difference
difference_from roles columns row c ys = first_difference (carried_columns roles (drop c columns)) (carried_in roles (drop c columns) (drop c row)) ys

-- a column with a role is passed
pub difference_passed : (roles : List Role) (columns : List Col) (row : Row) (c : ℕ) (column : Col) (ys : List Value) → length row ≡ length columns → c < length columns
    → slice_get columns c ≡ Some column → has_role roles column ≡ true → difference_from roles columns row (c + 1) ys ≡ difference_from roles columns row c ys
difference_passed roles columns row c column ys width h is has =
    rw (columns_passed roles columns c column h is has, cell_passed roles columns row c column width h is has) refl

-- one without is compared
pub difference_at : (roles : List Role) (columns : List Col) (row : Row) (c : ℕ) (column : Col) (x y : Value) (ys : List Value) → length row ≡ length columns → c < length columns
    → slice_get columns c ≡ Some column → slice_get row c ≡ Some x → has_role roles column ≡ false
    → difference_from roles columns row c (y ∷ ys) ≡ (cell_difference column x y or difference_from roles columns row (c + 1) ys)
difference_at roles columns row c column x y ys width h is there bare =
    rw (columns_found roles columns c column h is bare, cell_found roles columns row c column x width h is there bare) refl

-- the other row carries nothing more
pub difference_short : (roles : List Role) (columns : List Col) (row : Row) (c : ℕ) (ys : List Value) → ys ≡ [] → difference_from roles columns row c ys ≡ None
difference_short roles columns row c ys e = rw e (none_there (carried_columns roles (drop c columns)) (carried_in roles (drop c columns) (drop c row)))

-- this row carries nothing more
pub difference_end : (roles : List Role) (columns : List Col) (row : Row) (c : ℕ) (ys : List Value) → length columns ≤ c → difference_from roles columns row c ys ≡ None
difference_end roles columns row c ys h = rw (columns_end roles columns c h) refl

-- the next cells of both rows are compared
pub difference_steps : (roles : List Role) (columns : List Col) (row : Row) (c : ℕ) (column : Col) (x : Value) (others : List Col) (other : Row) (from d : ℕ) (y : Value)
    → length row ≡ length columns → c < length columns → slice_get columns c ≡ Some column → slice_get row c ≡ Some x → has_role roles column ≡ false
    → length other ≡ length others → IsNextCarried roles others from d → slice_get other d ≡ Some y
    → difference_from roles columns row c (carried_in roles (drop from others) (drop from other))
    ≡ (cell_difference column x y or difference_from roles columns row (c + 1) (carried_in roles (drop (d + 1) others) (drop (d + 1) other)))
difference_steps roles columns row c column x others other from d y width h is there bare other_width next other_there =
    ap (difference_from roles columns row c) (next_cell roles others other from d y other_width next other_there)
    ∙ difference_at roles columns row c column x y (carried_in roles (drop (d + 1) others) (drop (d + 1) other)) width h is there bare

-- the first of two lines says something
pub or_first : {F : Type 0} (a b : Option F) (f : F) → Some f ≡ a → Some f ≡ (a or b)
or_first a b f some = rw (← some) refl

-- it says nothing
pub or_later : {F : Type 0} (a b : Option F) → None ≡ a → b ≡ (a or b)
or_later a b none = rw (← none) refl

past : (n k : ℕ) → 1 ≤ k → (IsRowOf n k → ⊥) → n < k
past n k low out = elim (cases_lt n k) [ inl lt ↦ lt | inr ge ↦ absurd (out (low, ge)) ]

-- a row that isn't there carries nothing
pub carried_past : (roles : List Role) (grid : Grid) (k : ℕ) → (IsRowOf (length grid.rows) k → ⊥) → carried_at roles grid k ≡ []
carried_past roles grid zero out = sym (empty_carries roles grid.head.columns)
carried_past roles grid (suc k) out = rw (item_past grid.rows (suc k) [] (past (length grid.rows) (suc k) (omega arith) out)) (sym (empty_carries roles grid.head.columns))

-- and differs from no other
pub past_here : (roles : List Role) (cs : List Col) (grid : Grid) (k : ℕ) (ys : List Value) → (IsRowOf (length grid.rows) k → ⊥) → None ≡ first_difference cs (carried_at roles grid k) ys
past_here roles cs grid k ys out = rw (carried_past roles grid k out) (sym (none_here cs ys))

pub past_there : (roles : List Role) (cs : List Col) (xs : List Value) (grid : Grid) (j : ℕ) → (IsRowOf (length grid.rows) j → ⊥) → None ≡ first_difference cs xs (carried_at roles grid j)
past_there roles cs xs grid j out = rw (carried_past roles grid j out) (sym (none_there cs xs))

-- a test that fails
pub fails : (b : Bool) (P : Type 0) → (IsTrue b ↔ P) → b ≡ false → P → ⊥
fails true P h e p = absurd cc
fails false P h e p = let t : false ≡ true = h.1 p in cc
