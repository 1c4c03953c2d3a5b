-- Lines on columns and cells find nothing exactly where these are what they are to be.
use Rattle.std.proofs.Common.{◌≡◌, ℕ, zero, suc, ◌+◌, ◌≤◌, pos, negsuc, Bool, true, false, Option, Some, None, List, length, refl, arith}
use Rattle.std.specs.Prelude.{◌↔◌, ◌==◌, not, codes}
use Rattle.std.specs.List.{AllByRecursion}
use Rattle.std.proofs.lemmas.Bool.Decides.{nat_tests}
use Rattle.vpf_value.specs.Values.{Value, TextOf, Word4Of, Word8Of, NumberOf, DateOf, Nothing, TripletOf, WordsOf}
use Rattle.vpf_head.specs.Head.{Col}
use Rattle.vpf_table.specs.Grid.{Row}
use Rattle.vpf_findings.specs.Firsts.{◌or◌, unless, first_of_rows}
use Rattle.vpf_findings.specs.Inner.FirstLaws.{rows_none, rows_silent}
use Rattle.vpf_prims.specs.Roles.{Role, suits, number_role, text_role, tileref_roles}
use Rattle.vpf_prims.specs.Columns.{RoleAt, column_of, placed_line, role_line}
use Rattle.vpf_prims.specs.Lines.{id_line, no_rows_line}
use Rattle.vpf_prims.specs.Lists.{kth}
use Rattle.vpf_prims.specs.Numbering.{IsRowOf}
use Rattle.vpf_prims.specs.Reading.{natural_in}
use Rattle.vpf_prims.specs.References.{cell_at, is_same, signed_in}
use Rattle.vpf_prims.specs.Suiting.{SuitsRole}
use Rattle.vpf_library_files.specs.Tileref.Numbered.{most_tiles}
use Rattle.vpf_library_files.specs.Tileref.Tileref.{tile_columns_finding, tileref_at}
use Rattle.vpf_base.proofs.Booleans.{through}

-- two facts as two others
pub paired : {P Q R S : Type 0} → (P ↔ R) → (Q ↔ S) → (P × Q) ↔ (R × S)
paired f g = (λ h. (f.0 h.0, g.0 h.1), λ h. (f.1 h.0, g.1 h.1))

-- two lines find nothing exactly where each finds nothing
pub neither_line : {F : Type 0} (a b : Option F) → ((a or b) ≡ None) ↔ ((a ≡ None) × (b ≡ None))
neither_line None b = (λ h. (refl, h), λ h. h.1)
neither_line (Some f) b = (λ h. absurd cc, λ h. absurd (let e = h.0 in cc))

-- a line that is said unless a test passes
pub unless_passes : {F : Type 0} (b : Bool) (f : F) → (unless b f ≡ None) ↔ (b ≡ true)
unless_passes true f = (λ h. refl, λ h. refl)
unless_passes false f = (λ h. absurd cc, λ h. absurd cc)

-- the column of a role
suiting : (role : Role) (column : Option Col) → (placed_line tileref_at role column ≡ None) ↔ SuitsRole role column
suiting role None = unless_passes role.optional _
suiting role (Some column) = unless_passes (suits role.wants column.kind) _

-- there are rows
some_rows : {X : Type 0} (xs : List X) → (not (length xs == 0) ≡ true) ↔ (1 ≤ length xs)
some_rows xs = (λ h. grind (arith, nat_tests), λ h. grind (arith, nat_tests))

-- the columns of a header have these roles
abbrev pub Suits : List Col → List Role → Type 0
Suits columns roles = AllByRecursion (λ (role : Role). SuitsRole role (column_of columns role.name)) roles

-- the lines on the columns of tiles
pub columns_suit : (columns : List Col) (rows : List Row) → (tile_columns_finding columns rows ≡ None) ↔ (Suits columns tileref_roles × (1 ≤ length rows))
columns_suit columns rows =
    let id = number_role (codes "id") in
    let name = text_role (codes "tile_name") in
    through (neither_line (role_line tileref_at columns id) _)
    (through (paired (suiting id (column_of columns id.name)) (through (neither_line (no_rows_line tileref_at columns rows most_tiles) _)
    (paired (through (unless_passes (not (length rows == 0)) _) (some_rows rows))
    (through (neither_line (role_line tileref_at columns name) None) (paired (suiting name (column_of columns name.name)) (λ h. h, λ h. h))))))
    (λ h. ((h.0, (h.1.1.0, tt)), h.1.0), λ h. (h.0.0, (h.1, (h.0.1.0, refl)))))

-- a cell that is no number isn't k, unless k is 0
no_number : (k : ℕ) → 1 ≤ k → ((0 == k) ≡ true) ↔ (natural_in Nothing ≡ Some k)
no_number k low = (λ h. absurd (grind (arith, nat_tests)), λ e. absurd cc)

some_number : (n k : ℕ) → ((n == k) ≡ true) ↔ (Some n ≡ Some k)
some_number n k = (λ h. let e : n ≡ k = grind (arith, nat_tests) in rw e refl, λ e. let same : n ≡ k = cc in grind (arith, nat_tests))

number_is : (cell : Value) (k : ℕ) → 1 ≤ k → (is_same (signed_in cell) k ≡ true) ↔ (natural_in cell ≡ Some k)
number_is (NumberOf (pos n)) k low = some_number n k
number_is (NumberOf (negsuc n)) k low = (λ h. absurd cc, λ e. absurd cc)
number_is (TextOf s) k low = no_number k low
number_is (Word4Of n) k low = no_number k low
number_is (Word8Of n) k low = no_number k low
number_is (DateOf s) k low = no_number k low
number_is Nothing k low = no_number k low
number_is (TripletOf t) k low = no_number k low
number_is (WordsOf w s) k low = no_number k low

-- the line on the id of row k
pub id_is : (k : ℕ) (column : RoleAt) (row : Row) → 1 ≤ k → (id_line tileref_at k column row ≡ None) ↔ (natural_in (cell_at row column.place) ≡ Some k)
id_is k column row low = through (unless_passes (is_same (signed_in (cell_at row column.place)) k) _) (number_is (cell_at row column.place) k low)

-- the lines on rows, by the numbers of these
pub rows_by_number : {F R : Type 0} (lines : ℕ → R → Option F) (rows : List R) (d : R)
    → (first_of_rows lines 1 rows ≡ None) ↔ ((k : ℕ) → IsRowOf (length rows) k → lines k (kth rows k d) ≡ None)
rows_by_number {F} {R} lines rows d = (by_number, by_place)
  where
    by_number : first_of_rows lines 1 rows ≡ None → (k : ℕ) → IsRowOf (length rows) k → lines k (kth rows k d) ≡ None
    by_number h zero l = absurd (omega (arith, l.0))
    by_number h (suc i) l = let e : 1 + i ≡ suc i = omega arith in rw e at (rows_none lines 1 rows h i d (omega (arith, l.1)))

    by_place : ((k : ℕ) → IsRowOf (length rows) k → lines k (kth rows k d) ≡ None) → first_of_rows lines 1 rows ≡ None
    by_place h = rows_silent lines 1 rows d (λ i l. let e : 1 + i ≡ suc i = omega arith in rw e (h (suc i) (omega arith, omega arith)))
