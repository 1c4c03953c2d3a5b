-- Lines on cells find nothing exactly where the cell says what it is to say.
use Rattle.std.proofs.Common.{◌≡◌, inl, inr, ℕ, zero, suc, ◌≤◌, pos, negsuc, Bool, true, Option, Some, None, refl, arith}
use Rattle.std.specs.Prelude.{◌↔◌, ◌==◌}
use Rattle.std.proofs.lemmas.Bool.Decides.{nat_tests}
use Rattle.vpf_triplet.specs.declared.triplets.Triplet.{Triplet}
use Rattle.vpf_value.specs.Values.{Value, TextOf, Word4Of, Word8Of, NumberOf, DateOf, Nothing, TripletOf, WordsOf}
use Rattle.vpf_table.specs.Grid.{Row}
use Rattle.vpf_findings.specs.Firsts.{◌or◌, unless}
use Rattle.vpf_findings.specs.Inner.FirstLaws.{or-none_both, unless_none}
use Rattle.vpf_prims.specs.declared.placing.TableAt.{TableAt}
use Rattle.vpf_prims.specs.Columns.{RoleAt}
use Rattle.vpf_prims.specs.References.{reference_in, signed_in, cell_at, is_same, is_from, stays}
use Rattle.vpf_prims.specs.Reading.{natural_in, mark_at}
use Rattle.vpf_prims.specs.Lines.{id_line, range_line}
use Rattle.vpf_numbers.specs.RowLines.{plain_line, reference_lines, mark_line, mark_line_at}
use Rattle.vpf_prims.specs.Numbering.{IsPlain, IsLineMark}

-- one thing exactly where another, and that exactly where a third
pub through : {A B C : Type 0} → (A ↔ B) → (B ↔ C) → A ↔ C
through f g = (λ a. g.0 (f.0 a), λ c. f.1 (g.1 c))

-- two lines find nothing exactly where each finds nothing
both_none : {F : Type 0} (a b : Option F) → a ≡ None → b ≡ None → (a or b) ≡ None
both_none a b e f = rw (e, f) refl

pub or_decides : {F P Q : Type 0} (a b : Option F) → ((a ≡ None) ↔ P) → ((b ≡ None) ↔ Q) → ((a or b) ≡ None) ↔ (P × Q)
or_decides a b f g =
    (λ h. let none = or-none_both a b h in (f.0 none.0, g.0 none.1), λ h. both_none a b (f.1 h.0) (g.1 h.1))

-- a line that is said unless a test passes
pub unless_decides : {F : Type 0} (b : Bool) (f : F) → (unless b f ≡ None) ↔ (b ≡ true)
unless_decides b f = (unless_none b f, λ e. rw e refl)

-- a cell that is no number isn't k, where k isn't 0
none_at : (k : ℕ) → 1 ≤ k → ((0 == k) ≡ true) ↔ (natural_in Nothing ≡ Some k)
none_at k low = (λ h. absurd (grind (arith, nat_tests)), λ e. absurd cc)

pub number_at : (n k : ℕ) → ((n == k) ≡ true) ↔ (Some n ≡ Some k)
number_at n k = (λ h. let e : n ≡ k = grind (arith, nat_tests) in rw e refl, λ e. let same : n ≡ k = cc in grind (arith, nat_tests))

same_id : (cell : Value) (k : ℕ) → 1 ≤ k → (is_same (signed_in cell) k ≡ true) ↔ (natural_in cell ≡ Some k)
same_id (NumberOf (pos n)) k low = number_at n k
same_id (NumberOf (negsuc n)) k low = (λ h. absurd cc, λ e. absurd cc)
same_id (TextOf s) k low = none_at k low
same_id (Word4Of n) k low = none_at k low
same_id (Word8Of n) k low = none_at k low
same_id (DateOf s) k low = none_at k low
same_id Nothing k low = none_at k low
same_id (TripletOf t) k low = none_at k low
same_id (WordsOf w s) k low = none_at k low

-- the line on the id of row k
pub id_decides : (at : TableAt) (k : ℕ) (column : RoleAt) (row : Row) → 1 ≤ k
    → (id_line at k column row ≡ None) ↔ (natural_in (cell_at row column.place) ≡ Some k)
id_decides at k column row low =
    through (unless_decides (is_same (signed_in (cell_at row column.place)) k) _) (same_id (cell_at row column.place) k low)

-- a reference within the tile, by its parts
pub plain_parts : (low last : ℕ) (i t e : Option ℕ) → is_from low last i ≡ true → stays (record { id = i; tile = t; ext = e }) ≡ true
    → IsPlain low last (record { id = i; tile = t; ext = e })
plain_parts low last (Some n) None None h s = record { id = n; is = refl; from_low = grind (arith, nat_tests); to_last = grind (arith, nat_tests) }
plain_parts low last None t e h s = absurd cc
plain_parts low last (Some n) (Some t) e h s = absurd cc
plain_parts low last (Some n) None (Some e) h s = absurd cc

pub from_some : (low last n : ℕ) → low ≤ n → n ≤ last → is_from low last (Some n) ≡ true
from_some low last n a b = grind (arith, nat_tests)

is_plain : (low last : ℕ) (r : Triplet) → ((is_from low last r.id ≡ true) × (stays r ≡ true)) ↔ IsPlain low last r
is_plain low last r =
    (λ h. plain_parts low last r.id r.tile r.ext h.0 h.1, λ p. rw p.is (from_some low last p.id p.from_low p.to_last, refl))

-- the lines on a reference
pub plain_decides : (at : TableAt) (low last k : ℕ) (column : RoleAt) (row : Row)
    → (reference_lines at low last k column row ≡ None) ↔ IsPlain low last (reference_in (cell_at row column.place))
plain_decides at low last k column row =
    let r = reference_in (cell_at row column.place) in
    through
    (or_decides (range_line at low last k column row) (plain_line at k column row) (unless_decides (is_from low last r.id) _) (unless_decides (stays r) _))
    (is_plain low last r)

-- a mark is 0 or 1
one_of : (n : ℕ) → is_from 0 1 (Some n) ≡ true → IsLineMark (Some n)
one_of zero h = inl refl
one_of (suc zero) h = inr refl
one_of (suc (suc n)) h = let few : suc (suc n) ≤ 1 = grind (arith, nat_tests) in absurd (omega (arith, few))

marks : (mark : Option ℕ) → (is_from 0 1 mark ≡ true) ↔ IsLineMark mark
marks None = (λ h. absurd cc, elim [ inl e ↦ absurd cc | inr e ↦ absurd cc ])
marks (Some n) = (one_of n, elim [ inl e ↦ let none : n ≡ 0 = cc in rw none refl | inr e ↦ let one : n ≡ 1 = cc in rw one refl ])

marked_at : (at : TableAt) (k : ℕ) (column : RoleAt) (row : Row) (place : Option ℕ)
    → (mark_line_at at k column row place ≡ None) ↔ IsLineMark (mark_at row place)
marked_at at k column row None = (λ h. inl refl, λ m. refl)
marked_at at k column row (Some c) = through (unless_decides (is_from 0 1 (mark_at row (Some c))) _) (marks (mark_at row (Some c)))

-- the line on the mark of a row
pub mark_decides : (at : TableAt) (k : ℕ) (column : RoleAt) (row : Row) → (mark_line at k column row ≡ None) ↔ IsLineMark (mark_at row column.place)
mark_decides at k column row = marked_at at k column row column.place
