-- What is known of the entries of a directory where no line says anything.
use Rattle.std.proofs.Common.{◌≡◌, ℕ, ◌+◌, ◌-◌, ◌<◌, Bool, true, false, not, ◌&&◌, List, length, None, refl, arith, Ordering, Less}
use Rattle.std.specs.Prelude.{nat_lt}
use Rattle.std.specs.Option.{option_or}
use Rattle.std.specs.Ordering.{is_lt}
use Rattle.std.proofs.lemmas.Bool.Decides.{nat_tests}
use Rattle.vpf_triplet.specs.declared.places.Code.{Code}
use Rattle.vpf_triplet.specs.declared.places.Code.TheVariants as codes
use Rattle.vpf_findings.specs.Inner.FirstLaws.{or-none_both}
use Rattle.vpf_theme.specs.declared.layout.Layout.{Layout}
use Rattle.vpf_theme.specs.Layouts.{entry_bytes, entry_start}
use Rattle.vpf_theme.specs.Ordering.{value_cmp}
use Rattle.vpf_theme.specs.Entries.{IsWhole, value_of, extent_of}
use Rattle.vpf_theme.specs.Reading.{fault_where, cut_line, rises_at, sort_line, entry_rows_line, entry_line, entries_line}
use Rattle.vpf_theme.specs.Inner.FaultLaws.{entry_none}

pub no_fault : (b : Bool) (at : ℕ) (code : Code) → fault_where b at code ≡ None → b ≡ false
no_fault true at code h = absurd cc
no_fault false at code h = refl

pub entry_cut : (l : Layout) (bytes : List ℕ) (i : ℕ) → entry_line l bytes i ≡ None → cut_line l bytes i ≡ None
unfolding entry_line
entry_cut l bytes i h = (or-none_both (cut_line l bytes i) (option_or (sort_line l bytes i) (entry_rows_line l.form l bytes i (extent_of l bytes i))) h).0

pub entry_sort : (l : Layout) (bytes : List ℕ) (i : ℕ) → entry_line l bytes i ≡ None → sort_line l bytes i ≡ None
unfolding entry_line
entry_sort l bytes i h = (or-none_both (sort_line l bytes i) (entry_rows_line l.form l bytes i (extent_of l bytes i)) (or-none_both (cut_line l bytes i) (option_or (sort_line l bytes i) (entry_rows_line l.form l bytes i (extent_of l bytes i))) h).1).0

pub entry_rows : (l : Layout) (bytes : List ℕ) (i : ℕ) → entry_line l bytes i ≡ None → entry_rows_line l.form l bytes i (extent_of l bytes i) ≡ None
unfolding entry_line
entry_rows l bytes i h = (or-none_both (sort_line l bytes i) (entry_rows_line l.form l bytes i (extent_of l bytes i)) (or-none_both (cut_line l bytes i) (option_or (sort_line l bytes i) (entry_rows_line l.form l bytes i (extent_of l bytes i))) h).1).1

pub whole_by : (l : Layout) (bytes : List ℕ) (i : ℕ) → entry_line l bytes i ≡ None → IsWhole l bytes i
whole_by l bytes i h =
    let c = no_fault (nat_lt (length bytes) (entry_start l i + entry_bytes l)) (entry_start l i) codes.ThemeCut (entry_cut l bytes i h) in
    grind (arith, nat_tests)

pub whole_from : (l : Layout) (bytes : List ℕ) (i : ℕ) → entries_line l bytes ≡ None → i < l.entries → IsWhole l bytes i
whole_from l bytes i h k = whole_by l bytes i (entry_none l bytes i h k)

pub is_less : (o : Ordering) → is_lt o ≡ true → o ≡ Less
is_less Less h = refl
is_less o h = absurd (cc h)

sorted_test : (s z r : Bool) → (s && z && not r) ≡ false → s ≡ true → z ≡ true → r ≡ true
sorted_test s z true h k m = refl
sorted_test true true false h k m = absurd (cc h)
sorted_test false z false h k m = absurd (cc k)
sorted_test true false false h k m = absurd (cc m)

-- each value is above the one before
pub rises_by : (l : Layout) (bytes : List ℕ) (i : ℕ) → entry_line l bytes (i + 1) ≡ None → l.sorted ≡ true → value_cmp (value_of l bytes i) (value_of l bytes (i + 1)) ≡ Less
rises_by l bytes i h s =
    let c = no_fault (l.sorted && nat_lt 0 (i + 1) && not (rises_at l bytes (i + 1))) (entry_start l (i + 1)) codes.ThemeSort (entry_sort l bytes (i + 1) h) in
    let z : nat_lt 0 (i + 1) ≡ true = grind (arith, nat_tests) in
    let e : i + 1 - 1 ≡ i = omega arith in
    let r = is_less (value_cmp (value_of l bytes (i + 1 - 1)) (value_of l bytes (i + 1))) (sorted_test l.sorted (nat_lt 0 (i + 1)) (rises_at l bytes (i + 1)) c s z) in
    rw e at r

pub rises_from : (l : Layout) (bytes : List ℕ) (i : ℕ) → entries_line l bytes ≡ None → l.sorted ≡ true → i + 1 < l.entries → value_cmp (value_of l bytes i) (value_of l bytes (i + 1)) ≡ Less
rises_from l bytes i h s k = rises_by l bytes i (entry_none l bytes (i + 1) h k) s
