-- Bounds: few enough rows, and the lengths of paths, looked at one after another.
use Rattle.std.proofs.Common.{◌≡◌, ℕ, ◌+◌, ◌<◌, ◌≤◌, Bool, true, false, None, Some, List, length, map, drop, get_or, add-one, refl, arith}
use Rattle.std.specs.Prelude.{nat_le}
use Rattle.std.proofs.Math.Seq.{drop-cons}
use Rattle.std.proofs.lemmas.Bool.Decides.{nat_tests}
use Rattle.vpf_base.specs.Limits.{longest_name}
use Rattle.vpf_table.specs.declared.limit.Limit.{Limit}
use Rattle.vpf_table.specs.declared.limit.Bound.TheVariants as bounds
use Rattle.vpf_findings.specs.Firsts.{unless}
use Rattle.vpf_library_files.specs.Tileref.Bounds.{lengths_bound, rows_bound}
use Rattle.vpf_library_files.specs.Tileref.Numbered.{most_tiles}

is_short : (n : ℕ) → n ≤ longest_name → nat_le n longest_name ≡ true
is_short n h = grind (arith, nat_tests)

is_long : (n : ℕ) → longest_name < n → nat_le n longest_name ≡ false
is_long n h = grind (arith, nat_tests)

-- a path that is short enough is passed
pub short_passed : {X : Type 0} (text : X → List ℕ) (xs : List X) (i : ℕ) (x : X) → i < length xs → x ≡ get_or xs i x → length (text x) ≤ longest_name
    → lengths_bound (map text (drop (i + 1) xs)) ≡ lengths_bound (map text (drop i xs))
short_passed text xs i x h is few = rw (drop-cons xs i x, ← is, is_short (length (text x)) few, add-one) refl

-- one that is too long passes the bound
pub long_stops : {X : Type 0} (text : X → List ℕ) (xs : List X) (i : ℕ) (x : X) → i < length xs → x ≡ get_or xs i x → longest_name < length (text x)
    → lengths_bound (map text (drop i xs)) ≡ Some (record { what = bounds.Name; found = length (text x) })
long_stops text xs i x h is many = rw (drop-cons xs i x, ← is, is_long (length (text x)) many) refl

few_at : (b : Bool) (n : ℕ) (limit : Limit) → nat_le n most_tiles ≡ b → unless b limit ≡ None → n ≤ most_tiles
few_at true n limit e h = grind (arith, nat_tests)
few_at false n limit e h = absurd cc

-- rows that pass no bound are few
pub rows_few : (rows : ℕ) → rows_bound rows ≡ None → rows ≤ most_tiles
rows_few rows h = few_at (nat_le rows most_tiles) rows _ refl h
