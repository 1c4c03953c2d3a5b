-- How many bytes the files of short tables have, and that few rows pass no limit.
use Rattle.std.proofs.Common.{[], ◌≡◌, ◌≤◌, ℕ, ◌+◌, ◌*◌, Bool, true, false, List, ◌∷◌, ◌++◌, length, refl, arith, None, Some}
use Rattle.std.specs.Prelude.{flat_map, if◌then◌else◌}
use Rattle.std.specs.List.{AllByRecursion}
use Rattle.vpf_head.specs.Canonical.{canonical_text}
use Rattle.vpf_head.specs.Head.{varies_in}
use Rattle.vpf_varindex.specs.RowIndex.{row_index}
use Rattle.vpf_table.specs.Canonical.{canonical_index, canonical_spans}
use Rattle.vpf_write.specs.Made.Files.{index_files}
use Rattle.vpf_library_files.specs.Loading.Holding.{bytes_in}
use Rattle.vpf_library_files.specs.Inner.Loading.FileLaws.{bytes_of_both}
use Rattle.vpf_library_files.specs.TableFiles.Adding.{NamedTable, files_made, files_of_table, first_limit_of}
use Rattle.vpf_drill.proofs.tiled_sizes.Counting.{summed}
use Rattle.vpf_drill.proofs.tiled_sizes.TableSizes.{IsShort, index_bytes, no_limit, table_bytes}

-- a short table
abbrev pub IsShortTable : NamedTable → Type 0
IsShortTable table = IsShort table.grid

-- one of few rows
abbrev pub HasFewRows : NamedTable → Type 0
HasFewRows table = length table.grid.rows ≤ 500000

-- what the files of a table come to at most
abbrev pub load : NamedTable → ℕ
load table = 520 + 112 * length table.grid.rows

-- those of some tables
abbrev pub loads : List NamedTable → ℕ
loads [] = 0
loads (table ∷ tables) = load table + loads tables

-- ---- bytes

table_load : (table : NamedTable) → IsShortTable table → bytes_in (files_of_table table) ≤ load table
table_load table s =
    let g = table.grid in
    let index = row_index g.head.order (length (canonical_text g.head)) (canonical_spans g) in
    let of_index : bytes_in (index_files table.name (canonical_index g)) ≤ length index = by index (varies_in g.head.columns) in
    omega (arith, table_bytes g s, index_bytes g, of_index)
  where
    by : (index : List ℕ) (varies : Bool) → bytes_in (index_files table.name (if varies then Some index else None)) ≤ length index
    by index true = omega arith
    by index false = omega arith

pub made_load : (tables : List NamedTable) → AllByRecursion IsShortTable tables → bytes_in (files_made tables) ≤ loads tables
made_load [] short = omega arith
made_load (table ∷ tables) short =
    omega (arith, bytes_of_both (files_of_table table) (files_made tables), table_load table short.0, made_load tables short.1)

loads_of_both : (a b : List NamedTable) → loads (a ++ b) ≡ loads a + loads b
loads_of_both [] b = omega arith
loads_of_both (table ∷ a) b = omega (arith, loads_of_both a b)

-- tables of numbers come to what those of each come to
pub loads_of_lists : (f : ℕ → List NamedTable) (ns : List ℕ) → loads (flat_map f ns) ≡ summed (λ n. loads (f n)) ns
loads_of_lists f [] = refl
loads_of_lists f (n ∷ ns) = omega (arith, loads_of_both (f n) (flat_map f ns), loads_of_lists f ns)

-- ---- limits

pub none_passed : (tables : List NamedTable) → AllByRecursion IsShortTable tables → AllByRecursion HasFewRows tables → first_limit_of tables ≡ None
none_passed [] short few = refl
none_passed (table ∷ tables) short few = rw (no_limit table.grid short.0 few.0) (none_passed tables short.1 few.1)
