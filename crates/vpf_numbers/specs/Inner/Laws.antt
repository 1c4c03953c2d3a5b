-- What is so of the tables of every tile.
use Rattle.std.specs.Prelude.{◌≡◌, ◌↔◌, ℕ, true, None, Some}
use Rattle.vpf_prims.specs.Coverages.{CoverageTables, tile_at}
use Rattle.vpf_prims.specs.Libraries.{library_of}
use Rattle.vpf_prims.specs.Numbering.{IsNumbered}
use Rattle.vpf_prims.specs.Primitives.{has_tables}
use Rattle.vpf_prims.specs.Suiting.{HasColumns}
use Rattle.vpf_prims.specs.Tables.{TileTables}
use Rattle.vpf_numbers.specs.Around.{around_of}
use Rattle.vpf_numbers.specs.Matching.{ColumnsMatch, HaveColumns}
use Rattle.vpf_numbers.specs.TableLines.{coverage_numbers, numbers_finding}

-- there is no finding on columns, ids, references and marks of a tile exactly where its columns and numbers are right
abbrev pub NumbersDecide : Type 0
NumbersDecide = (c : CoverageTables) (t : ℕ) (T : TileTables) → tile_at c t ≡ Some T
    → (numbers_finding t (around_of c) T ≡ None) ↔ (HasColumns T.tables × ColumnsMatch (around_of c) T.tables × IsNumbered (library_of c) t)

-- there is none in all tiles exactly where the columns and numbers of all are right
abbrev pub CoverageNumbersDecide : Type 0
CoverageNumbersDecide = (c : CoverageTables)
    → (coverage_numbers c ≡ None) ↔ (HaveColumns c × ((t : ℕ) → has_tables (library_of c) t ≡ true → IsNumbered (library_of c) t))
