-- What is told of a grid that was cut into tiles and traced.
use Rattle.std.specs.Prelude.{ℕ, List, codes, length}
use Rattle.std.specs.Fmt.{decimal}
use Rattle.vpf_source.specs.declared.file.File.{File}
use Rattle.vpf_darts.specs.declared.darts.TileDart.{TileDart}
use Rattle.vpf_findings.specs.Text.Texts.{◌&◌}
use Rattle.vpf_prims.specs.Coverages.{CoverageTables, last_tile}
use Rattle.vpf_prims.specs.Libraries.{library_of}
use Rattle.vpf_replies.specs.Listings.{listing_text}
use Rattle.vpf_library_commands.specs.Counting.{all_edges}
use Rattle.vpf_drill.specs.declared.numbers.SourceNumbers.{SourceNumbers}
use Rattle.vpf_drill.specs.declared.numbers.TiledNumbers.{TiledNumbers}
use Rattle.vpf_drill.specs.Counting.{dart_count, line_count, longest}
use Rattle.vpf_drill.specs.Digest.{digest}

-- of an untiled coverage: its edges, and how many of them are lines between tiles
abbrev pub source_numbers : CoverageTables → SourceNumbers
source_numbers c = record { edges = all_edges c; lines = line_count (library_of c) }

-- of a tiled one with these boundary cycles past its lines, for which these files were made: its tiles, and the edges that they have in all; the
-- cycles, their darts, and those of the longest; and the digest of the files and of the listing
abbrev pub tiled_numbers : CoverageTables → List (List TileDart) → List File → TiledNumbers
tiled_numbers c cycles made = record {
  tiles = last_tile c;
  copies = all_edges c;
  cycles = length cycles;
  darts = dart_count cycles;
  longest = longest cycles;
  digest = digest made (listing_text cycles);
}

-- a word, a number and the end of the line
abbrev pub line : List ℕ → ℕ → List ℕ
line word number = word & codes " " & decimal number & codes "\n"

-- a line for each number, the cells a side of the grid first
abbrev pub numbers_text : ℕ → SourceNumbers → TiledNumbers → List ℕ
numbers_text n source tiled =
    line (codes "drill") n
    & line (codes "edges") source.edges
    & line (codes "lines") source.lines
    & line (codes "tiles") tiled.tiles
    & line (codes "copies") tiled.copies
    & line (codes "cycles") tiled.cycles
    & line (codes "darts") tiled.darts
    & line (codes "longest") tiled.longest
    & line (codes "digest") tiled.digest
