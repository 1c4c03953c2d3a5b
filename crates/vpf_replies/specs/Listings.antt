-- How listings of cycles are printed.
use Rattle.std.specs.Prelude.{ℕ, List, [], ◌∷◌, length, codes, ◌==◌}
use Rattle.std.specs.List.{flat_map}
use Rattle.std.specs.Fmt.{decimal}
use Rattle.vpf_darts.specs.declared.darts.TileDart.{TileDart}
use Rattle.vpf_darts.specs.Darts.{edge_in, sign_in, tile_dart_code, tile_dart_text, tile_in}
use Rattle.vpf_findings.specs.Text.Texts.{◌&◌}

-- the dart of a number
abbrev pub dart_of : ℕ → TileDart
dart_of d = record { tile = tile_in d; edge = edge_in d; minus = sign_in d == 1 }

-- a dart, as its number has it
unfoldable pub numbered_text : TileDart → List ℕ
numbered_text dart = tile_dart_text (dart_of (tile_dart_code dart))

-- the darts of a cycle, with a space between any two
abbrev pub cycle_text : List TileDart → List ℕ
cycle_text [] = []
cycle_text (dart ∷ darts) = numbered_text dart & flat_map (λ other. codes " " & numbered_text other) darts

-- a line for each cycle
abbrev pub cycle_lines : List (List TileDart) → List ℕ
cycle_lines [] = []
cycle_lines (cycle ∷ cycles) = cycle_text cycle & codes "\n" & cycle_lines cycles

-- the cycles, and how many there are
abbrev pub listing_text : List (List TileDart) → List ℕ
listing_text cycles = cycle_lines cycles & codes "cycles " & decimal (length cycles) & codes "\n"
