-- Darts: the two directions of an edge (a winged edge of MIL-STD-2407, section 5.2.2), as numbers in
-- their order.
use Rattle.std.specs.Prelude.{ℕ, ◌+◌, ◌-◌, ◌*◌, ◌/◌, ◌%◌, ◌^◌, ◌==◌, Bool, if◌then◌else◌, List, [], ◌++◌, codes}
use Rattle.std.specs.Fmt.{decimal}
use Rattle.vpf_darts.specs.declared.darts.Dart.{Dart}
use Rattle.vpf_darts.specs.declared.darts.TileDart.{TileDart}

-- the number of a dart: by tile, then by edge (of 32 bits), then + (0) before - (1); tile 0 stands for
-- an untiled coverage
unfoldable pub code : ℕ → ℕ → ℕ → ℕ
code tile edge sign = 2 * (2 ^ 32 * tile + edge) + sign

-- the tile of the dart with this number
unfoldable pub tile_in : ℕ → ℕ
tile_in dart = dart / 2 ^ 33

-- the edge of the dart with this number
unfoldable pub edge_in : ℕ → ℕ
edge_in dart = dart / 2 % 2 ^ 32

-- the sign of the dart with this number
unfoldable pub sign_in : ℕ → ℕ
sign_in dart = dart % 2

-- the other dart of the edge
unfoldable pub flip : ℕ → ℕ
flip dart = dart + 1 - 2 * (dart % 2)

-- a sign as a number
abbrev pub sign_of : Bool → ℕ
sign_of minus = if minus then 1 else 0

-- the number of a dart of an untiled coverage
abbrev pub dart_code : Dart → ℕ
dart_code d = code 0 d.edge (sign_of d.minus)

-- the number of a dart of a tile
abbrev pub tile_dart_code : TileDart → ℕ
tile_dart_code d = code d.tile d.edge (sign_of d.minus)

-- a sign as it is printed
abbrev pub sign_text : Bool → List ℕ
sign_text minus = if minus then codes "-" else codes "+"

-- a dart as it is printed: its edge and its sign
abbrev pub dart_text : Dart → List ℕ
dart_text d = decimal d.edge ++ sign_text d.minus

-- a dart of a tile as it is printed: the tile and a colon before it, but for tile 0
abbrev pub tile_dart_text : TileDart → List ℕ
tile_dart_text d = (if d.tile == 0 then [] else decimal d.tile ++ codes ":") ++ (decimal d.edge ++ sign_text d.minus)
