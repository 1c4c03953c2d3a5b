-- There is no finding on the tables of a coverage exactly where there is none on those of each tile.
use Rattle.std.proofs.Common.{◌≡◌, ◌∙◌, ℕ, zero, suc, ◌+◌, ◌<◌, true, Option, Some, None, List, [], ◌∷◌, length, map, refl, sym, ap, arith}
use Rattle.std.specs.Prelude.{◌↔◌, slice_index_or}
use Rattle.std.specs.Option.{option_map}
use Rattle.vpf_findings.specs.Findings.{Disagreement}
use Rattle.vpf_findings.specs.Inner.FirstLaws.{over_none, over_silent}
use Rattle.vpf_prims.specs.Coverages.{CoverageTables, last_tile, tile_at}
use Rattle.vpf_prims.specs.Libraries.{in_tile, in_tiles, library_of, primitives_in}
use Rattle.vpf_prims.specs.Numbering.{IsNumbered}
use Rattle.vpf_prims.specs.Primitives.{has_tables, is_there}
use Rattle.vpf_prims.specs.Reading.{PrimitiveTables, primitives_of}
use Rattle.vpf_prims.specs.Tables.{TileTables}
use Rattle.vpf_numbers.specs.Around.{around_of}
use Rattle.vpf_numbers.specs.Inner.Laws.{CoverageNumbersDecide, NumbersDecide}
use Rattle.vpf_numbers.specs.Matching.{HaveColumns}
use Rattle.vpf_numbers.specs.TableLines.{numbers_finding}
use Rattle.vpf_numbers.proofs.NumbersBeyond.{IsSeen}
use Rattle.vpf_numbers.proofs.NumbersLines.{through}
use Rattle.vpf_numbers.proofs.NumbersTables.{numbers_seen}

abbrev tables_in : TileTables → PrimitiveTables
tables_in T = T.tables

-- the tables of a tile among those of all
around_at : (tiles : List (Option TileTables)) (t : ℕ) → slice_index_or (map (option_map tables_in) tiles) t None ≡ option_map tables_in (slice_index_or tiles t None)
around_at [] t = refl
around_at (tile ∷ tiles) zero = refl
around_at (tile ∷ tiles) (suc t) = around_at tiles t

said_in : (tile : Option TileTables) → primitives_in tile ≡ option_map primitives_of (option_map tables_in tile)
said_in None = refl
said_in (Some T) = refl

coverage_seen : (c : CoverageTables) → IsSeen (around_of c) (library_of c)
coverage_seen c = record { tiled = refl; tiles = λ t. said_in (tile_at c t) ∙ ap (option_map primitives_of) (sym (around_at c.tiles t)) }

pub numbers_decide : NumbersDecide
numbers_decide c t T is = numbers_seen (around_of c) (library_of c) (coverage_seen c) t T (around_at c.tiles t ∙ ap (option_map tables_in) is)

-- a tile with tables is one of those that are there
tile_within : (tiles : List (Option TileTables)) (t : ℕ) (T : TileTables) → slice_index_or tiles t None ≡ Some T → t < length tiles
tile_within [] t T is = absurd cc
tile_within (tile ∷ tiles) zero T is = omega arith
tile_within (tile ∷ tiles) (suc t) T is = let rest = tile_within tiles t T is in omega arith

-- a rule finds nothing in all tiles exactly where it finds nothing in each
tiles_decide : (rule : ℕ → TileTables → Option Disagreement) (c : CoverageTables) → (in_tiles rule c ≡ None) ↔ ((t : ℕ) (T : TileTables) → tile_at c t ≡ Some T → rule t T ≡ None)
unfolding in_tiles
tiles_decide rule c = (each, all)
  where
    line : ℕ → Option Disagreement
    line t = in_tile (rule t) (tile_at c t)

    each : in_tiles rule c ≡ None → (t : ℕ) (T : TileTables) → tile_at c t ≡ Some T → rule t T ≡ None
    each h t T is =
        let within = tile_within c.tiles t T is in
        let none = over_none (λ t. in_tile (rule t) (tile_at c t)) 0 (last_tile c + 1) h t (omega arith) (omega arith) in
        rw is at none

    silent : ((t : ℕ) (T : TileTables) → tile_at c t ≡ Some T → rule t T ≡ None) → (t : ℕ) (tile : Option TileTables) → tile_at c t ≡ tile → in_tile (rule t) tile ≡ None
    silent h t None is = refl
    silent h t (Some T) is = h t T is

    all : ((t : ℕ) (T : TileTables) → tile_at c t ≡ Some T → rule t T ≡ None) → in_tiles rule c ≡ None
    all h = over_silent (λ t. in_tile (rule t) (tile_at c t)) 0 (last_tile c + 1) (λ t low high. silent h t (tile_at c t) refl)

some_there : (tile : Option TileTables) → is_there (primitives_in tile) ≡ true → (T : TileTables) × (tile ≡ Some T)
some_there None h = absurd cc
some_there (Some T) h = (T, refl)

pub coverage_decide : CoverageNumbersDecide
coverage_decide c = through (tiles_decide (λ t T. numbers_finding t (around_of c) T) c) (parts, whole)
  where
    parts : ((t : ℕ) (T : TileTables) → tile_at c t ≡ Some T → numbers_finding t (around_of c) T ≡ None) → HaveColumns c × ((t : ℕ) → has_tables (library_of c) t ≡ true → IsNumbered (library_of c) t)
    parts h = (
      record { suit = λ t T is. ((numbers_decide c t T is).0 (h t T is)).0; like_first = λ t T is. ((numbers_decide c t T is).0 (h t T is)).1 },
      λ t has. let some = some_there (tile_at c t) has in ((numbers_decide c t some.0 some.1).0 (h t some.0 some.1)).2,
    )

    whole : HaveColumns c × ((t : ℕ) → has_tables (library_of c) t ≡ true → IsNumbered (library_of c) t) → (t : ℕ) (T : TileTables) → tile_at c t ≡ Some T → numbers_finding t (around_of c) T ≡ None
    whole h t T is =
        let has : has_tables (library_of c) t ≡ true = ap (λ (tile : Option TileTables). is_there (primitives_in tile)) is in
        (numbers_decide c t T is).1 (h.0.suit t T is, h.0.like_first t T is, h.1 t has)
