-- Tables at the places of their first files, tile by tile.
use Rattle.std.proofs.Common.{◌≡◌, ℕ, zero, suc, Option, Some, None, List, [], ◌∷◌, length, map, get_or, is_some, refl, sym, ap, ◌∙◌, arith}
use Rattle.std.specs.Option.{option_map}
use Rattle.vpf_prims.specs.declared.views.PrimitiveViews.{PrimitiveViews}
use Rattle.vpf_prims.specs.Reading.{PrimitiveTables}
use Rattle.vpf_prims.specs.Tables.{TileTables}
use Rattle.vpf_prims.specs.Inner.Views.{tables_in_view}
use Rattle.vpf_prims.specs.Coverages.{tile_at}
use Rattle.vpf_numbers.specs.Around.{Around, around_of, tables_around}
use Rattle.vpf_coverage.specs.declared.opening.opening.OpenCoverage.{OpenCoverage}
use Rattle.vpf_coverage.specs.Inner.Opening.Opened.{opened_coverage, placed_view, placed_views}
use Rattle.vpf_coverage.specs.Inner.Opened.{IsPlaced}

-- what stands at a number
pub placed_at : (firsts : List ℕ) (tiles : List (Option PrimitiveViews)) (t : ℕ) → length firsts ≡ length tiles
    → get_or (placed_views firsts tiles) t None ≡ placed_view (get_or firsts t 0) (get_or tiles t None)
placed_at [] [] t alike = refl
placed_at [] (views ∷ tiles) t alike = absurd cc
placed_at (first ∷ firsts) [] t alike = absurd cc
placed_at (first ∷ firsts) (None ∷ tiles) zero alike = refl
placed_at (first ∷ firsts) (Some views ∷ tiles) zero alike = refl
placed_at (first ∷ firsts) (None ∷ tiles) (suc t) alike = placed_at firsts tiles t (omega (arith, alike))
placed_at (first ∷ firsts) (Some views ∷ tiles) (suc t) alike = placed_at firsts tiles t (omega (arith, alike))

-- the tables alone
pub placed_tables : (firsts : List ℕ) (tiles : List (Option PrimitiveViews)) → length firsts ≡ length tiles
    → map (option_map tables_in_view) tiles ≡ map (option_map (λ (T : TileTables). T.tables)) (placed_views firsts tiles)
placed_tables [] [] alike = refl
placed_tables [] (views ∷ tiles) alike = absurd cc
placed_tables (first ∷ firsts) [] alike = absurd cc
placed_tables (first ∷ firsts) (None ∷ tiles) alike = ap (λ (xs : List (Option PrimitiveTables)). None ∷ xs) (placed_tables firsts tiles (omega (arith, alike)))
placed_tables (first ∷ firsts) (Some views ∷ tiles) alike = ap (λ (xs : List (Option PrimitiveTables)). Some (tables_in_view views) ∷ xs) (placed_tables firsts tiles (omega (arith, alike)))

pub placed_length : (firsts : List ℕ) (tiles : List (Option PrimitiveViews)) → length firsts ≡ length tiles → length (placed_views firsts tiles) ≡ length tiles
placed_length [] [] alike = refl
placed_length [] (views ∷ tiles) alike = absurd cc
placed_length (first ∷ firsts) [] alike = absurd cc
placed_length (first ∷ firsts) (None ∷ tiles) alike = ap suc (placed_length firsts tiles (omega (arith, alike)))
placed_length (first ∷ firsts) (Some views ∷ tiles) alike = ap suc (placed_length firsts tiles (omega (arith, alike)))

-- an empty tile of what was opened
pub empty_tile : (o : OpenCoverage) (t : ℕ) → IsPlaced o → None ≡ get_or o.tiles.items t None → tile_at (opened_coverage o) t ≡ None
empty_tile o t placed is = placed_at o.firsts.items o.tiles.items t placed.alike ∙ ap (placed_view (get_or o.firsts.items t 0)) (sym is)

-- a tile with tables
pub some_tile : (o : OpenCoverage) (t first : ℕ) (views : PrimitiveViews) → IsPlaced o → Some views ≡ get_or o.tiles.items t None → first ≡ get_or o.firsts.items t 0
    → tile_at (opened_coverage o) t ≡ Some (record { first = first; tables = tables_in_view views })
some_tile o t first views placed is at =
    placed_at o.firsts.items o.tiles.items t placed.alike ∙ ap (placed_view (get_or o.firsts.items t 0)) (sym is)
    ∙ ap (λ (n : ℕ). placed_view n (Some views)) (sym at)

tables_at : (tiles : List (Option PrimitiveViews)) (t : ℕ) → get_or (map (option_map tables_in_view) tiles) t None ≡ option_map tables_in_view (get_or tiles t None)
tables_at [] t = refl
tables_at (views ∷ tiles) zero = refl
tables_at (views ∷ tiles) (suc t) = tables_at tiles t

-- its tables, as they are seen around it
pub tables_here : (o : OpenCoverage) (t : ℕ) (views : PrimitiveViews) (A : Around) → IsPlaced o → A ≡ around_of (opened_coverage o) → Some views ≡ get_or o.tiles.items t None
    → tables_around A t ≡ Some (tables_in_view views)
tables_here o t views A placed around is =
    ap (λ (A : Around). tables_around A t) around
    ∙ ap (λ (tiles : List (Option PrimitiveTables)). get_or tiles t None) (sym (placed_tables o.firsts.items o.tiles.items placed.alike))
    ∙ tables_at o.tiles.items t ∙ ap (option_map tables_in_view) (sym is)

-- all tables so
pub around_is : (o : OpenCoverage) (A : Around) → IsPlaced o → A ≡ record { is_tiled = is_some o.paths; tiles = map (option_map tables_in_view) o.tiles.items } → A ≡ around_of (opened_coverage o)
around_is o A placed is =
    is ∙ ap (λ (tiles : List (Option PrimitiveTables)). record { is_tiled = is_some o.paths; tiles = tiles }) (placed_tables o.firsts.items o.tiles.items placed.alike)
