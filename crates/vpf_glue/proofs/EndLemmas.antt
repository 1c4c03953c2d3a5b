-- The first table of entity nodes of a coverage.
use Rattle.std.proofs.Common.{◌≡◌, ℕ, suc, ◌+◌, ◌<◌, ◌≤◌, Option, None, Some, List, [], ◌∷◌, length, drop, drop-cons, get_or, refl, sym, ap, ◌∙◌, inl, inr, arith}
use Rattle.std.proofs.lemmas.Bool.{cases_lt}
use Rattle.std.proofs.Math.ListN.{drop_of_length-le}
use Rattle.std.specs.Option.{option_and_then, option_or}
use Rattle.vpf_findings.specs.declared.finding.TableName.TheVariants as names
use Rattle.vpf_head.specs.Inner.Soundness.{IsSound}
use Rattle.vpf_table.specs.Grid.{Grid}
use Rattle.vpf_prims.specs.Coverages.{CoverageTables, tile_at}
use Rattle.vpf_prims.specs.Tables.{TileTables, table_named}
use Rattle.vpf_glue.specs.GluedTables.Grids.{first_end}
use Rattle.vpf_glue.specs.Inner.Sources.{IsOfTile, table_in}

skip_one : (o : Option TileTables) (rest : List (Option TileTables)) → option_and_then (λ (T : TileTables). table_named T names.End) o ≡ None
    → first_end (o ∷ rest) ≡ first_end rest
skip_one None rest h = refl
skip_one (Some T) rest h = ap (λ (e : Option Grid). option_or e (first_end rest)) h

find_one : (o : Option TileTables) (rest : List (Option TileTables)) (end : Grid) → option_and_then (λ (T : TileTables). table_named T names.End) o ≡ Some end
    → first_end (o ∷ rest) ≡ Some end
find_one None rest end h = absurd cc
find_one (Some T) rest end h = ap (λ (e : Option Grid). option_or e (first_end rest)) h

-- a tile without such a table is passed
pub end_skipped : (c : CoverageTables) (t : ℕ) → t < length c.tiles → table_in c t names.End ≡ None → first_end (drop (t + 1) c.tiles) ≡ first_end (drop t c.tiles)
end_skipped c t lt none =
    let s : t + 1 ≡ suc t = omega arith in
    rw (s, drop-cons c.tiles t None lt) (sym (skip_one (tile_at c t) (drop (suc t) c.tiles) none))

-- the first that has one is found
pub end_found : (c : CoverageTables) (t : ℕ) (end : Grid) → t < length c.tiles → table_in c t names.End ≡ Some end → first_end (drop t c.tiles) ≡ Some end
end_found c t end lt some = rw (drop-cons c.tiles t None lt) (find_one (tile_at c t) (drop (suc t) c.tiles) end some)

-- past all tiles there is none
pub end_past : (c : CoverageTables) (t : ℕ) → length c.tiles ≤ t → first_end (drop t c.tiles) ≡ None
end_past c t past = ap first_end (drop_of_length-le c.tiles past)

pub tile_with : (o : Option TileTables) (end : Grid) → option_and_then (λ (T : TileTables). table_named T names.End) o ≡ Some end
    → (T : TileTables) × ((o ≡ Some T) × (T.tables.end ≡ Some end))
tile_with None end h = absurd cc
tile_with (Some T) end h = (T, (refl, h))

-- it is that of a tile
pub end_of_tile : (c : CoverageTables) (t : ℕ) (end : Grid) → table_in c t names.End ≡ Some end → IsSound end.head → IsOfTile (λ T. T.end) c end
end_of_tile c t end some sound =
    let f = tile_with (tile_at c t) end some in
    record { tile = t; T = f.0; has = f.1.0; table = f.1.1; sound = sound }
