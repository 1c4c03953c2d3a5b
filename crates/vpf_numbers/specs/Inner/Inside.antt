-- What is kept of what is known around a tile.
use Rattle.std.specs.Prelude.{◌≡◌, map}
use Rattle.std.specs.Option.{option_map}
use Rattle.vpf_numbers.specs.declared.around.Around.TheInside.{Inside}
use Rattle.vpf_prims.specs.Inner.Views.{tables_in_view}
use Rattle.vpf_numbers.specs.Around.{Around, columns_in_view, model_edg, model_fac, model_rng, model_cnd, model_end}

-- the tables of all tiles
abbrev pub around_in : Inside → Around
around_in h = record { is_tiled = h.is_tiled; tiles = map (option_map tables_in_view) h.tiles.now }

-- the headers that are kept are those of the first tile that has each table
pub record HasModels (h : Inside) : Type 0 where
  pub edg : columns_in_view h.edg ≡ model_edg (around_in h)
  pub fac : columns_in_view h.fac ≡ model_fac (around_in h)
  pub rng : columns_in_view h.rng ≡ model_rng (around_in h)
  pub cnd : columns_in_view h.cnd ≡ model_cnd (around_in h)
  pub end : columns_in_view h.end ≡ model_end (around_in h)
