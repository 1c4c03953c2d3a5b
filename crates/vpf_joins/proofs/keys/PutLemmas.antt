-- The key cells of rows, one after another.
use Rattle.std.proofs.Common.{◌≡◌, ℕ, ◌+◌, List, [], ◌∷◌, ◌++◌, map, Some, append_assoc}
use Rattle.std.specs.Prelude.{slice_get, slice_index_or}
use Rattle.std.proofs.lemmas.List.{map-append}
use Rattle.std.proofs.lemmas.Option.{get_or_from_slice_get}
use Rattle.vpf_value.specs.Values.{Value, Nothing, view}
use Rattle.vpf_table.specs.Grid.{Row}
use Rattle.vpf_joins.specs.declared.keys.keyed.KeyedRow.{KeyedRow}
use Rattle.vpf_joins.specs.Keys.Keys.{Keyed, keyed_from, keyed_of}

-- the cell of a row at the position of a column
abbrev pub cell_in : ℕ → Row → Value
cell_in c row = slice_index_or row c Nothing

pub keyed_more : (c k tile : ℕ) (items more : List KeyedRow) (new : KeyedRow) (row : Row) (rows rest : List Row) (whole : List Keyed) → more ≡ items ++ new ∷ [] → slice_get row c ≡ Some (view new.key)
    → new.at ≡ record { tile = tile; row = k + 1 } → rows ≡ row ∷ rest → map keyed_of items ++ keyed_from tile (k + 1) (map (cell_in c) rows) ≡ whole → map keyed_of more ++ keyed_from tile (k + 1 + 1) (map (cell_in c) rest) ≡ whole
keyed_more c k tile items more new row rows rest whole pushed is place steps done =
    let e : cell_in c row ≡ view new.key = get_or_from_slice_get row c (view new.key) Nothing is in
    let d = rw (steps, e, ← place) at done in
    rw (pushed, map-append keyed_of items (new ∷ []), append_assoc) d
