-- The rows of a schema table in the code, each with the index of the keys that it joins.
use Rattle.std.specs.Prelude.{ℕ, ◌<◌, List, map, IfSome}
use Rattle.std.specs.List.{flat_map}
use Rattle.vpf_table.specs.Grid.{Row}
use Rattle.vpf_prims.specs.References.{cell_at}
use Rattle.vpf_joins.specs.Keys.Keys.{rows_with}
use Rattle.vpf_joins.specs.declared.features.Primitive.{Primitive}
use Rattle.vpf_joins.specs.declared.joining.Join.{Join}
use Rattle.vpf_joins.specs.Joining.{primitive_at}

-- the primitives that one joins to the feature in a row
abbrev pub answer_of : Row → Join → List Primitive
answer_of row join = map (primitive_at join.table) (rows_with (cell_at row join.place) join.index)

-- those that all of them join to it
abbrev pub answers_of : List Join → Row → List Primitive
answers_of joins row = flat_map (answer_of row) joins

-- its key column is one of the first n
abbrev pub IsKeyWithin : ℕ → Join → Type 0
IsKeyWithin n join = IfSome join.place (λ c. c < n)
