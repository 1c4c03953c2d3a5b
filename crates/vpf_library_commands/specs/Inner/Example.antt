-- An example: three edges between two nodes, and two faces beside the universe. It is well formed; and where its second face names the
-- third ring as its first, that is found.
use Rattle.std.specs.Prelude.{◌≡◌, ℕ, pos, List, [], ◌∷◌, map, None, Some, codes}
use Rattle.vpf_base.specs.declared.orders.Order.TheVariants.{Little}
use Rattle.vpf_triplet.specs.declared.kinds.Kind.TheVariants.{I}
use Rattle.vpf_triplet.specs.declared.kinds.Count.TheVariants.{Fixed}
use Rattle.vpf_value.specs.Values.{NumberOf}
use Rattle.vpf_head.specs.declared.columns.Key.TheVariants.{Many}
use Rattle.vpf_head.specs.Head.{Col}
use Rattle.vpf_table.specs.Grid.{Row, Grid}
use Rattle.vpf_findings.specs.declared.finding.TableName.TheVariants.{Fac}
use Rattle.vpf_findings.specs.Findings.{NumberSeen}
use Rattle.vpf_prims.specs.Reading.{PrimitiveTables, primitives_of}
use Rattle.vpf_prims.specs.Coverages.{CoverageTables, untiled_coverage}
use Rattle.vpf_prims.specs.Suiting.{HasColumns}
use Rattle.vpf_prims.specs.Tables.{TileTables}
use Rattle.vpf_wing.specs.WellFormed.{IsWellFormed}
use Rattle.vpf_library_commands.specs.Check.{coverage_finding}

-- a column of numbers
abbrev pub numbers_column : List ℕ → Col
numbers_column name = record { name = name; kind = I; count = Fixed 1; key = Many; description = codes "-"; values = None; theme = None; narrative = None }

-- a row of numbers
abbrev pub numbers_row : List ℕ → Row
numbers_row numbers = map (λ n. NumberOf (pos n)) numbers

-- a table of numbers, by the names of its columns and its rows
abbrev pub numbers_table : List (List ℕ) → List (List ℕ) → Grid
numbers_table names rows = record {
  head = record { order = Little; description = codes "Table"; narrative = None; columns = map numbers_column names };
  rows = map numbers_row rows;
}

-- the edges: id, nodes, faces and wings
abbrev pub example_edges : Grid
example_edges =
    numbers_table (codes "id" ∷ codes "start_node" ∷ codes "end_node" ∷ codes "right_face" ∷ codes "left_face" ∷ codes "right_edge" ∷ codes "left_edge" ∷ [])
    ((1 ∷ 1 ∷ 2 ∷ 2 ∷ 1 ∷ 3 ∷ 2 ∷ []) ∷ (2 ∷ 2 ∷ 1 ∷ 3 ∷ 1 ∷ 3 ∷ 1 ∷ []) ∷ (3 ∷ 1 ∷ 2 ∷ 3 ∷ 2 ∷ 2 ∷ 1 ∷ []) ∷ [])

-- the tables, where the second face names this ring as its first
abbrev pub example_with : ℕ → PrimitiveTables
example_with ring = record {
  edg = example_edges;
  fac = numbers_table (codes "id" ∷ codes "ring_ptr" ∷ []) ((1 ∷ 1 ∷ []) ∷ (2 ∷ ring ∷ []) ∷ (3 ∷ 3 ∷ []) ∷ []);
  rng = numbers_table (codes "id" ∷ codes "face_id" ∷ codes "start_edge" ∷ []) ((1 ∷ 1 ∷ 1 ∷ []) ∷ (2 ∷ 2 ∷ 1 ∷ []) ∷ (3 ∷ 3 ∷ 2 ∷ []) ∷ []);
  cnd = numbers_table (codes "id" ∷ codes "first_edge" ∷ []) ((1 ∷ 1 ∷ []) ∷ (2 ∷ 1 ∷ []) ∷ []);
  end = None;
}

-- they are all that was read of a tile
abbrev pub example_tile : ℕ → TileTables
example_tile ring = record { first = 0; tables = example_with ring }

-- and of an untiled coverage
abbrev pub example_coverage : ℕ → CoverageTables
example_coverage ring = untiled_coverage (example_tile ring)

-- the example is well formed
abbrev pub ExampleIsWellFormed : Type 0
ExampleIsWellFormed = HasColumns (example_with 2) × IsWellFormed (primitives_of (example_with 2))

-- nothing is found in it, and the wrong first ring is
abbrev pub ExampleIsFound : Type 0
ExampleIsFound = (coverage_finding (example_coverage 2) ≡ None)
    × (coverage_finding (example_coverage 3) ≡ Some (record { rule = 3; tile = 0; table = Fac; file = 1; row = 2; column = codes "ring_ptr"; found = NumberSeen (pos 3); wanted = NumberSeen (pos 2) }))
