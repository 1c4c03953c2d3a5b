-- The library of the grid of n by n cells.
use Rattle.std.specs.Prelude.{◌≡◌, ℕ, ◌≤◌, ◌*◌, ◌/◌, ◌%◌, List, [], ◌∷◌, None, Ok, map, codes}
use Rattle.std.specs.List.{All}
use Rattle.vpf_source.specs.declared.file.File.{File}
use Rattle.vpf_table.specs.Canonical.{canonical_table}
use Rattle.vpf_table.specs.Grid.{Grid}
use Rattle.vpf_table.specs.Reading.{table_of}
use Rattle.vpf_vectors.specs.Cells.Rows.{edge_rows, face_rows, ring_rows, node_rows, plan_rows}
use Rattle.vpf_prims.specs.Reading.{PrimitiveTables, primitives_of}
use Rattle.vpf_vectors.specs.Inner.GridCoverage.Coverage.{grid_primitives}
use Rattle.vpf_vectors.specs.Heads.{face_head, node_head, plan_head}
use Rattle.vpf_vectors.specs.Tables.{grid_tileref, edge_table, ring_table, pair_table}

-- how many tiles there are: two by two cells are one
unfoldable pub tiles : ℕ → ℕ
tiles n = n / 2 * (n / 2)

-- The tables under the names of their files: the tiles, the untiled coverage `g`, and the home tile of each of its faces but 1, which has none.
abbrev pub grid_tables : ℕ → List (List ℕ × Grid)
grid_tables n =
    (codes "grid/tileref/tileref.aft", grid_tileref (tiles n))
    ∷ (codes "grid/g/edg", edge_table (edge_rows n))
    ∷ (codes "grid/g/fac", pair_table face_head 1 (face_rows n))
    ∷ (codes "grid/g/rng", ring_table (ring_rows n))
    ∷ (codes "grid/g/cnd", pair_table node_head 1 (node_rows n))
    ∷ (codes "grid/g/plan", pair_table plan_head 2 (plan_rows n))
    ∷ []

-- the file of a table: its canonical bytes under its name
abbrev pub named_file : List ℕ × Grid → File
named_file t = record { name = t.0; bytes = canonical_table t.1 }

-- the files
abbrev pub grid_files : ℕ → List File
grid_files n = map named_file (grid_tables n)

-- the tables of the coverage
abbrev pub coverage_tables : ℕ → PrimitiveTables
coverage_tables n = record {
  edg = edge_table (edge_rows n);
  fac = pair_table face_head 1 (face_rows n);
  rng = ring_table (ring_rows n);
  cnd = pair_table node_head 1 (node_rows n);
  end = None;
}

-- what their rows say is the grid
abbrev pub TablesSayGrid : Type 0
TablesSayGrid = (n : ℕ) → primitives_of (coverage_tables n) ≡ grid_primitives n

-- the bytes of each file are read as its table
abbrev pub GridIsRead : Type 0
GridIsRead = (n : ℕ) → n % 2 ≡ 0 → 2 ≤ n → n ≤ 200 → All (λ t. table_of (canonical_table t.1) ≡ Ok t.1) (grid_tables n)
