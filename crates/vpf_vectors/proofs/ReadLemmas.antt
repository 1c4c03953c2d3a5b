-- The tables of the grid can be written, and so are read again.
use Rattle.std.proofs.Common.{◌≡◌, ℕ, ◌+◌, ◌≤◌, List, [], ◌∷◌, length, map, Ok, arith}
use Rattle.std.specs.List.{All, AllByRecursion, enumerate_from}
use Rattle.std.proofs.lemmas.List.Elements.{All-from_recursion, recursion_from_All}
use Rattle.vpf_head.specs.Head.{Head}
use Rattle.vpf_head.specs.Reading.{header_of}
use Rattle.vpf_head.specs.Inner.Soundness.{IsSound}
use Rattle.vpf_table.specs.Canonical.{FitsRow, IsWritable}
use Rattle.vpf_table.specs.Grid.{Row}
use Rattle.vpf_vectors.specs.declared.cells.rows.EdgeRow.{EdgeRow}
use Rattle.vpf_vectors.specs.declared.cells.rows.RingRow.{RingRow}
use Rattle.vpf_vectors.specs.declared.headers.TheConstants.{TILEREF, EDGES, RINGS}
use Rattle.vpf_vectors.specs.Heads.{plain_head, ids, numbers, tileref_head, edge_head, ring_head}
use Rattle.vpf_vectors.specs.Tables.{tile_cells, edge_cells, ring_cells, pair_cells, grid_tileref, edge_table, ring_table, pair_table}
use Rattle.vpf_vectors.specs.Inner.Writing.{IsGridNumber, IsSmallEdge, IsSmallRingRow}
use Rattle.vpf_vectors.proofs.CellLemmas.{number_fits, tile_fits, edge_fits}
use Rattle.vpf_vectors.proofs.HeadLemmas.{tileref_read, edges_read, rings_read}
use Rattle.vpf_vectors.proofs.SmallLemmas.{each_mapped}

-- what is read is sound
abbrev pub ReadIsSound : Type 0
ReadIsSound = (bytes : List ℕ) (h : Head) (start : ℕ) → header_of bytes ≡ Ok (h, start) → IsSound h

-- what is so of each item is so of its row with an id
numbered : {X : Type 0} (P : X → Type 0) (F : Row → Type 0) (f : ℕ × X → Row) → ((id : ℕ) (x : X) → IsGridNumber id → P x → F (f (id, x)))
    → (first : ℕ) (xs : List X) → first + length xs ≤ 100001 → AllByRecursion P xs → AllByRecursion F (map f (enumerate_from first xs))
numbered P F f fit first [] h all = tt
numbered P F f fit first (x ∷ xs) h all = (fit first x (omega arith) all.0, numbered P F f fit (first + 1) xs (omega arith) all.1)

rows_fit : {X : Type 0} (P : X → Type 0) (F : Row → Type 0) (f : ℕ × X → Row) → ((id : ℕ) (x : X) → IsGridNumber id → P x → F (f (id, x)))
    → (first : ℕ) (xs : List X) → first + length xs ≤ 100001 → All P xs → All F (map f (enumerate_from first xs))
rows_fit P F f fit first xs h all = All-from_recursion F (map f (enumerate_from first xs)) (numbered P F f fit first xs h (recursion_from_All P xs all))

pub tileref_is_writable : ReadIsSound → (tiles : ℕ) → tiles ≤ 100000 → IsWritable (grid_tileref tiles)
tileref_is_writable sound tiles h = record {
  sound = sound TILEREF.now tileref_head 62 tileref_read;
  fits = each_mapped (FitsRow tileref_head.columns) tile_cells 1 tiles (λ k low high. tile_fits k (omega arith));
}

pub edges_are_writable : ReadIsSound → (rows : List EdgeRow) → length rows ≤ 100000 → All IsSmallEdge rows → IsWritable (edge_table rows)
edges_are_writable sound rows few small = record {
  sound = sound EDGES.now edge_head 234 edges_read;
  fits = rows_fit IsSmallEdge (FitsRow edge_head.columns) edge_cells edge_fits 1 rows (omega arith) small;
}

ring_fits : (id : ℕ) (r : RingRow) → IsGridNumber id → IsSmallRingRow r → FitsRow ring_head.columns (ring_cells (id, r))
ring_fits id r h s = (number_fits id h, (number_fits r.face_id s.face_id, (number_fits r.start_edge s.start_edge, tt)))

pub rings_are_writable : ReadIsSound → (rows : List RingRow) → length rows ≤ 100000 → All IsSmallRingRow rows → IsWritable (ring_table rows)
rings_are_writable sound rows few small = record {
  sound = sound RINGS.now ring_head 89 rings_read;
  fits = rows_fit IsSmallRingRow (FitsRow ring_head.columns) ring_cells ring_fits 1 rows (omega arith) small;
}

pair_fits : (id_text name text : List ℕ) (id value : ℕ) → IsGridNumber id → IsGridNumber value → FitsRow (ids id_text ∷ numbers name text ∷ []) (pair_cells (id, value))
pair_fits id_text name text id value h s = (number_fits id h, (number_fits value s, tt))

pub pairs_are_writable : ReadIsSound → (description id name text bytes : List ℕ) (start first : ℕ) (values : List ℕ)
    → header_of bytes ≡ Ok (plain_head description (ids id ∷ numbers name text ∷ []), start) → first + length values ≤ 100000 → All IsGridNumber values
    → IsWritable (pair_table (plain_head description (ids id ∷ numbers name text ∷ [])) first values)
pairs_are_writable sound description id name text bytes start first values read few small = record {
  sound = sound bytes (plain_head description (ids id ∷ numbers name text ∷ [])) start read;
  fits = rows_fit IsGridNumber (FitsRow (ids id ∷ numbers name text ∷ [])) pair_cells (pair_fits id name text) first values (omega arith) small;
}
