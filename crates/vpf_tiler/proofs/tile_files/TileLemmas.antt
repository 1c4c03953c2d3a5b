-- The tables of a tile that are added one behind another.
use Rattle.std.proofs.Common.{ℕ, List, [], ◌∷◌, ◌++◌, Option, None, Some, Result, Err}
use Rattle.std.specs.Prelude.{codes}
use Rattle.vpf_source.specs.declared.file.File.{File}
use Rattle.vpf_table.specs.Grid.{Grid}
use Rattle.vpf_write.specs.Writing.{Writes}
use Rattle.vpf_write.specs.declared.writing.WriteError.{WriteError}
use Rattle.vpf_prims.specs.Primitives.{Primitives}
use Rattle.vpf_prims.specs.Reading.{PrimitiveTables}
use Rattle.vpf_primitive_tables.specs.TileTables.Grids.{WritesWhere, entities_made}
use Rattle.vpf_library_files.specs.declared.table_files.errors.AddError.{AddError}
use Rattle.vpf_library_files.specs.TableFiles.Adding.{Adds, AreAdded, FailsAdding, NamedTable, table_within}
use Rattle.vpf_tiler.specs.TileFiles.Tables.{tile_edge_table, entity_tables, face_table, node_table, tile_ring_table, tile_tables}
use Rattle.vpf_library_files.specs.Inner.TableFiles.AddLaws.{adds_then, fails_first, fails_then}

-- the table of entity nodes isn't written, since it passes a limit
pub entities_fail : {V : Type 0} (folder : List ℕ) (end : Option Grid) (c : Primitives) (plan : ℕ → ℕ) (t : ℕ) (error : WriteError) (old new : List File) (r : Result V AddError)
    → WritesWhere end (λ grid. entities_made grid c plan t) (Err error)
    → ((grid : Grid) → Writes grid (Err error) → Adds (table_within folder (codes "end") grid ∷ []) old new r)
    → Adds (entity_tables folder end c plan t) old new r
entities_fail folder None c plan t error old new r writes adds = absurd cc
entities_fail folder (Some grid) c plan t error old new r writes adds = adds (entities_made grid c plan t) writes

-- the table of edges isn't added
pub edges_fail : (folder : List ℕ) (tables : PrimitiveTables) (c : Primitives) (plan : ℕ → ℕ) (t : ℕ) (e : AddError)
    → FailsAdding (tile_edge_table folder tables c plan t ∷ []) e → FailsAdding (tile_tables folder tables c plan t) e
edges_fail folder tables c plan t e a =
    fails_first (tile_edge_table folder tables c plan t ∷ [])
    (face_table folder tables c plan t ∷ tile_ring_table folder tables c plan t ∷ node_table folder tables c plan t ∷ entity_tables folder tables.end c plan t) e a

-- that of faces isn't
pub faces_fail : (folder : List ℕ) (tables : PrimitiveTables) (c : Primitives) (plan : ℕ → ℕ) (t : ℕ) (e : AddError) (f0 f1 : List File)
    → AreAdded (tile_edge_table folder tables c plan t ∷ []) f0 f1 → FailsAdding (face_table folder tables c plan t ∷ []) e → FailsAdding (tile_tables folder tables c plan t) e
faces_fail folder tables c plan t e f0 f1 a b =
    let later : List NamedTable = tile_ring_table folder tables c plan t ∷ node_table folder tables c plan t ∷ entity_tables folder tables.end c plan t in
    let faces : List NamedTable = face_table folder tables c plan t ∷ [] in
    fails_then (tile_edge_table folder tables c plan t ∷ []) (faces ++ later) f0 f1 e a (fails_first faces later e b)

-- that of rings
pub rings_fail : (folder : List ℕ) (tables : PrimitiveTables) (c : Primitives) (plan : ℕ → ℕ) (t : ℕ) (e : AddError) (f0 f1 f2 : List File)
    → AreAdded (tile_edge_table folder tables c plan t ∷ []) f0 f1 → AreAdded (face_table folder tables c plan t ∷ []) f1 f2
    → FailsAdding (tile_ring_table folder tables c plan t ∷ []) e → FailsAdding (tile_tables folder tables c plan t) e
rings_fail folder tables c plan t e f0 f1 f2 a b d =
    let later : List NamedTable = node_table folder tables c plan t ∷ entity_tables folder tables.end c plan t in
    let rings : List NamedTable = tile_ring_table folder tables c plan t ∷ [] in
    let faces : List NamedTable = face_table folder tables c plan t ∷ [] in
    fails_then (tile_edge_table folder tables c plan t ∷ []) (faces ++ (rings ++ later)) f0 f1 e a
    (fails_then faces (rings ++ later) f1 f2 e b (fails_first rings later e d))

-- that of nodes
pub nodes_fail : (folder : List ℕ) (tables : PrimitiveTables) (c : Primitives) (plan : ℕ → ℕ) (t : ℕ) (e : AddError) (f0 f1 f2 f3 : List File)
    → AreAdded (tile_edge_table folder tables c plan t ∷ []) f0 f1 → AreAdded (face_table folder tables c plan t ∷ []) f1 f2
    → AreAdded (tile_ring_table folder tables c plan t ∷ []) f2 f3 → FailsAdding (node_table folder tables c plan t ∷ []) e → FailsAdding (tile_tables folder tables c plan t) e
nodes_fail folder tables c plan t e f0 f1 f2 f3 a b d n =
    let later : List NamedTable = entity_tables folder tables.end c plan t in
    let nodes : List NamedTable = node_table folder tables c plan t ∷ [] in
    let rings : List NamedTable = tile_ring_table folder tables c plan t ∷ [] in
    let faces : List NamedTable = face_table folder tables c plan t ∷ [] in
    fails_then (tile_edge_table folder tables c plan t ∷ []) (faces ++ (rings ++ (nodes ++ later))) f0 f1 e a
    (fails_then faces (rings ++ (nodes ++ later)) f1 f2 e b (fails_then rings (nodes ++ later) f2 f3 e d (fails_first nodes later e n)))

-- these four are added, and that of entity nodes is or isn't
pub tile_adds : {V : Type 0} (folder : List ℕ) (tables : PrimitiveTables) (c : Primitives) (plan : ℕ → ℕ) (t : ℕ) (f0 f1 f2 f3 f4 new : List File) (r : Result V AddError)
    → AreAdded (tile_edge_table folder tables c plan t ∷ []) f0 f1 → AreAdded (face_table folder tables c plan t ∷ []) f1 f2
    → AreAdded (tile_ring_table folder tables c plan t ∷ []) f2 f3 → AreAdded (node_table folder tables c plan t ∷ []) f3 f4
    → Adds (entity_tables folder tables.end c plan t) f4 new r → Adds (tile_tables folder tables c plan t) f0 new r
tile_adds folder tables c plan t f0 f1 f2 f3 f4 new r a b d n rest =
    let later : List NamedTable = entity_tables folder tables.end c plan t in
    let nodes : List NamedTable = node_table folder tables c plan t ∷ [] in
    let rings : List NamedTable = tile_ring_table folder tables c plan t ∷ [] in
    let faces : List NamedTable = face_table folder tables c plan t ∷ [] in
    adds_then (tile_edge_table folder tables c plan t ∷ []) (faces ++ (rings ++ (nodes ++ later))) f0 f1 new r a
    (adds_then faces (rings ++ (nodes ++ later)) f1 f2 new r b
    (adds_then rings (nodes ++ later) f2 f3 new r d (adds_then nodes later f3 f4 new r n rest)))
