-- The tables of a tiled library can be written, where none passes a limit.
use Rattle.std.proofs.Common.{◌≡◌, ℕ, zero, suc, ◌+◌, ◌≤◌, Bool, true, false, cond, List, [], ◌∷◌, ◌++◌, length, Option, None, Some, refl}
use Rattle.std.proofs.Common.{sym, ap, ◌∙◌, subst, inl, inr, arith, nat_lt}
use Rattle.std.specs.List.{AllByRecursion, flat_map, range_with_len}
use Rattle.std.specs.Option.{option_map}
use Rattle.std.specs.Prelude.{codes}
use Rattle.vpf_base.specs.Limits.{longest_text, most_rows}
use Rattle.std.proofs.lemmas.Bool.{cases_lt, lt-ltb}
use Rattle.vpf_triplet.specs.declared.places.Part.{Part}
use Rattle.vpf_head.specs.Canonical.{canonical_text}
use Rattle.vpf_head.specs.Head.{varies_in}
use Rattle.vpf_table.specs.Canonical.{IsWritable, canonical_table}
use Rattle.vpf_table.specs.Grid.{Grid}
use Rattle.vpf_table.specs.declared.limit.Limit.{Limit as Passed}
use Rattle.vpf_findings.specs.Inner.FirstLaws.{or-assoc, or-none_both}
use Rattle.vpf_findings.specs.Firsts.{◌or◌}
use Rattle.vpf_write.specs.Writing.{first_limit, limit_by}
use Rattle.vpf_prims.specs.Lists.{kth}
use Rattle.vpf_prims.specs.Primitives.{Primitives}
use Rattle.vpf_prims.specs.Reading.{PrimitiveTables, primitives_of}
use Rattle.vpf_library_files.specs.Loading.Loading.{within}
use Rattle.vpf_tiling.specs.Tiles.{is_made}
use Rattle.vpf_primitive_tables.specs.TileTables.Grids.{edges_made, entities_made, faces_made, nodes_made, rings_made}
use Rattle.vpf_library_files.specs.TableFiles.Adding.{NamedTable, first_limit_of, named_limit, table_within}
use Rattle.vpf_tiler.specs.TileFiles.Tables.{all_tile_tables, tile_edge_table, entity_tables, face_table, node_table, tile_ring_table, tables_if_made, tile_tables}
use Rattle.vpf_primitive_tables.specs.Inner.TileReading.Cuts.{tables_of_tile}
use Rattle.vpf_primitive_tables.specs.Inner.TileWriting.Writable.{AreWritable, HaveFewRows}

-- a table that can be written
abbrev pub CanWrite : NamedTable → Type 0
CanWrite table = IsWritable table.grid

-- a table that passes no limit has few rows
rows_are_few : (text rows size : ℕ) (varies : Bool) → limit_by text rows size varies ≡ None → rows ≤ most_rows
unfolding limit_by
rows_are_few text rows size varies h = elim (cases_lt most_rows rows) [
  | inl over ↦ absurd (by (nat_lt longest_text text) (nat_lt most_rows rows) _ _ _ (lt-ltb most_rows rows over) h)
  | inr fits ↦ fits
]
  where
    by : (a b : Bool) (x y : Part × Passed) (z : Option (Part × Passed)) → b ≡ true
        → cond {A = Option (Part × Passed)} a (Some x) (cond {A = Option (Part × Passed)} b (Some y) z) ≡ None → ⊥
    by true b x y z e h = cc
    by false true x y z e h = cc
    by false false x y z e h = cc

no_limit : (name : List ℕ) (stop : Option (Part × Passed)) → named_limit name stop ≡ None → stop ≡ None
no_limit name None h = refl
no_limit name (Some stop) h = absurd cc

few_rows : (g : Grid) → first_limit g ≡ None → length g.rows ≤ most_rows
few_rows g h = rows_are_few (length (canonical_text g.head)) (length g.rows) (length (canonical_table g)) (varies_in g.head.columns) h

-- none of several tables passes a limit: neither the first, nor the others
pub first_and_others : (table : NamedTable) (tables : List NamedTable) → first_limit_of (table ∷ tables) ≡ None
    → (first_limit table.grid ≡ None) × (first_limit_of tables ≡ None)
first_and_others table tables h =
    let both = or-none_both (named_limit table.name (first_limit table.grid)) (first_limit_of tables) h in
    (no_limit table.name (first_limit table.grid) both.0, both.1)

limits_append : (xs ys : List NamedTable) → first_limit_of (xs ++ ys) ≡ (first_limit_of xs or first_limit_of ys)
limits_append [] ys = refl
limits_append (x ∷ xs) ys =
    ap (λ o. named_limit x.name (first_limit x.grid) or o) (limits_append xs ys)
    ∙ sym (or-assoc (named_limit x.name (first_limit x.grid)) (first_limit_of xs) (first_limit_of ys))

all_append : (xs ys : List NamedTable) → AllByRecursion CanWrite xs → AllByRecursion CanWrite ys → AllByRecursion CanWrite (xs ++ ys)
all_append [] ys a b = b
all_append (x ∷ xs) ys a b = (a.0, all_append xs ys a.1 b)

-- ---- the tables of one tile

ends_few : (folder : List ℕ) (c : Primitives) (plan : ℕ → ℕ) (t : ℕ) (end : Option Grid) → first_limit_of (entity_tables folder end c plan t) ≡ None
    → (grid : Grid) → option_map (λ (g : Grid). entities_made g c plan t) end ≡ Some grid → length grid.rows ≤ most_rows
ends_few folder c plan t None none grid e = absurd cc
ends_few folder c plan t (Some g) none grid e =
    let made : Grid = entities_made g c plan t in
    let same : made ≡ grid = cc in
    subst (λ (x : Grid). length x.rows ≤ most_rows) same (few_rows made (first_and_others (table_within folder (codes "end") made) [] none).0)

ends_writable : (folder : List ℕ) (c : Primitives) (plan : ℕ → ℕ) (t : ℕ) (end : Option Grid)
    → ((grid : Grid) → option_map (λ (g : Grid). entities_made g c plan t) end ≡ Some grid → IsWritable grid)
    → AllByRecursion CanWrite (entity_tables folder end c plan t)
ends_writable folder c plan t None h = tt
ends_writable folder c plan t (Some g) h = (h (entities_made g c plan t) refl, tt)

-- where none passes a limit, none has too many rows
tile_few : (folder : List ℕ) (T : PrimitiveTables) (plan : ℕ → ℕ) (t : ℕ) → first_limit_of (tile_tables folder T (primitives_of T) plan t) ≡ None
    → HaveFewRows (tables_of_tile T plan t)
tile_few folder T plan t none =
    let c : Primitives = primitives_of T in
    let nodes : List NamedTable = node_table folder T c plan t ∷ entity_tables folder T.end c plan t in
    let rings : List NamedTable = tile_ring_table folder T c plan t ∷ nodes in
    let faces : List NamedTable = face_table folder T c plan t ∷ rings in
    let e = first_and_others (tile_edge_table folder T c plan t) faces none in
    let f = first_and_others (face_table folder T c plan t) rings e.1 in
    let r = first_and_others (tile_ring_table folder T c plan t) nodes f.1 in
    let n = first_and_others (node_table folder T c plan t) (entity_tables folder T.end c plan t) r.1 in
    record {
      edg = few_rows (edges_made T.edg c plan t) e.0;
      fac = few_rows (faces_made T.fac c plan t) f.0;
      rng = few_rows (rings_made T.rng c plan t) r.0;
      cnd = few_rows (nodes_made T.cnd c plan t) n.0;
      end = ends_few folder c plan t T.end n.1;
    }

-- what it takes for the tables of each tile to be written
abbrev pub TileCanWrite : PrimitiveTables → (ℕ → ℕ) → ℕ → Type 0
TileCanWrite T plan tiles = (t : ℕ) → 1 ≤ t → t ≤ tiles → HaveFewRows (tables_of_tile T plan t) → AreWritable (tables_of_tile T plan t)

tile_written : (folder : List ℕ) (T : PrimitiveTables) (plan : ℕ → ℕ) (t : ℕ) → AreWritable (tables_of_tile T plan t)
    → AllByRecursion CanWrite (tile_tables folder T (primitives_of T) plan t)
tile_written folder T plan t w = (w.edg, (w.fac, (w.rng, (w.cnd, ends_writable folder (primitives_of T) plan t T.end w.end))))

made_written : (cov : List ℕ) (paths : List (List ℕ)) (T : PrimitiveTables) (plan : ℕ → ℕ) (tiles t : ℕ) → TileCanWrite T plan tiles → 1 ≤ t → t ≤ tiles
    → first_limit_of (tables_if_made cov paths T (primitives_of T) plan tiles t) ≡ None
    → AllByRecursion CanWrite (tables_if_made cov paths T (primitives_of T) plan tiles t)
made_written cov paths T plan tiles t can one last none = by (is_made (primitives_of T) plan tiles t) none
  where
    tables : List NamedTable
    tables = tile_tables (within cov (kth paths t [])) T (primitives_of T) plan t

    by : (b : Bool) → first_limit_of (cond b tables []) ≡ None → AllByRecursion CanWrite (cond b tables [])
    by true e = tile_written (within cov (kth paths t [])) T plan t (can t one last (tile_few (within cov (kth paths t [])) T plan t e))
    by false e = tt

-- ---- the tables of all tiles

tiles_from : (cov : List ℕ) (paths : List (List ℕ)) (T : PrimitiveTables) (plan : ℕ → ℕ) (tiles : ℕ) → TileCanWrite T plan tiles → (t many : ℕ) → 1 ≤ t
    → t + many ≤ suc tiles
    → first_limit_of (flat_map (tables_if_made cov paths T (primitives_of T) plan tiles) (range_with_len t many)) ≡ None
    → AllByRecursion CanWrite (flat_map (tables_if_made cov paths T (primitives_of T) plan tiles) (range_with_len t many))
tiles_from cov paths T plan tiles can t zero one last none = tt
tiles_from cov paths T plan tiles can t (suc many) one last none =
    let made : ℕ → List NamedTable = tables_if_made cov paths T (primitives_of T) plan tiles in
    let rest : List NamedTable = flat_map made (range_with_len (t + 1) many) in
    let both = or-none_both (first_limit_of (made t)) (first_limit_of rest) (sym (limits_append (made t) rest) ∙ none) in
    all_append (made t) rest (made_written cov paths T plan tiles t can one (omega arith) both.0)
    (tiles_from cov paths T plan tiles can (t + 1) many (omega arith) (omega arith) both.1)

-- where no table of the tiles passes a limit, each can be written
pub all_written : (cov : List ℕ) (paths : List (List ℕ)) (T : PrimitiveTables) (plan : ℕ → ℕ) (tiles : ℕ) → TileCanWrite T plan tiles
    → first_limit_of (all_tile_tables cov paths T (primitives_of T) plan tiles) ≡ None
    → AllByRecursion CanWrite (all_tile_tables cov paths T (primitives_of T) plan tiles)
all_written cov paths T plan tiles can none = tiles_from cov paths T plan tiles can 1 tiles (omega arith) (omega arith) none
