-- What was read of a tree: each table is that of some bytes.
use Rattle.std.proofs.Common.{[], ◌≡◌, ℕ, List, Option, Ok, ◌+◌, Bool, true, false, cond, ◌∷◌, length, None, Some, Result, Err, refl, sym, ap, ◌∙◌, subst, nat_le}
use Rattle.vpf_table.specs.Grid.{Grid}
use Rattle.vpf_table.specs.Opening.{opened_of}
use Rattle.vpf_table.specs.Reading.{table_of}
use Rattle.std.specs.Prelude.{IfSome, codes}
use Rattle.vpf_base.specs.Bytes.{IsBytes}
use Rattle.vpf_base.specs.Limits.{most_bytes}
use Rattle.vpf_source.specs.Files.{Files, HoldsBytes}
use Rattle.vpf_triplet.specs.declared.places.Place.{Place}
use Rattle.vpf_head.specs.Head.{varies_in}
use Rattle.vpf_source.specs.Names.Indexes.{index_name}
use Rattle.vpf_prims.specs.Reading.{PrimitiveTables}
use Rattle.vpf_library_files.specs.Loading.Loading.{LoadedTable, LoadedTile, Read, ◌and_then◌, decided, graded, grid_in, loaded_file, loaded_tile, most_loaded, read_bytes, read_found, read_optional, read_optional_table, read_required, read_rest, read_table, read_table_in, read_tile, required, tabled, with_its_index, with_own_index, within}
use Rattle.vpf_library_files.specs.declared.loading.loading.LoadStop.{LoadStop}

-- what is opened, with an index or without, is read
abbrev pub OpenedIsRead : Type 0
OpenedIsRead = (bytes : List ℕ) (index : Option (List ℕ)) (g : Grid) → opened_of bytes index ≡ Ok g → table_of bytes ≡ Ok g

-- some bytes are this table
pub record ReadsGrid (g : Grid) : Type 0 where
  pub bytes : List ℕ
  pub are : IsBytes bytes
  pub read : table_of bytes ≡ Ok g

-- the same of all tables of a tile
pub record AreReadGrids (T : PrimitiveTables) : Type 0 where
  pub edg : ReadsGrid T.edg
  pub fac : ReadsGrid T.fac
  pub rng : ReadsGrid T.rng
  pub cnd : ReadsGrid T.cnd
  pub end : (grid : Grid) → T.end ≡ Some grid → ReadsGrid grid

-- one thing was read, and then another
pub record ThenOk {V W : Type 0} (first : Read V) (next : V → ℕ → Read W) (w : W) : Type 0 where
  pub value : V
  pub loaded : ℕ
  pub first_is : first ≡ (Ok value, loaded)
  pub next_is : (next value loaded).0 ≡ Ok w

pub then_ok : {V W : Type 0} (first : Read V) (next : V → ℕ → Read W) (w : W) → (first and_then next).0 ≡ Ok w → ThenOk first next w
then_ok (Ok v, n) next w h = record { value = v; loaded = n; first_is = refl; next_is = h }
then_ok (Err stop, n) next w h = absurd cc

-- what comes of two tests
if_both : {V : Type 0} (a b : Bool) (v : V) (n m k : ℕ) (e f : LoadStop) (o : V)
    → (cond {A = Read V} a (cond {A = Read V} b (Ok v, n) (Err e, m)) (Err f, k)).0 ≡ Ok o → o ≡ v
if_both true true v n m k e f o h = cc
if_both true false v n m k e f o h = absurd cc
if_both false b v n m k e f o h = absurd cc

-- a file is read whole
bytes_read : (name bytes : List ℕ) (loaded : ℕ) (o : Option (List ℕ)) → (read_bytes name bytes loaded).0 ≡ Ok o → o ≡ Some bytes
bytes_read name bytes loaded o h =
    if_both (nat_le (length bytes) most_bytes) (nat_le (loaded + length bytes) most_loaded) (Some bytes) (loaded + length bytes) loaded loaded _ _ o h

found_read : (name : List ℕ) (file : Option (List ℕ)) (loaded : ℕ) (o : Option (List ℕ)) → (read_found name file loaded).0 ≡ Ok o → o ≡ file
found_read name None loaded o h = cc
found_read name (Some bytes) loaded o h = bytes_read name bytes loaded o h

required_read : (name : List ℕ) (o : Option (List ℕ)) (n : ℕ) (bytes : List ℕ) → (required name o n).0 ≡ Ok bytes → o ≡ Some bytes
required_read name None n bytes h = absurd cc
required_read name (Some b) n bytes h = cc

file_read : (files : Files) (name : List ℕ) (loaded : ℕ) (bytes : List ℕ) → (read_required files name loaded).0 ≡ Ok bytes → files name ≡ Some bytes
file_read files name loaded bytes h =
    let t = then_ok (read_optional files name loaded) (required name) bytes h in
    sym (found_read name (files name) loaded t.value (ap (λ r. r.0) t.first_is)) ∙ required_read name t.value t.loaded bytes t.next_is

-- a table that is graded is the one of the bytes
pub record GradedOk {V : Type 0} (over : Grid → ℕ → Read V) (table : Result Grid Place) (loaded : ℕ) (v : V) : Type 0 where
  pub grid : Grid
  pub is : table ≡ Ok grid
  pub over_is : (over grid loaded).0 ≡ Ok v

graded_ok : {V : Type 0} (name : List ℕ) (over : Grid → ℕ → Read V) (table : Result Grid Place) (loaded : ℕ) (v : V)
    → (graded name over table loaded).0 ≡ Ok v → GradedOk over table loaded v
graded_ok name over (Ok grid) loaded v h = record { grid = grid; is = refl; over_is = h }
graded_ok name over (Err place) loaded v h = absurd cc

own_index_read : OpenedIsRead → (name bytes index : List ℕ) (loaded : ℕ) (table : LoadedTable) → (with_own_index name bytes index loaded).0 ≡ Ok table
    → table_of bytes ≡ Ok table.grid
own_index_read opened name bytes index loaded table h =
    let g = graded_ok (index_name name) _ (opened_of bytes (Some index)) loaded table h in
    opened bytes (Some index) g.grid g.is ∙ ap grid_of g.over_is
  where
    grid_of : Result LoadedTable LoadStop → Result Grid Place
    grid_of (Ok t) = Ok t.grid
    grid_of (Err stop) = Ok table.grid

index_read : OpenedIsRead → (files : Files) (name bytes : List ℕ) (grid : Grid) (loaded : ℕ) (table : LoadedTable) → table_of bytes ≡ Ok grid
    → (with_its_index files name bytes grid loaded).0 ≡ Ok table → table_of bytes ≡ Ok table.grid
index_read opened files name bytes grid loaded table is h = by (varies_in grid.head.columns) h
  where
    own : Result LoadedTable LoadStop → Result Grid Place
    own (Ok t) = Ok t.grid
    own (Err stop) = Ok grid

    by : (b : Bool)
        → (cond b (read_required files (index_name name) loaded and_then with_own_index name bytes)
        (Ok (record { grid = grid; files = loaded_file name bytes ∷ [] }), loaded)).0 ≡ Ok table
        → table_of bytes ≡ Ok table.grid
    by true e =
        let t = then_ok (read_required files (index_name name) loaded) (with_own_index name bytes) table e in
        own_index_read opened name bytes t.value t.loaded table t.next_is
    by false e = is ∙ ap own e

table_is_read : OpenedIsRead → (files : Files) (name bytes : List ℕ) (loaded : ℕ) (table : LoadedTable) → (read_table_in files name bytes loaded).0 ≡ Ok table
    → table_of bytes ≡ Ok table.grid
table_is_read opened files name bytes loaded table h =
    let g = graded_ok name (with_its_index files name bytes) (table_of bytes) loaded table h in
    index_read opened files name bytes g.grid loaded table g.is g.over_is

held_bytes : (files : Files) (name bytes : List ℕ) → HoldsBytes files → files name ≡ Some bytes → IsBytes bytes
held_bytes files name bytes all e = subst (λ o. IfSome o IsBytes) e (all name)

-- a table that was read is that of some bytes
pub grid_read : OpenedIsRead → (files : Files) (name : List ℕ) (loaded : ℕ) (table : LoadedTable) → HoldsBytes files
    → (read_table files name loaded).0 ≡ Ok table → ReadsGrid table.grid
grid_read opened files name loaded table all h =
    let t = then_ok (read_required files name loaded) (read_table_in files name) table h in
    let held : files name ≡ Some t.value = file_read files name loaded t.value (ap (λ r. r.0) t.first_is) in
    record { bytes = t.value; are = held_bytes files name t.value all held; read = table_is_read opened files name t.value t.loaded table t.next_is }

tabled_grid : OpenedIsRead → (files : Files) (name : List ℕ) (o : Option (List ℕ)) (loaded : ℕ) (table : LoadedTable) → IfSome o IsBytes
    → (tabled files name o loaded).0 ≡ Ok (Some table) → ReadsGrid table.grid
tabled_grid opened files name None loaded table are h = absurd cc
tabled_grid opened files name (Some bytes) loaded table are h =
    let t = then_ok (read_table_in files name bytes loaded) (λ table n. (Ok (Some table), n)) (Some table) h in
    let same : t.value ≡ table = cc in
    let read : table_of bytes ≡ Ok t.value.grid = table_is_read opened files name bytes loaded t.value (ap (λ r. r.0) t.first_is) in
    record { bytes = bytes; are = are; read = subst (λ (v : LoadedTable). table_of bytes ≡ Ok v.grid) same read }

-- so is one that may be absent
pub optional_grid : OpenedIsRead → (files : Files) (name : List ℕ) (loaded : ℕ) (table : LoadedTable) → HoldsBytes files
    → (read_optional_table files name loaded).0 ≡ Ok (Some table) → ReadsGrid table.grid
optional_grid opened files name loaded table all h =
    let t = then_ok (read_optional files name loaded) (tabled files name) (Some table) h in
    let same : t.value ≡ files name = found_read name (files name) loaded t.value (ap (λ r. r.0) t.first_is) in
    tabled_grid opened files name t.value t.loaded table (subst (λ o. IfSome o IsBytes) (sym same) (all name)) t.next_is

end_grid : OpenedIsRead → (files : Files) (name : List ℕ) (loaded : ℕ) (o : Option LoadedTable) → HoldsBytes files
    → (read_optional_table files name loaded).0 ≡ Ok o
    → (grid : Grid) → grid_in o ≡ Some grid → ReadsGrid grid
end_grid opened files name loaded None all h grid e = absurd cc
end_grid opened files name loaded (Some table) all h grid e =
    let same : table.grid ≡ grid = cc in
    subst ReadsGrid same (optional_grid opened files name loaded table all h)

rest_read : OpenedIsRead → (files : Files) (folder : List ℕ) (edg : LoadedTable) (loaded : ℕ) (tile : LoadedTile) → HoldsBytes files → ReadsGrid edg.grid
    → (read_rest files folder edg loaded).0 ≡ Ok tile → AreReadGrids tile.tables
rest_read opened files folder edg loaded tile all edges h =
    let f = then_ok (read_table files (within folder (codes "fac")) loaded) _ tile h in
    let r = then_ok (read_table files (within folder (codes "rng")) f.loaded) _ tile f.next_is in
    let n = then_ok (read_table files (within folder (codes "cnd")) r.loaded) _ tile r.next_is in
    let e = then_ok (read_optional_table files (within folder (codes "end")) n.loaded) _ tile n.next_is in
    let same : loaded_tile edg f.value r.value n.value e.value ≡ tile = cc in
    subst (λ (t : LoadedTile). AreReadGrids t.tables) same (record {
      edg = edges;
      fac = grid_read opened files (within folder (codes "fac")) loaded f.value all (ap (λ p. p.0) f.first_is);
      rng = grid_read opened files (within folder (codes "rng")) f.loaded r.value all (ap (λ p. p.0) r.first_is);
      cnd = grid_read opened files (within folder (codes "cnd")) r.loaded n.value all (ap (λ p. p.0) n.first_is);
      end = end_grid opened files (within folder (codes "end")) n.loaded e.value all (ap (λ p. p.0) e.first_is);
    })

decided_read : OpenedIsRead → (files : Files) (folder : List ℕ) (edg : Option LoadedTable) (loaded : ℕ) (tile : LoadedTile) → HoldsBytes files
    → ((table : LoadedTable) → edg ≡ Some table → ReadsGrid table.grid) → (decided files folder edg loaded).0 ≡ Ok (Some tile) → AreReadGrids tile.tables
decided_read opened files folder None loaded tile all edges h = absurd cc
decided_read opened files folder (Some table) loaded tile all edges h =
    let t = then_ok (read_rest files folder table loaded) (λ tile n. (Ok (Some tile), n)) (Some tile) h in
    let same : t.value ≡ tile = cc in
    subst (λ (v : LoadedTile). AreReadGrids v.tables) same
    (rest_read opened files folder table loaded t.value all (edges table refl) (ap (λ p. p.0) t.first_is))

-- all tables of a folder that were read are those of some bytes
pub tile_read : OpenedIsRead → (files : Files) (folder : List ℕ) (loaded : ℕ) (tile : LoadedTile) → HoldsBytes files
    → (read_tile files folder loaded).0 ≡ Ok (Some tile) → AreReadGrids tile.tables
tile_read opened files folder loaded tile all h =
    let t = then_ok (read_optional_table files (within folder (codes "edg")) loaded) (decided files folder) (Some tile) h in
    let read : (read_optional_table files (within folder (codes "edg")) loaded).0 ≡ Ok t.value = ap (λ p. p.0) t.first_is in
    decided_read opened files folder t.value t.loaded tile all
    (λ table e. optional_grid opened files (within folder (codes "edg")) loaded table all (read ∙ ap Ok e)) t.next_is
