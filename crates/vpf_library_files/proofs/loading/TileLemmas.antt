-- What reading the tables of a folder comes to, table by table.
use Rattle.std.proofs.Common.{◌≡◌, ◌∙◌, ℕ, Bool, true, false, List, [], ◌++◌, Option, Some, None, Ok, refl, sym, ap, append_assoc}
use Rattle.std.specs.Prelude.{codes}
use Rattle.std.proofs.lemmas.List.{append-nil}
use Rattle.vpf_source.specs.Files.{Files}
use Rattle.vpf_source.specs.declared.file.File.{File}
use Rattle.vpf_library_files.specs.declared.loading.loading.LoadStop.{LoadStop}
use Rattle.vpf_library_files.specs.Loading.Loading.{LoadedTable, LoadedTile, files_in, loaded_tile, read_optional_table, read_rest, read_table, read_tile, within}
use Rattle.vpf_library_files.specs.Loading.Loads.{AddsOption, AddsRest, AddsTable, AddsTile, Comes, ReadsStop}
use Rattle.vpf_library_files.proofs.loading.LoadLemmas.{stops_all}

-- the stop of the rings, of the nodes and of the entity nodes
pub rng_stops : (held : Files) (folder : List ℕ) (n0 n1 n2 : ℕ) (stop : LoadStop) (edg fac : LoadedTable)
    → read_table held (within folder (codes "fac")) n0 ≡ (Ok fac, n1)
    → ReadsStop stop n2 (read_table held (within folder (codes "rng")) n1) → ReadsStop stop n2 (read_rest held folder edg n0)
rng_stops held folder n0 n1 n2 stop edg fac e0 h = rw e0 (stops_all stop n2 _ _ h)

pub cnd_stops : (held : Files) (folder : List ℕ) (n0 n1 n2 n3 : ℕ) (stop : LoadStop) (edg fac rng : LoadedTable)
    → read_table held (within folder (codes "fac")) n0 ≡ (Ok fac, n1)
    → read_table held (within folder (codes "rng")) n1 ≡ (Ok rng, n2)
    → ReadsStop stop n3 (read_table held (within folder (codes "cnd")) n2) → ReadsStop stop n3 (read_rest held folder edg n0)
cnd_stops held folder n0 n1 n2 n3 stop edg fac rng e0 e1 h = rw (e0, e1) (stops_all stop n3 _ _ h)

pub end_stops : (held : Files) (folder : List ℕ) (n0 n1 n2 n3 n4 : ℕ) (stop : LoadStop) (edg fac rng cnd : LoadedTable)
    → read_table held (within folder (codes "fac")) n0 ≡ (Ok fac, n1)
    → read_table held (within folder (codes "rng")) n1 ≡ (Ok rng, n2)
    → read_table held (within folder (codes "cnd")) n2 ≡ (Ok cnd, n3)
    → ReadsStop stop n4 (read_optional_table held (within folder (codes "end")) n3) → ReadsStop stop n4 (read_rest held folder edg n0)
end_stops held folder n0 n1 n2 n3 n4 stop edg fac rng cnd e0 e1 e2 h = rw (e0, e1, e2) (stops_all stop n4 _ _ h)

-- all of them were read
pub rest_read : (held : Files) (folder : List ℕ) (n0 n1 n2 n3 n4 : ℕ) (edg fac rng cnd : LoadedTable) (end : Option LoadedTable)
    → read_table held (within folder (codes "fac")) n0 ≡ (Ok fac, n1)
    → read_table held (within folder (codes "rng")) n1 ≡ (Ok rng, n2)
    → read_table held (within folder (codes "cnd")) n2 ≡ (Ok cnd, n3)
    → read_optional_table held (within folder (codes "end")) n3 ≡ (Ok end, n4)
    → read_rest held folder edg n0 ≡ (Ok (loaded_tile edg fac rng cnd end), n4)
rest_read held folder n0 n1 n2 n3 n4 edg fac rng cnd end e0 e1 e2 e3 = rw (e0, e1, e2, e3) refl

-- files that were put behind one another
put_behind : (all before a b c d : List File) (v w x y z : List File) → a ≡ before ++ v → b ≡ a ++ w → c ≡ b ++ x → d ≡ c ++ y → all ≡ d ++ z
    → all ≡ before ++ (v ++ (w ++ (x ++ (y ++ z))))
put_behind all before a b c d v w x y z g h i j k =
    rw (k, j, i, h, g) (append_assoc (((before ++ v) ++ w) ++ x) y z ∙ append_assoc ((before ++ v) ++ w) x (y ++ z) ∙ append_assoc (before ++ v) w (x ++ (y ++ z))
    ∙ append_assoc before v (w ++ (x ++ (y ++ z))))

-- the files that they add are those of the folder
pub rest_comes : (t0 t1 t2 t3 : Option Files) (folder : List ℕ) (n0 n1 n2 n3 n4 : ℕ) (before a b c d all : List File) (edg : LoadedTable) (there : Bool)
    → t1 ≡ t0 → t2 ≡ t1 → t3 ≡ t2
    → AddsTable (within folder (codes "edg")) before a edg
    → Comes t0 (λ held. read_table held (within folder (codes "fac")) n0) (λ t. AddsTable (within folder (codes "fac")) a b t) n1
    → Comes t1 (λ held. read_table held (within folder (codes "rng")) n1) (λ t. AddsTable (within folder (codes "rng")) b c t) n2
    → Comes t2 (λ held. read_table held (within folder (codes "cnd")) n2) (λ t. AddsTable (within folder (codes "cnd")) c d t) n3
    → Comes t3 (λ held. read_optional_table held (within folder (codes "end")) n3) (λ t. AddsOption (within folder (codes "end")) d all there t) n4
    → Comes t0 (λ held. read_rest held folder edg n0) (λ tile. AddsRest folder before all tile) n4
rest_comes t0 t1 t2 t3 folder n0 n1 n2 n3 n4 before a b c d all edg there s1 s2 s3 e f r k n = record {
  value = loaded_tile edg f.value r.value k.value n.value;
  is = record {
    behind = put_behind all before a b c d edg.files f.value.files r.value.files k.value.files (files_in n.value) e.behind f.is.behind r.is.behind k.is.behind n.is.behind;
    are = record {
      edg = edg.files;
      fac = f.value.files;
      rng = r.value.files;
      cnd = k.value.files;
      end = files_in n.value;
      are = refl;
      edg_is = e.are;
      fac_is = f.is.are;
      rng_is = r.is.are;
      cnd_is = k.is.are;
      end_is = n.is.are;
    };
  };
  comes = λ held h. rest_read held folder n0 n1 n2 n3 n4 edg f.value r.value k.value n.value
      (f.comes held h) (r.comes held (s1 ∙ h)) (k.comes held (s2 ∙ s1 ∙ h)) (n.comes held (s3 ∙ s2 ∙ s1 ∙ h));
}

-- ---- the edges decide

abbrev EdgesAdd : (folder : List ℕ) → (told : Option Files) → (n0 n1 : ℕ) → (old mid : List File) → Type 0
EdgesAdd folder told n0 n1 old mid =
    (edg : LoadedTable) × AddsTable (within folder (codes "edg")) old mid edg
    × ((held : Files) → told ≡ Some held → read_optional_table held (within folder (codes "edg")) n0 ≡ (Ok (Some edg), n1))

edges_of : (folder : List ℕ) (told : Option Files) (n0 n1 : ℕ) (old mid : List File) (there : Bool) (t : Option LoadedTable) → there ≡ true
    → AddsOption (within folder (codes "edg")) old mid there t
    → ((held : Files) → told ≡ Some held → read_optional_table held (within folder (codes "edg")) n0 ≡ (Ok t, n1))
    → EdgesAdd folder told n0 n1 old mid
edges_of folder told n0 n1 old mid there None so a comes = let e : true ≡ false = sym so ∙ a.tells in absurd cc
edges_of folder told n0 n1 old mid there (Some edg) so a comes = (edg, record { behind = a.behind; are = a.are }, comes)

pub edges_add : (folder : List ℕ) (told : Option Files) (n0 n1 : ℕ) (old mid : List File) (there : Bool) → there ≡ true
    → Comes told (λ held. read_optional_table held (within folder (codes "edg")) n0) (λ t. AddsOption (within folder (codes "edg")) old mid there t) n1
    → EdgesAdd folder told n0 n1 old mid
edges_add folder told n0 n1 old mid there so c = edges_of folder told n0 n1 old mid there c.value so c.is c.comes

pub rest_stops : (held : Files) (folder : List ℕ) (n0 n1 n2 : ℕ) (stop : LoadStop) (edg : LoadedTable)
    → read_optional_table held (within folder (codes "edg")) n0 ≡ (Ok (Some edg), n1)
    → ReadsStop stop n2 (read_rest held folder edg n1) → ReadsStop stop n2 (read_tile held folder n0)
rest_stops held folder n0 n1 n2 stop edg e h = rw e (stops_all stop n2 _ _ h)

pub tile_read : (held : Files) (folder : List ℕ) (n0 n1 n2 : ℕ) (edg : LoadedTable) (tile : LoadedTile)
    → read_optional_table held (within folder (codes "edg")) n0 ≡ (Ok (Some edg), n1)
    → read_rest held folder edg n1 ≡ (Ok tile, n2) → read_tile held folder n0 ≡ (Ok (Some tile), n2)
tile_read held folder n0 n1 n2 edg tile e f = rw (e, f) refl

none_behind : (tile : LoadedTile) (old new : List File) → new ≡ old ++ tile.files → new ≡ old ++ (tile.files ++ [])
none_behind tile old new e = e ∙ ap (λ x. old ++ x) (sym (append-nil tile.files))

pub tile_comes : (t0 t1 : Option Files) (folder : List ℕ) (n0 n1 n2 : ℕ) (old mid new : List File) → t1 ≡ t0 → (e : EdgesAdd folder t0 n0 n1 old mid)
    → Comes t1 (λ held. read_rest held folder e.0 n1) (λ tile. AddsRest folder old new tile) n2
    → Comes t0 (λ held. read_tile held folder n0) (λ tile. AddsTile folder old new true tile) n2
tile_comes t0 t1 folder n0 n1 n2 old mid new same e c = record {
  value = Some c.value;
  is = record { tells = refl; behind = none_behind c.value old new c.is.behind; are = c.is.are };
  comes = λ held h. tile_read held folder n0 n1 n2 e.0 c.value (e.2 held h) (c.comes held (same ∙ h));
}
