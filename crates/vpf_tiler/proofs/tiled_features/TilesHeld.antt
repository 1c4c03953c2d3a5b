-- A coverage in tiles that a tree holds without the features is held with them.
use Rattle.std.proofs.Common.{[], ◌≡◌, ◌≢◌, ◌≤◌, ℕ, false, List, ◌∷◌, ◌++◌, length, Option, Some, None, inl, inr, refl, sym, ap, subst, ◌∙◌, append_assoc}
use Rattle.std.specs.Prelude.{codes, drop, nat_eq}
use Rattle.std.specs.List.{AllByRecursion, ends_with}
use Rattle.std.proofs.lemmas.List.{append_cancel_left}
use Rattle.vpf_source.specs.Files.{Files}
use Rattle.vpf_source.specs.declared.file.File.{File}
use Rattle.vpf_source.specs.Names.Naming.{slash}
use Rattle.vpf_table.specs.Grid.{Grid}
use Rattle.vpf_prims.specs.Coverages.{CoverageTables, tile_at}
use Rattle.vpf_prims.specs.Tables.{TileTables}
use Rattle.vpf_library_files.specs.Loading.Holding.{AreFilesOf, AreHeld, AreTiledFiles, AreUntiledFiles, HoldsCoverage, LacksOfTile, LacksOfTiles, bytes_in}
use Rattle.vpf_library_files.specs.Loading.Loading.{LoadedCoverage, within}
use Rattle.vpf_library_files.specs.Inner.Loading.FileLaws.{both_held}
use Rattle.vpf_tiler.specs.Inner.TiledFiles.Folders.{HoldsExactly}
use Rattle.vpf_tiler.specs.Inner.TiledFiles.AbsentLaws.{IsOtherName as IsOther}
use Rattle.vpf_tiler.specs.Inner.TiledFiles.StemLaws.{within_utf8, within_within, ends_behind, within_is}
use Rattle.vpf_tiler.specs.Inner.TiledFiles.PairLaws.{Apart}
use Rattle.vpf_tiler.specs.Inner.TiledFiles.PathLaws.{IsInner}
use Rattle.vpf_tiler.specs.Inner.TiledFiles.TableLaws.{all_behind, all_front}
use Rattle.vpf_tiler.specs.Inner.TiledFiles.TileLaws.{tile_place}
use Rattle.vpf_tiler.proofs.tiled_features.Counting.{no_more_bytes}
use Rattle.vpf_tiler.proofs.tiled_features.CoverageNames.{coverage_apart, names}
use Rattle.vpf_tiler.proofs.tiled_features.MadeFeatures.{IsFeatureFile, IsPlaced}
use Rattle.vpf_tiler.proofs.tiled_features.OwnNames.{IsIn, IsStraight}
use Rattle.vpf_tiler.proofs.tiled_features.TilePaths.{OtherText}
use Rattle.vpf_tiler.specs.Inner.TiledFiles.LibraryLaws.{own_paths}
use Rattle.vpf_tiler.proofs.tiled_features.Trees.{all_held_too, lacked_too, only}

-- ---- the names of features aren't those of tiles

-- a slash stands behind the folder of a tile
tile_stem : (cov path : List ℕ) → IsInner path → within (within cov path) [] ≡ within cov [] ++ (path ++ slash ∷ [])
tile_stem cov path inner =
    let last : ends_with nat_eq (within cov path) (slash ∷ []) ≡ false =
    ap (λ (x : List ℕ). ends_with nat_eq x (slash ∷ [])) (within_is cov path) ∙ ends_behind (within cov []) path inner.some ∙ inner.last in
    rw last (ap (λ (x : List ℕ). x ++ slash ∷ []) (within_is cov path) ∙ append_assoc (within cov []) path (slash ∷ []))

-- a name without a slash isn't one in the folder of a tile
pub no_tile : (cov path tail name : List ℕ) → IsInner path → IsIn cov name → name ≢ within (within cov path) tail
no_tile cov path tail name inner i e =
    let there : within (within cov path) tail ≡ within cov [] ++ (path ++ slash ∷ tail) =
    within_is (within cov path) tail ∙ ap (λ (x : List ℕ). x ++ tail) (tile_stem cov path inner)
    ∙ append_assoc (within cov []) (path ++ slash ∷ []) tail ∙ ap (λ (x : List ℕ). within cov [] ++ x) (append_assoc path (slash ∷ []) tail) in
    let same : i.inner ≡ path ++ slash ∷ tail =
    append_cancel_left (within cov []) i.inner (path ++ slash ∷ tail) (sym (within_is cov i.inner) ∙ sym i.is ∙ e ∙ there) in
    let letters : AllByRecursion IsStraight (path ++ slash ∷ tail) = subst (AllByRecursion IsStraight) same i.letters in
    (all_behind IsStraight path (slash ∷ tail) letters).0.straight refl

no_tiles : (cov path tail : List ℕ) (features : List File) → IsInner path → AllByRecursion (IsFeatureFile cov) features
    → AllByRecursion (IsOther (within (within cov path) tail)) features
no_tiles cov path tail [] inner all = tt
no_tiles cov path tail (file ∷ features) inner all = (no_tile cov path tail file.name inner all.0.inside, no_tiles cov path tail features inner all.1)

-- ---- what a tree with features lacks

-- a folder of a tree holds exactly the files of tiles and of features
pub record AreBoth (held : Files) (folder cov : List ℕ) (tiles features : List File) : Type 0 where
  pub placed : IsPlaced folder cov
  pub exactly : HoldsExactly held folder (tiles ++ features)
  pub inside : AllByRecursion (IsFeatureFile cov) features
  pub edges : held (within (within folder cov) (codes "edg")) ≡ None

name_lacked : (held : Files) (folder cov : List ℕ) (tiles features : List File) (path tail : List ℕ) → AreBoth held folder cov tiles features → IsInner path
    → only folder tiles held (within (within (within folder cov) path) tail) ≡ None → held (within (within (within folder cov) path) tail) ≡ None
name_lacked held folder cov tiles features path tail b inner e =
    let p = tile_place folder cov path b.placed.out_text b.placed.cov_text b.placed.some inner in
    let name : within folder (within (within cov path) tail) ≡ within (within (within folder cov) path) tail =
    within_within folder (within cov path) tail p.some ∙ ap (λ (x : List ℕ). within x tail) p.is in
    subst (λ (x : List ℕ). held x ≡ None) name
    (lacked_too held folder tiles features (within (within cov path) tail) b.exactly (no_tiles cov path tail features inner b.inside)
    (subst (λ (x : List ℕ). only folder tiles held x ≡ None) (sym name) e))

tile_lacked : (held : Files) (folder cov : List ℕ) (tiles features : List File) (path : List ℕ) (tile : Option TileTables)
    → AreBoth held folder cov tiles features → IsInner path
    → LacksOfTile (only folder tiles held) (within (within folder cov) path) tile → LacksOfTile held (within (within folder cov) path) tile
tile_lacked held folder cov tiles features path None b inner lacks = name_lacked held folder cov tiles features path (codes "edg") b inner lacks
tile_lacked held folder cov tiles features path (Some T) b inner lacks =
    λ none. name_lacked held folder cov tiles features path (codes "end") b inner (lacks none)

tiles_lacked : (held : Files) (folder cov : List ℕ) (files features : List File) (paths : List (List ℕ)) (tiles : List (Option TileTables))
    → AreBoth held folder cov files features → AllByRecursion IsInner paths
    → LacksOfTiles (only folder files held) (within folder cov) paths tiles → LacksOfTiles held (within folder cov) paths tiles
tiles_lacked held folder cov files features [] tiles b inner lacks = tt
tiles_lacked held folder cov files features (path ∷ paths) [] b inner lacks = tt
tiles_lacked held folder cov files features (path ∷ paths) (tile ∷ tiles) b inner lacks = (
  tile_lacked held folder cov files features path tile b inner.0 lacks.0,
  tiles_lacked held folder cov files features paths tiles b inner.1 lacks.1,
)

-- ---- the coverage is tiled

-- where edges are held in a folder they are there
edges_there : (held : Files) (name : List ℕ) (grid : Grid) (files : List File) → AreFilesOf name grid files → AreHeld held files → held name ≡ None → ⊥
edges_there held name grid files (inl h) all none = let a = (subst (AreHeld held) h.are all).0 in cc (sym a ∙ none)
edges_there held name grid files (inr h) all none = let a = (subst (AreHeld held) h.are all).0 in cc (sym a ∙ none)

untiled_there : (held : Files) (folder cov : List ℕ) (c : CoverageTables) (files : List File) → AreUntiledFiles folder cov c files → AreHeld held files
    → held (within (within folder cov) (codes "edg")) ≡ None → ⊥
untiled_there held folder cov c files u all none =
    let parts = both_held held u.are.edg (u.are.fac ++ (u.are.rng ++ (u.are.cnd ++ u.are.end))) (subst (AreHeld held) u.are.are all) in
    edges_there held (within (within folder cov) (codes "edg")) u.tables.edg u.are.edg u.are.edg_is parts.0 none

-- it is held, and its files have no more bytes than those of the tiles
pub record IsHeldToo (held : Files) (folder cov : List ℕ) (tiles : List File) (loaded : LoadedCoverage) : Type 0 where
  pub holds : HoldsCoverage held folder cov loaded
  pub few : bytes_in loaded.files ≤ bytes_in tiles

tiled_held_too : (held : Files) (folder cov : List ℕ) (tiles features : List File) (loaded : LoadedCoverage) → AreBoth held folder cov tiles features
    → AreTiledFiles folder cov loaded.coverage loaded.files → HoldsCoverage (only folder tiles held) folder cov loaded
    → IsHeldToo held folder cov tiles loaded
tiled_held_too held folder cov tiles features loaded b t h =
    let inner : AllByRecursion IsInner loaded.coverage.paths =
    subst (λ (c : CoverageTables). AllByRecursion IsInner c.paths) (sym t.is) (own_paths t.tileref t.right).inner in
    let text = within_utf8 folder cov b.placed.out_text b.placed.cov_text in
    let apart =
    coverage_apart folder (within folder cov) t.tileref t.tiles t.before t.behind (length t.before) b.placed.out_text text t.right t.tileref_is
    t.tiles_are in
    record {
      holds = record {
        are = inr t;
        there = all_held_too folder tiles held loaded.files h.there;
        few = h.few;
        own = subst (λ (c : CoverageTables). LacksOfTile held (within folder cov) (tile_at c 0)) (sym t.is) b.edges;
        tiles = tiles_lacked held folder cov tiles features loaded.coverage.paths (drop 1 loaded.coverage.tiles) b inner h.tiles;
      };
      few = no_more_bytes folder tiles held loaded.files
          (all_front (λ (file : File). held (within folder file.name) ≡ Some file.bytes) tiles features b.exactly.there) h.there
          (subst (λ (files : List File). Apart OtherText (names files)) (sym t.are) apart);
    }

pub coverage_held_too : (held : Files) (folder cov : List ℕ) (tiles features : List File) (loaded : LoadedCoverage) → AreBoth held folder cov tiles features
    → HoldsCoverage (only folder tiles held) folder cov loaded → IsHeldToo held folder cov tiles loaded
coverage_held_too held folder cov tiles features loaded b h = elim h.are [
  | inl u ↦ absurd (untiled_there held folder cov loaded.coverage loaded.files u (all_held_too folder tiles held loaded.files h.there) b.edges)
  | inr t ↦ tiled_held_too held folder cov tiles features loaded b t h
]
