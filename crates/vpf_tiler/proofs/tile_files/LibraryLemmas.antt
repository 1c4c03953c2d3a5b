-- The tables of all tiles that are added one behind another, behind the table of tiles.
use Rattle.std.proofs.Common.{◌≡◌, ℕ, zero, suc, ◌+◌, ◌-◌, ◌<◌, refl, sym, ap, ◌∙◌, subst, arith, List, [], ◌∷◌, ◌++◌, append_assoc, None, Ok, length}
use Rattle.std.specs.Prelude.{flat_map, slice_get, slice_index_or}
use Rattle.std.proofs.lemmas.Grind.{flat_map-append}
use Rattle.std.proofs.lemmas.List.{append-nil}
use Rattle.vpf_base.specs.Results.{Told}
use Rattle.vpf_source.specs.declared.file.File.{File}
use Rattle.vpf_table.specs.Grid.{Grid}
use Rattle.vpf_prims.specs.Coverages.{numbered_path}
use Rattle.vpf_prims.specs.Lists.{kth}
use Rattle.vpf_prims.specs.Primitives.{Primitives}
use Rattle.vpf_prims.specs.Reading.{PrimitiveTables}
use Rattle.vpf_library_files.specs.Tileref.Stops.{path_texts}
use Rattle.vpf_tiling.specs.Inner.RankLaws.{up-last}
use Rattle.vpf_tiling.specs.Ranks.{up_to}
use Rattle.vpf_library_files.specs.declared.table_files.errors.AddError.{AddError}
use Rattle.vpf_library_files.specs.TableFiles.Adding.{AreAdded, FailsAdding, NamedTable, error_seen, made_of_tables}
use Rattle.vpf_tiler.specs.TileFiles.Tables.{all_tile_tables, library_tables, tileref_table}
use Rattle.vpf_library_files.specs.Inner.TableFiles.AddLaws.{added_then, fails_first, fails_then, made_are, made_fail}

-- ---- the folder of a tile

-- a tile that has no path has an empty one
pub path_absent : (paths : List (List ℕ)) (t : ℕ) → numbered_path paths t ≡ None → kth paths t [] ≡ []
path_absent paths zero h = refl
path_absent paths (suc i) h = get_absent paths i h
  where
    get_absent : (paths : List (List ℕ)) (i : ℕ) → slice_get paths i ≡ None → slice_index_or paths i [] ≡ []
    get_absent [] i h = refl
    get_absent (p ∷ paths) zero h = absurd cc
    get_absent (p ∷ paths) (suc i) h = get_absent paths i h

-- ---- the tables of all tiles

-- those of the tiles to the next end with its own
tables-last : (tables : ℕ → List NamedTable) (n : ℕ) → flat_map tables (up_to n) ++ tables (suc n) ≡ flat_map tables (up_to (suc n))
tables-last tables n =
    ap (λ ts. flat_map tables (up_to n) ++ ts) (sym (append-nil (tables (suc n))))
    ∙ sym (flat_map-append tables (up_to n) (suc n ∷ [])) ∙ ap (flat_map tables) (sym (up-last n))

-- the numbers to a later one begin with those before it
up-begins : (n k : ℕ) → (rest : List ℕ) × (up_to (k + n) ≡ up_to n ++ rest)
up-begins n zero = (let e : 0 + n ≡ n = omega arith in ([], ap up_to e ∙ sym (append-nil (up_to n))))
up-begins n (suc k) =
    let p : (rest : List ℕ) × (up_to (k + n) ≡ up_to n ++ rest) = up-begins n k in
    let e : suc k + n ≡ suc (k + n) = omega arith in
    (p.0 ++ suc (k + n) ∷ [], ap up_to e ∙ up-last (k + n) ∙ ap (λ ks. ks ++ suc (k + n) ∷ []) p.1 ∙ append_assoc (up_to n) p.0 (suc (k + n) ∷ []))

-- those of one tile more are added
pub tiles_more : (tables : ℕ → List NamedTable) (n : ℕ) (old mid new : List File)
    → AreAdded (flat_map tables (up_to n)) old mid → AreAdded (tables (n + 1)) mid new → AreAdded (flat_map tables (up_to (n + 1))) old new
tiles_more tables n old mid new a b =
    let s : n + 1 ≡ suc n = omega arith in
    let here : AreAdded (tables (suc n)) mid new = subst (λ k. AreAdded (tables k) mid new) s b in
    subst (λ k. AreAdded (flat_map tables (up_to k)) old new) (sym s)
    (subst (λ (ts : List NamedTable). AreAdded ts old new) (tables-last tables n) (added_then (flat_map tables (up_to n)) (tables (suc n)) old mid new a here))

-- where those of a tile aren't added, the tiles behind it don't matter
pub tiles_fail : (tables : ℕ → List NamedTable) (n tiles : ℕ) (old mid : List File) (e : AddError) → n < tiles
    → AreAdded (flat_map tables (up_to n)) old mid → FailsAdding (tables (n + 1)) e → FailsAdding (flat_map tables (up_to tiles)) e
tiles_fail tables n tiles old mid e below a b =
    let s : n + 1 ≡ suc n = omega arith in
    let m : (tiles - suc n) + suc n ≡ tiles = omega arith in
    let p : (rest : List ℕ) × (up_to ((tiles - suc n) + suc n) ≡ up_to (suc n) ++ rest) = up-begins (suc n) (tiles - suc n) in
    let here : FailsAdding (tables (suc n)) e = subst (λ k. FailsAdding (tables k) e) s b in
    let so_far : FailsAdding (flat_map tables (up_to (suc n))) e =
    subst (λ (ts : List NamedTable). FailsAdding ts e) (tables-last tables n) (fails_then (flat_map tables (up_to n)) (tables (suc n)) old mid e a here) in
    let split : flat_map tables (up_to (suc n)) ++ flat_map tables p.0 ≡ flat_map tables (up_to tiles) =
    sym (flat_map-append tables (up_to (suc n)) p.0) ∙ ap (flat_map tables) (sym p.1) ∙ ap (λ k. flat_map tables (up_to k)) m in
    subst (λ (ts : List NamedTable). FailsAdding ts e) split (fails_first (flat_map tables (up_to (suc n))) (flat_map tables p.0) e so_far)

-- ---- all tables

-- the table of tiles isn't added
pub tileref_fails : (cov : List ℕ) (tables : PrimitiveTables) (c : Primitives) (plan : ℕ → ℕ) (tileref : Grid) (e : AddError)
    → FailsAdding (tileref_table tileref ∷ []) e → Told (error_seen e) (made_of_tables (library_tables cov tables c plan tileref))
tileref_fails cov tables c plan tileref e a =
    made_fail (library_tables cov tables c plan tileref) e
    (fails_first (tileref_table tileref ∷ []) (all_tile_tables cov (path_texts tileref) tables c plan (length tileref.rows)) e a)

-- it is, and then those of the tiles aren't
pub library_fails : (cov : List ℕ) (paths : List (List ℕ)) (tables : PrimitiveTables) (c : Primitives) (plan : ℕ → ℕ) (tiles : ℕ) (tileref : Grid) (old mid : List File) (e : AddError)
    → paths ≡ path_texts tileref → tiles ≡ length tileref.rows
    → AreAdded (tileref_table tileref ∷ []) old mid → FailsAdding (all_tile_tables cov paths tables c plan tiles) e
    → Told (error_seen e) (made_of_tables (library_tables cov tables c plan tileref))
library_fails cov paths tables c plan tiles tileref old mid e same many a b =
    let tiled : FailsAdding (all_tile_tables cov (path_texts tileref) tables c plan (length tileref.rows)) e =
    subst (λ (n : ℕ). FailsAdding (all_tile_tables cov (path_texts tileref) tables c plan n) e) many
    (subst (λ (ps : List (List ℕ)). FailsAdding (all_tile_tables cov ps tables c plan tiles) e) same b) in
    made_fail (library_tables cov tables c plan tileref) e
    (fails_then (tileref_table tileref ∷ []) (all_tile_tables cov (path_texts tileref) tables c plan (length tileref.rows)) old mid e a tiled)

-- it is, and so are those of the tiles
pub library_made : (cov : List ℕ) (paths : List (List ℕ)) (tables : PrimitiveTables) (c : Primitives) (plan : ℕ → ℕ) (tiles : ℕ) (tileref : Grid) (old mid new : List File)
    → paths ≡ path_texts tileref → tiles ≡ length tileref.rows → old ≡ []
    → AreAdded (tileref_table tileref ∷ []) old mid → AreAdded (all_tile_tables cov paths tables c plan tiles) mid new
    → made_of_tables (library_tables cov tables c plan tileref) ≡ Ok new
library_made cov paths tables c plan tiles tileref old mid new same many empty a b =
    let tiled : AreAdded (all_tile_tables cov (path_texts tileref) tables c plan (length tileref.rows)) mid new =
    subst (λ (n : ℕ). AreAdded (all_tile_tables cov (path_texts tileref) tables c plan n) mid new) many
    (subst (λ (ps : List (List ℕ)). AreAdded (all_tile_tables cov ps tables c plan tiles) mid new) same b) in
    made_are (library_tables cov tables c plan tileref) new
    (subst (λ (fs : List File). AreAdded (library_tables cov tables c plan tileref) fs new) empty
    (added_then (tileref_table tileref ∷ []) (all_tile_tables cov (path_texts tileref) tables c plan (length tileref.rows)) old mid new a tiled))
