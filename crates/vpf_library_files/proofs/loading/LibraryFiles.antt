-- Files that are a coverage are the tiles of a library.
use Rattle.std.proofs.Common.{◌≡◌, inl, inr, ℕ, zero, suc, ◌-◌, ◌<◌, ◌≤◌, ◌^◌, true, false, List, [], ◌∷◌, length, Option, Some, None, refl, arith}
use Rattle.std.specs.Prelude.{is_some, slice_index_or}
use Rattle.std.specs.List.{list_any}
use Rattle.std.proofs.lemmas.List.{length-map}
use Rattle.vpf_prims.specs.Coverages.{CoverageTables, tile_at, tiled_coverage, untiled_coverage}
use Rattle.vpf_prims.specs.Libraries.{IsLibrary, library_of, primitives_in}
use Rattle.vpf_prims.specs.Primitives.{edges_in, is_there}
use Rattle.vpf_prims.specs.Reading.{edge_in_row}
use Rattle.vpf_prims.specs.Tables.{TileTables}
use Rattle.vpf_library_files.specs.Tileref.Stops.{path_texts}
use Rattle.vpf_library_files.specs.Loading.Holding.{AreCoverageFiles}
use Rattle.vpf_library_files.specs.Inner.Loading.Laws.{FilesAreLibraries}
use Rattle.vpf_library_files.proofs.loading.WholeFiles.{FilesOfTile, files_have, tile_few}

few_in : (tile : Option TileTables) → ((T : TileTables) → tile ≡ Some T → FilesOfTile T) → length (edges_in (primitives_in tile)) < 2 ^ 24
few_in None h = omega arith
few_in (Some T) h =
    let few = tile_few T (h T refl) in
    let count = length-map T.tables.edg.rows (edge_in_row T.tables.edg.head.columns) in
    omega (arith, few, count)

past_end : (tiles : List (Option TileTables)) (t : ℕ) → length tiles ≤ t → slice_index_or tiles t None ≡ None
past_end [] t h = refl
past_end (tile ∷ tiles) zero h = absurd (omega (arith, h))
past_end (tile ∷ tiles) (suc t) h = past_end tiles t (omega (arith, h))

none_past : (tiles : List (Option TileTables)) (t : ℕ) → length tiles - 1 < t → primitives_in (slice_index_or tiles t None) ≡ None
none_past tiles t h = let e : slice_index_or tiles t None ≡ None = past_end tiles t (omega (arith, h)) in rw e refl

some_at : (tiles : List (Option TileTables)) → list_any is_some tiles ≡ true → (i : ℕ) × (is_there (primitives_in (slice_index_or tiles i None)) ≡ true)
some_at [] h = let e : false ≡ true = h in absurd cc
some_at (None ∷ tiles) h = let r = some_at tiles h in (suc r.0, r.1)
some_at (Some T ∷ tiles) h = (0, refl)

untiled_library : (T : TileTables) → ((t : ℕ) (X : TileTables) → tile_at (untiled_coverage T) t ≡ Some X → FilesOfTile X) → IsLibrary (library_of (untiled_coverage T))
untiled_library T h = record {
  few = λ t. few_in (tile_at (untiled_coverage T) t) (h t);
  none_after = λ t past. none_past (Some T ∷ []) t past;
  from_one = λ e. let f : false ≡ true = e in absurd cc;
  one = λ e. refl;
  some = 0;
  has_some = refl;
}

tiled_library : (paths : List (List ℕ)) (tiles : List (Option TileTables)) → list_any is_some tiles ≡ true
    → ((t : ℕ) (X : TileTables) → tile_at (tiled_coverage paths tiles) t ≡ Some X → FilesOfTile X) → IsLibrary (library_of (tiled_coverage paths tiles))
tiled_library paths tiles some h = record {
  few = λ t. few_in (tile_at (tiled_coverage paths tiles) t) (h t);
  none_after = λ t past. none_past (None ∷ tiles) t past;
  from_one = λ e. refl;
  one = λ e. let f : true ≡ false = e in absurd cc;
  some = suc (some_at tiles some).0;
  has_some = (some_at tiles some).1;
}

library_so : (x c : CoverageTables) → c ≡ x → IsLibrary (library_of x) → IsLibrary (library_of c)
library_so x c e h = rw e h

pub files_are_libraries : FilesAreLibraries
files_are_libraries lib cov c files (inl h) =
    let x = untiled_coverage (record { first = 0; tables = h.tables }) in
    let again : AreCoverageFiles lib cov x files = inl (record { tables = h.tables; is = refl; are = h.are }) in
    library_so x c h.is (untiled_library (record { first = 0; tables = h.tables }) (files_have lib cov x files again))
files_are_libraries lib cov c files (inr h) =
    let have = files_have lib cov c files (inr h) in
    library_so (tiled_coverage (path_texts h.tileref) h.tiles) c h.is (tiled_library (path_texts h.tileref) h.tiles h.some (λ t X e. have t X (rw h.is e)))
