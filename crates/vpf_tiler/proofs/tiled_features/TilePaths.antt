-- Each tile of a table of tiles has a path of its own.
use Rattle.std.proofs.Common.{[], ◌≡◌, ◌≢◌, ◌<◌, ℕ, suc, List, ◌∷◌, length, get_or, arith}
use Rattle.std.specs.List.{AllByRecursion}
use Rattle.vpf_tiler.specs.Inner.TiledFiles.PairLaws.{Apart}
use Rattle.vpf_tiler.specs.Inner.TiledFiles.LibraryLaws.{own_paths}
use Rattle.vpf_table.specs.Grid.{Grid}
use Rattle.vpf_library_files.specs.Tileref.Stops.{path_texts}
use Rattle.vpf_library_files.specs.Tileref.Tileref.{IsTileref}

-- two texts that differ
abbrev pub OtherText : List ℕ → List ℕ → Type 0
OtherText a b = a ≢ b

-- what is so at each place of a list
all_at : {X : Type 0} (P : X → Type 0) (d : X) (xs : List X) → ((k : ℕ) → k < length xs → P (get_or xs k d)) → AllByRecursion P xs
all_at P d [] h = tt
all_at P d (x ∷ xs) h = (h 0 (omega arith), all_at P d xs (λ k l. h (suc k) (omega (arith, l))))

apart_at : (xs : List (List ℕ)) → ((j k : ℕ) → j < k → k < length xs → OtherText (get_or xs j []) (get_or xs k [])) → Apart OtherText xs
apart_at [] h = tt
apart_at (x ∷ xs) h = (
  all_at (OtherText x) [] xs (λ k l. h 0 (suc k) (omega arith) (omega (arith, l))),
  apart_at xs (λ j k l m. h (suc j) (suc k) (omega (arith, l)) (omega (arith, m))),
)

-- no two paths of tiles are the same text
pub texts_apart : (tileref : Grid) → IsTileref tileref → Apart OtherText (path_texts tileref)
texts_apart tileref right =
    let own = own_paths tileref right in
    apart_at (path_texts tileref) (λ j k l h e. let same : j ≡ k = own.apart j k (omega (arith, l, h)) h e in omega (arith, same, l))
