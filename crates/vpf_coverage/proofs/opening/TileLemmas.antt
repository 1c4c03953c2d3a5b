-- The files of a coverage are opened as its tables.
use Rattle.std.proofs.Common.{[], ◌≡◌, ℕ, zero, suc, ◌+◌, ◌<◌, false, inl, inr, ◌⊎◌, List, ◌∷◌, length, get_or, Option, Some, None, refl, ap, sym, subst, append-nil, arith}
use Rattle.std.specs.Prelude.{codes}
use Rattle.vpf_source.specs.declared.file.File.{File}
use Rattle.vpf_prims.specs.Coverages.{CoverageTables}
use Rattle.vpf_prims.specs.Tables.{TileTables}
use Rattle.vpf_library_files.specs.Inner.Tileref.Laws.{StopsDecide}
use Rattle.vpf_library_files.specs.Tileref.Stops.{path_texts}
use Rattle.vpf_library_files.specs.Loading.Loading.{within, tileref_name}
use Rattle.vpf_library_files.specs.Loading.Holding.{AreTilesFiles, AreUntiledFiles, AreTiledFiles}
use Rattle.vpf_coverage.specs.Inner.Opening.Opens.{Opens, OpensFolder, is_first_file, files_of_tables}
use Rattle.vpf_coverage.specs.Inner.Opening.OpensTiles.{FilesOpen, OpensTiled, OpensTiles, OpensUntiled}
use Rattle.vpf_coverage.proofs.opening.NameLemmas.{not_edges_and_entities, not_tiles_and_edges, one_folder, other_name}
use Rattle.vpf_coverage.proofs.opening.PathLemmas.{AreApart, ArePlain, apart_rest, plain_rest, paths_apart, paths_plain}
use Rattle.vpf_coverage.proofs.opening.OpenLemmas.{Begins, SpelledOpens, begins_before, folder_opens, table_begins, table_counted, table_opens, tables_begin, tables_counted}
use Rattle.vpf_coverage.specs.Inner.Opening.OpenLaws.{OpenedReads}

-- the first file is that of the edges of a tile with one of these paths
record BeginsTile (folder : List ℕ) (paths : List (List ℕ)) (files : List File) : Type 0 where
  pub place : ℕ
  pub inside : place < length paths
  pub begins : Begins (within (within folder (get_or paths place [])) (codes "edg")) files

abbrev Starts : (folder : List ℕ) → List (List ℕ) → List File → Type 0
Starts folder paths files = (files ≡ []) ⊎ BeginsTile folder paths files

one_later : (folder path : List ℕ) (paths : List (List ℕ)) (files : List File) → Starts folder paths files → Starts folder (path ∷ paths) files
one_later folder path paths files (inl none) = inl none
one_later folder path paths files (inr h) = inr (record { place = suc h.place; inside = omega (arith, h.inside); begins = h.begins })

-- the files of tiles, if there are any, begin with the edges of one of them
starts : (folder : List ℕ) (at : ℕ) (paths : List (List ℕ)) (tiles : List (Option TileTables)) (files : List File)
    → AreTilesFiles folder at paths tiles files → Starts folder paths files
starts folder at [] [] files h = inl h
starts folder at [] (tile ∷ tiles) files h = absurd h
starts folder at (path ∷ paths) [] files h = absurd h
starts folder at (path ∷ paths) (None ∷ tiles) files h = one_later folder path paths files (starts folder at paths tiles files h)
starts folder at (path ∷ paths) (Some T ∷ tiles) files h =
    let name = within (within folder path) (codes "edg") in
    inr (record {
      place = zero;
      inside = omega arith;
      begins = subst (Begins name) (sym h.2) (begins_before name h.0 h.1 (tables_begin (within folder path) T.tables h.0 h.4));
    })

not_begun : (name other : List ℕ) (files : List File) → Begins name files → (name ≡ other → ⊥) → is_first_file other files ≡ false
not_begun name other files h apart = rw (h.are, h.named) (other_name name other apart)

-- the table of entity nodes of a folder doesn't follow
no_entities : (folder other : List ℕ) (paths : List (List ℕ)) (files : List File) → Starts folder paths files → is_first_file (within other (codes "end")) files ≡ false
no_entities folder other paths files (inl none) = rw none refl
no_entities folder other paths files (inr h) = not_begun _ (within other (codes "end")) files h.begins (not_edges_and_entities (within folder (get_or paths h.place [])) other)

-- nor the edges of a tile that comes before
no_edges : (folder path : List ℕ) (paths : List (List ℕ)) (files : List File) → ArePlain (path ∷ paths) → AreApart (path ∷ paths) → Starts folder paths files
    → is_first_file (within (within folder path) (codes "edg")) files ≡ false
no_edges folder path paths files plain apart (inl none) = rw none refl
no_edges folder path paths files plain apart (inr h) =
    not_begun _ (within (within folder path) (codes "edg")) files h.begins (λ e.
    let later : suc h.place < length (path ∷ paths) = omega (arith, h.inside) in
    let first : zero < length (path ∷ paths) = omega arith in
    let same = one_folder folder (get_or paths h.place []) path (codes "edg") (plain (suc h.place) later) (plain zero first) e in
    let s : suc h.place ≡ zero = apart (suc h.place) zero later first same in
    omega (arith, s))

-- the files of tiles are opened as their tables
pub tiles_open : SpelledOpens → OpenedReads → (folder : List ℕ) (at : ℕ) (paths : List (List ℕ)) (tiles : List (Option TileTables)) (files : List File)
    → ArePlain paths → AreApart paths → AreTilesFiles folder at paths tiles files → OpensTiles folder at paths tiles files
tiles_open spelled read folder at [] [] files plain apart h = tt
tiles_open spelled read folder at [] (tile ∷ tiles) files plain apart h = absurd h
tiles_open spelled read folder at (path ∷ paths) [] files plain apart h = absurd h
tiles_open spelled read folder at (path ∷ paths) (None ∷ tiles) files plain apart h =
    let others = tiles_open spelled read folder at paths tiles files (plain_rest path paths plain) (apart_rest path paths apart) h in
    let same : at ≡ at + 0 = omega arith in
    (files, tt, (no_edges folder path paths files plain apart (starts folder at paths tiles files h), refl), subst (λ (n : ℕ). OpensTiles folder n paths tiles files) same others)
tiles_open spelled read folder at (path ∷ paths) (Some T ∷ tiles) files plain apart h =
    let here = h.0 in
    let rest = h.1 in
    let others = tiles_open spelled read folder (at + length here) paths tiles rest (plain_rest path paths plain) (apart_rest path paths apart) h.5 in
    let same : at + length here ≡ at + files_of_tables T.tables = ap (λ (n : ℕ). at + n) (tables_counted (within folder path) T.tables here h.4) in
    let other = no_entities folder (within folder path) paths rest (starts folder (at + length here) paths tiles rest h.5) in
    let mine = folder_opens spelled read (within folder path) T.tables here rest h.4 other in
    (rest, h.3, subst (OpensFolder (within folder path) (Some T.tables) rest) (sym h.2) mine, subst (λ (n : ℕ). OpensTiles folder n paths tiles rest) same others)

untiled_opens : SpelledOpens → OpenedReads → (lib cov : List ℕ) (c : CoverageTables) (files : List File) → AreUntiledFiles lib cov c files
    → OpensUntiled (within lib cov) c files
untiled_opens spelled read lib cov c files h =
    let folder = within lib cov in
    record {
      tables = h.tables;
      is = h.is;
      are = subst (OpensFolder folder (Some h.tables) []) (append-nil files) (folder_opens spelled read folder h.tables files [] h.are refl);
    }

tiled_opens : SpelledOpens → OpenedReads → StopsDecide → (lib cov : List ℕ) (c : CoverageTables) (files : List File) → AreTiledFiles lib cov c files
    → OpensTiled (within lib cov) c files
tiled_opens spelled read stops lib cov c files h =
    let folder = within lib cov in
    let name = tileref_name lib in
    let begins = subst (Begins name) (sym h.are) (begins_before name h.before h.behind (table_begins name h.tileref h.before h.tileref_is)) in
    let opens = tiles_open spelled read folder (length h.before) (path_texts h.tileref) h.tiles h.behind
    (paths_plain h.tileref h.right) (paths_apart h.tileref h.right) h.tiles_are in
    record {
      tileref = h.tileref;
      tiles = h.tiles;
      behind = h.behind;
      is = h.is;
      none = (not_begun name (within folder (codes "edg")) files begins (not_tiles_and_edges (within lib (codes "tileref")) folder), refl);
      tileref_is = record {
        opens = subst (Opens h.tileref h.behind) (sym h.are) (table_opens spelled read name h.tileref h.before h.behind h.tileref_is);
        right = (stops h.tileref).1 (h.right, h.bounded);
      };
      tiles_are = subst (λ (n : ℕ). OpensTiles folder n (path_texts h.tileref) h.tiles h.behind) (table_counted name h.tileref h.before h.tileref_is) opens;
    }

pub files_open : SpelledOpens → OpenedReads → StopsDecide → FilesOpen
files_open spelled read stops lib cov c files (inl h) = inl (untiled_opens spelled read lib cov c files h)
files_open spelled read stops lib cov c files (inr h) = inr (tiled_opens spelled read stops lib cov c files h)
