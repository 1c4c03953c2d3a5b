-- Tiles that are opened one after another.
use Rattle.std.proofs.Common.{◌≡◌, ℕ, zero, suc, ◌+◌, ◌<◌, ◌≤◌, List, [], ◌∷◌, ◌++◌, length, drop, slice_get, Option, Some, None, refl, ap, sym, subst, ◌∙◌, append-nil, append_assoc, arith}
use Rattle.std.proofs.lemmas.Option.{slice_get-get_or}
use Rattle.vpf_source.specs.declared.file.File.{File}
use Rattle.vpf_prims.specs.declared.views.PrimitiveViews.{PrimitiveViews}
use Rattle.vpf_prims.specs.Coverages.{numbered_path}
use Rattle.vpf_prims.specs.Reading.{PrimitiveTables}
use Rattle.vpf_prims.specs.Tables.{TileTables}
use Rattle.vpf_prims.specs.Inner.Views.{tables_in_view}
use Rattle.vpf_library_files.specs.Loading.Loading.{within}
use Rattle.vpf_coverage.specs.Inner.Opening.Opens.{OpensFolder, files_of_folder}
use Rattle.vpf_coverage.specs.Inner.Opening.OpensTiles.{OpensTiles, TileStandsAt, tables_in_tile}
use Rattle.vpf_coverage.specs.Inner.Opening.Opened.{placed_view, placed_views, tables_in_views}

-- some tiles are opened, and the others lie ahead, from tile t on, the first of them at this place
pub record Ahead (folder : List ℕ) (at : ℕ) (paths : List (List ℕ)) (t : ℕ) (files : List File) (opened tiles : List (Option TileTables)) : Type 0 where
  pub left : List (Option TileTables)
  pub opens : OpensTiles folder at (drop t paths) left files
  pub all : None ∷ tiles ≡ opened ++ left

-- the next of them has this path
record NextTile (folder : List ℕ) (at : ℕ) (path : List ℕ) (paths : List (List ℕ)) (left : List (Option TileTables)) (files : List File) : Type 0 where
  pub tile : Option TileTables
  pub tiles : List (Option TileTables)
  pub rest : List File
  pub are : left ≡ tile ∷ tiles
  pub stands : TileStandsAt at tile
  pub opens : OpensFolder (within folder path) (tables_in_tile tile) rest files
  pub others : OpensTiles folder (at + files_of_folder (tables_in_tile tile)) paths tiles rest

first_of : (folder : List ℕ) (at : ℕ) (path : List ℕ) (paths : List (List ℕ)) (left : List (Option TileTables)) (files : List File)
    → OpensTiles folder at (path ∷ paths) left files → NextTile folder at path paths left files
first_of folder at path paths [] files h = absurd h
first_of folder at path paths (tile ∷ tiles) files h = record { tile = tile; tiles = tiles; rest = h.0; are = refl; stands = h.1; opens = h.2; others = h.3 }

pub some_same : {X : Type 0} (x y : X) → Some x ≡ Some y → x ≡ y
some_same x y e = cc

next_tile : (folder : List ℕ) (at : ℕ) (path : List ℕ) (paths : List (List ℕ)) (t : ℕ) (left : List (Option TileTables)) (files : List File)
    → slice_get paths t ≡ Some path → OpensTiles folder at (drop t paths) left files → NextTile folder at path (drop (suc t) paths) left files
next_tile folder at path [] t left files is h = absurd cc
next_tile folder at path (p ∷ paths) zero left files is h =
    subst (λ (q : List ℕ). NextTile folder at q paths left files) (some_same p path is) (first_of folder at p paths left files h)
next_tile folder at path (p ∷ paths) (suc t) left files is h = next_tile folder at path paths t left files is h

-- the path of the next tile
path_at_place : (paths : List (List ℕ)) (t next : ℕ) (path : List ℕ) → next ≡ suc t → Some path ≡ numbered_path paths next → slice_get paths t ≡ Some path
path_at_place paths t zero path n is = absurd (omega (arith, n))
path_at_place paths t (suc i) path n is =
    let e : i ≡ t = omega (arith, n) in
    ap (slice_get paths) (sym e) ∙ sym is

pub path_there : (paths : List (List ℕ)) (t next : ℕ) → next ≡ suc t → t < length paths → None ≡ numbered_path paths next → ⊥
path_there paths t zero n l is = absurd (omega (arith, n))
path_there paths t (suc i) n l is =
    let e : i ≡ t = omega (arith, n) in
    let there = slice_get-get_or paths t [] l in
    let none = is ∙ ap (slice_get paths) e in
    cc

placed_more : (firsts : List ℕ) (views : List (Option PrimitiveViews)) (at : ℕ) (v : Option PrimitiveViews) → length firsts ≡ length views
    → placed_views (firsts ++ at ∷ []) (views ++ v ∷ []) ≡ placed_views firsts views ++ placed_view at v ∷ []
placed_more [] [] at v e = refl
placed_more [] (w ∷ views) at v e = absurd (omega (arith, e))
placed_more (first ∷ firsts) [] at v e = absurd (omega (arith, e))
placed_more (first ∷ firsts) (w ∷ views) at v e =
    ap (λ (tiles : List (Option TileTables)). placed_view first w ∷ tiles) (placed_more firsts views at v (omega (arith, e)))

placed_as : (at : ℕ) (v : PrimitiveViews) (T : TileTables) → T.first ≡ at → tables_in_view v ≡ T.tables
    → Some (record { first = at; tables = tables_in_view v }) ≡ Some T
placed_as at v T first tables = rw (← first, tables) refl

-- a tile is opened where it stands
placed_is : (at : ℕ) (v : Option PrimitiveViews) (tile : Option TileTables) → TileStandsAt at tile → tables_in_views v ≡ tables_in_tile tile → placed_view at v ≡ tile
placed_is at None None stands e = refl
placed_is at None (Some T) stands e = absurd cc
placed_is at (Some v) None stands e = absurd cc
placed_is at (Some v) (Some T) stands e = placed_as at v T stands (some_same (tables_in_view v) T.tables e)

pub one_more : (folder : List ℕ) (at count : ℕ) (paths : List (List ℕ)) (t next : ℕ) (files new : List File) (path : List ℕ)
    (firsts : List ℕ) (views : List (Option PrimitiveViews)) (v : Option PrimitiveViews) (tiles : List (Option TileTables))
    → ((tables : Option PrimitiveTables) (rest : List File) → OpensFolder (within folder path) tables rest files → tables_in_views v ≡ tables)
    → ((tables : Option PrimitiveTables) (rest : List File) → OpensFolder (within folder path) tables rest files → new ≡ rest)
    → count ≡ files_of_folder (tables_in_views v) → next ≡ suc t → Some path ≡ numbered_path paths next → length firsts ≡ length views
    → Ahead folder at paths t files (placed_views firsts views) tiles
    → Ahead folder (at + count) paths next new (placed_views (firsts ++ at ∷ []) (views ++ v ∷ [])) tiles
one_more folder at count paths t next files new path firsts views v tiles opened behind counted later is alike h =
    let n = next_tile folder at path paths t h.left files (path_at_place paths t next path later is) h.opens in
    let tables = opened (tables_in_tile n.tile) n.rest n.opens in
    let rest = behind (tables_in_tile n.tile) n.rest n.opens in
    let more = placed_more firsts views at v alike in
    let this = placed_is at v n.tile n.stands tables in
    let number : at + files_of_folder (tables_in_tile n.tile) ≡ at + count = ap (λ (k : ℕ). at + k) (sym (counted ∙ ap files_of_folder tables)) in
    let one : OpensTiles folder (at + count) (drop (suc t) paths) n.tiles n.rest = subst (λ (k : ℕ). OpensTiles folder k (drop (suc t) paths) n.tiles n.rest) number n.others in
    let two : OpensTiles folder (at + count) (drop next paths) n.tiles n.rest = subst (λ (k : ℕ). OpensTiles folder (at + count) (drop k paths) n.tiles n.rest) (sym later) one in
    record {
      left = n.tiles;
      opens = subst (OpensTiles folder (at + count) (drop next paths) n.tiles) (sym rest) two;
      all = h.all
          ∙ ap (λ (l : List (Option TileTables)). placed_views firsts views ++ l) n.are
          ∙ ap (λ (u : Option TileTables). placed_views firsts views ++ u ∷ n.tiles) (sym this)
          ∙ sym (append_assoc (placed_views firsts views) (placed_view at v ∷ []) n.tiles)
          ∙ ap (λ (l : List (Option TileTables)). l ++ n.tiles) (sym more);
    }

none_left : (folder : List ℕ) (at : ℕ) (paths : List (List ℕ)) (t : ℕ) (left : List (Option TileTables)) (files : List File)
    → length paths ≤ t → OpensTiles folder at (drop t paths) left files → left ≡ []
none_left folder at [] zero [] files l h = refl
none_left folder at [] zero (tile ∷ left) files l h = absurd h
none_left folder at [] (suc t) [] files l h = refl
none_left folder at [] (suc t) (tile ∷ left) files l h = absurd h
none_left folder at (path ∷ paths) zero left files l h = absurd (omega (arith, l))
none_left folder at (path ∷ paths) (suc t) left files l h = none_left folder at paths t left files (omega (arith, l)) h

-- all are opened at the end
pub all_opened : (folder : List ℕ) (at : ℕ) (paths : List (List ℕ)) (t : ℕ) (files : List File) (opened tiles : List (Option TileTables))
    → length paths ≤ t → Ahead folder at paths t files opened tiles → opened ≡ None ∷ tiles
all_opened folder at paths t files opened tiles l h =
    sym (h.all ∙ ap (λ (left : List (Option TileTables)). opened ++ left) (none_left folder at paths t h.left files l h.opens) ∙ append-nil opened)

-- what lies ahead is opened as some folder
pub next_opens : (folder : List ℕ) (at : ℕ) (paths : List (List ℕ)) (t next : ℕ) (files : List File) (path : List ℕ) (opened tiles : List (Option TileTables))
    → next ≡ suc t → Some path ≡ numbered_path paths next → Ahead folder at paths t files opened tiles
    → (tables : Option PrimitiveTables) × (rest : List File) × OpensFolder (within folder path) tables rest files
next_opens folder at paths t next files path opened tiles later is h =
    let n = next_tile folder at path paths t h.left files (path_at_place paths t next path later is) h.opens in
    (tables_in_tile n.tile, n.rest, n.opens)
