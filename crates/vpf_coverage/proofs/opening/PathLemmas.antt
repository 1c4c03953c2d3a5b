-- The paths of a table of tiles: no two are the same text, and none ends in a slash.
use Rattle.std.proofs.Common.{[], ◌≡◌, ℕ, suc, ◌<◌, false, List, ◌∷◌, length, get_or, refl, ap, sym, subst, ◌∙◌, arith}
use Rattle.std.specs.Prelude.{◌≢◌, All, nat_eq}
use Rattle.std.proofs.lemmas.Bool.{ne_eqb}
use Rattle.std.proofs.lemmas.List.{get_or-map, length-map, append-nil}
use Rattle.std.proofs.lemmas.List.Elements.{All-head, All-tail}
use Rattle.std.proofs.lemmas.Slice.Eq.{bytes_eq-Decides}
use Rattle.vpf_source.specs.Names.Naming.{slash}
use Rattle.vpf_table.specs.Grid.{Grid}
use Rattle.vpf_library_files.specs.Tileref.Paths.{TilePath, IsFolder, IsLetter, IsPath, path_text}
use Rattle.vpf_library_files.specs.Tileref.Stops.{path_texts}
use Rattle.vpf_library_files.specs.Tileref.Tileref.{IsTileref, paths_of}
use Rattle.vpf_library_files.specs.Inner.Tileref.PathLaws.{path_decides, same_decides}
use Rattle.vpf_library_files.specs.Inner.Tileref.TextLaws.{text_tells}
use Rattle.vpf_coverage.proofs.opening.NameLemmas.{EndsPlain, plain_behind}
use Rattle.vpf_library_files.specs.Inner.Tileref.CountLaws.{paths_counted as counted}

-- none of some texts ends in a slash
abbrev pub ArePlain : List (List ℕ) → Type 0
ArePlain texts = (i : ℕ) → i < length texts → EndsPlain (get_or texts i [])

-- no two of them are the same
abbrev pub AreApart : List (List ℕ) → Type 0
AreApart texts = (i j : ℕ) → i < length texts → j < length texts → get_or texts i [] ≡ get_or texts j [] → i ≡ j

-- the same of all behind the first
pub plain_rest : (text : List ℕ) (texts : List (List ℕ)) → ArePlain (text ∷ texts) → ArePlain texts
plain_rest text texts h i l = h (suc i) (omega arith)

pub apart_rest : (text : List ℕ) (texts : List (List ℕ)) → AreApart (text ∷ texts) → AreApart texts
apart_rest text texts h i j l m e =
    let s : suc i ≡ suc j = h (suc i) (suc j) (omega arith) (omega arith) e in
    omega (arith, s)

not_slash : (b : ℕ) → b ≢ slash → nat_eq slash b ≡ false
not_slash b h = ne_eqb slash b (λ e. h (sym e))

-- a folder's name ends in a letter
letters_end : (b : ℕ) (name : List ℕ) → All IsLetter (b ∷ name) → EndsPlain (b ∷ name)
letters_end b [] h = record { front = []; last = b; are = refl; plain = not_slash b (All-head IsLetter b [] h).straight }
letters_end b (c ∷ name) h =
    let r = letters_end c name (All-tail IsLetter b (c ∷ name) h) in
    record { front = b ∷ r.front; last = r.last; are = ap (λ (t : List ℕ). b ∷ t) r.are; plain = r.plain }

folder_ends : (name : List ℕ) → IsFolder name → EndsPlain name
folder_ends [] h = absurd (h.some refl)
folder_ends (b ∷ name) h = letters_end b name h.letters

-- the text of a path ends as its last folder does
folders_end : (first : List ℕ) (others : TilePath) → All IsFolder (first ∷ others) → EndsPlain (path_text (first ∷ others))
folders_end first [] h = subst EndsPlain (sym (append-nil first)) (folder_ends first (All-head IsFolder first [] h))
folders_end first (other ∷ others) h =
    plain_behind first (slash ∷ path_text (other ∷ others))
    (plain_behind (slash ∷ []) (path_text (other ∷ others)) (folders_end other others (All-tail IsFolder first (other ∷ others) h)))

path_ends : (path : TilePath) → IsPath path → EndsPlain (path_text path)
path_ends [] h = absurd (h.some refl)
path_ends (first ∷ others) h = folders_end first others h.folders

-- paths of one text are the same
one_path : (p q : TilePath) → IsPath p → IsPath q → path_text p ≡ path_text q → p ≡ q
one_path p q a b e =
    let tells = text_tells p q ((path_decides p).1 a) ((path_decides q).1 b) in
    (same_decides p q).0 (sym tells ∙ (bytes_eq-Decides (path_text p) (path_text q)).1 e)

-- the path of a row, and its text
path_of_row : (grid : Grid) → IsTileref grid → (i : ℕ) → i < length grid.rows → IsPath (get_or (paths_of grid) i [])
path_of_row grid h i l = h.paths (suc i) (omega arith, omega arith)

texts_counted : (grid : Grid) → length (path_texts grid) ≡ length (paths_of grid)
texts_counted grid = length-map (paths_of grid) path_text

text_at : (grid : Grid) (i : ℕ) → i < length (path_texts grid) → get_or (path_texts grid) i [] ≡ path_text (get_or (paths_of grid) i [])
text_at grid i l = get_or-map path_text (paths_of grid) i [] [] (omega (arith, texts_counted grid, l))

pub paths_plain : (grid : Grid) → IsTileref grid → ArePlain (path_texts grid)
paths_plain grid h i l =
    let row : i < length grid.rows = omega (arith, texts_counted grid, counted grid, l) in
    subst EndsPlain (sym (text_at grid i l)) (path_ends (get_or (paths_of grid) i []) (path_of_row grid h i row))

pub paths_apart : (grid : Grid) → IsTileref grid → AreApart (path_texts grid)
paths_apart grid h i j l m e =
    let row : i < length grid.rows = omega (arith, texts_counted grid, counted grid, l) in
    let other : j < length grid.rows = omega (arith, texts_counted grid, counted grid, m) in
    let same = one_path (get_or (paths_of grid) i []) (get_or (paths_of grid) j []) (path_of_row grid h i row) (path_of_row grid h j other)
    (sym (text_at grid i l) ∙ e ∙ text_at grid j m) in
    let s : suc i ≡ suc j = h.apart (suc i) (suc j) (omega arith, omega arith) (omega arith, omega arith) same in
    omega (arith, s)
