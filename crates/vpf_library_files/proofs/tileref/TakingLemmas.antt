-- Rows of tiles, looked at one after another.
use Rattle.std.proofs.Common.{[], ◌≡◌, ℕ, suc, ◌+◌, ◌-◌, ◌<◌, Bool, true, false, Option, Some, None, Err, arith, List, ◌∷◌, ◌++◌, length, map, take, drop, get_or, refl, sym, ap, subst, ◌∙◌, add-one}
use Rattle.std.specs.Prelude.{◌&&◌, ◌||◌, not}
use Rattle.std.specs.List.{list_all, list_any}
use Rattle.std.specs.Str.{bytes_eq}
use Rattle.std.proofs.Math.Seq.{drop-cons}
use Rattle.std.proofs.lemmas.List.{get_or-map, length-drop, length-map, map-append, take_more}
use Rattle.std.proofs.lemmas.List.Folds.{list_all-append}
use Rattle.vpf_base.proofs.Booleans.{both}
use Rattle.vpf_table.specs.Grid.{Row}
use Rattle.vpf_findings.specs.declared.errors.FindError.{FindError}
use Rattle.vpf_findings.specs.Findings.{Disagreement}
use Rattle.vpf_findings.specs.Firsts.{Tells, first_of_rows}
use Rattle.vpf_prims.specs.Columns.{RoleAt}
use Rattle.vpf_prims.specs.Lines.{id_line}
use Rattle.vpf_library_files.specs.Tileref.Paths.{TilePath, is_path, path_text, same_path, text_of_path}
use Rattle.vpf_library_files.specs.Tileref.Tileref.{row_path, tile_row_lines, tileref_at}
use Rattle.vpf_library_files.specs.Inner.Tileref.Taking.{is_new, name_line, next_tile_lines}
use Rattle.vpf_library_files.proofs.tileref.FindingLemmas.{stops_first}
use Rattle.vpf_library_files.proofs.tileref.LawLines.{neither_line, unless_passes}
use Rattle.vpf_library_files.specs.Inner.Tileref.TextLaws.{text_tells}

-- where a path has a text, it is one
text_some : (path : TilePath) (text : List ℕ) (b : Bool) → is_path path ≡ b → Some text ≡ text_of_path path → (is_path path ≡ true) × (text ≡ path_text path)
text_some path text true is e = (is, let f : Some text ≡ Some (path_text path) = rw is at e in cc)
text_some path text false is e = absurd (let f : Some text ≡ None = rw is at e in cc)

any_mapped : {X Y : Type 0} (p : Y → Bool) (f : X → Y) (xs : List X) → list_any p (map f xs) ≡ list_any (λ x. p (f x)) xs
any_mapped p f [] = refl
any_mapped p f (x ∷ xs) = ap (λ (b : Bool). p (f x) || b) (any_mapped p f xs)

-- a path is put exactly where it is new
pub put_where_new : {S : Type 0} (text : S → List ℕ) (key : S) (keys : List S) (path : TilePath) (put : Bool) → Some (text key) ≡ text_of_path path
    → put ≡ not (list_any (λ other. bytes_eq (text key) (text other)) keys) → put ≡ is_new (map text keys) path
put_where_new {S} text key keys path put e is =
    let t = text_some path (text key) (is_path path) refl e in
    is ∙ sym (rw (t.0, ← t.1, any_mapped (bytes_eq (text key)) text keys) refl)

-- among the texts of paths is that of a path exactly where it is one of them
any_told : (path : TilePath) (paths : List TilePath) → is_path path ≡ true → list_all is_path paths ≡ true
    → list_any (bytes_eq (path_text path)) (map path_text paths) ≡ list_any (same_path path) paths
any_told path [] is all = refl
any_told path (other ∷ paths) is all =
    let rest = both (is_path other) (list_all is_path paths) all in
    rw (text_tells path other is rest.0, any_told path paths is rest.1) refl

-- a path is new by texts exactly where it is by paths
new_at : (path : TilePath) (paths : List TilePath) (texts : List (List ℕ)) (b : Bool)
    → is_path path ≡ b → list_all is_path paths ≡ true → texts ≡ map path_text paths
    → is_new texts path ≡ (is_path path && not (list_any (same_path path) paths))
new_at path paths texts true is all are = rw (is, are, any_told path paths is all) refl
new_at path paths texts false is all are = rw is refl

-- the line by the texts of the paths before is that by all paths
pub next_is : (id name : RoleAt) (paths : List TilePath) (texts : List (List ℕ)) (k : ℕ) (row : Row)
    → list_all is_path (take k paths) ≡ true → texts ≡ map path_text (take k paths)
    → next_tile_lines id name texts (k + 1) row ≡ tile_row_lines id name paths (k + 1) row
next_is id name paths texts k row all are =
    let e : k + 1 - 1 ≡ k = omega arith in
    rw (e, new_at (row_path name row) (take k paths) texts (is_path (row_path name row)) refl all are) refl

-- a row without a finding names a path
pub next_path : (id name : RoleAt) (texts : List (List ℕ)) (k : ℕ) (row : Row) → next_tile_lines id name texts k row ≡ None → is_path (row_path name row) ≡ true
next_path id name texts k row silent =
    let named : name_line name texts k row ≡ None = ((neither_line (id_line tileref_at k id row) (name_line name texts k row)).0 silent).1 in
    (both (is_path (row_path name row)) _ ((unless_passes (is_new texts (row_path name row)) _).0 named)).0

-- one more element is taken from those that are left
pub stepped : {X : Type 0} (xs : List X) (k : ℕ) (x : X) (rest left : List X) → rest ≡ drop k xs → rest ≡ x ∷ left
    → (k < length xs) × (get_or xs k x ≡ x) × (left ≡ drop (k + 1) xs)
stepped xs k x rest left is steps =
    let some : k < length xs = omega (arith, length-drop k xs, ap length is, ap length steps) in
    let whole : x ∷ left ≡ get_or xs k x ∷ drop (suc k) xs = sym steps ∙ is ∙ drop-cons xs k x some in
    (some, cc, rw add-one cc)

-- what it is read as stands behind what those before are
pub taken_more : {X Y : Type 0} (f : X → Y) (xs : List X) (k : ℕ) (x : X) → k < length xs → get_or xs k x ≡ x
    → take (k + 1) (map f xs) ≡ take k (map f xs) ++ f x ∷ []
taken_more {X} {Y} f xs k x some here =
    let inside : k < length (map f xs) = omega (arith, length-map xs f) in
    let is : get_or (map f xs) k (f x) ≡ f x = get_or-map f xs k x (f x) some ∙ ap f here in
    take_more (map f xs) k (f x) inside ∙ ap (λ (y : Y). take k (map f xs) ++ y ∷ []) is

-- the texts of the paths
pub texts_more : (paths more : List TilePath) (path : TilePath) (old new : List (List ℕ))
    → more ≡ paths ++ path ∷ [] → new ≡ old ++ path_text path ∷ [] → old ≡ map path_text paths → new ≡ map path_text more
texts_more paths more path old new are put is = put ∙ rw (is, are, map-append path_text paths (path ∷ [])) refl

-- all of them are paths
pub paths_more : (paths more : List TilePath) (path : TilePath) → more ≡ paths ++ path ∷ []
    → list_all is_path paths ≡ true → is_path path ≡ true → list_all is_path more ≡ true
paths_more paths more path are all is = rw (are, list_all-append is_path paths (path ∷ []), all, is) refl

-- what stops a call at a row is the first finding of all rows
pub stops_at_row : (e : FindError) (lines : ℕ → Row → Option Disagreement) (k : ℕ) (row : Row) (rest left : List Row) (whole : Option Disagreement)
    → rest ≡ row ∷ left → Tells {V = Unit {0}} (Err e) (lines (k + 1) row) → first_of_rows lines (k + 1) rest ≡ whole → Tells {V = Unit {0}} (Err e) whole
stops_at_row e lines k row rest left whole steps told is =
    let told_at : Option Disagreement → Type 0 = λ (v : Option Disagreement). Tells {V = Unit {0}} (Err e) v in
    subst told_at is (rw steps (stops_first e (lines (k + 1) row) (first_of_rows lines (suc (k + 1)) left) told))
