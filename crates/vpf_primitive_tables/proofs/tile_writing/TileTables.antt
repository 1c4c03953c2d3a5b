-- The table of tiles that is made: its ids have another kind and say what they said, and everything else stays.
use Rattle.std.proofs.Common.{[], ◌≡◌, ◌≢◌, ℕ, zero, suc, ◌+◌, ◌<◌, ◌≤◌, pos, negsuc, true, List, ◌∷◌, length, map, codes, get_or, Option, Some, None, slice_get, unwrap_or, refl, sym, ap, ◌∙◌, subst, arith}
use Rattle.std.specs.Prelude.{position}
use Rattle.std.specs.List.{AllByRecursion, enumerate_from}
use Rattle.std.specs.Option.{option_and_then, option_map, option_to_list}
use Rattle.std.proofs.lemmas.Bool.{eq-eqb, ne_eqb}
use Rattle.std.proofs.lemmas.List.Elements.{recursion_from_All}
use Rattle.vpf_triplet.specs.declared.kinds.Kind.{Kind}
use Rattle.vpf_triplet.specs.declared.kinds.Kind.TheVariants as kinds
use Rattle.vpf_value.specs.Values.{NumberOf, Value, Nothing}
use Rattle.vpf_head.specs.Folding.{same_name}
use Rattle.vpf_head.specs.Head.{Col, place_of}
use Rattle.vpf_head.specs.Inner.Soundness.{IsSound}
use Rattle.vpf_table.specs.Canonical.{FitsRow}
use Rattle.vpf_table.specs.Grid.{Grid, Row}
use Rattle.vpf_prims.specs.Columns.{column_of}
use Rattle.vpf_prims.specs.Lists.{kth}
use Rattle.vpf_prims.specs.Numbering.{IsRowOf}
use Rattle.vpf_prims.specs.Reading.{named_cell, natural_in}
use Rattle.vpf_prims.specs.References.{cell_at}
use Rattle.vpf_prims.specs.Roles.{number_role, suits, text_role, tileref_roles}
use Rattle.vpf_prims.specs.declared.roles.Wants.TheVariants as wants
use Rattle.vpf_prims.specs.Suiting.{HasRoles, SuitsRole}
use Rattle.vpf_library_files.specs.Tileref.Paths.{IsPath, TilePath, path_of, path_text}
use Rattle.vpf_library_files.specs.Tileref.Tileref.{IsTileref, paths_of, text_bytes}
use Rattle.vpf_wing.specs.Inner.DartLaws.{none_is_some, same_some}
use Rattle.vpf_write.specs.declared.revise.changes.NewKind.{NewKind}
use Rattle.vpf_write.specs.Revise.Revising.{kind_for, revised, revised_column, revised_value, value_for, with_kinds}
use Rattle.vpf_tiling.specs.Ranks.{numbered_from}
use Rattle.vpf_primitive_tables.specs.TableForms.Forms.{id_kinds, natural_value}
use Rattle.vpf_primitive_tables.specs.TileTables.Grids.{tiles_made}
use Rattle.vpf_primitive_tables.specs.Inner.TileReading.ChangeLaws.{places_differ}
use Rattle.vpf_primitive_tables.proofs.table_forms.NewCellLemmas.{id_kinds_are, kind_at, value_put}
use Rattle.vpf_primitive_tables.specs.Inner.TileWriting.Laws.{TilerefIsRead, TilerefIsWritable}
use Rattle.vpf_primitive_tables.proofs.tile_writing.FittingRows.{MadeLaws, id_row, numbered_all}
use Rattle.vpf_primitive_tables.proofs.tile_writing.PlacedColumns.{HasPlace, number_at}
use Rattle.vpf_primitive_tables.proofs.tile_writing.SoundKinds.{TakesRows, shown_sound}
use Rattle.vpf_primitive_tables.proofs.tile_tables.TileLemmas.{tile_row}

-- ---- rows: each id is the number that it was

number_in : (v : Value) (k : ℕ) → natural_in v ≡ Some k → v ≡ natural_value k
number_in (NumberOf (pos n)) k e = ap natural_value (same_some n k e)
number_in (NumberOf (negsuc n)) k e = absurd (none_is_some k e)
number_in v k e = absurd (none_is_some k e)

value_here : (c : ℕ) (v : Value) (n : ℕ) → c ≡ n → value_for n (value_put c v ∷ []) ≡ Some v
value_here c v n e = rw (eq-eqb c n e) refl

value_elsewhere : (c : ℕ) (v : Value) (n : ℕ) → c ≢ n → value_for n (value_put c v ∷ []) ≡ None
value_elsewhere c v n e = rw (ne_eqb c n e) refl

value_or : (c : ℕ) (v : Value) (n : ℕ) (x : Value) (o : Option Value) → value_for n (value_put c v ∷ []) ≡ o
    → revised_value (value_put c v ∷ []) n x ≡ unwrap_or o x
value_or c v n x o e = ap (λ (o : Option Value). unwrap_or o x) e

-- behind its column a new value changes nothing
later_values : (c : ℕ) (v : Value) (n : ℕ) (row : Row) → c < n → map (λ at. revised_value (value_put c v ∷ []) at.0 at.1) (enumerate_from n row) ≡ row
later_values c v n [] h = refl
later_values c v n (x ∷ xs) h =
    let other : c ≢ n = λ same. omega arith in
    let here : revised_value (value_put c v ∷ []) n x ≡ x = value_or c v n x None (value_elsewhere c v n other) in
    let rest = later_values c v (n + 1) xs (omega arith) in
    cc

-- a value that stands there already changes nothing
own_value : (c : ℕ) (v : Value) (n k : ℕ) (row : Row) → c ≡ n + k → get_or row k Nothing ≡ v
    → map (λ at. revised_value (value_put c v ∷ []) at.0 at.1) (enumerate_from n row) ≡ row
own_value c v n k [] e is = refl
own_value c v n zero (x ∷ xs) e is =
    let here : revised_value (value_put c v ∷ []) n x ≡ v = value_or c v n x (Some v) (value_here c v n (omega arith)) in
    let rest = later_values c v (n + 1) xs (omega arith) in
    cc
own_value c v n (suc k) (x ∷ xs) e is =
    let other : c ≢ n = λ same. omega arith in
    let here : revised_value (value_put c v ∷ []) n x ≡ x = value_or c v n x None (value_elsewhere c v n other) in
    let rest = own_value c v (n + 1) k xs (omega arith) is in
    cc

row_same : (row : Row) (k : ℕ) (o : Option ℕ) → natural_in (cell_at row o) ≡ Some k
    → revised (option_to_list (option_map (λ c. value_put c (natural_value k)) o)) row ≡ row
row_same row k None e = absurd (none_is_some k e)
row_same row k (Some c) e = own_value c (natural_value k) 0 c row (omega arith) (number_in (cell_at row (Some c)) k e)

rows_from : (columns : List Col) (n : ℕ) (rows : List Row)
    → ((j : ℕ) → j < length rows → natural_in (named_cell columns (codes "id") (get_or rows j [])) ≡ Some (n + j))
    → numbered_from n (tile_row columns) rows ≡ rows
rows_from columns n [] ids = refl
rows_from columns n (row ∷ rows) ids =
    let here : n + 0 ≡ n = omega arith in
    let first : tile_row columns n row ≡ row = row_same row n (place_of (codes "id") columns) (ids 0 (omega arith) ∙ ap Some here) in
    let rest : numbered_from (suc n) (tile_row columns) rows ≡ rows =
    rows_from columns (suc n) rows (λ j h. ids (suc j) (omega arith) ∙ ap Some (let e : n + suc j ≡ suc n + j = omega arith in e)) in
    cc

-- the rows stay
rows_same : (grid : Grid) → IsTileref grid → (tiles_made grid).rows ≡ grid.rows
rows_same grid t = rows_from grid.head.columns 1 grid.rows (λ j h.
    let low : 1 ≤ suc j = omega arith in
    let high : suc j ≤ length grid.rows = omega arith in
    t.ids (suc j) (low, high) ∙ ap Some (let e : suc j ≡ 1 + j = omega arith in e))

-- ---- columns

kind_here : (c : ℕ) (kind : Kind) → kind_for c (kind_at c kind ∷ []) ≡ Some kind
kind_here c kind = rw (eq-eqb c c refl) refl

kind_elsewhere : (c : ℕ) (kind : Kind) (n : ℕ) → c ≢ n → kind_for n (kind_at c kind ∷ []) ≡ None
kind_elsewhere c kind n e = rw (ne_eqb c n e) refl

-- a new kind for the column of ids, where there is one
abbrev kind_there : Option ℕ → List NewKind
kind_there o = option_to_list (option_map (λ c. kind_at c kinds.I) o)

-- the column at a place, with its new kind
abbrev new_column : List NewKind → List Col → Option ℕ → Option Col
new_column news columns o = option_and_then (λ q. option_map (revised_column news q) (slice_get columns q)) o

-- names stand where they stood
place_same : MadeLaws → (news : List NewKind) (columns : List Col) (name : List ℕ) → place_of name (with_kinds news columns) ≡ place_of name columns
place_same l news columns name = ap (λ (names : List (List ℕ)). position (same_name name) names) (l.named news columns)

column_same : MadeLaws → (news : List NewKind) (columns : List Col) (name : List ℕ)
    → column_of (with_kinds news columns) name ≡ new_column news columns (place_of name columns)
column_same l news columns name =
    ap (λ (o : Option ℕ). option_and_then (slice_get (with_kinds news columns)) o) (place_same l news columns name) ∙ at (place_of name columns)
  where
    at : (o : Option ℕ) → option_and_then (slice_get (with_kinds news columns)) o ≡ new_column news columns o
    at None = refl
    at (Some q) = l.places news columns q

-- ids are numbers
abbrev id_role_suits : Option Col → Type 0
id_role_suits o = SuitsRole (number_role (codes "id")) o

number_suits : (c : ℕ) (o : Option Col) → id_role_suits o → id_role_suits (option_map (revised_column (kind_at c kinds.I ∷ []) c) o)
number_suits c None s = s
number_suits c (Some x) s = subst (λ (o : Option Kind). suits wants.Number (unwrap_or o x.kind) ≡ true) (sym (kind_here c kinds.I)) refl

ids_suit : (columns : List Col) (o : Option ℕ) → id_role_suits (option_and_then (slice_get columns) o) → id_role_suits (new_column (kind_there o) columns o)
ids_suit columns None s = s
ids_suit columns (Some c) s = number_suits c (slice_get columns c) s

-- names of tiles are texts
abbrev name_role_suits : Option Col → Type 0
name_role_suits o = SuitsRole (text_role (codes "tile_name")) o

text_suits : (news : List NewKind) (q : ℕ) (o : Option Col) → kind_for q news ≡ None → name_role_suits o
    → name_role_suits (option_map (revised_column news q) o)
text_suits news q None e s = s
text_suits news q (Some x) e s = subst (λ (o : Option Kind). suits wants.Text (unwrap_or o x.kind) ≡ true) (sym e) s

names_suit : (columns : List Col) (o p : Option ℕ) → ((c q : ℕ) → o ≡ Some c → p ≡ Some q → c ≢ q) → name_role_suits (option_and_then (slice_get columns) p)
    → name_role_suits (new_column (kind_there o) columns p)
names_suit columns o None apart s = s
names_suit columns None (Some q) apart s = text_suits [] q (slice_get columns q) refl s
names_suit columns (Some c) (Some q) apart s = text_suits (kind_at c kinds.I ∷ []) q (slice_get columns q) (kind_elsewhere c kinds.I q (apart c q refl refl)) s

roles_same : MadeLaws → (grid : Grid) → HasRoles tileref_roles grid → HasRoles tileref_roles (tiles_made grid)
roles_same l grid roles =
    let columns : List Col = grid.head.columns in
    let id : Option ℕ = place_of (codes "id") columns in
    let name : Option ℕ = place_of (codes "tile_name") columns in (
      subst id_role_suits (sym (column_same l (id_kinds columns) columns (codes "id"))) (ids_suit columns id roles.0),
      (
        subst name_role_suits (sym (column_same l (id_kinds columns) columns (codes "tile_name")))
            (names_suit columns id name (λ c q e f. places_differ (codes "id") (codes "tile_name") columns c q refl e f) roles.1.0),
        tt,
      ),
    )

-- ---- the table

-- the paths of these rows, by the place of the column of names
abbrev paths_at : List Row → Option ℕ → List TilePath
paths_at rows o = map (λ row. path_of (text_bytes (cell_at row o))) rows

paths_same : MadeLaws → (grid : Grid) → IsTileref grid → paths_of (tiles_made grid) ≡ paths_of grid
paths_same l grid t =
    let columns : List Col = grid.head.columns in
    ap (paths_at (tiles_made grid).rows) (place_same l (id_kinds columns) columns (codes "tile_name"))
    ∙ ap (λ (rows : List Row). paths_at rows (place_of (codes "tile_name") columns)) (rows_same grid t)

made_tileref : MadeLaws → (grid : Grid) → IsTileref grid → IsTileref (tiles_made grid)
made_tileref l grid t =
    let columns : List Col = grid.head.columns in
    let made : Grid = tiles_made grid in
    let same : made.rows ≡ grid.rows = rows_same grid t in
    let paths : paths_of made ≡ paths_of grid = paths_same l grid t in
    let row : (k : ℕ) → IsRowOf (length made.rows) k → IsRowOf (length grid.rows) k = λ k h. subst (λ (rows : List Row). IsRowOf (length rows) k) same h in
    record {
      columns = roles_same l grid t.columns;
      some = subst (λ (rows : List Row). 1 ≤ length rows) (sym same) t.some;
      ids = λ k h.
          ap (λ (o : Option ℕ). natural_in (cell_at (kth made.rows k []) o)) (place_same l (id_kinds columns) columns (codes "id"))
          ∙ ap (λ (rows : List Row). natural_in (named_cell columns (codes "id") (kth rows k []))) same ∙ t.ids k (row k h);
      paths = λ k h. subst (λ (paths : List TilePath). IsPath (kth paths k [])) (sym paths) (t.paths k (row k h));
      apart = λ j k h i e.
          t.apart j k (row j h) (row k i)
          (ap (λ (paths : List TilePath). kth paths j []) (sym paths) ∙ e ∙ ap (λ (paths : List TilePath). kth paths k []) paths);
    }

-- it is a table of tiles with the same paths
pub tileref_read : MadeLaws → TilerefIsRead
tileref_read l grid t = (made_tileref l grid t, ap (map path_text) (paths_same l grid t))

-- and it is writable
pub tileref_writable : MadeLaws → TilerefIsWritable
tileref_writable l grid t writable few =
    let columns : List Col = grid.head.columns in
    let sound : IsSound grid.head = writable.sound in
    let id : HasPlace columns (codes "id") = number_at columns (codes "id") sound.counts t.columns.0 in
    let news : List NewKind = kind_at id.place kinds.I ∷ [] in
    let takes : AllByRecursion (TakesRows columns) news = (record { one = id.at.one; rows = refl }, tt) in
    record {
      sound = shown_sound l.sound l.places (id_kinds columns) news grid.head (id_kinds_are columns id.place id.at) takes sound;
      fits = numbered_all (FitsRow (with_kinds (id_kinds columns) columns)) (FitsRow columns) (tile_row columns) grid.rows
          (recursion_from_All (FitsRow columns) grid.rows writable.fits)
          (λ k row most fits. id_row l columns id.place k row id.at (omega arith) fits);
    }
