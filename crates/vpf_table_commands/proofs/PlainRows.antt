-- Where the index of a column agrees with it, a plain scan answers the same.
use Rattle.std.proofs.Common.{◌≡◌, ◌∙◌, ℕ, ◌<◌, Bool, true, false, List, Option, None, Some, Result, Ok, Err, length, cond, refl, sym, ap}
use Rattle.std.specs.Prelude.{slice_get}
use Rattle.std.proofs.lemmas.Option.{slice_get_within}
use Rattle.vpf_base.specs.Limits.{most_bytes}
use Rattle.vpf_source.specs.Files.{Files}
use Rattle.vpf_source.specs.Loading.{load_answer}
use Rattle.vpf_triplet.specs.declared.places.Place.{Place}
use Rattle.vpf_head.specs.Head.{Col, place_of, varies_in}
use Rattle.vpf_table.specs.Grid.{Grid}
use Rattle.vpf_table.specs.Opening.{opened_of}
use Rattle.vpf_theme.specs.Agreeing.{AgreesAt}
use Rattle.vpf_theme.specs.Entries.{Theme}
use Rattle.vpf_theme.specs.Reading.{theme_of}
use Rattle.vpf_source.specs.Names.Indexes.{index_name}
use Rattle.vpf_replies.specs.Answer.{Answer}
use Rattle.vpf_replies.specs.Columns.{on_found, on_place}
use Rattle.vpf_replies.specs.Found.{missing_answer, on_loaded}
use Rattle.vpf_replies.specs.Tables.{on_table}
use Rattle.vpf_table_commands.specs.declared.selecting.RowsRequest.{RowsRequest}
use Rattle.vpf_table_commands.specs.Rows.{AgreesIfThere, IndexAgrees, IndexAnswersAsTheScan, NamedAgrees, OverColumn, PlainRows, by_theme, column_answer, fitting_answer, grid_rows_answer, on_theme, plain_bytes_answer, rows_answer_over, rows_bytes_answer, scan_answer, table_rows_answer, theme_file, varying_answer, with_index}

-- ---- equal answers, from part to part

tables_alike : (f h : Grid → Answer) (name : List ℕ) (table : Result Grid Place) → ((g : Grid) → table ≡ Ok g → f g ≡ h g) → on_table f name table ≡ on_table h name table
tables_alike f h name (Ok g) e = e g refl
tables_alike f h name (Err place) e = refl

files_alike : (f h : List ℕ → Answer) (a b : Answer) (name : List ℕ) (loaded : Result (Option (List ℕ)) ℕ) → ((bytes : List ℕ) → f bytes ≡ h bytes) → a ≡ b → on_loaded f a name loaded ≡ on_loaded h b name loaded
files_alike f h a b name (Ok (Some bytes)) e d = e bytes
files_alike f h a b name (Ok None) e d = d
files_alike f h a b name (Err size) e d = refl

places_alike : (f h : ℕ → Col → Answer) (name : List ℕ) (c : ℕ) (column : Option Col) → ((k : Col) → column ≡ Some k → f c k ≡ h c k) → on_place f name c column ≡ on_place h name c column
places_alike f h name c None e = refl
places_alike f h name c (Some k) e = e k refl

names_alike : (f h : ℕ → Col → Answer) (name : List ℕ) (columns : List Col) (place : Option ℕ) → ((c : ℕ) (k : Col) → place ≡ Some c → slice_get columns c ≡ Some k → f c k ≡ h c k) → on_found f name columns place ≡ on_found h name columns place
names_alike f h name columns None e = refl
names_alike f h name columns (Some c) e = places_alike f h name c (slice_get columns c) (λ k. e c k refl)

choices_alike : (b : Bool) (p q r s : Answer) → p ≡ r → q ≡ s → cond b p q ≡ cond b r s
choices_alike true p q r s e d = e
choices_alike false p q r s e d = d

-- ---- the answer over a column

themes_alike : IndexAnswersAsTheScan → (request : RowsRequest) (g : Grid) (c : ℕ) (column : Col) (name : List ℕ) (theme : Result Theme Place) (t : Theme) → c < length g.head.columns → slice_get g.head.columns c ≡ Some column
    → theme ≡ Ok t → AgreesAt t g c → on_theme (fitting_answer request g c column name) name theme ≡ scan_answer request g c column
themes_alike law request g c column name theme t inside there e agrees = ap (on_theme (fitting_answer request g c column name) name) e ∙ law request g c column name t inside there agrees

loaded_alike : IndexAnswersAsTheScan → (request : RowsRequest) (g : Grid) (c : ℕ) (column : Col) (name : List ℕ) (loaded : Result (Option (List ℕ)) ℕ) → c < length g.head.columns → slice_get g.head.columns c ≡ Some column
    → AgreesIfThere g c loaded → on_loaded (λ bytes. on_theme (fitting_answer request g c column name) name (theme_of g.head.order bytes)) (scan_answer request g c column) name loaded ≡ scan_answer request g c column
loaded_alike law request g c column name (Ok (Some bytes)) inside there h = themes_alike law request g c column name (theme_of g.head.order bytes) h.0 inside there h.1 h.2
loaded_alike law request g c column name (Ok None) inside there h = refl
loaded_alike law request g c column name (Err size) inside there h = absurd h

named_alike : IndexAnswersAsTheScan → (files : Files) (request : RowsRequest) (g : Grid) (c : ℕ) (column : Col) (theme : Option (List ℕ)) → c < length g.head.columns → slice_get g.head.columns c ≡ Some column
    → NamedAgrees files g c theme → by_theme files request g c column theme ≡ scan_answer request g c column
named_alike law files request g c column None inside there h = refl
named_alike law files request g c column (Some name) inside there h = loaded_alike law request g c column name (load_answer (files name) most_bytes) inside there h

columns_alike : IndexAnswersAsTheScan → (files : Files) (request : RowsRequest) (g : Grid) (c : ℕ) (column : Col) → slice_get g.head.columns c ≡ Some column → NamedAgrees files g c (theme_file request column) → column_answer files request g c column ≡ scan_answer request g c column
columns_alike law files request g c column there h = named_alike law files request g c column (theme_file request column) (slice_get_within g.head.columns c column there) there h

-- ---- the answer over the files

-- the two answer alike over the column that is asked for
abbrev AreAlike : OverColumn → OverColumn → RowsRequest → List ℕ → Type 0
AreAlike f h request bytes = (index : Option (List ℕ)) (g : Grid) (c : ℕ) (k : Col) → opened_of bytes index ≡ Ok g → place_of request.column g.head.columns ≡ Some c → slice_get g.head.columns c ≡ Some k → f g c k ≡ h g c k

grids_alike : (f h : OverColumn) (request : RowsRequest) (bytes : List ℕ) → AreAlike f h request bytes → (index : Option (List ℕ)) (g : Grid) → opened_of bytes index ≡ Ok g → grid_rows_answer f request g ≡ grid_rows_answer h request g
grids_alike f h request bytes alike index g e = names_alike (f g) (h g) request.column g.head.columns (place_of request.column g.head.columns) (λ c k p q. alike index g c k e p q)

indexes_alike : (f h : OverColumn) (request : RowsRequest) (bytes : List ℕ) → AreAlike f h request bytes → (index : List ℕ) → with_index f request bytes index ≡ with_index h request bytes index
indexes_alike f h request bytes alike index = tables_alike (grid_rows_answer f request) (grid_rows_answer h request) (index_name request.file) (opened_of bytes (Some index)) (grids_alike f h request bytes alike (Some index))

varying_alike : (f h : OverColumn) (files : Files) (request : RowsRequest) (bytes : List ℕ) → AreAlike f h request bytes → (g : Grid) → opened_of bytes None ≡ Ok g → varying_answer f files request bytes g ≡ varying_answer h files request bytes g
varying_alike f h files request bytes alike g e =
    files_alike (with_index f request bytes) (with_index h request bytes) (grid_rows_answer f request g) (grid_rows_answer h request g) (index_name request.file) (load_answer (files (index_name request.file)) most_bytes)
    (indexes_alike f h request bytes alike) (grids_alike f h request bytes alike None g e)

rows_alike : (f h : OverColumn) (files : Files) (request : RowsRequest) (bytes : List ℕ) → AreAlike f h request bytes → (g : Grid) → opened_of bytes None ≡ Ok g → table_rows_answer f files request bytes g ≡ table_rows_answer h files request bytes g
rows_alike f h files request bytes alike g e =
    choices_alike (varies_in g.head.columns) (varying_answer f files request bytes g) (grid_rows_answer f request g) (varying_answer h files request bytes g) (grid_rows_answer h request g)
    (varying_alike f h files request bytes alike g e) (grids_alike f h request bytes alike None g e)

answers_alike : (f h : OverColumn) (files : Files) (request : RowsRequest) (bytes : List ℕ) → AreAlike f h request bytes → rows_answer_over f files request bytes ≡ rows_answer_over h files request bytes
answers_alike f h files request bytes alike = tables_alike (table_rows_answer f files request bytes) (table_rows_answer h files request bytes) request.file (opened_of bytes None) (rows_alike f h files request bytes alike)

-- ---- the answer

loaded_plain : IndexAnswersAsTheScan → (files : Files) (request : RowsRequest) (loaded : Result (Option (List ℕ)) ℕ) → load_answer (files request.file) most_bytes ≡ loaded → IndexAgrees files request
    → on_loaded (plain_bytes_answer files request) (missing_answer request.file) request.file loaded ≡ on_loaded (rows_bytes_answer files request) (missing_answer request.file) request.file loaded
loaded_plain law files request (Ok (Some bytes)) e agrees =
    sym (answers_alike (column_answer files request) (scan_answer request) files request bytes (λ index g c k o p q. columns_alike law files request g c k q (agrees bytes index g c k e o p q)))
loaded_plain law files request (Ok None) e agrees = refl
loaded_plain law files request (Err size) e agrees = refl

pub plain_rows : IndexAnswersAsTheScan → PlainRows
plain_rows law files request agrees = loaded_plain law files request (load_answer (files request.file) most_bytes) refl agrees
