-- The index that is made of a column agrees with it.
use Rattle.std.proofs.Common.{◌≡◌, ◌∙◌, ℕ, List, [], ◌∷◌, Some, Result, Ok, Err, refl, ap, subst}
use Rattle.std.specs.Prelude.{slice_get}
use Rattle.vpf_triplet.specs.declared.places.Place.{Place}
use Rattle.vpf_head.specs.Head.{Col, place_of}
use Rattle.vpf_table.specs.Grid.{Grid}
use Rattle.vpf_table.specs.Reading.{table_of}
use Rattle.vpf_theme.specs.Findings.{cells_of}
use Rattle.vpf_theme_build.specs.declared.errors.BuildError.{BuildError}
use Rattle.vpf_theme_build.specs.declared.errors.BuildError.TheVariants as errors
use Rattle.vpf_theme_build.specs.Building.{BuiltIndexesServe, built_by}
use Rattle.vpf_source.specs.Names.Folders.{last_part}
use Rattle.vpf_table_commands.specs.declared.indexing.IndexRequest.{IndexRequest}
use Rattle.vpf_replies.specs.declared.verdict.Verdict.TheVariants.{Done}
use Rattle.vpf_replies.specs.Answer.{Answer}
use Rattle.vpf_table_commands.specs.Index.{built_answer, grid_index_answer, index_bytes_answer, on_built}
use Rattle.vpf_table_commands.specs.Index.{MadeIndexesServe}
use Rattle.vpf_replies.specs.Columns.{on_column}
use Rattle.vpf_replies.specs.Tables.{on_table}

-- the answer is done only where an index is built, and makes it
done_built : (request : IndexRequest) (built : Result (List ℕ) BuildError) → (on_built request built).verdict ≡ Done → (made : List ℕ) × (built ≡ Ok made) × ((on_built request built).made ≡ record { name = request.out; bytes = made } ∷ [])
done_built request (Ok bytes) e = (bytes, refl, refl)
done_built request (Err errors.Kind) e = absurd (cc e)
done_built request (Err (errors.Limit size)) e = absurd (cc e)
done_built request (Err errors.NoMemory) e = absurd (cc e)

table_answer : (request : IndexRequest) (table : Result Grid Place) (g : Grid) → table ≡ Ok g → on_table (grid_index_answer request) request.file table ≡ grid_index_answer request g
table_answer request table g e = rw e refl

-- the column of a name that is found
column_there : (over : ℕ → Col → Answer) (name : List ℕ) (columns : List Col) (c : ℕ) (column : Col) → place_of name columns ≡ Some c → slice_get columns c ≡ Some column → on_column over name columns ≡ over c column
column_there over name columns c column e f = rw (e, f) refl

-- the answer over a table is that over the column
answer_is : (request : IndexRequest) (bytes : List ℕ) (g : Grid) (c : ℕ) (column : Col) → table_of bytes ≡ Ok g → place_of request.column g.head.columns ≡ Some c → slice_get g.head.columns c ≡ Some column → index_bytes_answer request bytes ≡ built_answer request g c column
answer_is request bytes g c column read at there = table_answer request (table_of bytes) g read ∙ column_there (built_answer request g) request.column g.head.columns c column at there

pub made_serve : BuiltIndexesServe → MadeIndexesServe
made_serve serve request bytes g c column are read at there done =
    let e = answer_is request bytes g c column read at there in
    let built = built_by g.head.order (last_part request.file) request.form column (cells_of g c) column.count in
    let d = done_built request built (subst (λ (a : Answer). a.verdict ≡ Done) e done) in
    let s = serve bytes g c column request.form (last_part request.file) d.0 are read there d.1 in
    (d.0, ap (λ (a : Answer). a.made) e ∙ d.2, s.0, s.1)
