use Rattle.std.proofs.Common.{List, ℕ, ◌∙◌, String, Global, map, string_bytes, sym, ap, arith}
use Rattle.std.proofs.lemmas.Result.{err_from_is_err_and}
use Rattle.vpf_prims.specs.Columns.{role_at}
use Rattle.vpf_library_files.specs.Tileref.Bounds.{lengths_bound, rows_bound}
use Rattle.vpf_library_files.proofs.tileref.BoundLemmas.{rows_few}
use Rattle.vpf_library_files.proofs.tileref.StopLemmas.{length_stops, no_finding, nothing_stops, texts_are, texts_count}
use Rattle.vpf_library_files.proofs.tileref.reading.read_tileref.Goals as goal

pub returns-in_err-check_lengths-clause-first : goal.returns-in_err-check_lengths-clause-first
returns-in_err-check_lengths-clause-first c =
    let grid = c.args.table.now in
    let columns = c.in_ok-columns.columns in
    let few = ap rows_bound (sym c.len.ensures.value) ∙ c.in_ok-check_count.ensures in
    let placed = c.in_ok-columns.ensures in
    let none = no_finding grid columns.id columns.name placed.id placed.name placed.first c.in_ok-paths.ensures.first in
    let texts = texts_are grid columns.name _ placed.name c.in_ok-paths.ensures.paths in
    let long = ap lengths_bound (sym texts
    ∙ ap (map (λ (path : String Global). string_bytes path)) (sym c.as_slice.ensures.keys))
    ∙ c.in_err-check_lengths.ensures in
    let p = err_from_is_err_and c.from_residual-in_err-check_lengths.result c.from_residual-in_err-check_lengths.ensures.1 in
    rw (p.1, p.2) (length_stops grid c.in_err-check_lengths.field-0.0 few none long)

pub new-requires : goal.new-requires
new-requires c =
    let few = rows_few c.len.result c.in_ok-check_count.ensures in
    let text : String Global → List ℕ = λ (path : String Global). string_bytes path in
    let name = role_at c.in_ok-columns.columns.name in
    let count = texts_count c.args.table.now name text c.in_ok-paths.paths.keys c.in_ok-paths.ensures.paths in
    omega (arith, few, count, c.len.ensures.value)

pub returns-clause-paths : goal.returns-clause-paths
returns-clause-paths c = c.new.ensures ∙ texts_are c.args.table.now c.in_ok-columns.columns.name _ c.in_ok-columns.ensures.name c.in_ok-paths.ensures.paths

pub returns-clause-first : goal.returns-clause-first
returns-clause-first c =
    let grid = c.args.table.now in
    let columns = c.in_ok-columns.columns in
    let few = ap rows_bound (sym c.len.ensures.value) ∙ c.in_ok-check_count.ensures in
    let placed = c.in_ok-columns.ensures in
    let none = no_finding grid columns.id columns.name placed.id placed.name placed.first c.in_ok-paths.ensures.first in
    let texts = texts_are grid columns.name _ placed.name c.in_ok-paths.ensures.paths in
    let short = ap lengths_bound (sym texts
    ∙ ap (map (λ (path : String Global). string_bytes path)) (sym c.as_slice.ensures.keys))
    ∙ c.in_ok-check_lengths.ensures in
    nothing_stops grid few none short
