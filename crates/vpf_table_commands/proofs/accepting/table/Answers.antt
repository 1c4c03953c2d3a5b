use Rattle.std.proofs.Common.{◌∙◌, sym, ap}
use Rattle.std.proofs.lemmas.Result.{err_from_is_err_and}
use Rattle.vpf_source.specs.Files.{bytes_of}
use Rattle.vpf_table_commands.specs.Accept.{summed_answer, table_answer, table_bytes_answer}
use Rattle.vpf_table_commands.proofs.Feedings.{answers_over, halts_with, size_is}
use Rattle.vpf_table_commands.proofs.accepting.table.Goals as goal

pub returns-in_err-size-clause-told : goal.returns-in_err-size-clause-told
returns-in_err-size-clause-told g c files e =
    let p = err_from_is_err_and c.from_residual.result c.from_residual.ensures.1 in
    rw (p.1, p.2) (rw c.as_str-name.ensures at (c.in_err-size.ensures.told files e (table_bytes_answer c.args.request.now.file)))

pub returns-in_err-summary-clause-told : goal.returns-in_err-summary-clause-told
returns-in_err-summary-clause-told g c files e =
    let request = c.args.request.now in
    let file = files request.file in
    let size = c.in_ok-size.size in
    let told = rw c.as_str-name.ensures at (c.in_ok-size.ensures.told files e) in
    let p = err_from_is_err_and c.from_residual-in_err-summary.result c.from_residual-in_err-summary.ensures.1 in
    let halted = rw c.as_str-name.ensures at (c.in_err-summary.ensures.told files (c.in_ok-size.ensures.files ∙ e)) in
    rw (p.1, p.2) (halts_with request.file (bytes_of file) (table_answer files request) c.in_err-summary.field-0.0 (answers_over files request size told.0 told.1) (halted (size_is file size told.1)))

pub returns-clause-told : goal.returns-clause-told
returns-clause-told g c files e =
    let request = c.args.request.now in
    let file = files request.file in
    let size = c.in_ok-size.size in
    let told = rw c.as_str-name.ensures at (c.in_ok-size.ensures.told files e) in
    let summed = rw c.as_str-name.ensures at (c.in_ok-summary.ensures.told files (c.in_ok-size.ensures.files ∙ e)) in
    c.in_ok-accepted.ensures ∙ ap (summed_answer request.file) (sym (summed (size_is file size told.1))) ∙ sym (answers_over files request size told.0 told.1)
