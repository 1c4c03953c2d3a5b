use Rattle.vpf_featured.specs.Reading.{read_featured}
use Rattle.vpf_library_commands.specs.Trace.{IsReadTrace}
use Rattle.vpf_library_commands.proofs.CheckAnswers.{read_stopped}
use Rattle.vpf_library_commands.proofs.TraceAnswers.{trace_read, trace_stopped}
use Rattle.vpf_library_commands.proofs.tracing.trace.Goals as goal

pub returns-in_ok-traced-in-Ok-clause-told : goal.returns-in_ok-traced-in-Ok-clause-told
returns-in_ok-traced-in-Ok-clause-told g c files e =
    let request = c.args.request.now in
    let read = read_featured files request.lib request.cov 0 in
    let came = rw (c.as_str-lib.ensures, c.as_str-cov.ensures) at (c.in-Ok.ensures.told files e) in
    trace_read request read came.value c.load_featured.new.loaded _ came.comes (c.in_ok-traced-in-Ok.ensures came.value came.is)

pub returns-in-Err-clause-told : goal.returns-in-Err-clause-told
returns-in-Err-clause-told g c files e =
    let request = c.args.request.now in
    let read = read_featured files request.lib request.cov 0 in
    read_stopped (IsReadTrace request) (trace_stopped request) read c.in-Err.stop c.load_featured.new.loaded c.stopped.result
    (rw (c.as_str-lib.ensures, c.as_str-cov.ensures) at (c.in-Err.ensures.told files e)) c.stopped.ensures.told
