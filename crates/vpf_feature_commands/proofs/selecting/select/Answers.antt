use Rattle.vpf_featured.specs.Reading.{read_featured}
use Rattle.vpf_feature_commands.proofs.SelectAnswers.{read_answers, select_stopped}
use Rattle.vpf_feature_commands.proofs.selecting.select.Goals as goal

pub returns-in_ok-read-in-Ok-clause-told : goal.returns-in_ok-read-in-Ok-clause-told
returns-in_ok-read-in-Ok-clause-told g c files e =
    let read = read_featured files c.args.request.now.lib c.args.request.now.cov 0 in
    let came = rw (c.as_str-lib.ensures, c.as_str-cov.ensures) at (c.in-Ok.ensures.told files e) in
    read_answers c.args.request.now read came.value c.load_featured.new.loaded _ came.comes (c.in_ok-read-in-Ok.ensures came.value came.is)

pub returns-in-Err-clause-told : goal.returns-in-Err-clause-told
returns-in-Err-clause-told g c files e =
    let read = read_featured files c.args.request.now.lib c.args.request.now.cov 0 in
    select_stopped c.args.request.now read c.in-Err.stop c.load_featured.new.loaded c.stopped.result (rw (c.as_str-lib.ensures, c.as_str-cov.ensures) at (c.in-Err.ensures.told files e)) c.stopped.ensures.told
