use Rattle.std.proofs.Common.{◌≡◌, rules}
use Rattle.std.specs.Prelude.{map, string_bytes}
use Rattle.vpf_run.specs.declared.command.Command.TheVariants.{Drill}
use Rattle.vpf_run.proofs.Answering.{asked_side}
use Rattle.vpf_run.proofs.running.do_words.Goals as goal

pub returns-in-Ok-Some-clause-drilled : goal.returns-in-Ok-Some-clause-drilled
returns-in-Ok-Some-clause-drilled g c request asked =
    let same : c.in-Ok-Some.command ≡ Drill request = search rules in
    c.do_command.ensures.drilled request same (asked_side c.requests_can_be_asked.ensures (map string_bytes c.args.words.now) request asked)
