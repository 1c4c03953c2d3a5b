use Rattle.std.proofs.Common.{◌≡◌, Option, Some, ap, subst}
use Rattle.vpf_source.specs.Files.{Files}
use Rattle.vpf_replies.specs.Answer.{Answer}
use Rattle.vpf_run.specs.declared.command.Command.{Command}
use Rattle.vpf_run.specs.Run.{Carries, World}
use Rattle.vpf_run.proofs.Answering.{drill_makes_none}
use Rattle.vpf_run.proofs.DrilledAnswers.{completes}
use Rattle.vpf_run.proofs.running.do_command.Goals as goal

pub returns-in-Ok-clause-answer : goal.returns-in-Ok-clause-answer
returns-in-Ok-clause-answer g c answer is =
    let same : c.in-Ok.reply ≡ answer =
    c.one_answer.ensures.one (Some c.args.command.now) (g.T.Tree.files c.args.tree.now) c.in-Ok.reply answer (c.in-Ok.ensures.told answer is) is in
    let new : World = record { files = g.T.Tree.files c.carry_out.new.tree; written = g.O.Sink.written c.carry_out.new.out } in
    subst (λ (a : Answer). Carries a c.carry_out.result (record { files = g.T.Tree.files c.args.tree.now; written = g.O.Sink.written c.args.out.now }) new) same
    (subst (λ (t : Option Files). Carries c.in-Ok.reply c.carry_out.result (record { files = t; written = g.O.Sink.written c.args.out.now }) new) c.reply_to.ensures.files
    c.carry_out.ensures.carries)

pub returns-in-Ok-clause-completed : goal.returns-in-Ok-clause-completed
returns-in-Ok-clause-completed g c answer is tree sink =
    completes answer c.carry_out.result _ _
    (λ e. tree (rw (c.in-Ok.ensures.fault.stood (λ no. absurd cc)) at (c.carry_out.ensures.tree_fault e))) (λ e. sink (c.carry_out.ensures.sink_fault e))
    (returns-in-Ok-clause-answer g c answer is)

pub returns-in-Ok-clause-drilled : goal.returns-in-Ok-clause-drilled
returns-in-Ok-clause-drilled g c request asked side =
    c.carry_out.ensures.makes_none (drill_makes_none c.one_drill.ensures.some (Some c.args.command.now) _ request _ (ap (λ (k : Command). Some k) asked) side c.in-Ok.ensures.told)
