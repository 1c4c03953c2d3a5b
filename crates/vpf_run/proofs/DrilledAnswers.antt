-- How a run of `drill` ends, and one of words that are no command.
use Rattle.std.proofs.Common.{◌≡◌, ◌≢◌, ◌⊎◌, ◌∙◌, ℕ, Option, None, Some, inl, inr, refl, sym, ap, subst}
use Rattle.vpf_source.specs.Files.{Files}
use Rattle.vpf_replies.specs.declared.verdict.Verdict.TheVariants.{Done}
use Rattle.vpf_replies.specs.Answer.{Answer, usage_answer}
use Rattle.vpf_drill.specs.Inner.Laws.{HasDrill}
use Rattle.vpf_drill.specs.Request.{CanBeAsked}
use Rattle.vpf_run.specs.declared.command.Command.{Command}
use Rattle.vpf_run.specs.declared.command.Command.TheVariants.{Drill}
use Rattle.vpf_run.specs.declared.status.Status.{Status}
use Rattle.vpf_run.specs.declared.status.Status.TheVariants as statuses
use Rattle.vpf_run.specs.Commands.{IsAnswer}
use Rattle.vpf_run.specs.Run.{Carries, IsCompleted, World}
use Rattle.vpf_run.specs.Statuses.{EndsAsDone, EndsAsUsage, status_of}
use Rattle.vpf_run.proofs.Answering.{drill_answered, drill_is_done}

-- where the answer is done, the run is, unless it was ended
ends : (answer : Answer) (status : Status) (old new : World) → answer.verdict ≡ Done → status ≢ statuses.TreeFault → Carries answer status old new → EndsAsDone status
ends answer statuses.Done old new done apart h = inl refl
ends answer statuses.Refused old new done apart h = absurd (cc (h.0 ∙ ap status_of done))
ends answer statuses.Usage old new done apart h = absurd (cc (h.0 ∙ ap status_of done))
ends answer statuses.TreeFault old new done apart h = absurd (apart refl)
ends answer statuses.SinkFault old new done apart h = inr (inl refl)
ends answer statuses.NoMemory old new done apart h = inr (inr refl)
ends answer statuses.Limit old new done apart h = absurd (cc (h.0 ∙ ap status_of done))

pub run_drills : HasDrill → (command : Option Command) (told : Option Files) (n : ℕ) (status : Status) (old new : World) → command ≡ Some (Drill n)
    → CanBeAsked n → status ≢ statuses.TreeFault → ((answer : Answer) → IsAnswer command told answer → Carries answer status old new) → EndsAsDone status
run_drills law command told n status old new e side apart carries =
    let has = drill_answered law told n side in
    ends has.0 status old new (drill_is_done told n has.0 has.1) apart (carries has.0 (subst (λ (k : Option Command). IsAnswer k told has.0) (sym e) has.1))

usage_ends : (status : Status) (old new : World) → status ≢ statuses.TreeFault → Carries usage_answer status old new → EndsAsUsage status
usage_ends statuses.Done old new apart h = inl h.0
usage_ends statuses.Refused old new apart h = inl h.0
usage_ends statuses.Usage old new apart h = inl refl
usage_ends statuses.TreeFault old new apart h = absurd (apart refl)
usage_ends statuses.SinkFault old new apart h = inr (inl refl)
usage_ends statuses.NoMemory old new apart h = inr (inr refl)
usage_ends statuses.Limit old new apart h = inl h.0

-- a run that neither the tree nor the sink stopped is completed
pub completes : (answer : Answer) (status : Status) (old new : World) → status ≢ statuses.TreeFault → status ≢ statuses.SinkFault → Carries answer status old new
    → IsCompleted answer status
completes answer statuses.Done old new tree sink h = inl h.0
completes answer statuses.Refused old new tree sink h = inl h.0
completes answer statuses.Usage old new tree sink h = inl h.0
completes answer statuses.TreeFault old new tree sink h = absurd (tree refl)
completes answer statuses.SinkFault old new tree sink h = absurd (sink refl)
completes answer statuses.NoMemory old new tree sink h = inr refl
completes answer statuses.Limit old new tree sink h = inl h.0

pub run_tells_usage : (command : Option Command) (told : Option Files) (status : Status) (old new : World) → command ≡ None → status ≢ statuses.TreeFault
    → ((answer : Answer) → IsAnswer command told answer → Carries answer status old new) → EndsAsUsage status
run_tells_usage command told status old new none apart carries =
    usage_ends status old new apart (carries usage_answer (subst (λ (k : Option Command). IsAnswer k told usage_answer) (sym none) refl))
