-- What `check` and `trace` say of a coverage that agrees, and of which they are done.
use Rattle.std.proofs.Common.{◌≡◌, ◌∙◌, ℕ, List, Option, Some, refl, sym, ap, subst}
use Rattle.vpf_source.specs.Files.{Files, HoldsBytes}
use Rattle.vpf_replies.specs.Answer.{Answer}
use Rattle.vpf_library_commands.specs.declared.checking.CheckRequest.{CheckRequest}
use Rattle.vpf_library_commands.specs.Agreeing.{Agrees, CheckCounts, CheckDecides}
use Rattle.vpf_library_commands.specs.Check.{check_answer}
use Rattle.vpf_library_commands.specs.Trace.{HasTraceAnswer, IsTraceAnswer}
use Rattle.vpf_run.specs.declared.command.Command.{Command}
use Rattle.vpf_run.specs.declared.command.Command.TheVariants.{Check, Trace}
use Rattle.vpf_run.specs.declared.status.Status.{Status}
use Rattle.vpf_run.specs.declared.status.Status.TheVariants as statuses
use Rattle.vpf_run.specs.Inner.Checked.{AgreementIsSaid, OnlyAgreementIsDone, OnlyAgreementIsTraced}
use Rattle.vpf_run.specs.Commands.{IsAnswer, command_of}
use Rattle.vpf_run.specs.Run.{Carries, World}
use Rattle.vpf_run.proofs.ServedAnswers.{verdict_done}

pub agreement_said : CheckCounts → AgreementIsSaid
agreement_said counts files request c agrees = sym (counts files request c agrees)

pub only_agreement : CheckDecides → OnlyAgreementIsDone
only_agreement decides files request answer bytes is done = (decides files request bytes).0 (ap (λ (a : Answer). a.verdict) (sym is) ∙ done)

-- a run that ends so has the answer of a coverage that agrees
pub run_agrees : OnlyAgreementIsDone → (words : List (List ℕ)) (files : Files) (request : CheckRequest) (status : Status) (old new : World) → HoldsBytes files → command_of words ≡ Some (Check request) → old.files ≡ Some files → status ≡ statuses.Done
    → ((answer : Answer) → IsAnswer (command_of words) old.files answer → Carries answer status old new) → Agrees files request
run_agrees only words files request status old new bytes e told done carries =
    let answer = check_answer files request in
    let is = subst (λ (command : Option Command). IsAnswer command old.files answer) (sym e) (subst (λ (t : Option Files). IsAnswer (Some (Check request)) t answer) (sym told) refl) in
    let c = subst (λ (s : Status). Carries answer s old new) done (carries answer is) in
    only files request answer bytes refl (verdict_done answer.verdict c.0)

-- the same of `trace`, which has an answer over files of bytes
pub run_traces : HasTraceAnswer → OnlyAgreementIsTraced → (words : List (List ℕ)) (files : Files) (request : CheckRequest) (status : Status) (old new : World) → HoldsBytes files → command_of words ≡ Some (Trace request) → old.files ≡ Some files → status ≡ statuses.Done
    → ((answer : Answer) → IsAnswer (command_of words) old.files answer → Carries answer status old new) → Agrees files request
run_traces has only words files request status old new bytes e told done carries =
    let some : (answer : Answer) × IsTraceAnswer files request answer = has files request bytes in
    let is = subst (λ (command : Option Command). IsAnswer command old.files some.0) (sym e) (subst (λ (t : Option Files). IsAnswer (Some (Trace request)) t some.0) (sym told) some.1) in
    let c = subst (λ (s : Status). Carries some.0 s old new) done (carries some.0 is) in
    only files request some.0 bytes some.1 (verdict_done some.0.verdict c.0)
