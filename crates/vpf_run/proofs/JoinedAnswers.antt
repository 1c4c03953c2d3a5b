-- What `glue` is done of: a coverage in tiles that agrees with its features; the tree then holds the files of the one that its tiles are glued to.
use Rattle.std.proofs.Common.{◌≡◌, ◌∙◌, ℕ, List, Option, Some, refl, sym, ap, subst}
use Rattle.vpf_source.specs.Files.{Files, HoldsBytes}
use Rattle.vpf_source.specs.Making.{with_all}
use Rattle.vpf_replies.specs.Answer.{Answer}
use Rattle.vpf_library_commands.specs.declared.requesting.MakeRequest.{MakeRequest}
use Rattle.vpf_library_commands.specs.Glue.{glue_answer}
use Rattle.vpf_library_commands.specs.Gluing.{GlueDecides}
use Rattle.vpf_run.specs.declared.command.Command.{Command}
use Rattle.vpf_run.specs.declared.command.Command.TheVariants.{Glue}
use Rattle.vpf_run.specs.declared.status.Status.{Status}
use Rattle.vpf_run.specs.declared.status.Status.TheVariants as statuses
use Rattle.vpf_run.specs.Commands.{IsAnswer, command_of}
use Rattle.vpf_run.specs.Joining.{IsJoining}
use Rattle.vpf_run.specs.Run.{Carries, World}
use Rattle.vpf_run.proofs.ServedAnswers.{verdict_done}

pub run_glues : GlueDecides → (words : List (List ℕ)) (before after : Files) (request : MakeRequest) (status : Status) (old new : World) → HoldsBytes before
    → command_of words ≡ Some (Glue request) → old.files ≡ Some before → new.files ≡ Some after → status ≡ statuses.Done
    → ((answer : Answer) → IsAnswer (command_of words) old.files answer → Carries answer status old new) → IsJoining before after request
run_glues decides words before after request status old new bytes e told left done carries =
    let answer : Answer = glue_answer before request in
    let is = subst (λ (command : Option Command). IsAnswer command old.files answer) (sym e) (subst (λ (t : Option Files). IsAnswer (Some (Glue request)) t answer) (sym told) refl) in
    let c = subst (λ (s : Status). Carries answer s old new) done (carries answer is) in
    record {
      made = answer.made;
      glued = decides before request bytes (verdict_done answer.verdict c.0);
      held = ap (with_all answer.made) (sym told) ∙ sym c.1 ∙ left;
    }
