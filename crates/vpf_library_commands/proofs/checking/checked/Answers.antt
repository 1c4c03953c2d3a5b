use Rattle.std.proofs.Common.{◌≡◌}
use Rattle.vpf_replies.specs.Answer.{Answer, done}
use Rattle.vpf_featured.specs.Inner.Held.{AreFeaturedFiles}
use Rattle.vpf_library_commands.specs.Check.{agrees_text, found_answer, read_finding}
use Rattle.vpf_library_commands.proofs.CheckAnswers.{agreed_so}
use Rattle.vpf_base.proofs.Results.{if_ok_more}
use Rattle.vpf_library_commands.proofs.checking.checked.Goals as goal

pub returns-in-Ok : goal.returns-in-Ok
returns-in-Ok c read are =
    let request = c.args.request.now in
    let there : AreFeaturedFiles c.as_str.result.now c.as_str-2.result.now c.args.files.now read = rw (c.as_str.ensures, c.as_str-2.ensures) are in
    let none = rw (c.as_str.ensures, c.as_str-2.ensures) at (c.in-Ok.ensures.first read there) in
    if_ok_more (λ (reply : Answer). reply ≡ done (agrees_text c.in-Ok.featured.coverage))
    (λ (reply : Answer). reply ≡ found_answer read.coverage.coverage (read_finding request read)) c.agreed.result
    (λ reply is. agreed_so c.in-Ok.featured.coverage read.coverage.coverage (read_finding request read) reply none (c.in-Ok.ensures.coverage read there) is)
    c.agreed.ensures
