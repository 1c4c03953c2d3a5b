use Rattle.std.proofs.Common.{◌<◌, ◌^◌, sym, ap, ◌∙◌, arith}
use Rattle.vpf_wing.specs.Links.{link_of}
use Rattle.vpf_follow.specs.Following.{is_far_face}
use Rattle.vpf_prims.specs.Libraries.{library_of}
use Rattle.vpf_follow.proofs.CoverageLemmas.{ends_at_last}
use Rattle.vpf_follow.proofs.RowLemmas.{outside_is, outside_none}
use Rattle.vpf_follow.proofs.following.is_outside.Goals as goal

pub returns-in-Some : goal.returns-in-Some
returns-in-Some c =
    let few : c.args.dart.edge < 2 ^ 32 = omega arith in
    let L = library_of c.args.coverage.now in
    c.is_far_face.ensures ∙ ap (λ f. is_far_face (link_of f)) c.face.ensures
    ∙ sym (outside_is L c.args.dart.tile c.args.dart.edge c.args.dart.minus c.in-Some.row (ends_at_last c.args.coverage.now) few (sym c.in-Some.ensures))

pub returns-in-None : goal.returns-in-None
returns-in-None c =
    let few : c.args.dart.edge < 2 ^ 32 = omega arith in
    let L = library_of c.args.coverage.now in
    sym (outside_none L c.args.dart.tile c.args.dart.edge c.args.dart.minus few (sym c.in-None.ensures))
