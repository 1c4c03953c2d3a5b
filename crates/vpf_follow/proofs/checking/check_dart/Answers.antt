use Rattle.std.proofs.Common.{◌≡◌, ◌^◌, ◌<◌, Some, None, ap, sym, ◌∙◌, arith}
use Rattle.std.specs.Option.{option_map}
use Rattle.vpf_findings.specs.Findings.{DartSeen}
use Rattle.vpf_prims.specs.Primitives.{edge_count}
use Rattle.vpf_wing.specs.Links.{links_of}
use Rattle.vpf_follow.specs.FollowLines.{at_wing_of}
use Rattle.vpf_follow.specs.Inner.Homes.{darts_before, first_followed}
use Rattle.vpf_prims.specs.Libraries.{library_of}
use Rattle.vpf_follow.proofs.CheckLemmas.{dart_in, said_home}
use Rattle.vpf_follow.proofs.HomeLemmas.{home_put}
use Rattle.vpf_follow.proofs.checking.check_dart.Goals as goal

pub follow-requires : goal.follow-requires
follow-requires c =
    let few : c.args.dart.edge < 2 ^ 32 = omega arith in
    dart_in c.args.coverage.now c.args.dart.tile c.args.dart.edge c.args.dart.minus c.args.tile.now c.requires.tile c.requires.edge few

pub returns-in-Some-2-clause-first : goal.returns-in-Some-2-clause-first
returns-in-Some-2-clause-first c =
    let few : c.in-Some.next.edge < 2 ^ 32 = omega arith in
    let d = c.args.dart in
    let said = said_home c.args.coverage.now c.args.tile.now d c.args.homes.now c.in-Some.next few c.requires.tile c.requires.edge c.requires.few
    (sym c.is_home.ensures ∙ c.if-not-is_home.false) (sym c.in-Some.ensures) c.requires.homes in
    let first : first_followed c.args.homes.now c.in-Some.next ≡ Some c.in-Some-2.first = sym c.in_ok-first.ensures.first ∙ c.in-Some-2.is in
    rw c.into-in-Some-2.ensures (said ∙ ap (option_map (λ x. at_wing_of d.tile c.args.tile.now 4 d.edge d.minus (DartSeen c.in-Some.next) (DartSeen x))) first
    ∙ ap Some (sym c.at_wing-in-Some-2.ensures))

pub returns-in-None-clause-first : goal.returns-in-None-clause-first
returns-in-None-clause-first c =
    let few : c.in-Some.next.edge < 2 ^ 32 = omega arith in
    let d = c.args.dart in
    let said = said_home c.args.coverage.now c.args.tile.now d c.args.homes.now c.in-Some.next few c.requires.tile c.requires.edge c.requires.few
    (sym c.is_home.ensures ∙ c.if-not-is_home.false) (sym c.in-Some.ensures) c.requires.homes in
    let none : first_followed c.args.homes.now c.in-Some.next ≡ None = sym c.in_ok-first.ensures.first ∙ c.in-None.is in
    said ∙ ap (option_map (λ x. at_wing_of d.tile c.args.tile.now 4 d.edge d.minus (DartSeen c.in-Some.next) (DartSeen x))) none

pub returns-in-None-clause-homes : goal.returns-in-None-clause-homes
returns-in-None-clause-homes c =
    let few : c.in-Some.next.edge < 2 ^ 32 = omega arith in
    let few' : c.args.dart.edge < 2 ^ 32 = omega arith in
    let d = c.args.dart in
    let L = library_of c.args.coverage.now in
    rw c.in_ok-first.ensures.put (home_put (links_of L) (darts_before (edge_count L) d.tile d.edge d.minus) c.args.homes.now d c.in-Some.next few' few
    (sym c.is_home.ensures ∙ c.if-not-is_home.false) (sym c.in-Some.ensures) c.requires.homes)
