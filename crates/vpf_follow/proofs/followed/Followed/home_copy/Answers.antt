use Rattle.std.proofs.Common.{◌≡◌, ◌^◌, ◌<◌, true, ap, sym, subst, ◌∙◌, arith}
use Rattle.std.specs.Option.{unwrap_or}
use Rattle.vpf_darts.specs.Darts.{tile_dart_code}
use Rattle.vpf_wing.specs.Links.{links_of}
use Rattle.vpf_follow.specs.Following.{home_copy}
use Rattle.vpf_prims.specs.Libraries.{library_of}
use Rattle.vpf_follow.proofs.FollowedLemmas.{copy_has, kept_copy, own_copy}
use Rattle.vpf_follow.proofs.followed.Followed.home_copy.Goals as goal

pub returns-then-is_home-clause-copy : goal.returns-then-is_home-clause-copy
returns-then-is_home-clause-copy c =
    let same : c.self.inside.coverage.now ≡ c.args.self.now = c.self.view_is in
    rw (← same) (sym (own_copy (links_of (library_of c.self.inside.coverage.now)) (tile_dart_code c.args.dart) (sym c.if-is_home.ensures)))

copied : (c : goal.After-unwrap_or) → tile_dart_code c.unwrap_or.result
    ≡ home_copy (links_of (library_of c.self.inside.coverage.now)) (tile_dart_code c.args.dart)
copied c =
    let few : c.next.result.edge < 2 ^ 32 = omega arith in
    let same : c.self.inside.coverage.now ≡ c.args.self.now = c.self.view_is in
    ap tile_dart_code (c.unwrap_or.ensures ∙ ap (λ o. unwrap_or o c.args.dart) c.first.ensures)
    ∙ kept_copy (links_of (library_of c.self.inside.coverage.now)) c.self.inside.homes c.args.dart c.next.result few c.self.invariant.kept
    (sym c.if-is_home.ensures) (rw (← same) at c.next.ensures.next)

pub returns-clause-copy : goal.returns-clause-copy
returns-clause-copy c =
    let same : c.self.inside.coverage.now ≡ c.args.self.now = c.self.view_is in
    rw (← same) (copied c)

pub returns-clause-dart : goal.returns-clause-dart
returns-clause-dart c =
    let same : c.self.inside.coverage.now ≡ c.args.self.now = c.self.view_is in
    let C = links_of (library_of c.self.inside.coverage.now) in
    rw (← same) (subst (λ d. C.has d ≡ true) (sym (copied c)) (copy_has C (tile_dart_code c.args.dart) (rw (← same) at c.requires)))
