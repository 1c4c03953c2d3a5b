use Rattle.std.proofs.Common.{◌≡◌, ℕ, ◌+◌, ◌-◌, ◌<◌, Some, length, refl, sym, ap, ◌∙◌, arith}
use Rattle.vpf_darts.specs.Darts.{flip, tile_dart_code}
use Rattle.vpf_follow.specs.Following.{follow}
use Rattle.vpf_cross.specs.HomeLines.{coverage_links}
use Rattle.vpf_cross.specs.RoundLines.{first_copy}
use Rattle.vpf_cross.proofs.DartLemmas.{flip_in, flip_number}
use Rattle.vpf_cross.proofs.RoundLemmas.{walk_pass, walk_stop}
use Rattle.vpf_cross.proofs.rounds.first_copy.Goals as goal

pub loop-passed-init : goal.loop-passed-init
loop-passed-init c =
    let e : length (coverage_links c.args.followed.now).darts + 1 - 0 ≡ length (coverage_links c.args.followed.now).darts + 1 = omega arith in
    record {
      left = rw (e, c.next-next.ensures.next) refl;
      dart = c.next-next.ensures.dart;
      home = c.next-next.ensures.home;
    }

pub returns-in-Some : goal.returns-in-Some
returns-in-Some c =
    let C = coverage_links c.args.followed.now in
    let n : ℕ = length (coverage_links c.args.followed.now).darts + 1 - c.loop-passed._passed in
    let some : 0 < length (coverage_links c.args.followed.now).darts + 1 - c.loop-passed._passed = omega (arith, c.darts-passed-end.ensures) in
    sym (walk_stop C c.args.number n (tile_dart_code c.loop-passed.next) (tile_dart_code c.in-Some.copy) some c.in-Some.ensures) ∙ c.loop-passed.invariant.left

pub next-next-requires-in-loop-passed : goal.next-next-requires-in-loop-passed
next-next-requires-in-loop-passed c = flip_in c.args.followed.now c.loop-passed.next c.flip.result c.flip.ensures c.loop-passed.invariant.dart

pub loop-passed-preserved : goal.loop-passed-preserved
loop-passed-preserved c =
    let C = coverage_links c.args.followed.now in
    let n : ℕ = length (coverage_links c.args.followed.now).darts + 1 - c.loop-passed._passed in
    let some : 0 < length (coverage_links c.args.followed.now).darts + 1 - c.loop-passed._passed = omega (arith, c.darts-passed-end.ensures) in
    let less : length (coverage_links c.args.followed.now).darts + 1 - c.loop-passed._passed - 1 ≡ length (coverage_links c.args.followed.now).darts + 1 - (c.loop-passed._passed + 1) = omega arith in
    let next : follow C (flip (tile_dart_code c.loop-passed.next)) ≡ Some (tile_dart_code c.next-next-in-loop-passed.result) =
    ap (follow C) (sym (flip_number c.loop-passed.next c.flip.result c.flip.ensures)) ∙ c.next-next-in-loop-passed.ensures.next in
    let pass = walk_pass C c.args.number n (tile_dart_code c.loop-passed.next) (tile_dart_code c.next-next-in-loop-passed.result) some c.in_default.ensures next in
    record {
      left = ap (λ m. first_copy C c.args.number m (Some (tile_dart_code c.next-next-in-loop-passed.result))) (sym less) ∙ sym pass ∙ c.loop-passed.invariant.left;
      dart = c.next-next-in-loop-passed.ensures.dart;
      home = c.next-next-in-loop-passed.ensures.home;
    }

pub returns-in_default : goal.returns-in_default
returns-in_default c =
    let C = coverage_links c.args.followed.now in
    let n : ℕ = length (coverage_links c.args.followed.now).darts + 1 - c.loop-passed._passed in
    let some : 0 < length (coverage_links c.args.followed.now).darts + 1 - c.loop-passed._passed = omega (arith, c.darts-passed-end.ensures) in
    let less : 0 ≡ length (coverage_links c.args.followed.now).darts + 1 - c.loop-passed._passed - 1 = omega (arith, c.darts-passed-end.ensures) in
    let next : follow C (flip (tile_dart_code c.loop-passed.next)) ≡ Some (tile_dart_code c.next-next-in-loop-passed.result) =
    ap (follow C) (sym (flip_number c.loop-passed.next c.flip.result c.flip.ensures)) ∙ c.next-next-in-loop-passed.ensures.next in
    let pass = walk_pass C c.args.number n (tile_dart_code c.loop-passed.next) (tile_dart_code c.next-next-in-loop-passed.result) some c.in_default.ensures next in
    ap (λ m. first_copy C c.args.number m (Some (tile_dart_code c.next-next-in-loop-passed.result))) less ∙ sym pass ∙ c.loop-passed.invariant.left
