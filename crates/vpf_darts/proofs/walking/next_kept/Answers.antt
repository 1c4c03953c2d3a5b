use Rattle.std.proofs.Common.{◌≡◌, true, false, sym, ◌∙◌}
use Rattle.vpf_darts.specs.Darts.{tile_dart_code}
use Rattle.vpf_darts.specs.Maps.{is_of_any}
use Rattle.vpf_darts.proofs.StepLemmas.{walk_begins, walk_goes, walk_ends}
use Rattle.vpf_darts.proofs.walking.next_kept.Goals as goal

pub loop-at-init : goal.loop-at-init
loop-at-init g c = walk_begins (g.W.Walk.map c.args.walk.now) (g.W.Walk.passed c.args.walk.now) (tile_dart_code c.args.dart) (tile_dart_code c.next-at.result) c.requires.map c.requires.edges c.requires.has c.requires.kept c.next-at.ensures

pub loop-at-smaller : goal.loop-at-smaller
loop-at-smaller g c =
    let passed : is_of_any (g.W.Walk.map c.args.walk.now).flip (g.W.Walk.passed c.args.walk.now) (tile_dart_code c.loop-at.at) ≡ true = sym c.is_passed.ensures ∙ c.loop-at-test.true in
    (walk_goes (g.W.Walk.map c.args.walk.now) (g.W.Walk.passed c.args.walk.now) (tile_dart_code c.args.dart) (tile_dart_code c.loop-at.at) (tile_dart_code c.flip.result) (tile_dart_code c.next-at-in-loop-at.result) c.requires.map c.loop-at.invariant passed c.flip.ensures c.next-at-in-loop-at.ensures).1

pub loop-at-preserved : goal.loop-at-preserved
loop-at-preserved g c =
    let passed : is_of_any (g.W.Walk.map c.args.walk.now).flip (g.W.Walk.passed c.args.walk.now) (tile_dart_code c.loop-at.at) ≡ true = sym c.is_passed.ensures ∙ c.loop-at-test.true in
    (walk_goes (g.W.Walk.map c.args.walk.now) (g.W.Walk.passed c.args.walk.now) (tile_dart_code c.args.dart) (tile_dart_code c.loop-at.at) (tile_dart_code c.flip.result) (tile_dart_code c.next-at-in-loop-at.result) c.requires.map c.loop-at.invariant passed c.flip.ensures c.next-at-in-loop-at.ensures).0

pub returns-clause-next : goal.returns-clause-next
returns-clause-next g c =
    let kept : is_of_any (g.W.Walk.map c.args.walk.now).flip (g.W.Walk.passed c.args.walk.now) (tile_dart_code c.loop-at.at) ≡ false = sym c.is_passed.ensures ∙ c.loop-at-test.false in
    walk_ends (g.W.Walk.map c.args.walk.now) (g.W.Walk.passed c.args.walk.now) (tile_dart_code c.args.dart) (tile_dart_code c.loop-at.at) c.loop-at.invariant kept
