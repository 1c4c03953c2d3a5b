use Rattle.std.proofs.Common.{◌≡◌, ◌<◌, ◌++◌, ◌∷◌, [], true, false, length, map, refl, ◌∙◌, arith}
use Rattle.std.proofs.lemmas.List.{map-append}
use Rattle.vpf_darts.specs.Darts.{tile_dart_code}
use Rattle.vpf_darts.specs.Inner.Ranks.{marked}
use Rattle.vpf_darts.proofs.MarkLemmas.{any_default}
use Rattle.vpf_darts.proofs.RankLemmas.{round_goes, round_ends}
use Rattle.vpf_darts.proofs.cycling.push_cycle.Goals as goal

pub loop-marks-preserved : goal.loop-marks-preserved
loop-marks-preserved g c =
    let len : length c.loop-marks.marks ≡ g.R.Ranked.count c.args.darts.now = c.loop-marks.auto.marks ∙ c.requires.one_each in
    let inside : c.loop-marks.rank < length c.loop-marks.marks = omega (arith, c.loop-marks.invariant.inside) in
    let unmarked : marked c.loop-marks.marks c.loop-marks.rank ≡ false = any_default c.loop-marks.marks c.loop-marks.rank true false inside ∙ c.loop-marks-test.true in
    let items : map tile_dart_code c.push.new.self.items ≡ map tile_dart_code c.loop-marks.listed.items ++ tile_dart_code c.dart_at.result ∷ [] = rw (c.in_ok-push.ensures.items, map-append) refl in
    rw items (round_goes (g.R.Ranked.count c.args.darts.now) (g.R.Ranked.code c.args.darts.now) (g.R.Ranked.next c.args.darts.now) (g.R.Ranked.live c.args.darts.now) c.args.start c.loop-marks.rank c.next_of-rank.result (tile_dart_code c.dart_at.result) (marked c.args.marks.now) c.loop-marks.marks (map tile_dart_code c.args.listed.now.items) (map tile_dart_code c.loop-marks.listed.items)
    c.requires.ranking c.requires.closed c.loop-marks.invariant len unmarked c.dart_at.ensures c.next_of-rank.ensures)

pub returns : goal.returns
returns g c =
    let len : length c.loop-marks.marks ≡ g.R.Ranked.count c.args.darts.now = c.loop-marks.auto.marks ∙ c.requires.one_each in
    let inside : c.loop-marks.rank < length c.loop-marks.marks = omega (arith, c.loop-marks.invariant.inside) in
    let now : marked c.loop-marks.marks c.loop-marks.rank ≡ true = any_default c.loop-marks.marks c.loop-marks.rank true false inside ∙ c.loop-marks-test.false in
    round_ends (g.R.Ranked.count c.args.darts.now) (g.R.Ranked.code c.args.darts.now) (g.R.Ranked.next c.args.darts.now) (g.R.Ranked.live c.args.darts.now) c.args.start c.loop-marks.rank (marked c.args.marks.now) (marked c.loop-marks.marks) (map tile_dart_code c.args.listed.now.items) (map tile_dart_code c.loop-marks.listed.items) c.requires.ranking c.loop-marks.invariant now
