use Rattle.std.proofs.Common.{◌≡◌, ℕ, suc, ◌+◌, ◌<◌, ◌∷◌, [], arith, length-append}
use Rattle.std.proofs.lemmas.List.Elements.{All-push}
use Rattle.vpf_coverage.specs.Inner.Opening.Opened.{placed_views}
use Rattle.vpf_coverage.proofs.opening.LoopLemmas.{all_opened, next_opens, one_more, path_there}
use Rattle.vpf_coverage.proofs.opening.opening.open_tiles.Goals as goal

pub unreachable-requires : goal.unreachable-requires
unreachable-requires c =
    let l = c.loop-t in
    path_there c.args.paths.now l.t (l.t + 1) (omega arith) (omega (arith, c.loop-t-test.true, c.len-t-end.ensures.value)) c.in_default.ensures

pub open_tile-requires : goal.open_tile-requires
open_tile-requires c =
    let l = c.loop-t in
    let tiles = c.requires.tiles.0 in
    let later : l.t + 1 ≡ suc l.t = omega arith in
    next_opens c.args.folder.now l.at c.args.paths.now l.t (l.t + 1) l.files c.in-Some.path.now (placed_views l.firsts.items l.tiles.items) tiles
    later c.in-Some.ensures (l.invariant.opened tiles c.requires.tiles.1)

pub loop-t-preserved : goal.loop-t-preserved
loop-t-preserved c =
    let l = c.loop-t in
    let tile = c.in_ok-tile.tile in
    let firsts = c.in_ok-push-2.ensures.items in
    let tiles = c.in_ok-push-3.ensures.items in
    let few : l.at < 2147483648 = omega (arith, l.invariant.count, c.loop-t-test.true, c.len-t-end.ensures.most) in
    let later : l.t + 1 ≡ suc l.t = omega arith in
    record {
      count = omega (arith, l.invariant.count, c.files_of_folder-at.ensures.few);
      alike = rw (firsts, tiles) (omega (arith, l.invariant.alike, length-append l.firsts.items (l.at ∷ []), length-append l.tiles.items (tile ∷ [])));
      few = rw firsts (All-push (λ (first : ℕ). first < 2147483648) l.firsts.items l.at l.invariant.few few);
      opened = λ all h.
          rw (firsts, tiles) (one_more c.args.folder.now l.at c.files_of_folder-at.result c.args.paths.now l.t (l.t + 1) l.files c.open_tile.new.files
          c.in-Some.path.now l.firsts.items l.tiles.items tile all
          c.in_ok-tile.ensures.tables c.in_ok-tile.ensures.rest c.files_of_folder-at.ensures.value later c.in-Some.ensures l.invariant.alike
          (l.invariant.opened all h));
    }

pub returns-clause-opened : goal.returns-clause-opened
returns-clause-opened c all h =
    let l = c.loop-t in
    all_opened c.args.folder.now l.at c.args.paths.now l.t l.files (placed_views l.firsts.items l.tiles.items) all
    (omega (arith, c.loop-t-test.false, c.len-t-end.ensures.value)) (l.invariant.opened all h)
