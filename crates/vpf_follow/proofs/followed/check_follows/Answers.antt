use Rattle.std.proofs.Common.{◌≡◌, ℕ, suc, ◌+◌, ◌≤◌, List, ap, subst, ◌∙◌, arith}
use Rattle.std.proofs.lemmas.Result.{err_from_is_err_and}
use Rattle.vpf_prims.specs.Coverages.{last_tile}
use Rattle.vpf_prims.specs.Primitives.{edge_count}
use Rattle.vpf_wing.specs.Links.{links_of, tile_darts}
use Rattle.vpf_follow.specs.FollowLines.{follows_finding}
use Rattle.vpf_follow.specs.Inner.Homes.{AreHomes, darts_to}
use Rattle.vpf_prims.specs.Libraries.{library_of}
use Rattle.vpf_follow.proofs.HomeLemmas.{home_none}
use Rattle.vpf_follow.specs.Inner.ListLaws.{to_end, to_tile}
use Rattle.vpf_follow.proofs.TileLines.{tiles_begin, tiles_end, tiles_pass, tiles_tell}
use Rattle.vpf_follow.proofs.followed.check_follows.Goals as goal
use Rattle.vpf_follow.proofs.followed.check_follows.Goals.{else-loop-t-test, then-loop-t-test+in_ok-check_tile+else-t-t-end}

pub loop-t-init : goal.loop-t-init
loop-t-init c = record {
  left = tiles_begin (follows_finding (links_of (library_of c.args.coverage.now))) c.args.coverage.now;
  homes = rw c.new-homes.ensures (home_none (links_of (library_of c.args.coverage.now)));
}

pub returns-in_err-check_tile-clause-first : goal.returns-in_err-check_tile-clause-first
returns-in_err-check_tile-clause-first c =
    let p = err_from_is_err_and c.from_residual.result c.from_residual.ensures.1 in
    let rule = follows_finding (links_of (library_of c.args.coverage.now)) in
    let low : c.loop-t.t ≤ last_tile c.args.coverage.now = omega (arith, c.tiles-t-end.ensures) in
    rw (p.1, p.2) (tiles_tell c.in_err-check_tile.field-0.0 rule c.args.coverage.now c.loop-t.t low c.in_err-check_tile.ensures.first c.loop-t.invariant.left)

pub loop-t-preserved : goal.loop-t-preserved
loop-t-preserved c =
    let rule = follows_finding (links_of (library_of c.args.coverage.now)) in
    let low : c.loop-t.t ≤ last_tile c.args.coverage.now = omega (arith, c.tiles-t-end.ensures) in
    record {
      left = tiles_pass rule c.args.coverage.now c.loop-t.t low c.in_ok-check_tile.ensures.first c.loop-t.invariant.left;
      homes = c.in_ok-check_tile.ensures.homes;
    }

pub invariant_of-result : goal.invariant_of-result
invariant_of-result c =
    let rule = follows_finding (links_of (library_of c.args.coverage.now)) in
    let edges : ℕ → ℕ = edge_count (library_of c.args.coverage.now) in
    elim c.loop-t-test.branch [
      | else-loop-t-test w ↦ absurd (omega arith)
      | then-loop-t-test+in_ok-check_tile+else-t-t-end w ↦
          (let last : c.loop-t.t ≡ last_tile c.args.coverage.now = omega (arith, c.tiles-t-end.ensures) in
          let next : c.loop-t.t + 1 ≡ suc c.loop-t.t = omega arith in
          let left = tiles_pass rule c.args.coverage.now c.loop-t.t (omega arith) w.in_ok-check_tile.ensures.first c.loop-t.invariant.left in
          let all : darts_to (edge_count (library_of c.args.coverage.now)) (c.loop-t.t + 1) 0
          ≡ tile_darts (edge_count (library_of c.args.coverage.now)) (last_tile c.args.coverage.now) =
          ap (λ t. darts_to (edge_count (library_of c.args.coverage.now)) t 0) next ∙ to_tile (edge_count (library_of c.args.coverage.now)) c.loop-t.t
          ∙ to_end (edge_count (library_of c.args.coverage.now)) c.loop-t.t ∙ ap (tile_darts (edge_count (library_of c.args.coverage.now))) last in
          record {
            agrees = tiles_end rule c.args.coverage.now (c.loop-t.t + 1) (omega arith) left;
            kept = rw w.homes-is (subst (λ (v : List ℕ). AreHomes
                (links_of (library_of c.args.coverage.now)) v w.check_tile.new.homes) all w.in_ok-check_tile.ensures.homes);
            count = c.count_darts-darts.ensures.count;
          })
    ]
