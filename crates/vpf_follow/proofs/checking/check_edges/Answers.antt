use Rattle.std.proofs.Common.{◌≡◌, ℕ, suc, ◌+◌, ◌<◌, List, length, ap, sym, subst, ◌∙◌, arith}
use Rattle.std.proofs.lemmas.Result.{err_from_is_err_and}
use Rattle.vpf_prims.specs.Primitives.{edge_count}
use Rattle.vpf_prims.specs.Reading.{primitives_of}
use Rattle.vpf_wing.specs.Links.{links_of}
use Rattle.vpf_follow.specs.FollowLines.{follow_lines}
use Rattle.vpf_follow.specs.Inner.Homes.{AreHomes, darts_to}
use Rattle.vpf_prims.specs.Libraries.{library_of}
use Rattle.vpf_follow.proofs.CoverageLemmas.{edges_are}
use Rattle.vpf_follow.proofs.EdgeLines.{edges_begin, edges_pass, edges_tell}
use Rattle.vpf_follow.specs.Inner.ListLaws.{to_tile}
use Rattle.vpf_follow.proofs.checking.check_edges.Goals as goal

pub loop-k-init : goal.loop-k-init
loop-k-init c = record {
  left = edges_begin (follow_lines (links_of (library_of c.args.coverage.now)) c.args.number c.args.tile.now) c.args.tile.now;
  homes = c.requires.homes;
}

pub returns-in_err-check_edge-clause-first : goal.returns-in_err-check_edge-clause-first
returns-in_err-check_edge-clause-first c =
    let p = err_from_is_err_and c.from_residual.result c.from_residual.ensures.1 in
    let in' : c.loop-k.k < length (primitives_of c.args.tile.now.tables).edges = omega (arith, c.edges-k-end.ensures.value) in
    let lines = follow_lines (links_of (library_of c.args.coverage.now)) c.args.number c.args.tile.now in
    rw (p.1, p.2) (edges_tell c.in_err-check_edge.field-0.0 lines c.args.tile.now c.loop-k.k in' c.in_err-check_edge.ensures.first c.loop-k.invariant.left)

pub loop-k-preserved : goal.loop-k-preserved
loop-k-preserved c =
    let in' : c.loop-k.k < length (primitives_of c.args.tile.now.tables).edges = omega (arith, c.edges-k-end.ensures.value) in
    let lines = follow_lines (links_of (library_of c.args.coverage.now)) c.args.number c.args.tile.now in
    record {
      left = edges_pass lines c.args.tile.now c.loop-k.k in' c.in_ok-check_edge.ensures.first c.loop-k.invariant.left;
      homes = c.in_ok-check_edge.ensures.homes;
    }

pub returns-clause-homes : goal.returns-clause-homes
returns-clause-homes c =
    let L = library_of c.args.coverage.now in
    let t = c.args.number in
    let edges : ℕ → ℕ = edge_count (library_of c.args.coverage.now) in
    let count : edge_count (library_of c.args.coverage.now) c.args.number ≡ length (primitives_of c.args.tile.now.tables).edges =
    ap length (edges_are c.args.coverage.now c.args.number c.args.tile.now c.requires.tile) in
    let all : c.loop-k.k ≡ edge_count (library_of c.args.coverage.now) c.args.number = omega (arith, count, c.edges-k-end.ensures.value) in
    let next : c.args.number + 1 ≡ suc c.args.number = omega arith in
    let same = ap (darts_to (edge_count (library_of c.args.coverage.now)) c.args.number) all
    ∙ sym (to_tile (edge_count (library_of c.args.coverage.now)) c.args.number) in
    rw next (subst (λ (v : List ℕ). AreHomes (links_of (library_of c.args.coverage.now)) v c.loop-k.homes) same c.loop-k.invariant.homes)
