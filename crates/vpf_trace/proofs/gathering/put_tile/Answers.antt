use Rattle.std.proofs.Common.{◌≡◌, ℕ, suc, ◌+◌, List, ap, sym, subst, ◌∙◌, arith}
use Rattle.vpf_prims.specs.Libraries.{library_of}
use Rattle.vpf_prims.specs.Primitives.{edge_count}
use Rattle.vpf_cross.specs.FollowHomes.{darts_to}
use Rattle.vpf_cross.specs.ListLaws.{to_tile}
use Rattle.vpf_trace.specs.Inner.Gathering.{AreKeptAmong}
use Rattle.vpf_trace.proofs.gathering.put_tile.Goals as goal

pub returns : goal.returns
returns c =
    let L = library_of c.args.coverage.now in
    let all : c.loop-k.k ≡ edge_count (library_of c.args.coverage.now) c.args.number = omega (arith, c.edges_of-k-end.ensures) in
    let next : c.args.number + 1 ≡ suc c.args.number = omega arith in
    let same = ap (darts_to (edge_count L) c.args.number) all ∙ sym (to_tile (edge_count L) c.args.number) in
    rw next (subst (λ (v : List ℕ). AreKeptAmong L v c.loop-k.darts.items) same c.loop-k.invariant)
