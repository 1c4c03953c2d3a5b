use Rattle.std.proofs.Common.{◌≡◌, ℕ, suc, ◌+◌, List, ap, sym, subst, ◌∙◌, arith}
use Rattle.vpf_prims.specs.Libraries.{library_of}
use Rattle.vpf_prims.specs.Primitives.{edge_count}
use Rattle.vpf_follow.specs.Inner.Homes.{darts_to}
use Rattle.vpf_follow.specs.Inner.ListLaws.{to_tile}
use Rattle.vpf_renumbering.specs.Inner.Whole.Gathering.{AreHomeAmong}
use Rattle.vpf_renumbering.proofs.whole.gathering.put_tile.Goals as goal

pub returns : goal.returns
returns c =
    let L = library_of c.args.coverage.now in
    let all : c.loop-k.k ≡ edge_count (library_of c.args.coverage.now) c.args.number = omega (arith, c.edges_of-k-end.ensures.value) in
    let next : c.args.number + 1 ≡ suc c.args.number = omega arith in
    let same = ap (darts_to (edge_count L) c.args.number) all ∙ sym (to_tile (edge_count L) c.args.number) in
    rw next (subst (λ (v : List ℕ). AreHomeAmong L v c.loop-k.darts.items) same c.loop-k.invariant)
