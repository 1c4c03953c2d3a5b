use Rattle.std.proofs.Common.{◌≡◌, ℕ, suc, ◌+◌, List, ap, sym, subst, ◌∙◌, arith}
use Rattle.vpf_prims.specs.Primitives.{edge_count}
use Rattle.vpf_wing.specs.Links.{links_of}
use Rattle.vpf_follow.specs.Inner.Homes.{AreHomes, darts_to}
use Rattle.vpf_prims.specs.Libraries.{library_of}
use Rattle.vpf_follow.proofs.CoverageLemmas.{no_edges}
use Rattle.vpf_follow.specs.Inner.ListLaws.{to_tile}
use Rattle.vpf_follow.proofs.checking.check_tile.Goals as goal

pub returns-in-None-clause-homes : goal.returns-in-None-clause-homes
returns-in-None-clause-homes c =
    let next : c.args.number + 1 ≡ suc c.args.number = omega arith in
    let none = no_edges c.args.coverage.now c.args.number (sym c.in-None.ensures) in
    let same : darts_to (edge_count (library_of c.args.coverage.now)) c.args.number 0
    ≡ darts_to (edge_count (library_of c.args.coverage.now)) (suc c.args.number) 0 =
    ap (darts_to (edge_count (library_of c.args.coverage.now)) c.args.number) (sym none)
    ∙ sym (to_tile (edge_count (library_of c.args.coverage.now)) c.args.number) in
    rw next (subst (λ (v : List ℕ). AreHomes (links_of (library_of c.args.coverage.now)) v c.args.homes.now) same c.requires.homes)
