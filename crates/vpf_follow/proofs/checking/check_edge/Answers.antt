use Rattle.std.proofs.Common.{ℕ, List, OnOk, subst}
use Rattle.vpf_prims.specs.Primitives.{edge_count}
use Rattle.vpf_wing.specs.Links.{links_of}
use Rattle.vpf_follow.specs.Inner.Homes.{AreHomes}
use Rattle.vpf_prims.specs.Libraries.{library_of}
use Rattle.vpf_follow.specs.Inner.ListLaws.{darts_after}
use Rattle.vpf_follow.proofs.checking.check_edge.Goals as goal

pub returns-clause-homes : goal.returns-clause-homes
returns-clause-homes c =
    let L = library_of c.args.coverage.now in
    subst (λ (v : List ℕ). OnOk c.check_dart-2.result (AreHomes (links_of L) v c.check_dart-2.new.homes))
    (darts_after (edge_count L) c.args.number c.args.k c.requires.edge.0) (rw c.flip.ensures at c.check_dart-2.ensures.homes)
