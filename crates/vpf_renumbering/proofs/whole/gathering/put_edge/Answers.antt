use Rattle.std.proofs.Common.{ℕ, List, OnOk, subst}
use Rattle.vpf_prims.specs.Libraries.{library_of}
use Rattle.vpf_prims.specs.Primitives.{edge_count}
use Rattle.vpf_follow.specs.Inner.ListLaws.{darts_after}
use Rattle.vpf_renumbering.specs.Inner.Whole.Gathering.{AreHomeAmong}
use Rattle.vpf_renumbering.proofs.whole.gathering.put_edge.Goals as goal

pub returns : goal.returns
returns c =
    let L = library_of c.args.coverage.now in
    subst (λ (v : List ℕ). OnOk c.put_dart-2.result (AreHomeAmong L v c.put_dart-2.new.darts.items))
    (darts_after (edge_count L) c.args.number c.args.k c.requires.some) (rw c.flip.ensures at c.put_dart-2.ensures)
