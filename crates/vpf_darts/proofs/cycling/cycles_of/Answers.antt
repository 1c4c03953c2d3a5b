use Rattle.std.proofs.Common.{length}
use Rattle.std.proofs.lemmas.Result.{IfOk-weaker}
use Rattle.vpf_darts.specs.MapLists.{is_among, list_next}
use Rattle.vpf_darts.proofs.RankLemmas.{listing_by_numbers}
use Rattle.vpf_darts.proofs.UntiledLemmas.{among_below, untiled_cycles}
use Rattle.vpf_darts.proofs.cycling.cycles_of.Goals as goal

pub returns-clause-listing : goal.returns-clause-listing
returns-clause-listing c = IfOk-weaker _ _ _ (λ listing h. listing_by_numbers (list_next c.args.next.now) (is_among (length c.args.next.now)) listing h) c.list_cycles.ensures

pub returns-clause-untiled : goal.returns-clause-untiled
returns-clause-untiled c = IfOk-weaker _ _ _ (λ listing h. untiled_cycles (list_next c.args.next.now) (is_among (length c.args.next.now)) (among_below (length c.args.next.now) c.requires.few) listing
    (listing_by_numbers (list_next c.args.next.now) (is_among (length c.args.next.now)) listing h)) c.list_cycles.ensures
