use Rattle.std.proofs.lemmas.Result.{IfOk-weaker}
use Rattle.vpf_darts.specs.MapLists.{dart_map}
use Rattle.vpf_darts.proofs.RankLemmas.{listing_by_numbers}
use Rattle.vpf_darts.proofs.UntiledLemmas.{untiled_listing}
use Rattle.vpf_darts.proofs.cycling.cycles.Goals as goal

pub returns-clause-listing : goal.returns-clause-listing
returns-clause-listing c = IfOk-weaker _ _ _ (λ listing h. listing_by_numbers (dart_map c.args.map.now).next (dart_map c.args.map.now).live listing h) c.list_cycles.ensures

pub returns-clause-untiled : goal.returns-clause-untiled
returns-clause-untiled c = IfOk-weaker _ _ _ (λ listing h. untiled_listing c.args.map.now c.edges-edges.ensures.map listing (listing_by_numbers (dart_map c.args.map.now).next (dart_map c.args.map.now).live listing h)) c.list_cycles.ensures
