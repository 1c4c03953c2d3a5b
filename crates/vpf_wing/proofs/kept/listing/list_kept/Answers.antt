use Rattle.std.proofs.lemmas.Result.{IfOk-weaker}
use Rattle.vpf_wing.proofs.kept.KeptLemmas.{kept_ranking, kept_listing}
use Rattle.vpf_wing.proofs.kept.listing.list_kept.Goals as goal

pub list_cycles-requires : goal.list_cycles-requires
list_cycles-requires g c = kept_ranking _ _ c.args.darts.now c.requires

pub returns : goal.returns
returns g c = IfOk-weaker _ _ _ (λ listing h. kept_listing c.renaming_keeps_cycles.ensures.listing _ _ c.args.darts.now c.requires listing h) c.list_cycles.ensures
