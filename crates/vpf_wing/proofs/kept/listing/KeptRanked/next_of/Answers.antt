use Rattle.std.proofs.Common.{◌∙◌}
use Rattle.vpf_wing.proofs.kept.KeptLemmas.{kept_at, next_there, next_place}
use Rattle.vpf_wing.proofs.kept.listing.KeptRanked.next_of.Goals as goal

pub next_kept-requires-clause-has : goal.next_kept-requires-clause-has
next_kept-requires-clause-has g c = (kept_at _ _ c.args.self.now.darts.now c.args.self.now.kept c.args.rank c.requires _).has

pub next_kept-requires-clause-kept : goal.next_kept-requires-clause-kept
next_kept-requires-clause-kept g c = (kept_at _ _ c.args.self.now.darts.now c.args.self.now.kept c.args.rank c.requires _).kept

pub place_of-requires-clause-there : goal.place_of-requires-clause-there
place_of-requires-clause-there g c = next_there _ _ c.args.self.now.darts.now c.args.self.now.kept c.args.rank c.requires _ _ c.next_kept.ensures.next

pub returns : goal.returns
returns g c = c.place_of.ensures.place ∙ next_place _ _ c.args.self.now.darts.now c.args.self.now.kept c.args.rank c.requires _ _ c.next_kept.ensures.next
