use Rattle.vpf_darts.proofs.ExistenceLemmas.{map_has_listing}
use Rattle.vpf_darts.proofs.UniqueLemmas.{listing_unique}
use Rattle.vpf_darts.proofs.laws.one_listing.Goals as goal

pub returns-clause-one : goal.returns-clause-one
returns-clause-one c = listing_unique

pub returns-clause-some : goal.returns-clause-some
returns-clause-some c = map_has_listing
