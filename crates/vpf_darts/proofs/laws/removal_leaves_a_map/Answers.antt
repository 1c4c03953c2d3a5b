use Rattle.vpf_darts.proofs.WithoutLemmas.{without_dead}
use Rattle.vpf_darts.specs.Inner.WithoutLaws.{without-is_map}
use Rattle.vpf_darts.proofs.SetLemmas.{without-same_set}
use Rattle.vpf_darts.proofs.ExistenceLemmas.{remainder_has_listing}
use Rattle.vpf_darts.proofs.laws.removal_leaves_a_map.Goals as goal

pub returns-clause-map : goal.returns-clause-map
returns-clause-map c = without-is_map

pub returns-clause-set : goal.returns-clause-set
returns-clause-set c = without-same_set

pub returns-clause-listing : goal.returns-clause-listing
returns-clause-listing c = remainder_has_listing

pub returns-clause-live : goal.returns-clause-live
returns-clause-live c = without_dead
