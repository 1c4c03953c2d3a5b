use Rattle.vpf_cutting.proofs.copies.LocalLaws.{locals_are_places, places_are_locals}
use Rattle.vpf_cutting.proofs.copies.laws.locals_are_places.Goals as goal

pub returns-clause-places : goal.returns-clause-places
returns-clause-places c = places_are_locals

pub returns-clause-locals : goal.returns-clause-locals
returns-clause-locals c = locals_are_places
