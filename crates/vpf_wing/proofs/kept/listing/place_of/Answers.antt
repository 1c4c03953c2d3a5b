use Rattle.std.proofs.Common.{arith, length, subst}
use Rattle.std.specs.List.Sorted.{IsBinarySearchResult, IsSearchInRange}
use Rattle.vpf_darts.specs.contracts.darts.TileDartOrd.TheImpl.{ghosts}
use Rattle.vpf_wing.proofs.kept.SearchLemmas.{found_at, is_found}
use Rattle.vpf_wing.proofs.kept.listing.place_of.Goals as goal

pub unreachable-requires : goal.unreachable-requires
unreachable-requires c =
    is_found ghosts.cmp c.numbers_keep_order.ensures c.args.darts.now c.requires.order c.args.dart (omega arith) c.in-Err.field-0 c.requires.there
    (subst (IsBinarySearchResult (λ y. ghosts.cmp y c.args.dart) c.args.darts.now) c.in-Err.is c.binary_search.ensures.position)

pub returns-clause-place : goal.returns-clause-place
returns-clause-place c =
    found_at ghosts.cmp c.numbers_keep_order.ensures c.args.darts.now c.requires.order c.args.dart (omega arith) c.in-Ok.place
    (subst (λ r. IsSearchInRange r (length c.args.darts.now)) c.in-Ok.is c.binary_search.ensures.bound)
    (subst (IsBinarySearchResult (λ y. ghosts.cmp y c.args.dart) c.args.darts.now) c.in-Ok.is c.binary_search.ensures.position)
