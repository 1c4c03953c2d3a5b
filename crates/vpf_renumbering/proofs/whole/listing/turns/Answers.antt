use Rattle.std.proofs.Common.{refl}
use Rattle.vpf_prims.specs.Libraries.{library_of}
use Rattle.vpf_wing.specs.Links.{links_of}
use Rattle.vpf_follow.specs.Following.{library_map}
use Rattle.vpf_renumbering.specs.Inner.Whole.Turning.{turning_map}
use Rattle.vpf_renumbering.proofs.whole.OrderLemmas.{none_passed}
use Rattle.vpf_renumbering.proofs.whole.TurnLemmas.{library_turns}
use Rattle.vpf_renumbering.proofs.whole.listing.turns.Goals as goal

pub list_kept-requires : goal.list_kept-requires
list_kept-requires c =
    none_passed (library_of c.args.whole.now) (turning_map (library_map (links_of (library_of c.args.whole.now))))
    (library_turns (library_of c.args.whole.now) c.makes_map.ensures.map) (λ d. refl) c.args.darts.now c.requires
