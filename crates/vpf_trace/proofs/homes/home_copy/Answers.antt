use Rattle.std.proofs.Common.{sym}
use Rattle.vpf_darts.specs.Darts.{tile_dart_code}
use Rattle.vpf_prims.specs.Libraries.{library_of}
use Rattle.vpf_wing.specs.Links.{links_of}
use Rattle.vpf_cross.specs.FollowLaws.{home_self}
use Rattle.vpf_trace.proofs.homes.home_copy.Goals as goal

pub home_copy-requires : goal.home_copy-requires
home_copy-requires c = rw c.in-Some.ensures.1 c.requires

pub returns-in-Some : goal.returns-in-Some
returns-in-Some c = record { copy = rw c.in-Some.ensures.1 at c.home_copy.ensures.copy }

pub returns-in-None : goal.returns-in-None
returns-in-None c =
    let L = library_of c.args.checked.now in
    record { copy = sym (home_self (links_of L) (tile_dart_code c.args.dart) (c.walks_pass_lines.ensures.all_home c.in-None.ensures (tile_dart_code c.args.dart) c.requires)) }
