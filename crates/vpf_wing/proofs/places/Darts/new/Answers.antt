use Rattle.std.proofs.Common.{◌≡◌, map}
use Rattle.vpf_wing.proofs.PlaceLemmas.{place_of, next_places}
use Rattle.vpf_wing.proofs.places.Darts.new.Goals as goal

pub invariant_of-result : goal.invariant_of-result
invariant_of-result c =
    let is : c.in_ok-nexts.nexts.items ≡ map place_of c.args.nexts.items = rw c.deref.ensures.value at c.in_ok-nexts.ensures in
    rw is (next_places c.args.edges.items c.args.nexts.items c.requires.few c.requires.nexts c.requires.map)
