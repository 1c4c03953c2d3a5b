use Rattle.std.proofs.Common.{◌≡◌, ◌*◌, length, ap, ◌∙◌, arith}
use Rattle.vpf_wing.proofs.PlaceLemmas.{length_tails}
use Rattle.vpf_wing.proofs.nodes.Tails.new.Goals as goal

pub counts_of-requires-clause-few : goal.counts_of-requires-clause-few
counts_of-requires-clause-few c =
    let is = rw c.edges.ensures.edges at c.in_ok-nodes.ensures in
    let len : length c.in_ok-nodes.nodes.items ≡ 2 * length c.args.darts.now = ap length is ∙ length_tails c.args.darts.now in
    omega (arith, c.edges.ensures.few, ap length c.deref.ensures.value)

pub new-requires-clause-few : goal.new-requires-clause-few
new-requires-clause-few c =
    let is = rw c.edges.ensures.edges at c.in_ok-nodes.ensures in
    let len : length c.in_ok-nodes.nodes.items ≡ 2 * length c.args.darts.now = ap length is ∙ length_tails c.args.darts.now in
    omega (arith, c.edges.ensures.few)
