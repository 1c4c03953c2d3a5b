use Rattle.std.proofs.Common.{◌≡◌, ◌*◌, length, ap, ◌∙◌, arith}
use Rattle.vpf_wing.proofs.PlaceLemmas.{length_tails}
use Rattle.vpf_wing.proofs.nodes.check_turn.Goals as goal

pub turn_size-size-requires : goal.turn_size-size-requires
turn_size-size-requires c =
    let len : length c.args.nodes.now ≡ 2 * length c.args.darts.now = ap length c.requires ∙ length_tails c.args.darts.now in
    omega (arith, c.first-first.ensures.within, c.if-first-eq0.false)
