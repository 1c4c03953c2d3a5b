use Rattle.std.proofs.Common.{false}
use Rattle.vpf_darts.specs.declared.darts.TileDart.{TileDart}
use Rattle.vpf_renumbering.proofs.glued_edges.TurnLemmas.{begins_at}
use Rattle.vpf_renumbering.proofs.glued_edges.nodes.first_dart.Goals as goal

pub bounds-at-0 : goal.bounds-at-0
bounds-at-0 c =
    let none : TileDart = record { tile = 0; edge = 0; minus = false } in
    (begins_at c.args.turns.now c.args.i c.at.result.now none c.requires.some c.at.ensures).some

pub returns : goal.returns
returns c =
    let none : TileDart = record { tile = 0; edge = 0; minus = false } in
    (begins_at c.args.turns.now c.args.i c.at.result.now none c.requires.some c.at.ensures).first
