use Rattle.vpf_prims.specs.Libraries.{library_of}
use Rattle.vpf_renumbering.proofs.glued_edges.NodeLemmas.{nodes_are, turns_few}
use Rattle.vpf_renumbering.proofs.glued_edges.PlusLemmas.{paired}
use Rattle.vpf_renumbering.proofs.glued_edges.nodes.nodes_of.Goals as goal

pub turn_numbers-requires-clause-few : goal.turn_numbers-requires-clause-few
turn_numbers-requires-clause-few c =
    turns_few c.leasts_begin_cycles.ensures (library_of c.args.whole.now) c.args.darts.now c.requires.darts
    (paired (library_of c.args.whole.now) c.args.darts.now c.requires.darts c.makes_map.ensures.map c.makes_map.ensures.signs) c.in_ok-turns.turns c.in_ok-turns.ensures
    c.requires.few

pub returns : goal.returns
returns c =
    nodes_are c.leasts_begin_cycles.ensures (library_of c.args.whole.now) c.args.darts.now c.requires.darts
    (paired (library_of c.args.whole.now) c.args.darts.now c.requires.darts c.makes_map.ensures.map c.makes_map.ensures.signs) c.in_ok-turns.turns c.in_ok-turns.ensures c.requires.few
    (record { firsts = c.in_ok-first_darts.field-0; numbers = c.in_ok-turn_numbers.field-0 }) c.in_ok-first_darts.ensures c.in_ok-turn_numbers.ensures
