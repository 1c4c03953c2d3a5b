use Rattle.std.proofs.Common.{◌≤◌, ℕ, List, sym, subst}
use Rattle.std.specs.Prelude.{All}
use Rattle.vpf_prims.specs.declared.rows.Edge.{Edge}
use Rattle.vpf_prims.specs.Primitives.{own_edges}
use Rattle.vpf_prims.specs.Reading.{primitives_of}
use Rattle.vpf_wing.specs.Places.{tails}
use Rattle.vpf_wing.proofs.RangeLemmas.{tails_in}
use Rattle.vpf_wing.proofs.nodes.check_nodes.Goals as goal

pub new-requires-clause-below : goal.new-requires-clause-below
new-requires-clause-below c =
    let all = tails_in (primitives_of c.args.tile.now.tables) c.names_its_own.ensures in
    subst (λ (es : List Edge). All (λ node. node ≤ c.nodes.result) (tails es)) (sym c.requires)
    (subst (λ (n : ℕ). All (λ node. node ≤ n) (tails (own_edges (primitives_of c.args.tile.now.tables)))) (sym c.nodes.ensures.value) all)
