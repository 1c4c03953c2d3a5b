-- Wings among the edges of a table.
use Rattle.std.proofs.Common.{ℕ, ◌-◌, Bool, true, false, List, length, arith}
use Rattle.std.proofs.lemmas.List.Elements.{All-get_or}
use Rattle.vpf_darts.specs.declared.darts.Dart.{Dart}
use Rattle.vpf_prims.specs.declared.rows.Edge.{Edge}
use Rattle.vpf_prims.specs.Edges.{HasWings, HaveWings, IsEdge}
use Rattle.vpf_wing.specs.Nexts.{no_edge, edge_at, wing}

wing_by : (n : ℕ) (edges : List Edge) (k : ℕ) (minus : Bool) → HasWings n (edge_at edges k) → IsEdge n (wing edges (record { edge = k; minus = minus }))
unfolding wing
wing_by n edges k true h = h.1
wing_by n edges k false h = h.0

pub wing_among : (edges : List Edge) (d : Dart) → HaveWings (length edges) edges → IsEdge (length edges) d.edge → IsEdge (length edges) (wing edges d)
wing_among edges d have in' =
    wing_by (length edges) edges d.edge d.minus (All-get_or (HasWings (length edges)) edges (d.edge - 1) no_edge (omega arith) have)
