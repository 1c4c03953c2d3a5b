-- What an edge of a glued coverage names, all numbers small.
use Rattle.std.proofs.Common.{◌≡◌, ℕ, ◌*◌, ◌^◌, ◌<◌, ◌≤◌, length, arith}
use Rattle.vpf_base.specs.Limits.{most_rows}
use Rattle.vpf_renumbering.specs.TilingLawsWhole.{Whole}
use Rattle.vpf_renumbering.specs.Glued.{first_darts, plus_darts}
use Rattle.vpf_renumbering.specs.declared.glued_edges.glued.EdgeJoins.{EdgeJoins}
use Rattle.vpf_renumbering.specs.Inner.GluedEdges.Glued.{AreEdgeRows}
use Rattle.vpf_glue.specs.declared.glued_tables.numbers.EdgeNumbers.{EdgeNumbers}
use Rattle.vpf_glue.specs.Inner.GluedTables.Numbers.{AreSmall}

abbrev pub joined : EdgeJoins → (right left : ℕ) → EdgeNumbers
joined j right left = record {
  start_node = j.start_node;
  end_node = j.end_node;
  right_face = right;
  left_face = left;
  right_edge = j.right_edge;
  left_edge = j.left_edge;
}

pub small_names : (W : Whole) (j : EdgeJoins) (right left : ℕ) → AreEdgeRows W j → length (plus_darts W) ≤ most_rows → length (first_darts W) ≤ 2 * most_rows
    → right < 2 ^ 25 → left < 2 ^ 25 → AreSmall (joined j right left)
small_names W j right left rows few nodes r l =
    let a : j.start_node ≤ length (first_darts W) = rows.start_node.1 in
    let b : j.end_node ≤ length (first_darts W) = rows.end_node.1 in
    let c : j.right_edge ≤ length (plus_darts W) = rows.right_edge.1 in
    let d : j.left_edge ≤ length (plus_darts W) = rows.left_edge.1 in
    record {
      start_node = omega arith;
      end_node = omega arith;
      right_face = omega arith;
      left_face = omega arith;
      right_edge = omega arith;
      left_edge = omega arith;
    }

pub same_names : (j : EdgeJoins) (right left a b c d e f : ℕ) → j.start_node ≡ a → j.end_node ≡ b → right ≡ c → left ≡ d → j.right_edge ≡ e → j.left_edge ≡ f
    → joined j right left ≡ record { start_node = a; end_node = b; right_face = c; left_face = d; right_edge = e; left_edge = f }
same_names j right left a b c d e f ha hb hc hd he hf = cc
