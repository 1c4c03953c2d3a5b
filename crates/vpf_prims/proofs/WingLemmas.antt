-- Rows without findings have wings among the edges.
use Rattle.std.proofs.Common.{◌≡◌, ℕ, ◌+◌, true, Option, Some, None, List, map, get_or, arith}
use Rattle.std.specs.Option.{unwrap_or}
use Rattle.std.proofs.lemmas.List.Elements.{All-map}
use Rattle.std.proofs.lemmas.Bool.Decides.{nat_tests}
use Rattle.vpf_table.specs.Grid.{Row}
use Rattle.vpf_table.specs.Firsts.{◌or◌}
use Rattle.vpf_table.specs.FirstLaws.{or-none_both, rows_none}
use Rattle.vpf_prims.specs.declared.edges.Ranges.{Ranges}
use Rattle.vpf_prims.specs.declared.placing.TableAt.{TableAt}
use Rattle.vpf_prims.specs.Columns.{RoleAt}
use Rattle.vpf_prims.specs.References.{is_from}
use Rattle.vpf_prims.specs.Lines.{id_line, range_line}
use Rattle.vpf_prims.specs.Edges.{EdgesAt, reference_at, id_at, edge_of, edge_lines, edges_finding, IsEdge, HasWings, HaveWings}
use Rattle.vpf_table.specs.FirstLaws.{unless_none}

from_one : (o : Option ℕ) (last : ℕ) → is_from 1 last o ≡ true → IsEdge last (unwrap_or o 0)
from_one (Some n) last h = (grind (arith, nat_tests), grind (arith, nat_tests))
from_one None last h = absurd cc

in_range : (at : TableAt) (last k : ℕ) (column : RoleAt) (row : Row) → range_line at 1 last k column row ≡ None → IsEdge last (id_at column row)
in_range at last k column row h = from_one (reference_at column row).id last (unless_none (is_from 1 last (reference_at column row).id) _ h)

row_wings : (columns : EdgesAt) (most : Ranges) (k : ℕ) (row : Row) → edge_lines columns most k row ≡ None → HasWings most.edges (edge_of columns row)
row_wings columns most k row h =
    let left = range_line columns.at 1 most.edges k columns.left_edge row in
    let right = range_line columns.at 1 most.edges k columns.right_edge row in
    let l5 = range_line columns.at 1 most.faces k columns.left_face row in
    let l4 = range_line columns.at 1 most.faces k columns.right_face row in
    let l3 = range_line columns.at 1 most.nodes k columns.end_node row in
    let l2 = range_line columns.at 1 most.nodes k columns.start_node row in
    let h6 = right or left in
    let h5 = l5 or h6 in
    let h4 = l4 or h5 in
    let h3 = l3 or h4 in
    let h2 = l2 or h3 in
    let p1 : h2 ≡ None = (or-none_both (id_line columns.at k columns.id row) h2 h).1 in
    let p2 : h3 ≡ None = (or-none_both l2 h3 p1).1 in
    let p3 : h4 ≡ None = (or-none_both l3 h4 p2).1 in
    let p4 : h5 ≡ None = (or-none_both l4 h5 p3).1 in
    let p5 : h6 ≡ None = (or-none_both l5 h6 p4).1 in
    let p6 = or-none_both right left p5 in
    (in_range columns.at most.edges k columns.right_edge row p6.0, in_range columns.at most.edges k columns.left_edge row p6.1)

pub have_wings : (columns : EdgesAt) (most : Ranges) (rows : List Row) → edges_finding columns most rows ≡ None → HaveWings most.edges (map (edge_of columns) rows)
have_wings columns most rows h =
    All-map (HasWings most.edges) (edge_of columns) rows (λ k d l. row_wings columns most (1 + k) (get_or rows k d) (rows_none (edge_lines columns most) 1 rows h k d l))
