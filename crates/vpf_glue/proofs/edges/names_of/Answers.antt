use Rattle.vpf_darts.specs.Darts.{tile_dart_code}
use Rattle.vpf_renumbering.specs.Glued.{edge_number, face_number, node_number}
use Rattle.vpf_glue.specs.GluedTables.Grids.{whole_in}
use Rattle.vpf_glue.proofs.EdgeLemmas.{same_names, small_names}
use Rattle.vpf_glue.proofs.edges.names_of.Goals as goal

pub returns-clause-numbers : goal.returns-clause-numbers
returns-clause-numbers c = λ k.
    same_names c.edge-joins.result c.sides-right_face.result.0 c.sides-right_face.result.1
    (node_number (whole_in c.args.edges.now) (tile_dart_code c.args.dart))
    (node_number (whole_in c.args.edges.now) ((whole_in c.args.edges.now).darts.flip (tile_dart_code c.args.dart)))
    (face_number (whole_in c.args.edges.now) ((whole_in c.args.edges.now).face (tile_dart_code c.args.dart)))
    (face_number (whole_in c.args.edges.now) ((whole_in c.args.edges.now).face ((whole_in c.args.edges.now).darts.flip (tile_dart_code c.args.dart))))
    (edge_number (whole_in c.args.edges.now) ((whole_in c.args.edges.now).darts.next (tile_dart_code c.args.dart)))
    (edge_number (whole_in c.args.edges.now) ((whole_in c.args.edges.now).darts.next ((whole_in c.args.edges.now).darts.flip (tile_dart_code c.args.dart))))
    c.edge-joins.ensures.start_node c.edge-joins.ensures.end_node c.sides-right_face.ensures.right c.sides-right_face.ensures.left c.edge-joins.ensures.right_edge c.edge-joins.ensures.left_edge

pub returns-clause-small : goal.returns-clause-small
returns-clause-small c =
    small_names (whole_in c.args.edges.now) c.edge-joins.result c.sides-right_face.result.0 c.sides-right_face.result.1 c.edge-joins.ensures.rows c.edges_number_few.ensures.edges c.edges_number_few.ensures.nodes
    c.sides-right_face.ensures.right_few c.sides-right_face.ensures.left_few
