use Rattle.vpf_glue.proofs.glued_tables.LikeRows.{PlacesColumns}
use Rattle.vpf_glue.proofs.glued_tables.TileRows.{edge_rows_fit, entity_rows_fit, face_rows_fit, node_rows_fit}
use Rattle.vpf_glue.proofs.glued_tables.laws.rows_of_tiles_fit.Goals as goal

pub returns-clause-edges : goal.returns-clause-edges
returns-clause-edges c =
    let law : PlacesColumns = record { width = c.columns_by_position.ensures.width; each = c.columns_by_position.ensures.each } in
    edge_rows_fit law c.own_rows_fit.ensures.edges

pub returns-clause-faces : goal.returns-clause-faces
returns-clause-faces c =
    let law : PlacesColumns = record { width = c.columns_by_position.ensures.width; each = c.columns_by_position.ensures.each } in
    face_rows_fit law c.own_rows_fit.ensures.pairs

pub returns-clause-nodes : goal.returns-clause-nodes
returns-clause-nodes c =
    let law : PlacesColumns = record { width = c.columns_by_position.ensures.width; each = c.columns_by_position.ensures.each } in
    node_rows_fit law c.own_rows_fit.ensures.pairs

pub returns-clause-entities : goal.returns-clause-entities
returns-clause-entities c =
    let law : PlacesColumns = record { width = c.columns_by_position.ensures.width; each = c.columns_by_position.ensures.each } in
    entity_rows_fit law c.own_rows_fit.ensures.pairs
