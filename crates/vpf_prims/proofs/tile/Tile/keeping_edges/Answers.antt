use Rattle.vpf_prims.proofs.tile.Tile.keeping_edges.Goals as goal

pub invariant_of-result : goal.invariant_of-result
invariant_of-result c =
    let held = c.self.invariant in
    let columns = held.columns in
    rw c.with_rows.ensures (record {
      columns = record {
        edges = columns.edges;
        within = columns.within;
        edge_rows = c.in_ok-rows.ensures;
        ring_ptr = columns.ring_ptr;
        face_id = columns.face_id;
        start_edge = columns.start_edge;
        first_edge = columns.first_edge;
        containing_face = columns.containing_face;
      };
      edges = held.edges;
      owns = held.owns;
      few = held.few;
    })
