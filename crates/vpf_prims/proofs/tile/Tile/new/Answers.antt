use Rattle.std.proofs.Common.{◌∙◌}
use Rattle.vpf_table.specs.TableName.TheVariants as names
use Rattle.vpf_prims.specs.declared.placing.TableAt.{TableAt}
use Rattle.vpf_prims.proofs.OwnLemmas.{within_moved}
use Rattle.vpf_prims.proofs.tile.Tile.new.Goals as goal

pub invariant_of-result : goal.invariant_of-result
invariant_of-result c =
    let at : TableAt = record { tile = 0; table = names.Edg; file = c.args.first } in
    let held = c.requires.columns in
    record {
      columns = record {
        edges = λ there. rw c.in_table.ensures (held.edges there);
        within = rw c.in_table.ensures (within_moved at _ c.args.columns.edges held.within);
        edge_rows = rw c.in_table.ensures held.edge_rows;
        ring_ptr = held.ring_ptr;
        face_id = held.face_id;
        start_edge = held.start_edge;
        first_edge = held.first_edge;
        containing_face = held.containing_face;
      };
      edges = c.in_table.ensures ∙ held.edges at;
      owns = c.requires.owns;
      few = c.requires.few;
    }
