use Rattle.vpf_tiling_laws.proofs.gluing.EdgeNumbers as edges
use Rattle.vpf_tiling_laws.proofs.gluing.FaceNumbers as faces
use Rattle.vpf_tiling_laws.proofs.gluing.NodeNumbers as nodes
use Rattle.vpf_tiling_laws.proofs.gluing.laws.renumbered_is_moved.Goals as goal

pub returns : goal.returns
returns c = record {
  edges = edges.edges_are_moved;
  edges_apart = edges.edges_stay_apart;
  faces = faces.faces_are_moved;
  faces_apart = faces.faces_stay_apart;
  nodes = nodes.nodes_are_moved;
  nodes_apart = nodes.nodes_stay_apart;
}
