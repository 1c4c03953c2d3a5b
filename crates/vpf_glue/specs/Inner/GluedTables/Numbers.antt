-- The numbers that an edge of the glued coverage names, as the code gives them.
use Rattle.std.specs.Prelude.{◌<◌, ◌^◌}
use Rattle.vpf_prims.specs.Primitives.{EdgePrimitive}
use Rattle.vpf_prims.specs.References.{id_of}
use Rattle.vpf_glue.specs.declared.glued_tables.numbers.EdgeNumbers.{EdgeNumbers}

-- those of a row of edges
abbrev pub row_numbers : EdgePrimitive → EdgeNumbers
row_numbers e = record {
  start_node = id_of e.start_node;
  end_node = id_of e.end_node;
  right_face = id_of e.right_face;
  left_face = id_of e.left_face;
  right_edge = id_of e.right_edge;
  left_edge = id_of e.left_edge;
}

-- all fit cells of 4 bytes
pub record AreSmall (n : EdgeNumbers) : Type 0 where
  pub start_node : n.start_node < 2 ^ 31
  pub end_node : n.end_node < 2 ^ 31
  pub right_face : n.right_face < 2 ^ 31
  pub left_face : n.left_face < 2 ^ 31
  pub right_edge : n.right_edge < 2 ^ 31
  pub left_edge : n.left_edge < 2 ^ 31
