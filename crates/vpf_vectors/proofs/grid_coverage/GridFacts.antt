-- What the laws of the grid say, together.
use Rattle.vpf_vectors.specs.Inner.Cells.Laws.{CornersHaveNodes, DartsAreInRange, NextsFit, GridIsMap, NodeIsOneCycle, FaceIsOneCycle, RingsStartLeast, FirstEdgesAreLeast}

pub record GridFacts : Type 0 where
  pub corner : CornersHaveNodes
  pub in_range : DartsAreInRange
  pub fit : NextsFit
  pub map : GridIsMap
  pub node : NodeIsOneCycle
  pub face : FaceIsOneCycle
  pub ring : RingsStartLeast
  pub first : FirstEdgesAreLeast
