pub mod GluedEdges
pub mod GluedFaces
pub mod Whole
