pub mod Cells
pub mod GridCoverage
pub mod HeadLaws
pub mod LimitLaws
pub mod RowLaws
pub mod SmallLaws
pub mod StemLaws
pub mod Writing
