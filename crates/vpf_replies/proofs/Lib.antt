pub mod ColumnPlaces
pub mod CycleLines
