pub mod SoundKinds
pub mod FittingRows
pub mod SmallNumbers
pub mod SmallReferences
pub mod PlacedColumns
pub mod WritableTables
pub mod TileTables
