pub mod TableForms
pub mod TileReading
pub mod TileTables
pub mod TileWriting
