pub mod ReadTables
pub mod ReadTiles
pub mod AbsentNames
pub mod HeldTiles
pub mod MadeLibrary
pub mod Pairs
pub mod LibraryNames
