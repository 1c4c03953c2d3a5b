pub mod Filtering
pub mod LastLetters
pub mod Padding
pub mod Pieces
