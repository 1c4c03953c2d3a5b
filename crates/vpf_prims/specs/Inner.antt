pub mod ColumnLaws
pub mod ItemLaws
pub mod Laws
pub mod Owning
pub mod Placed
pub mod RowLaws
pub mod Tiles
pub mod Views
