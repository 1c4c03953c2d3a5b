pub mod Coverage
pub mod DartLaws
pub mod Laws
pub mod RowLaws
