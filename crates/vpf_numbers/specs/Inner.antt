pub mod Beyond
pub mod CarriedLaws
pub mod Inside
pub mod Laws
