pub mod CountLaws
pub mod Errors
pub mod Laws
pub mod PathLaws
pub mod Taking
pub mod TextLaws
pub mod Texts
