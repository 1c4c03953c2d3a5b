pub mod Select
pub mod Lines
pub mod Plain
pub use Rattle.vpf_featured.specs.Reading
pub mod Classes
