pub mod Tracing
pub use Rattle.vpf_cross.specs.CarriedLines
pub use Rattle.vpf_cross.specs.Agreeing
pub use Rattle.vpf_cross.specs.Inner.Example
pub use Rattle.vpf_cross.specs.Inner.CarriedLaws
pub mod Inner
