pub mod Tiled
pub mod Gluing
pub use Rattle.vpf_trace.specs.Tracing
pub use Rattle.vpf_follow.specs.Following
pub mod Inner
