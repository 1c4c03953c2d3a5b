pub mod Carrying
pub mod HomeLines
pub mod RoundLines
pub mod CarriedLines
pub mod Agreeing
pub mod CrossFinding
pub use Rattle.vpf_follow.specs.Inner.Homes as FollowHomes
pub use Rattle.vpf_follow.specs.Following
pub use Rattle.vpf_follow.specs.Sided
pub use Rattle.vpf_follow.specs.Inner.FollowLaws
pub use Rattle.vpf_follow.specs.Inner.Laws as VpfFollowLaws
pub use Rattle.vpf_follow.specs.FollowLines
pub use Rattle.vpf_follow.specs.SideLines
pub use Rattle.vpf_follow.specs.Inner.TileLaws
pub mod Inner
pub use Rattle.vpf_follow.specs.Inner.ListLaws
