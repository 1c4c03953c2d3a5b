pub mod Libraries
pub mod Following
pub mod Sided
pub mod SideLines
pub mod FollowLines
pub mod Inner
