pub mod FirstLaws
pub mod Places
