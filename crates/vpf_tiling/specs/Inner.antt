pub mod Laws
pub mod Plan
pub mod PresenceLaws
pub mod RankLaws
pub mod Tileable
