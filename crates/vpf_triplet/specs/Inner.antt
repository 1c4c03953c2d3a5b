pub mod CanonicalLaws
pub mod Deciding
pub mod FaultLaws
pub mod KindLaws
pub mod SpelledLaws
