pub mod RankLemmas
pub mod SearchLemmas
pub mod KeptLemmas
