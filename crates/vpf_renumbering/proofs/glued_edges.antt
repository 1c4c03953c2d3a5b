pub mod FirstLemmas
pub mod NumberLemmas
pub mod PlusLemmas
pub mod TurnLemmas
pub mod CountLemmas
pub mod NodeLemmas
pub mod FaceLemmas
pub mod KeepLemmas
