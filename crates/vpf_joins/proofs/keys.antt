pub mod KeyLemmas
pub mod SearchLemmas
pub mod PutLemmas
