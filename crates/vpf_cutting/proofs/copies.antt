pub mod RisingLemmas
pub mod FilterLemmas
pub mod PairLemmas
pub mod StartLemmas
pub mod SortLemmas
pub mod CopyLemmas
pub mod PlacingLemmas
pub mod LocalLaws
