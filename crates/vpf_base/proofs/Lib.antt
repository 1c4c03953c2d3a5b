pub mod Booleans
pub mod Results
pub mod Lists
pub mod ByteLists
pub mod Digits
pub mod NumberLemmas
pub mod Options
