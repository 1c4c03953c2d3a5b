pub mod Entries
pub mod EntryFaults
pub mod IndexLaws
