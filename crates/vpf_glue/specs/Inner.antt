pub mod Forms
pub mod GluedReading
pub mod GluedTables
pub mod Sources
