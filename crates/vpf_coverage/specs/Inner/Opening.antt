pub mod OpenLaws
pub mod Opened
pub mod Opens
pub mod OpensTiles
pub mod Unopened
