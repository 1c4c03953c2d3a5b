pub mod Coordinates
pub mod Deciding
pub mod Fitting
pub mod NumberLaws
pub mod TurnedLaws
pub mod Turning
