pub mod Counting
pub mod FaceLaws
pub mod Glued
pub mod Numbers
