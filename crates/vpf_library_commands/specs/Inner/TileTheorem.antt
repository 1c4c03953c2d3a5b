pub mod Tilings
