pub mod Placing
pub mod Lasting
pub mod Turns
pub mod FittingRows
