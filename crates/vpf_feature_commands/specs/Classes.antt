pub mod Asking
pub mod Lacks
pub mod Keys
pub mod Serving
