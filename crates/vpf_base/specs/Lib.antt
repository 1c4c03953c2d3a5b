pub mod Bytes
pub mod Limits
pub mod Results
pub mod Numbers
