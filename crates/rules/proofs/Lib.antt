pub mod Results
pub mod Numbers
pub mod Worked
