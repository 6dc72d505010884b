pub mod Numbers
pub mod Readout
