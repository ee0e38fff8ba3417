pub mod Zeros
pub mod ZeroFaults
pub mod AllFaults
