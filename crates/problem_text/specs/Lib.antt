pub mod NameTable
pub mod Canonical
pub mod FirstFault
pub mod ReadBack
