pub mod Fits
pub mod Machine
pub mod Judges
pub mod Sound
pub mod Checking
pub mod Trees
pub mod Wanted
