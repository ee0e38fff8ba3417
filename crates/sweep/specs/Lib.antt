pub mod Jump
pub mod Chains
pub mod Picks
pub mod Parts
pub mod Sweep
pub mod Swept
pub mod Turned
