pub mod Chains
pub mod Ownership
pub mod Places
pub mod Stack
