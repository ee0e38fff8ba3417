pub mod Judge
pub mod Draw
pub mod Load
