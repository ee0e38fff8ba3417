pub mod Cores
pub mod Refusing
pub mod OneAnswer
