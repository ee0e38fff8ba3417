pub mod LeftOut
pub mod Tuples
pub mod Refusing
pub mod OneWay
pub mod Ended
