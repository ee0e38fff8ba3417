pub mod Run
pub mod Stream
pub mod Ended
pub mod Word
