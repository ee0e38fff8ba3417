pub mod EndsKept
pub mod Steps
pub mod OneWay
