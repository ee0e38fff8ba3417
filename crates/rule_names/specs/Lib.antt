pub mod Mistakes
pub mod Sight
pub mod ScopeView
pub mod Table
pub mod Names
pub mod Answers
