pub mod Accepted
pub mod Texts
pub mod Given
pub mod Refusal
pub mod Dimension
pub mod Ends
pub mod Reply
pub mod Question
