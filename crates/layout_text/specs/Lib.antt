pub mod Block
pub mod Tree
pub mod View
pub mod Grammar
pub mod Reading
pub mod Faults
pub mod FirstFault
pub mod Token
