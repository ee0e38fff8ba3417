pub mod Undo
pub mod Trail
pub mod Settle
