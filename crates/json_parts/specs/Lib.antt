pub mod Form
pub mod Values
