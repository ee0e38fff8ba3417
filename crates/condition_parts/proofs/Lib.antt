pub mod Naming
pub mod Either
pub mod Under
pub mod Apart
pub mod Making
pub mod Mapped
pub mod Wholes
