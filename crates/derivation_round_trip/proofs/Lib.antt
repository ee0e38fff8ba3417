pub mod Found
pub mod Places
pub mod LineParts
pub mod Words
pub mod ReadBack
