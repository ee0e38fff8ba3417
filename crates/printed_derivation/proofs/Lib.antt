pub mod Named
pub mod Limited
pub mod FirstWord
pub mod ReadBack
