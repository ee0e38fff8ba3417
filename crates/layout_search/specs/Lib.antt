pub mod FirstLayout
pub mod Found
pub mod Page
pub mod Laws
