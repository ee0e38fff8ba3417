pub mod FrontEnds
pub mod Taking
pub mod OneForm
