-- Laws of plans.
pub mod Plans
