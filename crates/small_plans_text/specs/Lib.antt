-- The text of the small plans.
pub mod SmallPlans
