-- Sums from each place of a row on: by products as numbers, and by sums of subsets.
pub mod Valued
pub mod Products
pub mod Tables
pub mod Right
