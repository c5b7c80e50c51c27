-- The definitions of `tree`.
pub mod Walk
pub mod Tree
pub mod Demand
pub mod Views
