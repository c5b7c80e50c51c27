-- The definitions that the contracts of `unit` cite.
pub mod Header
pub mod Parse
pub mod Range
pub mod Units
pub mod Views
