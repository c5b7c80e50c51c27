-- The definitions that the contracts of `abbrev` cite.
pub mod Table
pub mod Rows
pub mod Lookup
pub mod Views
pub mod Tabled
pub mod Steps
pub mod Lent
