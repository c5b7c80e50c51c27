-- The definitions that the contracts of `listing` cite.
pub mod Text
pub mod Listing
pub mod Piece
pub mod Written
pub mod Listed
pub mod Input
pub mod InputViews
