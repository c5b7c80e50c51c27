-- The marked readings of document 01 and the examples of document 02, request 2.
pub mod Marked
pub mod Examples
