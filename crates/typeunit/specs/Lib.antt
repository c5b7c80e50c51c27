-- The definitions that the contracts of `typeunit` cite.
pub mod Search
pub mod Types
pub mod TypeRead
pub mod Views
