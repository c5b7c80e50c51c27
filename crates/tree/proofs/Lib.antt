-- The plain walk and the tree: what is proved of them.
pub mod Program
pub mod Natural
pub mod Agree
pub mod Loop
pub mod Children
pub mod Sample
pub mod LevelLaws
pub mod Real
pub mod Demand
pub mod Kept
pub mod Corollary
pub mod Opened
pub mod Supposed
pub mod Made
