-- Laws of the search and of the type entry.
pub mod SearchLaws
pub mod TypeLaws
pub mod WalkLaws
