-- Laws that several proofs cite.
pub mod FormLaws
pub mod ListLaws
pub mod ReadLaws
pub mod PaddedLaws
pub mod ValueLaws
pub mod MarkLaws
pub mod PrefixLaws
pub mod LateLaws
