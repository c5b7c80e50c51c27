-- Laws that several proofs cite; callers of the readers use those of WordLaws, LebLaws and FieldLaws.
pub mod Answers
pub mod Numbers
pub mod WordLaws
pub mod Signs
pub mod LebLaws
pub mod Accepted
pub mod PaddedLaws
pub mod LimitLaws
pub mod FieldLaws
pub mod FillLaws
pub mod Determined
pub mod PrefixLaws
pub mod Counts
