-- Laws that several proofs cite.
pub mod HeaderLaws
pub mod ParseLaws
pub mod RangeLaws
pub mod SectionLaws
pub mod UnitsLaws
