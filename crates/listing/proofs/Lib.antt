-- Laws that several proofs cite.
pub mod TextLaws
pub mod NumeralLaws
pub mod LinesLaws
pub mod ListLaws
pub mod UnitLaws
pub mod PartLaws
pub mod WholeLaws
pub mod PlaceLaws
