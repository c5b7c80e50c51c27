-- Laws that several proofs cite.
pub mod DepthLaws
pub mod EntryLaws
pub mod RawLaws
pub mod FlatLaws
pub mod SeekLaws
pub mod PassLaws
pub mod RunLaws
pub mod CallsLaws
pub mod CursorLaws
pub mod OpenLaws
pub mod SkipLaws
pub mod KeepLaws
pub mod NameLaws
pub mod OneLaws
pub mod SameLaws
