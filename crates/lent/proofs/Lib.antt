-- Laws of the lent calls.
pub mod RefusalLaws
pub mod SkipLaws
pub mod KeepLaws
pub mod ViewLaws
pub mod CallLaws
