pub mod SlotLaws
pub mod StateLaws
pub mod KeepLaws
pub mod AssumedLaws
pub mod ListedLaws
pub mod BegunLaws
