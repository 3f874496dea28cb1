pub mod ListLaws
pub mod DefinedLaws
pub mod MentionLaws
pub mod SoundLaws
pub mod SameLaws
pub mod TableLaws
