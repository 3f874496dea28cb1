pub mod ChangeLaws
pub mod CutLaws
pub mod FieldLaws
pub mod LineLaws
pub mod WalkLaws
pub mod ReaderLaws
pub mod StreamLaws
pub mod TextLaws
