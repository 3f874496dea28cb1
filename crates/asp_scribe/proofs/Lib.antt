pub mod ScribeLaws
pub mod ListLaws
