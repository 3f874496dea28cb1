pub mod AskedLaws
pub mod PlainLaws
pub mod ToldLaws
