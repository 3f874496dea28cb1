pub mod BacklogLaws
pub mod FilterLaws
pub mod ToldLaws
