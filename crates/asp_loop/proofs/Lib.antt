pub mod WeighLaws
pub mod FoundedLaws
pub mod WeightedLaws
pub mod EntailedLaws
pub mod PartLaws
pub mod LoopLaws
