pub mod BelowLaws
pub mod LeafLaws
pub mod FloorLaws
pub mod PartLaws
