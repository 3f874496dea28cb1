pub mod BlamedLaws
pub mod WayLaws
pub mod CoreLaws
