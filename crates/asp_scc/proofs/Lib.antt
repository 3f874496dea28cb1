pub mod SearchLaws
pub mod ClassLaws
pub mod TurnLaws
pub mod GraphLaws
pub mod DependencyLaws
pub mod ReachLaws
pub mod NumberLaws
pub mod ComponentLaws
