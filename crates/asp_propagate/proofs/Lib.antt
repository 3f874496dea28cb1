pub mod UsefulLaws
pub mod TellLaws
pub mod AddLaws
pub mod PropagateLaws
pub mod LockLaws
pub mod EngineLaws
pub mod LateLaws
