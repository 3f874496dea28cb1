pub mod UsefulLaws
pub mod SlotLaws
pub mod DerivedLaws
pub mod JumpLaws
pub mod StepLaws
pub mod FaultLaws
pub mod CountLaws
