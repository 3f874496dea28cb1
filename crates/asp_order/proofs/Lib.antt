pub mod SiftLaws
pub mod PlacedLaws
pub mod RankedLaws
pub mod WaitingLaws
pub mod HeapLaws
