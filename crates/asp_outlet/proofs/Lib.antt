pub mod ListingLaws
pub mod OutletLaws
