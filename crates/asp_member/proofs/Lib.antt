pub mod FoundingLaws
pub mod StableLaws
