pub mod EachBelow
pub mod RingLaws
