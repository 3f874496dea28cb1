pub mod UnboundedLaws
