pub mod Forms
pub mod Headed
pub mod Held
pub mod Named
pub mod Placed
pub mod Numbers
