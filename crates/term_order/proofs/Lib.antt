pub mod Instances
pub mod Readings
