pub mod Calls
pub mod Lawful
pub mod Values
pub mod Outcomes
pub mod ConditionC
pub mod Accident
pub mod Figure
pub mod Mixed
