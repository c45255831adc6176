pub mod Numbers
pub mod Records
pub mod Meanings
pub mod Parts
pub mod Stations
pub mod StackNeeds
