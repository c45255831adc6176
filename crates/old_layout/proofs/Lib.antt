pub mod Uses
pub mod Verdict
pub mod Arguments
pub mod Layouts
