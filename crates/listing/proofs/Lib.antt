pub mod Decimal
pub mod Written
pub mod Puts
pub mod Words
pub mod Lines
pub mod Small
