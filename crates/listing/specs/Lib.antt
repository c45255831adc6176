pub mod Characters
pub mod Decimal
pub mod Written
pub mod Puts
pub mod Words
pub mod PlaceWords
pub mod Listing
pub mod Asks
