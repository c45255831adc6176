pub mod Cases
pub mod Listings
