pub mod Lists
pub mod Tested
pub mod Takers
pub mod Spelling
pub mod Steps
pub mod Answers
pub mod Digits
