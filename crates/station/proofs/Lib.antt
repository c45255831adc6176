pub mod Orders
pub mod Attachments
pub mod Kcb
pub mod Changes
pub mod Filled
