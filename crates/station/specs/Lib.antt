pub mod Outcome
pub mod Paper
pub mod Attachment
