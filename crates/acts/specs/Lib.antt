pub mod Replies
pub mod Ready
pub mod Told
pub mod Verdicts
