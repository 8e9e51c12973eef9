-- Lists of calls and their replies.
pub mod Run
pub mod Text
