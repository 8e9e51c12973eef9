-- Rows of listed plans, the refusal of rows that cannot be listed, and joinings of plans.
pub mod Rows
pub mod Numbers
pub mod Joined
pub mod Shares
