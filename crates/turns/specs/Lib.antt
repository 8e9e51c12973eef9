-- Tables of rules, and the turns of the five rules.
pub mod Meaning
pub mod Table
pub mod Chain
