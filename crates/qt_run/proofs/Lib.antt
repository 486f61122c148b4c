pub mod Bits
pub mod Chances
pub mod Followed
pub mod Held
pub mod Listed
pub mod Shares
pub mod Totals
pub mod Values
mod Worked
