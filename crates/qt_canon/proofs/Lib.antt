pub mod Wholes
pub mod Bits
pub mod Entries
pub mod Divisors
pub mod Twos
pub mod Tested
pub mod Planned
pub mod Results
