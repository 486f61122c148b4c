pub mod EvenDivisors
pub mod Divisors
pub mod Plans
