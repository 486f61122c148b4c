pub mod Origins
pub mod Registers
pub mod Runs
