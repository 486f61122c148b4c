mod Rolls
mod examples
