mod Words
mod Coins
mod Outcomes
mod Turning
mod Stumbling
mod Angles
mod Calling
