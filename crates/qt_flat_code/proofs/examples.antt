mod Words
mod Storing
mod Bodies
mod Calling
mod Answering
