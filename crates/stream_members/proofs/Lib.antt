mod Looks
mod Putting
