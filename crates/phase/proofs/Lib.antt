mod Words
mod Asking
mod Answered
