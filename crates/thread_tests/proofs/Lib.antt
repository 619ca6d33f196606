mod CallsLemmas
mod Summing
