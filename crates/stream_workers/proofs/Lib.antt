mod Evaluated
mod Grown
mod Lefts
mod StartsInTime
