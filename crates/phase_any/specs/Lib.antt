pub mod Phasers
