pub mod BlockWaits
