pub mod NumberPlaces
pub mod Rosters
