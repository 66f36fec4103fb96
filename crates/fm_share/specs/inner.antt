pub mod TakenPlaces
