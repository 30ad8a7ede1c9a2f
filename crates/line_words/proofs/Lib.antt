pub mod QuickWords
pub mod ShortNumbers
pub mod Values
pub mod WordPlaces
