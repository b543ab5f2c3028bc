pub mod FieldPlaces
