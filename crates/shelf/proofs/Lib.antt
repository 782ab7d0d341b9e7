pub mod PlacesOf
