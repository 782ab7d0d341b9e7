pub mod QuadraticSystems
pub mod Arrays
pub mod MatrixProducts
pub mod Linear
