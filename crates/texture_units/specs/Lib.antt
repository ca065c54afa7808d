pub mod Format
pub mod Texture
pub mod Part
pub mod Place
pub mod Sample
pub mod Environment
pub mod Held
pub mod Laws
