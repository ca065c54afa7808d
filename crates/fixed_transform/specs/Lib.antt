pub mod Fixed
pub mod Matrix
pub mod Projection
pub mod Angle
pub mod Axis
pub mod Rotation
pub mod Stack
pub mod Laws
