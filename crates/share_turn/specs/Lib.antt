pub mod Annals
pub mod View
pub mod Rule
pub mod Steps
pub mod Turn
pub mod Laws
