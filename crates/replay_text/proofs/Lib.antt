pub mod NameLemmas
pub mod PpmLemmas
pub mod Rails
pub mod WordPairs
pub mod Texts
