pub mod BinderLemmas
pub mod CommandLemmas
pub mod LayLemmas
pub mod ShapeLemmas
pub mod TextLemmas
