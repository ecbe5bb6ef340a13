pub mod EndLemmas
pub mod FalseLemmas
pub mod TextLemmas
