pub mod AloneLemmas
pub mod CountLemmas
pub mod OfferLemmas
pub mod SeenLemmas
pub mod SendLemmas
pub mod ServeLemmas
