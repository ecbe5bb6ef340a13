pub mod ConjunctionLemmas
