pub mod MindLemmas
