pub mod CopyLemmas
pub mod EndLemmas
pub mod FlattenLemmas
pub mod ForestLemmas
pub mod FormLemmas
pub mod ValueLemmas
