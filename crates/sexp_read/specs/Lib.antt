pub mod Leaves
pub mod Lexicon
pub mod Next
pub mod Trees
pub mod machinery
