-- What the tests keep for themselves: no rule cites it.
pub mod Samples
