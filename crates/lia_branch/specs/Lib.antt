pub mod Conjunction
