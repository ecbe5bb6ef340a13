-- Lemmas of the crates below that are cited here.
pub use Rattle.term_formulas.proofs.RoomLemmas.{room_part}
pub use Rattle.term_widths.proofs.ConstantLemmas.{judged_same}
pub use Rattle.term_widths.proofs.PositionLemmas.{IsAt, position_is, position_on}
pub use Rattle.term_widths.proofs.RenamingLemmas.{IsNoName, alike_judge, only_names}
