-- The lemmas that proofs of other crates cite.
pub use Rattle.cube_forms.proofs.RoomLemmas.{thin-room}
pub use Rattle.cube_forms.proofs.TruthLemmas.{truth-cube_at, truth-lemma_at, truth-Literal}
