-- The lemmas that proofs of other crates cite.
pub use Rattle.cube_rules.proofs.AreaLemmas.{cube-none}
pub use Rattle.cube_rules.proofs.FormLemmas.{fits-And, fits-Or}
pub use Rattle.cube_rules.proofs.GatherLemmas.{framed-end}
pub use Rattle.cube_rules.proofs.LiteralLemmas.{constant-at, form-wide, long-short, negated-short}
pub use Rattle.cube_rules.proofs.TestLemmas.{all_at, both_true, from_both, plus-none, plus-one, still_false}
pub use Rattle.cube_rules.proofs.UpperLemmas.{denied, none-first, upper-any}
pub use Rattle.cube_rules.proofs.ViewLemmas.{framed-drop, framed-past, framed_of-at, lemmas-lifted, lemmas-push, length-lemmas, mapped-end}
pub use Rattle.cube_rules.proofs.WalkLemmas.{goes-on, is-found, is-over, is-told, tells-on}
