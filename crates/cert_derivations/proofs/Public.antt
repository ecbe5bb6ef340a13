-- The lemmas that proofs of other crates cite.
pub use Rattle.cert_derivations.proofs.BackLemmas.{derived_lines, right_lines}
pub use Rattle.cert_derivations.proofs.BehindLemmas.{steps-end}
pub use Rattle.cert_derivations.proofs.DerivableLemmas.{derivable_over_system}
pub use Rattle.cert_derivations.proofs.DeriveLemmas.{derive-false, no_solution}
pub use Rattle.cert_derivations.proofs.HeightLemmas.{fact_derivable, heights_are, last_step}
pub use Rattle.cert_derivations.proofs.PrintLemmas.{facts_printed}
pub use Rattle.cert_derivations.proofs.ReachLemmas.{derivable_by_script}
pub use Rattle.cert_derivations.proofs.StepLemmas.{all_steps, facts_derive}
pub use Rattle.cert_derivations.proofs.SystemLemmas.{IsMadeOf, normal_at, normal_there, system_made}
pub use Rattle.cert_derivations.proofs.ValueLemmas.{values_back}
