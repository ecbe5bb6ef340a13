use Rattle.std.proofs.Common.{◌≡◌, ℕ, ◌<◌, length}
use Rattle.horn_shape.specs.Plain.{is_plain_term}
use Rattle.horn_shape.specs.Flags.{flag_of}
use Rattle.horn_shape.proofs.plain.PlainTerms.of.Given as goal

abbrev pub invariant-loop-i : goal.invariant-loop-i
invariant-loop-i l = record {
  long : length l.flags.items ≡ l.i;
  known : (id : ℕ) → id < l.i → flag_of l.flags.items id ≡ is_plain_term l.terms.nodes id;
}
