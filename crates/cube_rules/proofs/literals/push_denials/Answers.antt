use Rattle.std.proofs.Common.{◌∙◌, ap, sym}
use Rattle.std.specs.Prelude.{Err}
use mathlib.Core.Bool.{true≢false}
use Rattle.cube_rules.proofs.LiteralLemmas.{denials-fit}
use Rattle.cube_rules.proofs.literals.push_denials.Goals as goal

pub unreachable-requires : goal.unreachable-requires
unreachable-requires c = true≢false (sym (denials-fit c.args.lit.now c.requires.short c.requires.room) ∙ c.denied.ensures.wide (c.in-Err-Wide.is ∙ ap Err c.in-Err-Wide.field-0-is))
