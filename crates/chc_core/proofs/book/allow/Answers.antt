use Rattle.std.proofs.Common.{◌≡◌, true, sym, subst}
use Rattle.book_rules.specs.Places.{has_places}
use Rattle.step_rules.specs.Standing.{IsStanding, Standing}
use Rattle.step_rules.specs.Taken.{step_of}
use Rattle.chc_core.proofs.BookLemmas.{standing}
use Rattle.chc_core.proofs.book.allow.Goals as goal

pub broken_step-requires : goal.broken_step-requires
broken_step-requires c = record {
  kept = subst IsStanding (sym c.lend.ensures) (standing c.args.parts.now c.requires.kept);
  places = subst (λ (s : Standing). has_places s.system (step_of c.args.step.now) ≡ true) (sym c.lend.ensures) c.requires.places;
}
