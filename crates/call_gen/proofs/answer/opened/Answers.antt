use Rattle.std.proofs.Common.{◌≡◌, sym, subst}
use Rattle.std.specs.Prelude.{Ok}
use Rattle.term_tree.specs.declared.refusal.Checked.{Checked}
use Rattle.clause_form.specs.System.{Clauses}
use Rattle.clause_normal.specs.Reading.{system_reading}
use Rattle.call_gen.proofs.ReadLemmas.{never_refused}
use Rattle.call_gen.proofs.answer.opened.Goals as goal

pub unreachable-requires : goal.unreachable-requires
unreachable-requires c =
    never_refused c.args.checked.now c.args.units c.in_ok-found.found c.in-Refused.field-0 c.in_ok-found.ensures c.in-Refused.is
    (subst (λ (k : Checked). (sys : Clauses) × (system_reading k ≡ Ok sys)) (sym c.requires.is)
    (c.generated_scripts_have_clauses.ensures c.args.depth c.args.seed c.requires.depth))
