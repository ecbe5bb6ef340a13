use Rattle.std.proofs.Common.{ap, sym, ◌∙◌}
use Rattle.std.specs.Prelude.{option_map}
use Rattle.book_rules.specs.declared.by.By.TheVariants.{Lemma}
use Rattle.cube_rules.specs.Views.{lemmas_of}
use Rattle.cube_rules.proofs.Public.{denied, none-first, upper-any}
use Rattle.step_rules.specs.machinery.Walks.{is_unknown}
use Rattle.step_rules.proofs.KnownLemmas.{unknown-on}
use Rattle.step_rules.proofs.open_step.rules.none_unknown.Goals as goal

pub returns : goal.returns
returns c = λ h.
    let lemmas = c.args.frames.now.lemmas in
    let area = c.args.step.now.area in
    let atom = c.args.atom.now in
    let all = upper-any lemmas atom.pred c.args.k c.upper.result.now (is_unknown c.args.k area atom) c.upper.ensures (unknown-on c.args.k area atom) in
    ap (option_map Lemma) (none-first (is_unknown c.args.k area atom) (lemmas_of lemmas) (sym all ∙ sym c.in_ok-any.ensures ∙ denied c.in_ok-any.any h))
