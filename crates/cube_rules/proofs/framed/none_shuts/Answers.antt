use Rattle.std.proofs.Common.{ap, sym, ◌∙◌}
use Rattle.std.specs.Prelude.{option_map}
use Rattle.book_rules.specs.declared.by.By.TheVariants.{Lemma}
use Rattle.cube_rules.specs.Views.{lemmas_of}
use Rattle.cube_rules.specs.machinery.Walks.{shuts}
use Rattle.cube_rules.proofs.UpperLemmas.{denied, none-first, shuts-on, upper-any}
use Rattle.cube_rules.proofs.framed.none_shuts.Goals as goal

pub returns : goal.returns
returns c = λ h.
    let lemmas = c.args.frames.now.lemmas in
    let pair = c.args.pair.now in
    let all = upper-any lemmas pair.0 c.args.k c.upper-numbers.result.now (shuts c.args.k pair) c.upper-numbers.ensures (shuts-on c.args.k pair) in
    ap (option_map Lemma) (none-first (shuts c.args.k pair) (lemmas_of lemmas) (sym all ∙ sym c.any_shuts.ensures ∙ denied c.any_shuts.result h))
