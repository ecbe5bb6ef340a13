use Rattle.std.proofs.Common.{◌≡◌, ◌∷◌, [], List, ℕ, ap, ◌∙◌}
use Rattle.std.specs.Prelude.{pos}
use Rattle.lin_atoms.specs.declared.lit.Lit.{Lit}
use Rattle.farkas_proof.specs.Instances.{both, large_on_first, large_on_second}
use Rattle.refutation_trees.specs.declared.evidence.Evidence.{Evidence}
use Rattle.refutation_trees.specs.declared.evidence.Evidence.TheVariants.{Row}
use Rattle.farkas_proof.proofs.PairLemmas.{same-evidence}
use Rattle.farkas_proof.proofs.WideRowLemmas.{large-given-up, wide}
use Rattle.test_numbers.proofs.gave_up.crossing.Goals as goal

pub keep-requires : goal.keep-requires
keep-requires _ c =
    let form : c.conjunction-form.result ≡ both large_on_first large_on_second = c.conjunction-form.ensures ∙ ap (λ l. both l c.on_second-second.result) c.on_first-first.ensures ∙ ap (both large_on_first) c.on_second-second.ensures in
    let lits : c.pair-lits.result ≡ large_on_first ∷ large_on_second ∷ [] = c.pair-lits.ensures ∙ ap (λ (l : Lit). l ∷ c.on_second-second-2.result ∷ []) c.on_first-first-2.ensures ∙ ap (λ (l : Lit). large_on_first ∷ l ∷ []) c.on_second-second-2.ensures in
    let evidence : Row c.pair-lits.result c.first_two-basis.result (pos wide) ≡ Row (large_on_first ∷ large_on_second ∷ []) (0 ∷ 1 ∷ []) (pos wide) =
    ap (λ (ls : List Lit). Row ls c.first_two-basis.result (pos wide)) lits ∙ ap (λ (b : List ℕ). Row (large_on_first ∷ large_on_second ∷ []) b (pos wide)) c.first_two-basis.ensures in
    same-evidence _ _ _ _ form evidence large-given-up
