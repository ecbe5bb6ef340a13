use Rattle.std.proofs.Common.{◌≡◌, List, refl, ap, sym, ◌∙◌, [], ◌∷◌, true, false}
use Rattle.std.specs.Prelude.{negsuc, pos, Some}
use Rattle.term_tree.specs.declared.node.OpKind.TheVariants.{Ge}
use Rattle.term_tree.specs.declared.scalar.Value.{Value}
use Rattle.term_tree.specs.Operators.{result_of}
use Rattle.term_tree.specs.declared.scalar.Value.TheVariants.{Int, Bool as Truth}
use Rattle.term_tree.specs.Truth.{Interpretation, Completes, HasValue}
use Rattle.term_tree.specs.Value.{Environment}
use Rattle.term_tree.specs.Agreement.{all_positive}
use Rattle.term_tree.proofs.LawLemmas.{one_value, differ}
use Rattle.term_tree.proofs.laws.not_all_are_positive.Goals as goal

-- -1 is not at least 0
decided : (values : List Value) → Completes (Some (Int (negsuc 0)) ∷ Some (Int (pos 0)) ∷ []) values → Truth false ≡ result_of Ge values
decided [] h = absurd h
decided (v ∷ []) h = absurd h.1
decided (v ∷ w ∷ u ∷ values) h = absurd h.1.1
decided (v ∷ w ∷ []) h = ap (λ (x : Value). result_of Ge (x ∷ Int (pos 0) ∷ [])) (sym h.0) ∙ ap (λ (y : Value). result_of Ge (v ∷ y ∷ [])) (sym h.1.0)

at_minus_one : (I : Interpretation) (env : Environment) → HasValue I all_positive 3 env (Truth false)
at_minus_one I env = (
  Int (negsuc 0) ∷ [],
  (tt, tt),
  (Some (Int (negsuc 0)) ∷ Some (Int (pos 0)) ∷ [], (refl, (refl, tt)), decided),
)

pub returns : goal.returns
returns c = record {
  untrue = λ I env h. differ (one_value I all_positive 3 env (Truth true) (Truth false) h (at_minus_one I env));
  false_ = at_minus_one;
}
