-- The assertion whose instance a verdict tells is there.
use Rattle.std.proofs.Common.{◌≡◌, ℕ, List, inl, inr}
use Rattle.std.specs.Prelude.{ℤ, ◌⊎◌}
use Rattle.term_tree.specs.declared.script.Script.{Script}
use Rattle.answer_text.specs.declared.answer.Answer.{Answer}
use Rattle.answer_text.specs.declared.answer.Answer.TheVariants.{Sat, Unsat, Unknown}
use Rattle.chc_checker.specs.declared.verdict.Place.TheVariants.{Byte, Instance}
use Rattle.chc_checker.specs.declared.verdict.Verdict.{Verdict}
use Rattle.chc_checker.specs.declared.verdict.Verdict.TheVariants.{Wrong}
use Rattle.chc_checker.specs.Verdicts.{Judges, Says}
use Rattle.check_input.specs.Texts.{IsAssertionOf}

differs : (number offset : ℕ) (integers : List ℤ) → Wrong (Instance number integers) ≡ Wrong (Byte offset) → ⊥
differs number offset integers e = absurd (cc)

said : (nodes : ℕ) (script : Script) (answer : Answer) (number : ℕ) (integers : List ℤ) → Says nodes script answer (Wrong (Instance number integers)) → IsAssertionOf script number
said nodes script (Sat definitions) number integers says = (says.reached.index, says.clause, says.reached.numbered, says.reached.is)
said nodes script (Unsat lines) number integers says = absurd says
said nodes script (Unknown level cause) number integers says = absurd says

pub instance_there : (nodes : ℕ) (script : Script) (bytes : List ℕ) (number : ℕ) (integers : List ℤ) → Judges nodes script bytes (Wrong (Instance number integers)) → IsAssertionOf script number
instance_there nodes script bytes number integers (inl told) = said nodes script told.0 number integers told.3
instance_there nodes script bytes number integers (inr bad) = absurd (differs number bad.0 integers bad.2)
