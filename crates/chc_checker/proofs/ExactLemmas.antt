-- Verdicts on derivations in which every number has room.
use Rattle.std.proofs.Common.{◌≡◌, ℕ, List, refl, ap}
use Rattle.term_tree.specs.declared.script.Script.{Script}
use Rattle.answer_text.specs.declared.answer.Answer.TheVariants.{Unsat}
use Rattle.answer_text.specs.declared.answer.Line.{Line}
use Rattle.cert_derivations.specs.Claims.{DeriveFalse}
use Rattle.check_derivation.specs.Findings.{IsWrongAt}
use Rattle.check_derivation.proofs.Public.{one_step, right_not_wrong}
use Rattle.chc_checker.specs.declared.verdict.Hidden.TheVariants.{Assertion, Step as AtStep}
use Rattle.chc_checker.specs.declared.verdict.Place.TheVariants.{Byte, Step, Instance}
use Rattle.chc_checker.specs.declared.verdict.Unshown.TheVariants.{Query, Variables, Value}
use Rattle.chc_checker.specs.declared.verdict.Verdict.{Verdict}
use Rattle.chc_checker.specs.declared.verdict.Verdict.TheVariants.{Valid, Wrong, NotShown}
use Rattle.chc_checker.specs.Verdicts.{HaveRoom, Says}

pub exact_valid : (nodes : ℕ) (script : Script) (lines : List Line) (verdict : Verdict) → Says nodes script (Unsat lines) verdict → HaveRoom script lines → DeriveFalse script lines → verdict ≡ Valid
exact_valid nodes script lines Valid says room derive = refl
exact_valid nodes script lines (Wrong (Byte offset)) says room derive = absurd says
exact_valid nodes script lines (Wrong (Step number)) says room derive = absurd (right_not_wrong script lines number derive says)
exact_valid nodes script lines (Wrong (Instance number integers)) says room derive = absurd says
exact_valid nodes script lines (NotShown (Assertion number) (Query gave_up)) says room derive = absurd says
exact_valid nodes script lines (NotShown (Assertion number) Variables) says room derive = absurd says
exact_valid nodes script lines (NotShown (Assertion number) (Value term)) says room derive = absurd says
exact_valid nodes script lines (NotShown (AtStep number) (Query gave_up)) says room derive = absurd says
exact_valid nodes script lines (NotShown (AtStep number) Variables) says room derive = absurd says
exact_valid nodes script lines (NotShown (AtStep number) (Value term)) says room derive = absurd (room number term.0 says)

pub exact_wrong : (nodes : ℕ) (script : Script) (lines : List Line) (verdict : Verdict) (number : ℕ) → Says nodes script (Unsat lines) verdict → HaveRoom script lines
    → IsWrongAt script lines number → verdict ≡ Wrong (Step number)
exact_wrong nodes script lines Valid number says room wrong = absurd (right_not_wrong script lines number says wrong)
exact_wrong nodes script lines (Wrong (Byte offset)) number says room wrong = absurd says
exact_wrong nodes script lines (Wrong (Step other)) number says room wrong = ap (λ (n : ℕ). Wrong (Step n)) (one_step script lines other number says wrong)
exact_wrong nodes script lines (Wrong (Instance other integers)) number says room wrong = absurd says
exact_wrong nodes script lines (NotShown (Assertion other) (Query gave_up)) number says room wrong = absurd says
exact_wrong nodes script lines (NotShown (Assertion other) Variables) number says room wrong = absurd says
exact_wrong nodes script lines (NotShown (Assertion other) (Value term)) number says room wrong = absurd says
exact_wrong nodes script lines (NotShown (AtStep other) (Query gave_up)) number says room wrong = absurd says
exact_wrong nodes script lines (NotShown (AtStep other) Variables) number says room wrong = absurd says
exact_wrong nodes script lines (NotShown (AtStep other) (Value term)) number says room wrong = absurd (room other term.0 says)
