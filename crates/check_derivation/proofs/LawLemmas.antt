-- Lines are right, or wrong at one step.
use Rattle.std.proofs.Common.{◌≡◌, ℕ, suc, ◌<◌, List, length, inl, inr, ap, sym, ◌∙◌, arith}
use Rattle.std.proofs.lemmas.Bool.{cases_lt}
use Rattle.std.proofs.lemmas.Option.{slice_get_within}
use Rattle.std.specs.Prelude.{◌⊎◌}
use Rattle.term_tree.specs.declared.script.Script.{Script}
use Rattle.answer_text.specs.declared.answer.Line.{Line}
use Rattle.cert_derivations.specs.Claims.{DeriveFalse}
use Rattle.cert_derivations.proofs.Public.{derived_lines}
use Rattle.check_derivation.specs.Findings.{EndsElsewhere, IsFirstWrong, IsWrongAt}

pub right_not_wrong : (script : Script) (lines : List Line) (number : ℕ) → DeriveFalse script lines → IsWrongAt script lines number → ⊥
right_not_wrong script lines number derive (inl first) =
    first.wrong ((derived_lines script lines derive).each first.reached.place first.line first.reached.there)
right_not_wrong script lines number derive (inr ends) =
    let right = derived_lines script lines derive in
    ends.not_false right.before right.last right.ends right.is_false

not_before : (script : Script) (lines : List Line) (m n : ℕ) (a : IsFirstWrong script lines m) (b : IsFirstWrong script lines n) → a.reached.place < b.reached.place → ⊥
not_before script lines m n a b less = a.wrong (b.reached.before a.reached.place a.line less a.reached.there)

not_both : (script : Script) (lines : List Line) (m n : ℕ) → IsFirstWrong script lines m → EndsElsewhere script lines n → ⊥
not_both script lines m n first ends =
    first.wrong (ends.right first.reached.place first.line (slice_get_within lines first.reached.place first.line first.reached.there) first.reached.there)

pub one_step : (script : Script) (lines : List Line) (m n : ℕ) → IsWrongAt script lines m → IsWrongAt script lines n → m ≡ n
one_step script lines m n (inl a) (inl b) = elim (cases_lt a.reached.place b.reached.place) [
  | inl less ↦ absurd (not_before script lines m n a b less)
  | inr late ↦ elim (cases_lt b.reached.place a.reached.place) [
    | inl less ↦ absurd (not_before script lines n m b a less)
    | inr early ↦
        let first = a.reached.numbered in
        let second = b.reached.numbered in
        omega (arith, late, early, first, second)
  ]
]
one_step script lines m n (inl a) (inr b) = absurd (not_both script lines m n a b)
one_step script lines m n (inr a) (inl b) = absurd (not_both script lines n m b a)
one_step script lines m n (inr a) (inr b) = a.counted ∙ sym b.counted
