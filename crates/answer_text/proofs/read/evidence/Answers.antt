use Rattle.std.proofs.Common.{ℕ, List, Bool, refl, ap, ◌∙◌}
use Rattle.std.specs.Prelude.{Ok, Result}
use Rattle.answer_text.specs.declared.answer.Line.{Line}
use Rattle.answer_text.specs.Reading.{◌>>=◌, evidence}
use Rattle.answer_text.specs.Reading.Reply.{refutation}
use Rattle.answer_text.proofs.read.evidence.Goals as goal

pub returns-in_ok-lines : goal.returns-in_ok-lines
returns-in_ok-lines c =
    (refutation c.in_ok-lines.lines, ap (λ (b : Bool). evidence c.args.text.now c.args.declared.now b c.args.tree.now) c.if-sat.false ∙ ap (λ (r : Result (List Line) ℕ). r >>= λ lines. Ok (refutation lines)) c.in_ok-lines.ensures, refl)
