use Rattle.std.proofs.Common.{List, map, not, ap, sym, ◌∙◌}
use Rattle.std.specs.Prelude.{Bool, if◌then◌else◌}
use Rattle.lin_atoms.specs.Linear.{Linear}
use Rattle.lin_atoms.specs.declared.form.Form.{Form}
use Rattle.linear_terms.specs.Formula.{joined, same_bits, sides}
use Rattle.term_formulas.proofs.ArgumentLemmas.{not_distinct, other_sides}
use Rattle.term_formulas.proofs.relations.compared_bits.Goals as goal

pub returns-in_ok-same_neighbours-in_default : goal.returns-in_ok-same_neighbours-in_default
returns-in_ok-same_neighbours-in_default c =
    let sign = c.args.sign in
    let made : List (Linear × Linear) → Bool → Form = λ ps b. joined sign (map (λ (p : Linear × Linear). same_bits (if b then not sign else sign) p.0 p.1) ps) in
    c.joined-in_default.ensures ∙ ap (joined sign) c.in_ok-same_neighbours-in_default.ensures
    ∙ ap (λ (ps : List (Linear × Linear)). joined sign (map (λ (p : Linear × Linear). same_bits sign p.0 p.1) ps)) (sym (other_sides c.args.op c.args.bits.now c.in_default.not-Distinct))
    ∙ ap (made (sides c.args.op c.args.bits.now)) (sym (not_distinct c.args.op c.in_default.not-Distinct))
