use Rattle.std.proofs.Common.{◌≡◌, List, map, not, true, false, ap, sym, ◌∙◌, subst}
use Rattle.std.specs.Prelude.{Bool, IfOk, if◌then◌else◌}
use Rattle.term_tree.specs.declared.node.TermId.{TermId}
use Rattle.term_tree.specs.Operators.{is_distinct}
use Rattle.lin_atoms.specs.Linear.{Linear}
use Rattle.lin_atoms.specs.declared.form.Form.{Form}
use Rattle.linear_terms.specs.Linear.{bit_of, less}
use Rattle.linear_terms.specs.Text.{are_truths}
use Rattle.linear_terms.specs.Formula.{comparison, joined, related, same_bits, sides}
use Rattle.term_tables.specs.machinery.Table.{constant_in, sort_in}
use Rattle.term_forms.specs.Found.{form_by}
use Rattle.term_formulas.specs.Written.{naming_by}
use Rattle.term_formulas.specs.machinery.Parts.{ComparesWithRoom}
use Rattle.term_formulas.proofs.ArgumentLemmas.{two_ids}
use Rattle.term_formulas.proofs.writing.comparison.Goals as goal

pub returns-in_ok-bits-clause-is : goal.returns-in_ok-bits-clause-is
returns-in_ok-bits-clause-is c =
    let op = c.args.op in
    let sign = c.args.sign in
    let bits : List Linear = map (λ (arg : TermId). bit_of (naming_by c.args.names.now) c.args.terms.now.nodes arg.0) c.args.args.now in
    let forms : List Linear = map (λ (arg : TermId). form_by (constant_in c.args.constants.now) (naming_by c.args.names.now) c.args.terms.now.nodes arg.0) c.args.args.now in
    let same : c.as_slice.result.now ≡ bits = c.as_slice.ensures.value ∙ c.in_ok-bits.ensures.are in
    let truths : are_truths (sort_in c.args.sorts.now) c.args.args.now ≡ true = sym c.are_truths.ensures ∙ c.if-are_truths.true in
    subst (λ (f : Form). IfOk c.compared_bits.result (λ form. form ≡ f))
    (ap (λ (bs : List Linear). joined sign (map (λ (p : Linear × Linear). same_bits (if is_distinct op then not sign else sign) p.0 p.1) (sides op bs))) same
    ∙ sym (ap (λ (b : Bool). comparison op b sign bits forms) truths))
    c.compared_bits.ensures

pub returns-in_ok-forms-clause-is : goal.returns-in_ok-forms-clause-is
returns-in_ok-forms-clause-is c =
    let op = c.args.op in
    let sign = c.args.sign in
    let bits : List Linear = map (λ (arg : TermId). bit_of (naming_by c.args.names.now) c.args.terms.now.nodes arg.0) c.args.args.now in
    let forms : List Linear = map (λ (arg : TermId). form_by (constant_in c.args.constants.now) (naming_by c.args.names.now) c.args.terms.now.nodes arg.0) c.args.args.now in
    let same : c.as_slice-in_default.result.now ≡ forms = c.as_slice-in_default.ensures.value ∙ c.in_ok-forms.ensures.are in
    let numbers : are_truths (sort_in c.args.sorts.now) c.args.args.now ≡ false = sym c.are_truths.ensures ∙ c.if-are_truths.false in
    subst (λ (f : Form). IfOk c.compared_numbers.result (λ form. form ≡ f))
    (ap (λ (fs : List Linear). joined sign (map (λ (p : Linear × Linear). related op sign (less p.0 p.1)) (sides op fs))) same
    ∙ sym (ap (λ (b : Bool). comparison op b sign bits forms) numbers))
    c.compared_numbers.ensures

pub of_sides-requires-clause-sides : goal.of_sides-requires-clause-sides
of_sides-requires-clause-sides c =
    subst (λ (ids : List TermId). ComparesWithRoom (constant_in c.args.constants.now) (naming_by c.args.names.now) c.args.terms.now.nodes c.args.op ids)
    (two_ids c.args.args.now (record { 0 = 0 }) c.in-len2.len_at_least c.in-len2.len_below) c.requires.sides

pub returns-in-len2-clause-is : goal.returns-in-len2-clause-is
returns-in-len2-clause-is c =
    let op = c.args.op in
    let sign = c.args.sign in
    let bits : List Linear = map (λ (arg : TermId). bit_of (naming_by c.args.names.now) c.args.terms.now.nodes arg.0) c.args.args.now in
    let form : TermId → Linear = λ arg. form_by (constant_in c.args.constants.now) (naming_by c.args.names.now) c.args.terms.now.nodes arg.0 in
    let numbers : are_truths (sort_in c.args.sorts.now) c.args.args.now ≡ false = sym c.are_truths.ensures ∙ c.if-are_truths.false in
    subst (λ (f : Form). IfOk c.of_sides.result (λ form. form ≡ f))
    (ap (λ (ids : List TermId). joined sign (map (λ (p : Linear × Linear). related op sign (less p.0 p.1)) (sides op (map form ids)))) (sym (two_ids c.args.args.now (record { 0 = 0 }) c.in-len2.len_at_least c.in-len2.len_below))
    ∙ sym (ap (λ (b : Bool). comparison op b sign bits (map form c.args.args.now)) numbers))
    c.of_sides.ensures.is
