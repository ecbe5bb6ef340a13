use Rattle.std.proofs.Common.{◌≡◌, ◌<◌, ◌^◌, List, length, map, true, false, ap, sym, ◌∙◌, subst, arith}
use Rattle.std.specs.Prelude.{Err}
use Rattle.term_tree.specs.declared.node.TermId.{TermId}
use Rattle.lin_atoms.specs.Linear.{Linear}
use Rattle.linear_terms.specs.Linear.{bit_of, is_narrow, sum_form}
use Rattle.term_formulas.specs.Written.{naming_by}
use Rattle.term_formulas.specs.machinery.Parts.{AreBits}
use Rattle.term_formulas.proofs.NarrowLemmas.{bits_narrow}
use Rattle.term_formulas.proofs.bits.sum_of_bits.Goals as goal

pub unreachable-requires : goal.unreachable-requires
unreachable-requires c =
    let bits : List Linear = c.as_slice.result.now in
    let are : bits ≡ map (λ (id : TermId). bit_of (naming_by c.args.names.now) c.args.terms.now.nodes id.0) c.args.ids.now = c.as_slice.ensures.value ∙ c.in_ok-bits.ensures.are in
    let few : length bits < 2 ^ 63 = omega arith in
    let narrow : is_narrow (sum_form bits) ≡ true = bits_narrow bits (subst (λ (bs : List Linear). AreBits bs) (sym are) c.in_ok-bits.ensures.bits) few in
    let wide : is_narrow (sum_form bits) ≡ false = c.sum_form.ensures.wide (c.in-Err-Wide.is ∙ ap Err c.in-Err-Wide.field-0-is) in
    let both : true ≡ false = sym narrow ∙ wide in
    absurd (cc)
