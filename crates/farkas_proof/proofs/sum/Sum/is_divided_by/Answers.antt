use Rattle.std.proofs.Common.{◌&&◌, ◌+◌, ℕ, List, get_or, ap, sym, ◌∙◌, drop, FitsSigned}
use Rattle.std.specs.Int.{w64}
use Rattle.std.proofs.lemmas.Int.{to_z-of_z}
use Rattle.lin_atoms.specs.machinery.Accumulator.{Total}
use Rattle.refutation_trees.specs.Combination.{is_divided_by}
use Rattle.farkas_proof.specs.machinery.Sum.{standing}
use Rattle.farkas_proof.proofs.SumLemmas.{divided-at}
use Rattle.farkas_proof.proofs.sum.Sum.is_divided_by.Goals as goal

pub returns-then-not-is_multiple : goal.returns-then-not-is_multiple
returns-then-not-is_multiple c =
    let d = c.args.divisor in
    let d_fits : FitsSigned w64 d = c.ranges.divisor in
    let i = c.loop-term.term-index in
    let items = c.args.self.now.terms.items in
    let negated = c.args.self.now.negated in
    let whole = c.deref-term-items.ensures.value in
    let is = c.term-item.is ∙ ap (λ (ts : List (ℕ × Total)). get_or ts i c.term-item.result) whole in
    let within = rw whole at c.loop-term-test.true in
    let told = simp to_z-of_z at c.loop-term.invariant in
    let not = simp to_z-of_z at c.if-not-is_multiple.ensures in
    ap (λ b. b && is_divided_by d (standing (drop (i + 1) items) negated)) not
    ∙ sym (divided-at d items negated i c.term-item.result is within) ∙ told
