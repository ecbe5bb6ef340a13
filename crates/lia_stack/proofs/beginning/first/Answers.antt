use Rattle.std.proofs.Common.{◌<◌, List, ℕ, [], ◌∷◌, ◌++◌, length, ap, refl, sym, ◌∙◌, arith}
use Rattle.lia_stack.proofs.FirstLemmas.{first-at, lits-more, open-is, range-more}
use Rattle.lia_stack.proofs.beginning.first.Goals as goal
use Rattle.lia_stack.proofs.beginning.first.Goals.{then-taken-test+else-at-lent, else-taken-test}

pub taken-preserved : goal.taken-preserved
taken-preserved c =
    let i = c.taken.invariant in
    let at = c.taken.at in
    let lits = c.args.lent.now in
    let few = c.taken-test.true in
    let less : at < length lits = c.if-at-lent.true in
    record {
      within = omega (arith, less);
      few = omega (arith, few);
      lits = lits-more lits lits c.taken.lits _ at _ c.index-lent-at.result refl i.lits less c.index-lent-at.is c.get.ensures c.in_ok-join.ensures.lits;
      numbers = c.in_ok-join.ensures.numbers ∙ ap (λ (ns : List ℕ). ns ++ at ∷ []) i.numbers ∙ sym (range-more 0 at at (omega arith));
    }

pub returns : goal.returns
returns c =
    let i = c.taken.invariant in
    let at = c.taken.at in
    let lits = c.args.lent.now in
    let ended : at < c.args.taken → at < length lits → ⊥ =
    elim c.taken-test.branch [
      | then-taken-test+else-at-lent w ↦ λ less there. absurd (omega (arith, there, w.if-at-lent.false))
      | else-taken-test w ↦ λ less there. absurd (omega (arith, less, w.taken-test.false))
    ] in
    open-is _ at c.args.taken lits c.args.cases (first-at at c.args.taken lits i.within i.few ended) i.lits i.numbers c.new.ensures refl c.in_ok-left_out.ensures refl
