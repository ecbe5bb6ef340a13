use Rattle.std.proofs.Common.{rules, ◌≡◌, List, [], ◌++◌, drop, get_or, append-nil, ap, sym, ◌∙◌, arith, FitsSigned, w64}
use Rattle.std.proofs.lemmas.Int.{to_z-of_z}
use Rattle.std.specs.Prelude.{pos}
use Rattle.term_tree.specs.declared.scalar.Value.{Value}
use Rattle.term_tree.specs.declared.sort.Sort.TheVariants.{Int}
use Rattle.term_tree.specs.Truth.{as_values}
use Rattle.cert_derivations.proofs.AddLemmas.{point-end, sorts-end, values-more}
use Rattle.cert_derivations.proofs.values.values.Goals as goal
use Rattle.cert_derivations.proofs.values.values.Goals.{then-loop-at-test+else-at-point, else-loop-at-test}

pub returns : goal.returns
returns c =
    let sorts = c.args.sorts.now in
    let point = c.args.point.now in
    let at = c.loop-at.at in
    let items : List Value = c.loop-at.values.items in
    let ended : as_values (drop at sorts) (drop at point) ≡ [] =
    elim c.loop-at-test.branch [
      | then-loop-at-test+else-at-point w ↦ point-end sorts point at (omega (arith, w.if-at-point.false))
      | else-loop-at-test w ↦ sorts-end sorts point at (omega (arith, w.loop-at-test.false))
    ] in
    c.from_vec.ensures ∙ sym (append-nil items) ∙ ap (λ (vs : List Value). items ++ vs) (sym ended) ∙ c.loop-at.invariant

pub loop-at-preserved : goal.loop-at-preserved
loop-at-preserved c =
    let sorts = c.args.sorts.now in
    let point = c.args.point.now in
    let at = c.loop-at.at in
    let fits : FitsSigned w64 (get_or point at (pos 0)) = search rules in
    let is = simp to_z-of_z at c.value_of.ensures in
    values-more sorts point at Int (pos 0) c.loop-at.values.items c.push.new.self.items (as_values sorts point) c.value_of.result c.loop-at-test.true c.if-at-point.true is c.in_ok-push.ensures.items
    c.loop-at.invariant
