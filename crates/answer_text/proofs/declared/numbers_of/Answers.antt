use Rattle.std.proofs.Common.{◌≡◌, ◌+◌, ◌-◌, ◌<◌, ℕ, List, ◌∷◌, drop, length, sym, ap, subst, ◌∙◌, arith}
use Rattle.std.proofs.lemmas.List.{drop_more}
use Rattle.term_tree.specs.declared.script.Pred.{Pred}
use Rattle.answer_text.specs.machinery.Places.{AreNumbers}
use Rattle.answer_text.proofs.NameLemmas.{number_added}
use Rattle.answer_text.proofs.declared.numbers_of.Goals as goal

pub loop-number-preserved : goal.loop-number-preserved
loop-number-preserved c =
    let preds = c.args.preds.now in
    let entries = c.loop-number.numbers.entries in
    let k : ℕ = c.loop-number.number - 1 in
    let some = c.loop-number-test.true in
    let most = c.loop-number.invariant.0 in
    let next : k + 1 ≡ c.loop-number.number = omega (arith, some) in
    let within : k < length preds = omega (arith, some, most) in
    let found : AreNumbers (k + 1) (drop (k + 1) preds) entries = subst (λ (m : ℕ). AreNumbers m (drop m preds) entries) (sym next) c.loop-number.invariant.1 in
    let row = drop_more preds k c.index-preds-number.result within ∙ ap (λ (p : Pred). p ∷ drop (k + 1) preds) (sym c.index-preds-number.is) in (
      omega (arith, most),
      subst (λ (l : List Pred). AreNumbers k l c.insert.new.self.entries) (sym row)
          (number_added k c.index-preds-number.result (drop (k + 1) preds) entries c.insert.new.self.entries (record { bytes = c.as_slice-bytes.result }) found c.in_ok-insert.ensures.updates.0
          (c.as_slice-bytes.ensures ∙ ap (λ (p : Pred). p.name.bytes) (sym c.index-preds-number.is))),
    )
