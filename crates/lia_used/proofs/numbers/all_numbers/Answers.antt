use Rattle.std.proofs.Common.{ℕ, ◌+◌, ◌∙◌, List, ap, map, subst, sym}
use Rattle.lia_used.specs.Used.{AreNumbers, lemma_at}
use Rattle.lia_used.proofs.NumberLemmas.{lemmas-push, numbers-push}
use Rattle.lia_used.proofs.numbers.all_numbers.Goals as goal

pub loop-i-preserved : goal.loop-i-preserved
loop-i-preserved c =
    let lemmas = c.args.lemmas.now in
    let before = c.loop-i.numbers.items in
    record {
      numbers = subst (λ (numbers : List ℕ). AreNumbers (c.loop-i.i + 1) numbers) (sym c.in_ok-push_number.ensures) (numbers-push c.loop-i.i before c.loop-i.invariant.numbers);
      all = ap (map (lemma_at lemmas)) c.in_ok-push_number.ensures ∙ lemmas-push lemmas before c.loop-i.i c.loop-i-test.true c.loop-i.invariant.all;
    }
