use Rattle.std.proofs.Common.{ℕ, ◌+◌, List, subst, sym}
use Rattle.lia_used.specs.Used.{AreNumbers}
use Rattle.lia_used.proofs.NumberLemmas.{numbers-push, numbers-skip}
use Rattle.lia_used.proofs.numbers.push_used.Goals as goal

pub returns-in_ok-push_number : goal.returns-in_ok-push_number
returns-in_ok-push_number c = subst (λ (numbers : List ℕ). AreNumbers (c.args.lemma + 1) numbers) (sym c.in_ok-push_number.ensures) (numbers-push c.args.lemma c.args.numbers.now.items c.requires)

pub returns-else-has_lemma : goal.returns-else-has_lemma
returns-else-has_lemma c = numbers-skip c.args.lemma c.args.numbers.now.items c.requires
