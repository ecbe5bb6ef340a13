use Rattle.std.proofs.Common.{◌≡◌, ◌++◌, codes, decimal, rules}
use Rattle.term_tree.specs.Truth.{as_values}
use Rattle.answer_text.specs.Names.{spaced, value_text}
use Rattle.check_input.proofs.AppendLemmas.{joined}
use Rattle.check_input.proofs.text.push_instance.Goals as goal

pub returns : goal.returns
returns c =
    let pushed : c.push_at.new.out.items ≡ c.push_assertion.new.out.items ++ ((codes " at (" ++ spaced value_text (as_values c.args.sorts.now c.args.numbers.now)) ++ codes ")\n") = search rules in
    joined c.args.out.now.items _ _ (codes "; assertion " ++ decimal c.args.assertion) (codes " at (") (spaced value_text (as_values c.args.sorts.now c.args.numbers.now)) (codes ")\n")
    c.in_ok-push_assertion.ensures pushed
