use Rattle.std.proofs.Common.{◌++◌, ℕ, List, ap, ◌∙◌, codes, decimal}
use Rattle.term_tree.specs.declared.scalar.Value.{Value}
use Rattle.answer_text.specs.Names.{value_text, spaced}
use Rattle.answer_text.proofs.PushLemmas.{behind}
use Rattle.answer_text.proofs.derivation.push_lists.Goals as goal

pub returns : goal.returns
returns c =
    let out = c.args.out.now.items in
    let values = spaced value_text c.args.line.now.values in
    let premises = spaced decimal c.args.line.now.premises in
    let listed = c.in_ok-push_values.ensures ∙ ap (λ (vs : List Value). c.extend_from_slice.new.self.items ++ spaced value_text vs) c.as_slice.ensures in
    let numbered = c.in_ok-push_numerals.ensures ∙ ap (λ (ps : List ℕ). c.extend_from_slice-2.new.self.items ++ spaced decimal ps) c.as_slice-2.ensures in
    let one = behind out _ _ (codes " (") values c.in_ok-extend_from_slice.ensures.items listed in
    let two = behind out _ _ (codes " (" ++ values) (codes ") (") one c.in_ok-extend_from_slice-2.ensures.items in
    let three = behind out _ _ (codes " (" ++ values ++ codes ") (") premises two numbered in
    behind out _ _ (codes " (" ++ values ++ codes ") (" ++ premises) (codes ") ") three c.in_ok-extend_from_slice-3.ensures.items
