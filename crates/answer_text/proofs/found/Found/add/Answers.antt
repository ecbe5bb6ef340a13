use Rattle.std.proofs.Common.{◌≡◌, ◌++◌, [], ◌∷◌, List, map, not, ap, ◌∙◌, rules}
use Rattle.term_tree.specs.declared.sort.Sort.{Sort}
use Rattle.term_tree.specs.declared.script.Name.{Name}
use Rattle.term_check.specs.Words.{is_word_among}
use Rattle.answer_text.proofs.FoundLemmas.{parameter_added}
use Rattle.answer_text.proofs.found.Found.add.Goals as goal

pub invariant_of-self-2 : goal.invariant_of-self-2
invariant_of-self-2 c =
    let params = c.self.inside.params.items in
    let items : c.push.new.self.items ≡ params ++ (record { bytes = c.in_ok-bytes.bytes }, c.args.sort) ∷ [] = search rules in
    parameter_added c.self.inside.names.keys c.insert.new.self.keys (record { bytes = c.args.name }) params c.push.new.self.items c.in_ok-bytes.bytes c.args.sort c.in_ok-insert.ensures.keys items
    c.in_ok-bytes.ensures (ap (λ (ps : List (Name × Sort)). not (is_word_among (map (λ p. p.0.bytes) ps) c.args.name.now)) c.self.view_is ∙ c.requires) c.self.invariant
