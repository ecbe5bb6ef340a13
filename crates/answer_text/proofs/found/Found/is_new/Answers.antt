use Rattle.std.proofs.Common.{ℕ, List, map, not, ap, ◌∙◌}
use Rattle.term_tree.specs.declared.sort.Sort.{Sort}
use Rattle.term_tree.specs.declared.script.Name.{Name}
use Rattle.term_check.specs.Words.{is_word_among}
use Rattle.term_check.proofs.Public.{any_named}
use Rattle.answer_text.proofs.found.Found.is_new.Goals as goal

pub returns : goal.returns
returns c =
    ap not (c.contains.ensures ∙ any_named (λ key. key.bytes.now) c.self.inside.names.keys c.args.name.now ∙ ap (λ (names : List (List ℕ)). is_word_among names c.args.name.now) c.self.invariant
    ∙ ap (λ (ps : List (Name × Sort)). is_word_among (map (λ p. p.0.bytes) ps) c.args.name.now) c.self.view_is)
