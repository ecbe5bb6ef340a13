use Rattle.std.proofs.Common.{◌≡◌, false, List, ℕ, map, sym, ap, ◌∙◌}
use Rattle.term_check.specs.Words.{is_word_among}
use Rattle.term_check.proofs.FewLemmas.{among_later}
use Rattle.term_check.proofs.KeyLemmas.{any_named}
use Rattle.term_check.proofs.seen.Seen.contains.Goals as goal

pub returns-then-not-is_empty : goal.returns-then-not-is_empty
returns-then-not-is_empty c =
    let few : List (List ℕ) = map (λ one. one.now) c.self.inside.few.items in
    let more : List (List ℕ) = map (λ key. key.bytes.now) c.self.inside.more.keys in
    let name = c.args.name.now in
    let none : is_word_among few name ≡ false = ap (λ xs. is_word_among (map (λ one. one.now) xs) name) (sym c.as_slice.ensures.value) ∙ sym c.has_name.ensures ∙ c.if-has_name.false in
    c.contains.ensures ∙ any_named (λ key. key.bytes.now) c.self.inside.more.keys name ∙ sym (among_later few more name none) ∙ ap (λ (names : List (List ℕ)). is_word_among names name) c.self.view_is
