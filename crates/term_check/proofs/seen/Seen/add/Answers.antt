use Rattle.std.proofs.Common.{◌≡◌, ◌++◌, [], ◌∷◌, false, List, ℕ, map, sym, ap, ◌∙◌}
use Rattle.std.proofs.lemmas.List.{append_assoc}
use Rattle.term_check.specs.Words.{is_word_among}
use Rattle.term_check.proofs.FewLemmas.{not_later}
use Rattle.term_check.proofs.KeyLemmas.{name_added}
use Rattle.term_check.proofs.seen.Seen.add.Goals as goal

pub returns-in_ok-insert : goal.returns-in_ok-insert
returns-in_ok-insert c =
    let few : List (List ℕ) = map (λ one. one.now) c.self.inside.few.items in
    let more : List (List ℕ) = map (λ key. key.bytes.now) c.self.inside.more.keys in
    let name = c.args.name.now in
    let none : is_word_among more name ≡ false = not_later few more name (ap (λ (names : List (List ℕ)). is_word_among names name) c.self.view_is ∙ c.requires) in
    ap (λ later. few ++ later) (name_added (λ key. key.bytes.now) c.self.inside.more.keys c.insert.new.self.keys _ c.in_ok-insert.ensures.keys none) ∙ sym (append_assoc few more (name ∷ []))
    ∙ ap (λ (names : List (List ℕ)). names ++ name ∷ []) c.self.view_is
