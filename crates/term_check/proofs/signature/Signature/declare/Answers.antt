use Rattle.std.proofs.Common.{◌≡◌, ◌++◌, [], ◌∷◌, ℕ, length, map, false, None, List, sym, ap, ◌∙◌, arith, rules, length-append}
use Rattle.std.proofs.lemmas.List.{map-append}
use Rattle.term_tree.specs.declared.script.Pred.{Pred}
use Rattle.term_check.specs.Spelling.{pred_from}
use Rattle.term_check.specs.Words.{is_word_among}
use Rattle.term_check.proofs.KeyLemmas.{name_added}
use Rattle.term_check.proofs.NumberLemmas.{names_of, none_named}
use Rattle.term_check.proofs.signature.Signature.declare.Goals as goal

pub invariant_of-self-2 : goal.invariant_of-self-2
invariant_of-self-2 c =
    let preds = c.self.inside.preds.items in
    let key = c.in_ok-name.name in
    let items : c.push.new.self.items ≡ preds ++ c.args.pred ∷ [] = search rules in
    let bytes : key.items ≡ c.args.pred.name.bytes = c.in_ok-name.ensures.items ∙ c.as_slice.ensures in
    let new : pred_from 0 c.args.pred.name.bytes preds ≡ None = ap (λ (ps : List Pred). pred_from 0 c.args.pred.name.bytes ps) c.self.view_is ∙ c.requires.new in
    let none : is_word_among (map (λ k. k.items) c.self.inside.names.keys) key.items ≡ false =
    ap (λ (names : List (List ℕ)). is_word_among names key.items) c.self.invariant.1 ∙ ap (λ (k : List ℕ). is_word_among (names_of preds) k) bytes ∙ none_named 0 c.args.pred.name.bytes preds new in
    let long = ap (λ (ps : List Pred). length ps) items in
    let seen = ap (λ (ps : List Pred). length ps) c.self.view_is in
    let room = c.requires.room in (
      omega (arith, long, seen, room, length-append preds (c.args.pred ∷ [])),
      name_added (λ k. k.items) c.self.inside.names.keys c.insert.new.self.keys key c.in_ok-insert.ensures.keys none ∙ ap (λ (names : List (List ℕ)). names ++ key.items ∷ []) c.self.invariant.1
          ∙ ap (λ (k : List ℕ). names_of preds ++ k ∷ []) bytes ∙ sym (map-append (λ p. p.name.bytes) preds (c.args.pred ∷ [])) ∙ ap names_of (sym items),
    )
