use Rattle.std.proofs.Common.{◌≡◌, ℕ, [], ◌∷◌, Bool, true, ◌^◌, sym, ap, subst, ◌∙◌, arith}
use Rattle.std.specs.Prelude.{Result, codes}
use Rattle.term_check.specs.Spelling.{is_word}
use Rattle.answer_text.specs.Reading.{Defined, provided, definition_by, definition_of}
use Rattle.answer_text.specs.machinery.Places.{Took}
use Rattle.answer_text.proofs.DefinitionLemmas.{five, two_of_five}
use Rattle.answer_text.proofs.definitions.take_parts.Goals as goal

pub returns-else-not-is_word : goal.returns-else-not-is_word
returns-else-not-is_word c before h =
    let text = c.args.text.now in
    let preds = c.args.declared.now in
    let word = c.word-item.result in
    let later = definition_by text preds before c.args.start c.name-item.result c.params-item.result c.sort-item.result c.term-item.result in
    let parts : c.args.trees.now ≡ word ∷ c.name-item.result ∷ c.params-item.result ∷ c.sort-item.result ∷ c.term-item.result ∷ [] =
    five c.args.trees.now _ _ _ _ _ (omega (arith, c.in-len5.len_at_least)) (omega (arith, c.in-len5.len_below)) c.word-item.is c.name-item.is c.params-item.is c.sort-item.is c.term-item.is in
    let begins : is_word text word (codes "define-fun") ≡ true = sym c.is_word.ensures ∙ c.if-not-is_word.false in
    let same : later ≡ definition_of text preds before c.args.start c.args.trees.now =
    sym (ap (definition_of text preds before c.args.start) parts ∙ ap (λ (b : Bool). provided b c.args.start later) begins) in
    subst (λ (o : Result Defined ℕ). Took before preds o c.take_one.new.places.items c.take_one.result) same (c.take_one.ensures before h)

pub take_one-requires-clause-weight : goal.take_one-requires-clause-weight
take_one-requires-clause-weight c =
    let parts = five c.args.trees.now _ _ _ _ _ (omega (arith, c.in-len5.len_at_least)) (omega (arith, c.in-len5.len_below)) c.word-item.is c.name-item.is c.params-item.is c.sort-item.is c.term-item.is in
    two_of_five c.args.trees.now c.word-item.result c.name-item.result c.params-item.result c.sort-item.result c.term-item.result (2 ^ 32) parts c.requires.weight
