use Rattle.std.proofs.Common.{◌≡◌, ℕ, List, [], ◌∷◌, ap, sym, ◌∙◌, arith}
use Rattle.std.specs.Prelude.{Option, Ok, Result}
use Rattle.term_tree.specs.declared.scalar.Value.{Value}
use Rattle.answer_text.specs.declared.answer.Line.{Line}
use Rattle.answer_text.specs.Reading.{◌>>=◌, in_list, read_each, read_numeral, value, conclusion}
use Rattle.answer_text.proofs.EachLemmas.{six, fails, at_values, at_premises, at_head}
use Rattle.answer_text.proofs.steps.step_of.Goals as goal

pub returns-in_err-values-in-len6 : goal.returns-in_err-values-in-len6
returns-in_err-values-in-len6 c =
    let text = c.args.text.now in
    let preds = c.args.declared.now in
    let parts : c.args.trees.now ≡ c.word-item.result ∷ c.place-item.result ∷ c.assertion-item.result ∷ c.values-item.result ∷ c.premises-item.result ∷ c.head-item.result ∷ [] =
    six c.args.trees.now _ _ _ _ _ _ (omega (arith, c.in-len6.len_at_least)) (omega (arith, c.in-len6.len_below)) c.word-item.is c.place-item.is c.assertion-item.is c.values-item.is c.premises-item.is c.head-item.is in
    let begins = sym c.is_symbol.ensures ∙ c.if-not-is_symbol.false in
    fails (in_list (read_each (value text) []) c.values-item.result) _ _ c.in_err-values-in-len6.field-0.0 _ (at_values text preds c.args.start c.args.trees.now _ _ _ _ _ _ parts begins c.in_ok-number_is-in-len6.number_is c.in_ok-assertion-in-len6.assertion c.in_ok-number_is-in-len6.ensures c.in_ok-assertion-in-len6.ensures) c.in_err-values-in-len6.ensures c.from_residual-in_err-values-in-len6.ensures.1

pub returns-in_err-premises-in-len6 : goal.returns-in_err-premises-in-len6
returns-in_err-premises-in-len6 c =
    let text = c.args.text.now in
    let preds = c.args.declared.now in
    let parts : c.args.trees.now ≡ c.word-item.result ∷ c.place-item.result ∷ c.assertion-item.result ∷ c.values-item.result ∷ c.premises-item.result ∷ c.head-item.result ∷ [] =
    six c.args.trees.now _ _ _ _ _ _ (omega (arith, c.in-len6.len_at_least)) (omega (arith, c.in-len6.len_below)) c.word-item.is c.place-item.is c.assertion-item.is c.values-item.is c.premises-item.is c.head-item.is in
    let begins = sym c.is_symbol.ensures ∙ c.if-not-is_symbol.false in
    fails (in_list (read_each (read_numeral text) []) c.premises-item.result) _ _ c.in_err-premises-in-len6.field-0.0 _ (at_premises text preds c.args.start c.args.trees.now _ _ _ _ _ _ parts begins c.in_ok-number_is-in-len6.number_is c.in_ok-assertion-in-len6.assertion c.in_ok-number_is-in-len6.ensures c.in_ok-assertion-in-len6.ensures _ c.in_ok-values-in-len6.ensures) c.in_err-premises-in-len6.ensures
    c.from_residual-in_err-premises-in-len6.ensures.1

pub returns-in_err-head-in-len6 : goal.returns-in_err-head-in-len6
returns-in_err-head-in-len6 c =
    let text = c.args.text.now in
    let preds = c.args.declared.now in
    let parts : c.args.trees.now ≡ c.word-item.result ∷ c.place-item.result ∷ c.assertion-item.result ∷ c.values-item.result ∷ c.premises-item.result ∷ c.head-item.result ∷ [] =
    six c.args.trees.now _ _ _ _ _ _ (omega (arith, c.in-len6.len_at_least)) (omega (arith, c.in-len6.len_below)) c.word-item.is c.place-item.is c.assertion-item.is c.values-item.is c.premises-item.is c.head-item.is in
    let begins = sym c.is_symbol.ensures ∙ c.if-not-is_symbol.false in
    fails (conclusion text preds c.head-item.result) _ _ c.in_err-head-in-len6.field-0.0 _ (at_head text preds c.args.start c.args.trees.now _ _ _ _ _ _ parts begins c.in_ok-number_is-in-len6.number_is c.in_ok-assertion-in-len6.assertion c.in_ok-number_is-in-len6.ensures c.in_ok-assertion-in-len6.ensures _ _ c.in_ok-values-in-len6.ensures c.in_ok-premises-in-len6.ensures) c.in_err-head-in-len6.ensures
    c.from_residual-in_err-head-in-len6.ensures.1

pub returns-in_ok-head-in-len6 : goal.returns-in_ok-head-in-len6
returns-in_ok-head-in-len6 c =
    let text = c.args.text.now in
    let preds = c.args.declared.now in
    let parts : c.args.trees.now ≡ c.word-item.result ∷ c.place-item.result ∷ c.assertion-item.result ∷ c.values-item.result ∷ c.premises-item.result ∷ c.head-item.result ∷ [] =
    six c.args.trees.now _ _ _ _ _ _ (omega (arith, c.in-len6.len_at_least)) (omega (arith, c.in-len6.len_below)) c.word-item.is c.place-item.is c.assertion-item.is c.values-item.is c.premises-item.is c.head-item.is in
    let begins = sym c.is_symbol.ensures ∙ c.if-not-is_symbol.false in
    let line : Option (ℕ × List Value) → Line = λ head. record { number = c.in_ok-number_is-in-len6.number_is; assertion = c.in_ok-assertion-in-len6.assertion; values = c.in_ok-values-in-len6.values; premises = c.in_ok-premises-in-len6.premises; head = head } in
    at_head text preds c.args.start c.args.trees.now _ _ _ _ _ _ parts begins c.in_ok-number_is-in-len6.number_is c.in_ok-assertion-in-len6.assertion c.in_ok-number_is-in-len6.ensures c.in_ok-assertion-in-len6.ensures _ _ c.in_ok-values-in-len6.ensures c.in_ok-premises-in-len6.ensures
    ∙ ap (λ (r : Result (Option (ℕ × List Value)) ℕ). r >>= λ head. Ok (line head)) c.in_ok-head-in-len6.ensures
