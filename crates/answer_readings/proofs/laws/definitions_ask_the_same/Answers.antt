use Rattle.answer_readings.proofs.TextLemmas.{same_uses}
use Rattle.answer_readings.proofs.UseLemmas.{same_breaking_form, same_breaking_variables, same_breaking_wide}
use Rattle.answer_readings.proofs.laws.definitions_ask_the_same.Goals as goal

pub returns : goal.returns
returns c = record {
  wide = λ preds text definitions others clause x y. same_breaking_wide definitions others (same_uses preds text definitions others x y) clause;
  form = λ preds text definitions others clause x y. same_breaking_form definitions others (same_uses preds text definitions others x y) clause;
  variables = λ preds text definitions others clause x y. same_breaking_variables definitions others (same_uses preds text definitions others x y) clause;
}
