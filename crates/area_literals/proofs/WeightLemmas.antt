-- How many conjunctions and disjunctions stand in a form.
use Rattle.std.proofs.Common.{◌≡◌, ℕ, ◌+◌, ◌<◌, ◌≤◌, zero, suc, List, [], ◌∷◌, map, length, get_or, ap, sym, ◌∙◌, arith}
use Rattle.lin_atoms.specs.declared.form.Form.{Form}
use Rattle.lin_atoms.specs.declared.form.Form.TheOpen.{Form-F}
use Rattle.lin_atoms.specs.declared.form.Form.TheVariants.{rolls-And, rolls-Or}
use Rattle.lin_atoms.specs.declared.form.Form.TheViews.{And, Or}
use Rattle.lin_atoms.specs.declared.form.Form.TheFolds.{fold-Form, fold-roll-Form}

abbrev pub total : List ℕ → ℕ
total [] = 0
total (n ∷ ns) = n + total ns

abbrev pub weight_step : Form-F ℕ → ℕ
weight_step Form-F.True = 0
weight_step Form-F.False = 0
weight_step (Form-F.Lit lit) = 0
weight_step (Form-F.And parts) = suc (total parts)
weight_step (Form-F.Or parts) = suc (total parts)

abbrev pub weight : Form → ℕ
weight = fold-Form ℕ weight_step

abbrev pub weights : List Form → ℕ
weights forms = total (map weight forms)

pub weight-And : (form : Form) (parts others : List Form) → form ≡ And parts → others ≡ parts → weight form ≡ suc (weights others)
weight-And form parts others is same = ap weight is ∙ ap weight (sym (rolls-And parts)) ∙ fold-roll-Form ℕ weight_step _ ∙ ap (λ (fs : List Form). suc (weights fs)) (sym same)

pub weight-Or : (form : Form) (parts others : List Form) → form ≡ Or parts → others ≡ parts → weight form ≡ suc (weights others)
weight-Or form parts others is same = ap weight is ∙ ap weight (sym (rolls-Or parts)) ∙ fold-roll-Form ℕ weight_step _ ∙ ap (λ (fs : List Form). suc (weights fs)) (sym same)

pub weighs-less : (forms : List Form) (i : ℕ) (form : Form) → i < length forms → form ≡ get_or forms i form → weight form ≤ weights forms
weighs-less [] i form within is = absurd (omega arith)
weighs-less (f ∷ forms) zero form within is = let same : weight form ≡ weight f = ap weight is in omega (arith, same)
weighs-less (f ∷ forms) (suc i) form within is = let rest = weighs-less forms i form (omega arith) is in omega (arith, rest)
