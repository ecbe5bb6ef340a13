-- The end of a conjunction and a disjunction, from those of the parts.
use Rattle.std.proofs.Common.{◌≡◌, ℕ, List, map, ap, sym, ◌∙◌}
use Rattle.lin_atoms.specs.declared.form.Form.{Form}
use Rattle.lin_atoms.specs.declared.form.Form.TheViews.{And, Or}
use Rattle.lin_atoms.specs.declared.form.Form.TheVariants.{rolls-And, rolls-Or}
use Rattle.lin_atoms.specs.declared.form.Form.TheFolds.{fold-roll-Form}
use Rattle.refutation_trees.specs.Refutation.{end_step, form_end, greatest_of}

pub form_end-And : (parts : List Form) → form_end (And parts) ≡ greatest_of (map form_end parts)
form_end-And parts = ap form_end (sym (rolls-And parts)) ∙ fold-roll-Form ℕ end_step _

pub form_end-Or : (parts : List Form) → form_end (Or parts) ≡ greatest_of (map form_end parts)
form_end-Or parts = ap form_end (sym (rolls-Or parts)) ∙ fold-roll-Form ℕ end_step _
