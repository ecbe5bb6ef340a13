use Rattle.std.proofs.Common.{◌≡◌, ℕ, ◌++◌, List, get_or, rules}
use Rattle.std.specs.Prelude.{ℤ}
use Rattle.linear_terms.proofs.SumLemmas.{terms_more, terms_end}
use Rattle.linear_terms.proofs.sum.all_terms.Goals as goal

pub loop-form-preserved : goal.loop-form-preserved
loop-form-preserved c =
    let d = c.form-item.result in
    let items : List (ℕ × ℤ) = c.loop-form.terms.items in
    let put : c.extend_from_slice.new.self.items ≡ items ++ (get_or c.args.forms.now c.loop-form.form-index d).terms = search rules in
    terms_more items c.extend_from_slice.new.self.items c.args.forms.now c.args.forms.now c.loop-form.form-index d (search rules) c.loop-form.invariant put

pub returns : goal.returns
returns c = terms_end c.loop-form.terms.items c.args.forms.now c.args.forms.now c.loop-form.form-index (search rules) c.loop-form.invariant
