use Rattle.std.proofs.Common.{◌≡◌, ◌<◌, ◌≤◌, ◌^◌, ℕ, true, sym, subst}
use Rattle.lin_atoms.specs.Truth.{is_below}
use Rattle.lin_atoms.specs.declared.form.Form.{Form}
use Rattle.lia_search.specs.Decides.{has_short_multiples}
use Rattle.clause_form.specs.System.{most_variables}
use Rattle.clause_normal.specs.Normal.{normal_clause, top_of}
use Rattle.clause_normal.proofs.ReadingLemmas.{own_number}
use Rattle.clause_laws.specs.Defined.{breaking_form, breaking_variables}
use Rattle.chc_checker.proofs.FormLemmas.{form_below, form_short}
use Rattle.chc_checker.proofs.model.decided.Goals as goal

pub settle-requires-clause-below : goal.settle-requires-clause-below
settle-requires-clause-below c =
    let script = c.args.script.now in
    let defs = c.args.definitions.now in
    let clause = c.args.clause.now in
    let total : ℕ = breaking_variables defs (normal_clause script clause) in
    let few : total ≤ most_variables = subst (λ (n : ℕ). n ≤ 2048) c.requires.vars c.requires.few in
    let own = own_number script c.requires.reached.index clause c.requires.reached.is in
    let below : is_below total (breaking_form defs (normal_clause script clause)) ≡ true =
    form_below script clause c.arena_law.ensures.arena c.requires.legal own c.requires.narrow defs c.requires.defined c.requires.formulas c.requires.wide few in
    subst (λ (n : ℕ). is_below n c.args.form ≡ true) (sym c.requires.vars) (subst (λ (f : Form). is_below total f ≡ true) (sym c.requires.form) below)

pub settle-requires-clause-short : goal.settle-requires-clause-short
settle-requires-clause-short c =
    let script = c.args.script.now in
    let defs = c.args.definitions.now in
    let clause = c.args.clause.now in
    let total : ℕ = breaking_variables defs (normal_clause script clause) in
    let few : total ≤ most_variables = subst (λ (n : ℕ). n ≤ 2048) c.requires.vars c.requires.few in
    let own = own_number script c.requires.reached.index clause c.requires.reached.is in
    let small : top_of script clause < 2 ^ 32 = subst (λ (n : ℕ). n < 2 ^ 32) c.assertion_of.ensures.top c.has_number.ensures in
    subst (λ (f : Form). has_short_multiples f ≡ true) (sym c.requires.form)
    (form_short script clause c.arena_law.ensures.arena c.requires.legal own c.requires.narrow defs c.requires.defined c.requires.formulas c.requires.wide few c.requires.counted small)
