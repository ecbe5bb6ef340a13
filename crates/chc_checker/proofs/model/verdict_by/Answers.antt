use Rattle.std.proofs.Common.{◌≡◌, [], ◌∷◌, length, take, rules, subst, ◌∙◌}
use Rattle.lin_atoms.specs.declared.form.Form.{Form}
use Rattle.lin_atoms.specs.declared.form.Form.TheViews.{And}
use Rattle.refutation_trees.specs.Refutation.{HasNoPoint}
use Rattle.lia_search.specs.declared.decision.Decision.{Decision}
use Rattle.lia_search.specs.declared.decision.Decision.TheVariants.{Model}
use Rattle.clause_normal.specs.Normal.{normal_clause}
use Rattle.clause_laws.specs.Defined.{breaking_form}
use Rattle.chc_checker.specs.machinery.Judging.{Settles}
use Rattle.chc_checker.proofs.JudgeLemmas.{false_here, true_here}
use Rattle.chc_checker.proofs.model.verdict_by.Goals as goal

pub returns-in-Model : goal.returns-in-Model
returns-in-Model c =
    let script = c.args.script.now in
    let defs = c.args.definitions.now in
    let clause = c.args.clause.now in
    let whole : Form = And (breaking_form defs (normal_clause script clause) ∷ []) in
    let told : Settles whole c.args.vars c.args.nodes (Model c.in-Model.point) = subst (λ (d : Decision). Settles whole c.args.vars c.args.nodes d) c.in-Model.is c.requires.decides in
    let are : c.from_vec.result ≡ take (length clause.vars) c.in-Model.point.items = search rules in
    false_here script defs c.args.number clause c.arena_law.ensures.arena c.requires.legal c.requires.defined c.requires.formulas c.requires.reached
    c.in-Model.point.items c.from_vec.result (told.0 ∙ c.requires.vars) told.1 are

pub returns-in-Refuted : goal.returns-in-Refuted
returns-in-Refuted c =
    let script = c.args.script.now in
    let defs = c.args.definitions.now in
    let clause = c.args.clause.now in
    let whole : Form = And (breaking_form defs (normal_clause script clause) ∷ []) in
    let told : HasNoPoint whole = subst (λ (d : Decision). Settles whole c.args.vars c.args.nodes d) c.in-Refuted.is c.requires.decides in
    true_here script defs c.args.number clause c.arena_law.ensures.arena c.requires.legal c.requires.defined c.requires.formulas c.requires.reached told
