use Rattle.std.proofs.Common.{◌≡◌, length, map, refl, rules}
use Rattle.std.proofs.lemmas.Option.{slice_get_read}
use Rattle.std.specs.Prelude.{slice_get, Some, None}
use Rattle.linear_terms.specs.Width.{first_wide}
use Rattle.term_forms.proofs.FoundLemmas.{on_ok}
use Rattle.clause_normal.specs.Normal.{normal_atom}
use Rattle.clause_laws.specs.Defined.{definition_wide, naming_at}
use Rattle.clause_defined.specs.machinery.Classes.{class_in}
use Rattle.clause_defined.proofs.JudgeLemmas.{have_classes, narrow_found, wide_found}
use Rattle.clause_defined.proofs.judging.judge_use.Goals as goal

pub returns-clause-narrow : goal.returns-clause-narrow
returns-clause-narrow c = λ naming next stand.
    let nodes = c.args.terms.now.nodes in
    let atom = c.args.atom.now in
    let defs = c.args.defs.now in
    let d = c.in-Some.definition.now in
    let found = c.in-Some.ensures.lookup in
    let there : slice_get defs atom.pred ≡ Some d = slice_get_read defs (length defs) atom.pred d refl found.3.0 found.1 in
    let made = normal_atom naming nodes atom in
    let are : c.as_slice-in-Some.result.now ≡ map (class_in nodes atom.args) atom.args = search rules in
    on_ok c.judge_at.result (first_wide (naming_at d made.args next) d.terms.nodes d.body.0 ≡ None) (definition_wide (slice_get defs atom.pred) made next ≡ None)
    (λ e. narrow_found (slice_get defs atom.pred) d made next there e)
    (c.judge_at.ensures.narrow made.args next (have_classes nodes naming next atom c.as_slice-in-Some.result.now are stand))

pub returns-clause-wide : goal.returns-clause-wide
returns-clause-wide c = λ naming next offset stand is.
    let nodes = c.args.terms.now.nodes in
    let atom = c.args.atom.now in
    let defs = c.args.defs.now in
    let d = c.in-Some.definition.now in
    let found = c.in-Some.ensures.lookup in
    let there : slice_get defs atom.pred ≡ Some d = slice_get_read defs (length defs) atom.pred d refl found.3.0 found.1 in
    let made = normal_atom naming nodes atom in
    let are : c.as_slice-in-Some.result.now ≡ map (class_in nodes atom.args) atom.args = search rules in
    wide_found (slice_get defs atom.pred) d made next offset there
    (c.judge_at.ensures.wide made.args next offset (have_classes nodes naming next atom c.as_slice-in-Some.result.now are stand) is)
