use Rattle.std.proofs.Common.{◌≡◌, ℕ, List, length, sym, ◌∙◌, subst}
use Rattle.std.specs.Prelude.{Option, None}
use Rattle.term_tables.specs.machinery.Table.{constant_in}
use Rattle.linear_terms.specs.Width.{first_wide}
use Rattle.term_forms.proofs.FoundLemmas.{on_ok}
use Rattle.term_widths.specs.Wide.{first_wide_by}
use Rattle.term_widths.specs.machinery.Apart.{AreNoVariables}
use Rattle.term_formulas.specs.Written.{naming_by}
use Rattle.clause_normal.specs.machinery.Making.{HasFirst}
use Rattle.clause_laws.specs.Defined.{naming_at}
use Rattle.clause_laws.proofs.DefinitionLemmas.{body_there}
use Rattle.clause_defined.proofs.AlikeLemmas.{classes_below}
use Rattle.clause_defined.proofs.RoomLemmas.{judged_at, places_no_variables}
use Rattle.clause_defined.proofs.judging.judge_with.Goals as goal

pub apart_names-requires : goal.apart_names-requires
apart_names-requires c =
    let d = c.args.definition.now in
    subst (λ (ids : List ℕ). AreNoVariables d.terms.nodes ids) (sym c.requires.placed) (places_no_variables d c.requires.formula.0 c.requires.formula.2)

pub judged-requires-clause-there : goal.judged-requires-clause-there
judged-requires-clause-there c = body_there c.args.definition.now c.requires.formula.0 c.requires.formula.2

pub returns-clause-narrow : goal.returns-clause-narrow
returns-clause-narrow c = λ args first have.
    let d = c.args.definition.now in
    let tables = c.args.tables.now in
    let classes = c.args.classes.now in
    let sorts = c.requires.formula.0 in
    let count = c.requires.formula.1 in
    let is = c.requires.formula.2 in
    let naming = naming_by c.in_ok-names.names in
    let alike = c.in_ok-names.ensures d.body.0 (length args) c.has_number.ensures (classes_below d sorts is args first classes have count) in
    let same = judged_at d sorts is c.has_number.ensures tables.sorts tables.constants c.requires.sorts c.requires.constants args first classes have count c.args.placed.now c.requires.placed naming alike in
    on_ok c.judged.result (first_wide_by (constant_in tables.constants) naming d.terms.nodes d.body.0 ≡ None) (first_wide (naming_at d args first) d.terms.nodes d.body.0 ≡ None) (λ e. sym same ∙ e)
    c.judged.ensures.narrow

pub returns-clause-wide : goal.returns-clause-wide
returns-clause-wide c = λ args first offset have is_err.
    let d = c.args.definition.now in
    let tables = c.args.tables.now in
    let classes = c.args.classes.now in
    let sorts = c.requires.formula.0 in
    let count = c.requires.formula.1 in
    let is = c.requires.formula.2 in
    let naming = naming_by c.in_ok-names.names in
    let alike = c.in_ok-names.ensures d.body.0 (length args) c.has_number.ensures (classes_below d sorts is args first classes have count) in
    let same = judged_at d sorts is c.has_number.ensures tables.sorts tables.constants c.requires.sorts c.requires.constants args first classes have count c.args.placed.now c.requires.placed naming alike in
    subst (λ (o : Option ℕ). HasFirst o d.terms.offsets offset) same (c.judged.ensures.wide offset is_err)
