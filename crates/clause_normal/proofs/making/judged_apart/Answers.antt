use Rattle.std.proofs.Common.{◌≡◌, length, sym, ◌∙◌}
use Rattle.std.specs.Prelude.{None}
use Rattle.term_tables.specs.machinery.Table.{constant_in}
use Rattle.term_forms.proofs.FoundLemmas.{on_ok}
use Rattle.term_widths.specs.Wide.{first_wide_by}
use Rattle.term_formulas.specs.Written.{naming_by}
use Rattle.clause_normal.specs.Normal.{first_without_room}
use Rattle.clause_normal.proofs.GivenLemmas.{apart_here, own_here, variables_apart, wide_here, within_here}
use Rattle.clause_normal.proofs.making.judged_apart.Goals as goal

pub apart_names-requires : goal.apart_names-requires
apart_names-requires c =
    variables_apart c.args.script.now c.args.tables.now c.args.clause.now c.requires.given c.arena_law.ensures.arena c.args.top.0 c.requires.top c.has_number.ensures c.args.placed.now c.requires.placed

pub judged-requires-clause-there : goal.judged-requires-clause-there
judged-requires-clause-there c = within_here c.args.script.now c.args.tables.now c.args.clause.now c.requires.given c.arena_law.ensures.arena c.args.top.0 c.requires.top

pub returns-clause-narrow : goal.returns-clause-narrow
returns-clause-narrow c =
    let script = c.args.script.now in
    let tables = c.args.tables.now in
    let clause = c.args.clause.now in
    let arena = c.arena_law.ensures.arena in
    let top = c.args.top.0 in
    let naming = naming_by c.in_ok-names.names in
    let alike = c.in_ok-names.ensures top (length clause.vars) c.has_number.ensures (own_here script tables clause c.requires.given arena top c.requires.top c.has_number.ensures) in
    let same = apart_here script tables clause c.requires.given arena top c.requires.top c.has_number.ensures naming c.args.placed.now c.requires.placed alike in
    on_ok c.judged.result (first_wide_by (constant_in tables.constants) naming script.terms.nodes top ≡ None) (first_without_room script clause ≡ None) (λ e. sym same ∙ e) c.judged.ensures.narrow

pub returns-clause-wide : goal.returns-clause-wide
returns-clause-wide c = λ offset is.
    let script = c.args.script.now in
    let tables = c.args.tables.now in
    let clause = c.args.clause.now in
    let arena = c.arena_law.ensures.arena in
    let top = c.args.top.0 in
    let naming = naming_by c.in_ok-names.names in
    let alike = c.in_ok-names.ensures top (length clause.vars) c.has_number.ensures (own_here script tables clause c.requires.given arena top c.requires.top c.has_number.ensures) in
    let same = apart_here script tables clause c.requires.given arena top c.requires.top c.has_number.ensures naming c.args.placed.now c.requires.placed alike in
    wide_here script clause (first_wide_by (constant_in tables.constants) naming script.terms.nodes top) offset same (c.judged.ensures.wide offset is)
