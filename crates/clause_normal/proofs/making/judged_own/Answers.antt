use Rattle.std.proofs.Common.{◌≡◌, sym, ◌∙◌}
use Rattle.std.specs.Prelude.{None}
use Rattle.term_tables.specs.machinery.Table.{constant_in}
use Rattle.term_forms.proofs.FoundLemmas.{on_ok}
use Rattle.term_widths.specs.Wide.{first_wide_by}
use Rattle.term_widths.proofs.BoundLemmas.{nothing_wide}
use Rattle.term_formulas.specs.Written.{naming_by}
use Rattle.clause_normal.specs.Normal.{first_without_room}
use Rattle.clause_normal.proofs.GivenLemmas.{judged_here, wide_here, within_here}
use Rattle.clause_normal.proofs.making.judged_own.Goals as goal

pub judged-requires-clause-there : goal.judged-requires-clause-there
judged-requires-clause-there c = within_here c.args.script.now c.args.tables.now c.args.clause.now c.requires.given c.arena_law.ensures.arena c.args.top.0 c.requires.top

pub returns-clause-narrow : goal.returns-clause-narrow
returns-clause-narrow c =
    let script = c.args.script.now in
    let tables = c.args.tables.now in
    let naming = naming_by c.args.names.now in
    let same = judged_here script tables c.args.clause.now c.requires.given c.arena_law.ensures.arena c.args.top.0 c.requires.top c.has_number.ensures naming c.requires.names in
    on_ok c.judged.result (first_wide_by (constant_in tables.constants) naming script.terms.nodes c.args.top.0 ≡ None) (first_without_room script c.args.clause.now ≡ None) (λ e. sym same ∙ e) c.judged.ensures.narrow

pub returns-clause-wide : goal.returns-clause-wide
returns-clause-wide c = λ offset is.
    let script = c.args.script.now in
    let tables = c.args.tables.now in
    let naming = naming_by c.args.names.now in
    let same = judged_here script tables c.args.clause.now c.requires.given c.arena_law.ensures.arena c.args.top.0 c.requires.top c.has_number.ensures naming c.requires.names in
    wide_here script c.args.clause.now (first_wide_by (constant_in tables.constants) naming script.terms.nodes c.args.top.0) offset same (c.judged.ensures.wide offset is)

pub returns-then-has_room-clause-narrow : goal.returns-then-has_room-clause-narrow
returns-then-has_room-clause-narrow c =
    let script = c.args.script.now in
    let tables = c.args.tables.now in
    let naming = naming_by c.args.names.now in
    let same = judged_here script tables c.args.clause.now c.requires.given c.arena_law.ensures.arena c.args.top.0 c.requires.top c.has_number.ensures naming c.requires.names in
    sym same ∙ nothing_wide (constant_in tables.constants) script.terms.nodes tables.rooms c.args.top.0 c.requires.given.kept.rooms (sym c.has_room.ensures ∙ c.if-has_room.true) naming
