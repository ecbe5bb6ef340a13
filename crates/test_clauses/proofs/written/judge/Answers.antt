use Rattle.std.proofs.Common.{◌≡◌, ◌<◌, length, ap, sym, ◌∙◌, rules}
use Rattle.std.specs.Prelude.{None}
use Rattle.term_tables.specs.machinery.Table.{constant_in}
use Rattle.term_widths.specs.Wide.{first_wide_by, numbered}
use Rattle.term_formulas.specs.Written.{naming_by}
use Rattle.test_clauses.proofs.SampleLemmas.{rows_have_room}
use Rattle.test_clauses.proofs.written.judge.Goals as goal

pub returns-clause-room : goal.returns-clause-room
returns-clause-room g c =
    let nodes = c.args.given.now.terms.nodes in
    let naming = naming_by c.args.given.now.names in
    let within : c.args.id.0 < length nodes = search rules in
    let none : c.in-Ok.wide ≡ None = search rules in
    let narrow : first_wide_by (constant_in c.args.given.now.constants) naming nodes c.args.id.0 ≡ None = sym c.in-Ok.ensures.told ∙ ap numbered none in
    rows_have_room c.args.given.now.constants naming nodes c.args.id.0 c.requires.given.terms c.arena_law.ensures.arena c.requires.given.constants within narrow

pub returns-clause-known : goal.returns-clause-known
returns-clause-known g c =
    let none : c.in-Ok.wide ≡ None = search rules in
    c.in-Ok.ensures.known (ap numbered none)
