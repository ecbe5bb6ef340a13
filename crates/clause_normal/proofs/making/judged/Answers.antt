use Rattle.std.proofs.Common.{ap, sym, ◌∙◌}
use Rattle.term_tables.specs.machinery.Table.{constant_in}
use Rattle.term_formulas.specs.Written.{naming_by}
use Rattle.term_widths.specs.Wide.{numbered}
use Rattle.clause_normal.proofs.FoundLemmas.{found_there}
use Rattle.clause_normal.proofs.making.judged.Goals as goal

pub offset-requires : goal.offset-requires
offset-requires c =
    found_there (constant_in c.args.tables.now.constants) (naming_by c.args.names.now) c.args.terms.now.nodes c.arena_law.ensures.arena c.args.top.0 c.in-Some.term.0 c.requires.there
    (sym c.in_ok-first_wide.ensures.told ∙ ap numbered c.in-Some.is)
