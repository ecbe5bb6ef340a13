use Rattle.term_widths.proofs.ApartLemmas.{alike}
use Rattle.term_widths.proofs.apart.apart_names.Goals as goal

pub returns : goal.returns
returns c = λ top first short below.
    alike c.args.terms.now.nodes c.args.own.now c.args.placed.now c.in_ok-own.own.items c.in_ok-auxiliary.auxiliary c.in_ok-firsts.firsts c.variables_end.result
    (record {
      firsts_are = c.in_ok-firsts.ensures;
      named_are = c.in_ok-own.ensures;
      ends = c.variables_end.ensures.each;
      short = c.variables_end.ensures.short;
      numbers_are = c.in_ok-auxiliary.ensures;
    })
    top first c.arena_law.ensures.arena c.requires short below
