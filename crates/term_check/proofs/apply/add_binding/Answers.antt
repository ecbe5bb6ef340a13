use Rattle.std.proofs.Common.{refl}
use Rattle.term_check.proofs.ApplyLemmas.{binding_told}
use Rattle.term_check.proofs.apply.add_binding.Goals as goal

pub returns-clause-told : goal.returns-clause-told
returns-clause-told c =
    binding_told c.args.start c.args.all.ids.items c.from_vec.result c.args.found (record { start = c.args.start; sort = c.args.found.part.sort; constant = c.args.found.part.constant }) c.args.terms.now c.add_found.new.terms c.add_found.result
    refl c.from_vec.ensures c.add_found.ensures.keeps c.add_found.ensures.added
