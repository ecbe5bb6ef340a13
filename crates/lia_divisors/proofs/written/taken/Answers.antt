use Rattle.std.proofs.Common.{[]}
use Rattle.lia_divisors.proofs.PlainLemmas.{plain-last, plain-rest}
use Rattle.lia_divisors.proofs.written.taken.Goals as goal

pub returns-in-Some-clause-rest : goal.returns-in-Some-clause-rest
returns-in-Some-clause-rest c = (plain-rest c.args.trees.now.items c.pop.new.self.items _ c.requires c.in-Some.ensures.items).0

pub returns-in-Some-clause-plain : goal.returns-in-Some-clause-plain
returns-in-Some-clause-plain c = plain-last c.args.trees.now.items c.pop.new.self.items c.in-Some.tree c.requires c.in-Some.ensures.items

pub returns-in-None-clause-rest : goal.returns-in-None-clause-rest
returns-in-None-clause-rest c = (plain-rest c.args.trees.now.items c.pop.new.self.items [] c.requires c.in-None.ensures.items).0
