use Rattle.std.proofs.Common.{OnOk, Some, subst}
use Rattle.indexmap.specs.IndexMap.{Updates}
use Rattle.term_check.proofs.MeaningLemmas.{binding_left, binding_is_there, key_of, same_name}
use Rattle.term_check.proofs.mapped.Mapped.leave_one.Goals as goal

pub unwrap-requires : goal.unwrap-requires
unwrap-requires c = binding_is_there c.pop.new.self.items c.self.inside.bindings.items c.in-Some.field-0 c.self.inside.meanings.entries c.insert-put.result c.in-Some.ensures.items c.self.invariant.1 c.insert-put.ensures.absent

pub invariant_of-self : goal.invariant_of-self
invariant_of-self c =
    let last = c.in-Some.field-0 in
    let updates = subst (λ r. OnOk r (Updates same_name c.self.inside.meanings c.insert-put.new.self (key_of last) (Some last.outside))) c.unwrap.ensures c.insert-put.ensures.updates in
    binding_left c.pop.new.self.items c.self.inside.bindings.items last c.self.inside.meanings.entries c.insert-put.new.self.entries c.in-Some.ensures.items c.self.invariant.0 c.self.invariant.1 updates.0
