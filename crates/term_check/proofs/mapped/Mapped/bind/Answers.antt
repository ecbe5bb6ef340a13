use Rattle.std.proofs.Common.{rules, ◌≡◌, ◌++◌, [], ◌∷◌, ap, refl, ◌∙◌}
use Rattle.term_check.specs.declared.scope.Binding.{Binding}
use Rattle.term_check.specs.machinery.Meanings.{joined}
use Rattle.term_check.proofs.MeaningLemmas.{binding_added, key_of}
use Rattle.term_check.proofs.mapped.Mapped.bind.Goals as goal

pub invariant_of-self-2 : goal.invariant_of-self-2
invariant_of-self-2 c =
    let last : Binding = record { name = c.args.name; bound = c.args.bound; outside = c.joined-outside.result } in
    let items : c.push.new.self.items ≡ c.self.inside.bindings.items ++ last ∷ [] = search rules in
    let outside = c.joined-outside.ensures ∙ ap joined c.in_ok-before.ensures.old in
    binding_added c.self.inside.bindings.items c.push.new.self.items last c.self.inside.meanings.entries c.insert.new.self.entries (key_of last) items refl outside c.self.invariant.0 c.self.invariant.1 c.in_ok-before.ensures.updates.0
