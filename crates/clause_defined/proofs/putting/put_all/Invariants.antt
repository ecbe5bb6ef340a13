use Rattle.std.proofs.Common.{◌≡◌, ◌∷◌, ◌++◌, length, map, drop, true}
use Rattle.clause_form.specs.declared.atom.Atom.{Atom}
use Rattle.clause_laws.specs.Defined.{head_use, use_forms, uses_of, variables_after}
use Rattle.clause_defined.specs.machinery.Uses.{CanRestBePut}
use Rattle.clause_defined.proofs.putting.put_all.Given as goal

-- the forms so far stand before those of the atoms to come and of the head
abbrev pub invariant-loop-atom : goal.invariant-loop-atom
invariant-loop-atom l = record {
  made : l.parts ++ use_forms l.defs (map (λ (atom : Atom). (atom, true)) (drop l.atom-index l.fn.clause.atoms) ++ head_use l.fn.clause.head) l.next
      ≡ l.fn.clause.guard ∷ use_forms l.defs (uses_of l.fn.clause) (length l.fn.clause.sorts);
  count : variables_after l.defs (map (λ (atom : Atom). (atom, true)) (drop l.atom-index l.fn.clause.atoms) ++ head_use l.fn.clause.head) l.next
      ≡ variables_after l.defs (uses_of l.fn.clause) (length l.fn.clause.sorts);
  can : CanRestBePut l.defs (map (λ (atom : Atom). (atom, true)) (drop l.atom-index l.fn.clause.atoms) ++ head_use l.fn.clause.head) (length l.fn.clause.sorts) l.next;
}
