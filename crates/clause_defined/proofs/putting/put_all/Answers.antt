use Rattle.std.proofs.Common.{◌≡◌, ◌<◌, ◌≤◌, ◌+◌, ◌∷◌, ◌++◌, ℕ, List, length, map, drop, get_or, true, ap, ◌∙◌, subst, rules, arith}
use Rattle.std.proofs.lemmas.List.{drop_all, drop_more}
use Rattle.clause_form.specs.declared.atom.Atom.{Atom}
use Rattle.clause_normal.specs.Normal.{conjunction}
use Rattle.clause_laws.specs.Defined.{head_use, use_forms, uses_of, variables_after}
use Rattle.clause_defined.specs.machinery.Uses.{CanRestBePut}
use Rattle.clause_defined.proofs.UseLemmas.{at_least, can_next, can_rest, put_more}
use Rattle.clause_defined.proofs.putting.put_all.Goals as goal

pub overflow_cast-next : goal.overflow_cast-next
overflow_cast-next c =
    let clause = c.args.clause in
    let least = at_least c.args.defs.now (uses_of clause) (length clause.sorts) in
    let few = c.requires.few in
    let short : length clause.sorts ≤ 2048 = omega (arith, least, few) in
    search (rules, short)

pub put_use-requires : goal.put_use-requires
put_use-requires c =
    let defs = c.args.defs.now in
    let clause = c.args.clause in
    let i : ℕ = c.loop-atom.atom-index in
    let atom : Atom = c.atom-item.result in
    let less : i < length clause.atoms = search rules in
    let same : get_or clause.atoms i atom ≡ atom = search rules in
    let front : drop i clause.atoms ≡ atom ∷ drop (i + 1) clause.atoms = drop_more clause.atoms i atom less ∙ ap (λ (u : Atom). u ∷ drop (i + 1) clause.atoms) same in
    can_next defs atom true (map (λ (u : Atom). (u, true)) (drop (i + 1) clause.atoms) ++ head_use clause.head) (length clause.sorts) c.loop-atom.next
    (subst (λ (atoms : List Atom). CanRestBePut defs (map (λ (u : Atom). (u, true)) atoms ++ head_use clause.head) (length clause.sorts) c.loop-atom.next) front c.loop-atom.invariant.can)

pub loop-atom-preserved : goal.loop-atom-preserved
loop-atom-preserved c =
    let defs = c.args.defs.now in
    let clause = c.args.clause in
    let i : ℕ = c.loop-atom.atom-index in
    let atom : Atom = c.atom-item.result in
    let next = c.loop-atom.next in
    let less : i < length clause.atoms = search rules in
    let same : get_or clause.atoms i atom ≡ atom = search rules in
    let front : drop i clause.atoms ≡ atom ∷ drop (i + 1) clause.atoms = drop_more clause.atoms i atom less ∙ ap (λ (u : Atom). u ∷ drop (i + 1) clause.atoms) same in
    let rest = map (λ (u : Atom). (u, true)) (drop (i + 1) clause.atoms) ++ head_use clause.head in
    let made = subst (λ (atoms : List Atom). c.loop-atom.parts ++ use_forms defs (map (λ (u : Atom). (u, true)) atoms ++ head_use clause.head) next ≡ clause.guard ∷ use_forms defs (uses_of clause) (length clause.sorts)) front c.loop-atom.invariant.made in
    let count = subst (λ (atoms : List Atom). variables_after defs (map (λ (u : Atom). (u, true)) atoms ++ head_use clause.head) next ≡ variables_after defs (uses_of clause) (length clause.sorts)) front c.loop-atom.invariant.count in
    let can = subst (λ (atoms : List Atom). CanRestBePut defs (map (λ (u : Atom). (u, true)) atoms ++ head_use clause.head) (length clause.sorts) next) front c.loop-atom.invariant.can in
    record {
      made = put_more defs atom true rest next c.in_ok-next.next c.loop-atom.parts c.put_use.new.out (clause.guard ∷ use_forms defs (uses_of clause) (length clause.sorts)) made c.in_ok-next.ensures.next c.in_ok-next.ensures.forms;
      count = ap (λ (n : ℕ). variables_after defs rest n) c.in_ok-next.ensures.next ∙ count;
      can = can_rest defs atom true rest (length clause.sorts) next c.in_ok-next.next can c.in_ok-next.ensures.next;
    }

pub put_head-requires : goal.put_head-requires
put_head-requires c =
    let defs = c.args.defs.now in
    let clause = c.args.clause in
    let i : ℕ = c.loop-atom.atom-index in
    let past : length clause.atoms ≤ i = search rules in
    (length clause.sorts, subst (λ (atoms : List Atom). CanRestBePut defs (map (λ (u : Atom). (u, true)) atoms ++ head_use clause.head) (length clause.sorts) c.loop-atom.next) (drop_all i clause.atoms past) c.loop-atom.invariant.can)

pub returns-clause-form : goal.returns-clause-form
returns-clause-form c =
    let defs = c.args.defs.now in
    let clause = c.args.clause in
    let i : ℕ = c.loop-atom.atom-index in
    let past : length clause.atoms ≤ i = search rules in
    let made = subst (λ (atoms : List Atom). c.loop-atom.parts ++ use_forms defs (map (λ (u : Atom). (u, true)) atoms ++ head_use clause.head) c.loop-atom.next ≡ clause.guard ∷ use_forms defs (uses_of clause) (length clause.sorts)) (drop_all i clause.atoms past) c.loop-atom.invariant.made in
    c.conjunction.ensures ∙ ap conjunction (c.in_ok-after.ensures.forms ∙ made)

pub returns-clause-count : goal.returns-clause-count
returns-clause-count c =
    let defs = c.args.defs.now in
    let clause = c.args.clause in
    let i : ℕ = c.loop-atom.atom-index in
    let past : length clause.atoms ≤ i = search rules in
    let count = subst (λ (atoms : List Atom). variables_after defs (map (λ (u : Atom). (u, true)) atoms ++ head_use clause.head) c.loop-atom.next ≡ variables_after defs (uses_of clause) (length clause.sorts)) (drop_all i clause.atoms past) c.loop-atom.invariant.count in
    c.in_ok-after.ensures.next ∙ count
