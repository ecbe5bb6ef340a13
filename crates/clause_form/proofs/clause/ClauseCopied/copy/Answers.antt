use Rattle.std.proofs.Common.{ℕ, List, ap, ◌∙◌}
use Rattle.std.specs.Prelude.{Option}
use Rattle.term_tree.specs.declared.sort.Sort.{Sort}
use Rattle.lin_atoms.specs.declared.form.Form.{Form}
use Rattle.clause_form.specs.declared.atom.Atom.{Atom}
use Rattle.clause_form.specs.declared.clause.Clause.{Clause}
use Rattle.clause_form.proofs.clause.ClauseCopied.copy.Goals as goal

abbrev clause : ℕ → ℕ → List Sort → List Atom → Form → Option Atom → Clause
clause assertion user sorts atoms guard head = record { assertion = assertion; user = user; sorts = sorts; atoms = atoms; guard = guard; head = head }

pub returns : goal.returns
returns c =
    let old = c.args.self.now in
    let atoms = c.in_ok-atoms.atoms in
    let guard = c.in_ok-guard.guard in
    let head = c.in_ok-head.head in
    ap (λ (sorts : List Sort). clause old.assertion old.user sorts atoms guard head) c.in_ok-sorts.ensures
    ∙ ap (λ (atoms : List Atom). clause old.assertion old.user old.sorts atoms guard head) c.in_ok-atoms.ensures
    ∙ ap (λ (guard : Form). clause old.assertion old.user old.sorts old.atoms guard head) c.in_ok-guard.ensures
    ∙ ap (clause old.assertion old.user old.sorts old.atoms old.guard) c.in_ok-head.ensures
