use Rattle.std.proofs.Common.{◌≡◌, ◌<◌, ◌≤◌, List, length, get_or, Some, None, ap, sym, subst, ◌∙◌}
use Rattle.clause_form.specs.declared.atom.Atom.{Atom}
use Rattle.book_rules.specs.Instances.{atom_at}
use Rattle.book_rules.specs.OpenRules.{shut_out}
use Rattle.cube_rules.specs.Views.{lemmas_of}
use Rattle.cube_rules.proofs.WalkLemmas.{told-along, told-by, told-over}
use Rattle.cube_rules.proofs.framed.body_shut_out.Goals as goal

pub loop-atom-preserved : goal.loop-atom-preserved
loop-atom-preserved c =
    let tell = shut_out (lemmas_of c.args.frames.now.lemmas) c.args.k in
    let at = atom_at c.args.point.now in
    let i = c.loop-atom.atom-index in
    let atom = c.atom-item.result in
    let same = c.as_slice-atom-items.ensures in
    let less : i < length c.args.clause.now.atoms = subst (λ (xs : List Atom). i < length xs) same c.loop-atom-test.true in
    let is : atom ≡ get_or c.args.clause.now.atoms i atom = c.atom-item.is ∙ ap (λ (xs : List Atom). get_or xs i atom) same in
    sym (told-along tell at c.args.clause.now.atoms i atom less is (ap tell (sym c.in_ok-pair.ensures) ∙ sym c.in-None.ensures)) ∙ c.loop-atom.invariant

pub returns-in-Some : goal.returns-in-Some
returns-in-Some c =
    let tell = shut_out (lemmas_of c.args.frames.now.lemmas) c.args.k in
    let at = atom_at c.args.point.now in
    let i = c.loop-atom.atom-index in
    let atom = c.atom-item.result in
    let same = c.as_slice-atom-items.ensures in
    let less : i < length c.args.clause.now.atoms = subst (λ (xs : List Atom). i < length xs) same c.loop-atom-test.true in
    let is : atom ≡ get_or c.args.clause.now.atoms i atom = c.atom-item.is ∙ ap (λ (xs : List Atom). get_or xs i atom) same in
    sym (told-by tell at c.args.clause.now.atoms i atom c.in-Some.by less is (ap tell (sym c.in_ok-pair.ensures) ∙ sym c.in-Some.ensures)) ∙ c.loop-atom.invariant

pub returns : goal.returns
returns c =
    let tell = shut_out (lemmas_of c.args.frames.now.lemmas) c.args.k in
    let i = c.loop-atom.atom-index in
    let past : length c.args.clause.now.atoms ≤ i = subst (λ (xs : List Atom). length xs ≤ i) c.as_slice-atom-items.ensures c.loop-atom-test.false in
    sym (told-over tell (atom_at c.args.point.now) c.args.clause.now.atoms i past) ∙ c.loop-atom.invariant
