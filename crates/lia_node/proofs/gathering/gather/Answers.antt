use Rattle.std.proofs.Common.{◌≡◌, ◌∙◌, ◌≤◌, ap, sym, arith, length, drop, append-nil, List, ℕ, ◌++◌, []}
use Rattle.std.specs.List.{list_all}
use Rattle.std.proofs.lemmas.List.{drop_all}
use Rattle.lin_atoms.specs.declared.lit.Lit.{Lit}
use Rattle.int_rows.specs.Node.{all_bounds, end_of_quotients}
use Rattle.int_rows.specs.declared.bounds.Bounded.{Bounded}
use Rattle.lia_node.specs.machinery.Columns.{is_said_below}
use Rattle.lia_node.proofs.BelowLemmas.{all-below}
use Rattle.lia_node.proofs.gathering.gather.Goals as goal

pub returns-clause-below : goal.returns-clause-below
returns-clause-below c =
    let lits : List Lit = c.args.lits.now in
    let q = c.loop-lit.variables in
    let i = c.loop-lit.lit-index in
    let bs : List Bounded = c.loop-lit.bounds.items in
    let past : length lits ≤ i = omega arith in
    let none : drop i lits ≡ [] = drop_all i lits past in
    let all : bs ≡ all_bounds c.args.end lits = sym (append-nil bs) ∙ ap (λ (rest : List Lit). bs ++ all_bounds q rest) (sym none) ∙ c.loop-lit.invariant.made in
    let end : q ≡ end_of_quotients c.args.end lits = ap (λ (rest : List Lit). end_of_quotients q rest) (sym none) ∙ c.loop-lit.invariant.ends in
    ap (λ (n : ℕ). list_all (is_said_below n) bs) end ∙ ap (list_all (is_said_below (end_of_quotients c.args.end lits))) all ∙ all-below c.args.end lits c.requires.known
