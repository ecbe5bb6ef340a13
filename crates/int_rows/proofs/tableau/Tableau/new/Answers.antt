use Rattle.std.proofs.Common.{arith, ◌≡◌, ◌≤◌, ◌+◌, ap, sym, ◌∙◌, subst, List, ℕ, length, map, replicate}
use Rattle.std.specs.Prelude.{ℤ, Option, None}
use Rattle.std.specs.List.{range_with_len}
use Rattle.lin_atoms.specs.Linear.{Linear}
use Rattle.int_rows.specs.Node.{equations}
use Rattle.int_rows.specs.Table.{IsTable, Table, first_table}
use Rattle.int_rows.proofs.EquationLemmas.{first-solved}
use Rattle.int_rows.proofs.WritingLemmas.{all-below}
use Rattle.int_rows.proofs.tableau.Tableau.new.Goals as goal

pub invariant_of-result : goal.invariant_of-result
invariant_of-result c =
    let lins : List Linear = c.args.lins.now in
    let v = c.args.variables in
    let n = v + length lins in
    let rows = map (λ r. r.items) c.in_ok-rows.rows.items in
    let basic = c.in_ok-basic.basic.items in
    let lower = c.in_ok-lower.lower.items in
    let upper = c.in_ok-upper.upper.items in
    let all = equations n v lins in
    let numbers = range_with_len v (length lins) in
    let none : List (Option ℤ) = replicate n None in
    let few : length lins ≤ 1024 = c.if-lins-gt-MOST_ROWS.false in
    let table : List (List ℤ) → List ℕ → List (Option ℤ) → List (Option ℤ) → Table = λ rs bs ls us. record { variables = v; rows = rs; basic = bs; lower = ls; upper = us } in
    let is : table rows basic lower upper ≡ first_table v lins =
    ap (λ rs. table rs basic lower upper) c.in_ok-rows.ensures.is
    ∙ ap (λ bs. table all bs lower upper) c.in_ok-basic.ensures
    ∙ ap (λ ls. table all numbers ls upper) c.in_ok-lower.ensures
    ∙ ap (λ us. table all numbers none us) c.in_ok-upper.ensures in
    subst IsTable (sym is) (first-solved v lins c.requires.below c.in_ok-rows.ensures.legal few)

pub equations-requires-clause-below : goal.equations-requires-clause-below
equations-requires-clause-below c = all-below c.args.variables (c.args.variables + length c.args.lins.now) c.args.lins.now (omega arith) c.requires.below
