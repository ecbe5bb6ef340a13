use Rattle.std.specs.List.{list_all}
use Rattle.std.proofs.Common.{◌++◌, ◌∷◌, [], ◌+◌, ap, sym, ◌∙◌, map, take, List}
use Rattle.std.specs.Prelude.{ℤ}
use Rattle.std.proofs.lemmas.List.{map-append, take_all}
use Rattle.lin_atoms.specs.Linear.{Linear, is_linear, lin_is_below}
use Rattle.int_rows.specs.Node.{equation, equations}
use Rattle.int_rows.proofs.EquationLemmas.{all-at, all-more, equations-more}
use Rattle.int_rows.proofs.equation.equations.Goals as goal

pub loop-i-preserved : goal.loop-i-preserved
loop-i-preserved c =
    let lins : List Linear = c.args.lins.now in
    let i = c.loop-i.i in
    let d = c.index-lins-i.result in
    let front = equations c.args.columns c.args.slack (take i lins) in
    record {
      made = ap (map (λ r. r.items)) c.in_ok-push.ensures.items
          ∙ map-append (λ r. r.items) c.loop-i.rows.items (c.in_ok-row.row ∷ [])
          ∙ ap (λ (rows : List (List ℤ)). rows ++ c.in_ok-row.row.items ∷ []) c.loop-i.invariant.made
          ∙ ap (λ (row : List ℤ). front ++ row ∷ []) (c.in_ok-row.ensures ∙ ap (λ (lin : Linear). equation c.args.columns (c.args.slack + i) lin) c.index-lins-i.is)
          ∙ sym (equations-more c.args.columns c.args.slack lins i d c.loop-i-test.true);
      legal = all-more is_linear lins i d c.loop-i-test.true c.loop-i.invariant.legal (ap is_linear (sym c.index-lins-i.is) ∙ c.constant-constant.ensures.legal);
    }

pub returns-clause-is : goal.returns-clause-is
returns-clause-is c = c.loop-i.invariant.made ∙ ap (equations c.args.columns c.args.slack) (take_all c.loop-i.i c.args.lins.now c.loop-i-test.false)

pub returns-clause-legal : goal.returns-clause-legal
returns-clause-legal c = ap (list_all is_linear) (sym (take_all c.loop-i.i c.args.lins.now c.loop-i-test.false)) ∙ c.loop-i.invariant.legal

pub equation-requires-clause-below : goal.equation-requires-clause-below
equation-requires-clause-below c = ap (lin_is_below c.args.columns) c.index-lins-i.is ∙ all-at (lin_is_below c.args.columns) c.args.lins.now c.loop-i.i c.index-lins-i.result c.loop-i-test.true c.requires.below
