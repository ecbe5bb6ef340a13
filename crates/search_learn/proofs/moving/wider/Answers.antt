use Rattle.std.proofs.Common.{List, subst}
use Rattle.std.specs.Prelude.{Option, IfSome}
use Rattle.lin_atoms.specs.declared.lit.Lit.{Lit}
use Rattle.search_learn.specs.Candidates.{IsLooser}
use Rattle.search_learn.proofs.MovedLemmas.{made-wider, wider-at}
use Rattle.search_learn.proofs.moving.wider.Goals as goal
use Rattle.lemma_general.specs.Tries.{IsWiderCube}

pub returns-in_ok-made-in-Some : goal.returns-in_ok-made-in-Some
returns-in_ok-made-in-Some c =
    let made = c.in_ok-made-in-Some.made.items in
    let looser : IsLooser c.index-lits-at.result c.in-Some.lit = subst (λ (o : Option Lit). IfSome o (IsLooser c.index-lits-at.result)) c.in-Some.is c.in_ok-lit.ensures in
    let wide = wider-at c.lits-lits.result.now made c.args.at c.index-lits-at.result c.in-Some.lit c.if-at-lits.false c.index-lits-at.is looser c.in_ok-made-in-Some.ensures in
    made-wider c.args.cube.now made c.cube_of.result (subst (λ (lits : List Lit). IsWiderCube lits made) c.lits-lits.ensures.is wide) c.cube_of.ensures
