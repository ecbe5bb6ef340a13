use Rattle.std.proofs.Common.{◌≡◌, ◌++◌, ◌+◌, ◌∙◌, ap, ap₂, sym, subst, take, List}
use Rattle.std.specs.Prelude.{true}
use Rattle.std.proofs.lemmas.List.{take_rest}
use Rattle.lin_atoms.specs.declared.lit.Lit.{Lit}
use Rattle.cube_forms.specs.Cubes.{cube_is_short}
use Rattle.lemma_general.specs.Generals.{without}
use Rattle.lemma_general.proofs.PartLemmas.{short-without}
use Rattle.lemma_general.proofs.cubes.without.Goals as goal

pub kept-requires : goal.kept-requires
kept-requires c =
    let lits = c.lits-lits.result.now in
    let front = c.in_ok-push_all.ensures ∙ ap (λ (xs : List Lit). xs ++ take c.args.at lits) c.new-made.ensures.items in
    let made : c.push_all-2.new.made.items ≡ without c.args.at lits = c.in_ok-push_all-2.ensures ∙ ap₂ (λ (xs ys : List Lit). xs ++ ys) front (take_rest lits (c.args.at + 1)) in
    let is = made ∙ ap (without c.args.at) c.lits-lits.ensures.is in
    subst (λ (cube : List Lit). cube_is_short cube ≡ true) (sym is) (short-without c.args.at c.args.cube.now c.requires c.lits-lits.ensures.short)

pub returns : goal.returns
returns c =
    let lits = c.lits-lits.result.now in
    let front = c.in_ok-push_all.ensures ∙ ap (λ (xs : List Lit). xs ++ take c.args.at lits) c.new-made.ensures.items in
    let made : c.push_all-2.new.made.items ≡ without c.args.at lits = c.in_ok-push_all-2.ensures ∙ ap₂ (λ (xs ys : List Lit). xs ++ ys) front (take_rest lits (c.args.at + 1)) in
    c.in_ok-cube.ensures ∙ made ∙ ap (without c.args.at) c.lits-lits.ensures.is
