use Rattle.std.proofs.Common.{List, ◌++◌, ap, sym, ◌∙◌}
use Rattle.std.proofs.lemmas.List.{append-nil}
use Rattle.lin_atoms.specs.declared.lit.Lit.{Lit}
use Rattle.cube_rules.proofs.LiteralLemmas.{placed-short, placed-some, roomy-none}
use Rattle.cube_rules.proofs.literals.push_placed.Goals as goal

pub push_denials-requires-clause-short : goal.push_denials-requires-clause-short
push_denials-requires-clause-short c =
    let made = rw c.in-Some.is at c.in_ok-placed.ensures.made in
    placed-short c.args.args.now c.args.lit.now c.in-Some.placed c.requires made

pub returns-in_ok-push_denials-in-Some : goal.returns-in_ok-push_denials-in-Some
returns-in_ok-push_denials-in-Some c =
    let made = rw c.in-Some.is at c.in_ok-placed.ensures.made in
    let room = rw c.in-Some.is at c.in_ok-placed.ensures.room in
    c.in_ok-push_denials-in-Some.ensures ∙ ap (λ (ls : List Lit). c.args.lits.now.items ++ ls) (placed-some c.args.args.now c.args.lit.now c.in-Some.placed c.requires made room)

pub returns-in-None : goal.returns-in-None
returns-in-None c =
    let made = rw c.in-None.is at c.in_ok-placed.ensures.made in
    sym (ap (λ (ls : List Lit). c.args.lits.now.items ++ ls) (roomy-none c.args.args.now c.args.lit.now c.requires made) ∙ append-nil c.args.lits.now.items)
