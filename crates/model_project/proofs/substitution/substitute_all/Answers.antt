use Rattle.std.proofs.Common.{◌≡◌, ◌<◌, ◌+◌, sym, ◌∙◌, drop, get_or, length, rules, false}
use Rattle.std.proofs.lemmas.List.{length-set}
use Rattle.model_project.specs.Substitution.{occurs}
use Rattle.model_project.proofs.JudgeLemmas.{drop_same, drop_set_more, put_step, stay_step}
use Rattle.model_project.proofs.substitution.substitute_all.Goals as goal

pub loop-i-preserved-then-not-occurs : goal.loop-i-preserved-then-not-occurs
loop-i-preserved-then-not-occurs c =
    let v = c.args.variable in
    let i = c.loop-i.i in
    let lits = c.loop-i.lits in
    let old = c.args.lits.now in
    let lit = c.index-lits-i.result in
    let inside : i < length lits = search rules in
    let free : occurs v (get_or lits i lit) ≡ false = sym c.occurs.ensures.is ∙ c.if-not-occurs.true in
    let inv = c.loop-i.invariant in
    record {
      told = stay_step v c.args.equation.now c.loop-i.came _ lits old i lit inside inv.size inv.rest c.requires.narrow free inv.told;
      rest = drop_same lits old i inv.rest;
      size = inv.size;
    }

pub loop-i-preserved : goal.loop-i-preserved
loop-i-preserved c =
    let v = c.args.variable in
    let l = c.args.equation.now in
    let i = c.loop-i.i in
    let lits = c.loop-i.lits in
    let old = c.args.lits.now in
    let lit = c.index-lits-i-in-loop-i.result in
    let made = c.in_ok-made.made in
    let inside : i < length lits = search rules in
    let inv = c.loop-i.invariant in
    let told = put_step v l c.loop-i.came c.in_ok-made.now _ lits i made lit inside (c.in_ok-made.ensures.made (drop (i + 1) lits)) inv.told in
    rw c.put.ensures (record {
      told = told;
      rest = drop_set_more lits i made ∙ drop_same lits old i inv.rest;
      size = length-set lits i made ∙ inv.size;
    })
