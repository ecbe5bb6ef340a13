use Rattle.std.proofs.Common.{◌≡◌, true, inr, rules}
use Rattle.lemma_general.specs.Generals.{may_enter}
use Rattle.lemma_general.proofs.StrengthenLemmas.{entered, stands-against}
use Rattle.lemma_general.proofs.strengthening.strengthen.Goals as goal

pub returns-in_ok-lemma-in-Some : goal.returns-in_ok-lemma-in-Some
returns-in_ok-lemma-in-Some c =
    let may : may_enter c.args.lent.now c.args.pred c.args.level c.args.lemma.now ≡ true = search rules in
    entered c.args.lent.now c.args.pred c.args.level c.args.nodes c.args.lemma.now c.cube.result.now c.in_ok-lemma-in-Some.lemma c.in_ok-shown.shown c.in-Some.proofs c.requires.goes_on may c.cube.ensures c.in_ok-lemma-in-Some.ensures c.in-Some.is
    c.in_ok-shown.ensures

pub returns-in-None : goal.returns-in-None
returns-in-None c = inr (stands-against c.args.lent.now c.args.pred c.args.level c.args.nodes c.args.lemma.now c.cube.result.now c.in_ok-shown.shown c.cube.ensures c.in-None.is c.in_ok-shown.ensures)
