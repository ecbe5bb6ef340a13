use Rattle.std.proofs.Common.{◌≡◌, ◌<◌, true, ap, sym, ◌∙◌, arith}
use Rattle.std.specs.Prelude.{Some, None}
use Rattle.term_tree.specs.declared.node.Node.TheVariants.{LetVar}
use Rattle.term_tree.specs.Arena.{has_parts_below}
use Rattle.term_tree.proofs.Public.{below_from}
use Rattle.linear_terms.specs.Linear.{bare_bit, told_bit, variable_form}
use Rattle.term_formulas.specs.Written.{naming_by}
use Rattle.term_formulas.proofs.BitLemmas.{bare_zero, bit_bare, bit_named}
use Rattle.term_formulas.proofs.bits.found_bit.Goals as goal

pub returns-in-Some : goal.returns-in-Some
returns-in-Some c =
    let naming = naming_by c.args.names.now in
    let nodes = c.args.terms.now.nodes in
    let named : naming.auxiliary c.loop-variable.at.0 ≡ Some c.in-Some.variable = sym c.auxiliary_of.ensures ∙ c.in-Some.is in
    sym (bit_named naming nodes c.loop-variable.at.0 c.in-Some.variable c.node-node.result.now c.node-node.ensures.is c.node-node.ensures.below named) ∙ c.loop-variable.invariant.same

pub returns-in-True : goal.returns-in-True
returns-in-True c =
    let naming = naming_by c.args.names.now in
    let nodes = c.args.terms.now.nodes in
    let none : naming.auxiliary c.loop-variable.at.0 ≡ None = sym c.auxiliary_of.ensures ∙ c.in_default.is in
    sym (bit_bare naming nodes c.loop-variable.at.0 c.node-node.result.now c.node-node.ensures.is c.node-node.ensures.below none ∙ ap (bare_bit naming (told_bit naming nodes)) c.in-True.is)
    ∙ c.loop-variable.invariant.same

pub returns-in-Var : goal.returns-in-Var
returns-in-Var c =
    let naming = naming_by c.args.names.now in
    let nodes = c.args.terms.now.nodes in
    let none : naming.auxiliary c.loop-variable.at.0 ≡ None = sym c.auxiliary_of.ensures ∙ c.in_default.is in
    ap variable_form c.name_of.ensures
    ∙ sym (bit_bare naming nodes c.loop-variable.at.0 c.node-node.result.now c.node-node.ensures.is c.node-node.ensures.below none ∙ ap (bare_bit naming (told_bit naming nodes)) c.in-Var.is)
    ∙ c.loop-variable.invariant.same

pub loop-variable-preserved : goal.loop-variable-preserved
loop-variable-preserved c =
    let naming = naming_by c.args.names.now in
    let nodes = c.args.terms.now.nodes in
    let none : naming.auxiliary c.loop-variable.at.0 ≡ None = sym c.auxiliary_of.ensures ∙ c.in_default.is in
    let below : has_parts_below c.loop-variable.at.0 (LetVar c.in-LetVar.bound) ≡ true = sym (ap (has_parts_below c.loop-variable.at.0) c.in-LetVar.is) ∙ c.node-node.ensures.below in
    let less : c.in-LetVar.bound.0 < c.loop-variable.at.0 = below_from c.in-LetVar.bound.0 c.loop-variable.at.0 below in
    let there = c.loop-variable.invariant.there in
    record {
      there = omega (arith, less, there);
      same =
          sym (bit_bare naming nodes c.loop-variable.at.0 c.node-node.result.now c.node-node.ensures.is c.node-node.ensures.below none ∙ ap (bare_bit naming (told_bit naming nodes)) c.in-LetVar.is)
          ∙ c.loop-variable.invariant.same;
    }

pub returns-in_default-node : goal.returns-in_default-node
returns-in_default-node c =
    let naming = naming_by c.args.names.now in
    let nodes = c.args.terms.now.nodes in
    let none : naming.auxiliary c.loop-variable.at.0 ≡ None = sym c.auxiliary_of.ensures ∙ c.in_default.is in
    sym (bit_bare naming nodes c.loop-variable.at.0 c.node-node.result.now c.node-node.ensures.is c.node-node.ensures.below none
    ∙ bare_zero naming (told_bit naming nodes) c.node-node.result.now c.in_default-node.not-True c.in_default-node.not-Var c.in_default-node.not-LetVar)
    ∙ c.loop-variable.invariant.same
