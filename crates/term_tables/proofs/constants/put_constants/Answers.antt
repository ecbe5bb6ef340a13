use Rattle.std.proofs.Common.{◌+◌, ◌++◌, List, [], ◌∷◌, map, drop, rules, ap, sym, ◌∙◌, FitsSigned}
use Rattle.std.proofs.lemmas.Int.{to_z-of_z}
use Rattle.std.specs.Prelude.{ℤ}
use Rattle.std.specs.Int.{w64}
use Rattle.term_tree.specs.declared.node.TermId.{TermId}
use Rattle.term_tree.specs.Constants.{all_constant}
use Rattle.term_tables.specs.machinery.Table.{constant_in}
use Rattle.term_tables.proofs.TableLemmas.{behind, constant_end, constant_off, constant_on}
use Rattle.term_tables.proofs.constants.put_constants.Goals as goal

pub loop-id-preserved : goal.loop-id-preserved
loop-id-preserved c =
    let f = λ (id : TermId). constant_in c.args.known.now id.0 in
    let ids = c.args.ids.now in
    let i = c.loop-id.id-index in
    let fits : FitsSigned w64 c.in-Some.n = search rules in
    ap (λ (made : List ℤ). behind made (all_constant (map f (drop (i + 1) ids)))) (c.in_ok-push-in-Some.ensures.items ∙ ap (λ (n : ℤ). c.loop-id.constants.items ++ n ∷ []) (to_z-of_z _ _ fits))
    ∙ sym (constant_on f c.loop-id.constants.items ids i (record { 0 = 0 }) c.in-Some.n c.loop-id-test.true (sym c.constant_in.ensures ∙ c.in-Some.is)) ∙ c.loop-id.invariant

pub returns-in-None : goal.returns-in-None
returns-in-None c =
    let f = λ (id : TermId). constant_in c.args.known.now id.0 in
    sym (constant_off f c.loop-id.constants.items c.args.ids.now c.loop-id.id-index (record { 0 = 0 }) c.loop-id-test.true (sym c.constant_in.ensures ∙ c.in-None.is)) ∙ c.loop-id.invariant

pub returns : goal.returns
returns c =
    let f = λ (id : TermId). constant_in c.args.known.now id.0 in
    sym (constant_end f c.loop-id.constants.items c.args.ids.now c.loop-id.id-index c.loop-id-test.false) ∙ c.loop-id.invariant
