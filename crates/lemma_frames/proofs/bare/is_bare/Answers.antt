use Rattle.std.proofs.Common.{◌≡◌, ◌∙◌, [], get_or, refl, sym, subst, arith}
use Rattle.std.specs.List.{All}
use Rattle.std.proofs.lemmas.List.{get_or_default}
use Rattle.lemma_frames.specs.Frames.{level_of}
use Rattle.lemma_frames.proofs.IndexLemmas.{order_is, there_is, bare_row, bare_rows}
use Rattle.lemma_frames.proofs.bare.is_bare.Goals as goal

pub is_bare_of-requires-clause-order : goal.is_bare_of-requires-clause-order
is_bare_of-requires-clause-order c =
    let is : c.as_slice.result.now ≡ get_or c.args.rows.now c.loop-row.row-index [] = c.as_slice.ensures ∙ c.get.ensures ∙ c.row-item.is ∙ get_or_default c.args.rows.now c.loop-row.row-index c.row-item.result [] c.loop-row-test.true in
    order_is c.args.rows.now c.args.lemmas.now c.loop-row.row-index c.as_slice.result.now c.requires c.loop-row-test.true is

pub is_bare_of-requires-clause-there : goal.is_bare_of-requires-clause-there
is_bare_of-requires-clause-there c =
    let is : c.as_slice.result.now ≡ get_or c.args.rows.now c.loop-row.row-index [] = c.as_slice.ensures ∙ c.get.ensures ∙ c.row-item.is ∙ get_or_default c.args.rows.now c.loop-row.row-index c.row-item.result [] c.loop-row-test.true in
    there_is c.args.rows.now c.args.lemmas.now c.loop-row.row-index c.as_slice.result.now c.requires c.loop-row-test.true is

pub returns-then-not-is_bare_of : goal.returns-then-not-is_bare_of
returns-then-not-is_bare_of c =
    let ls = c.args.lemmas.now in
    let row = get_or c.args.rows.now c.loop-row.row-index [] in
    let is : c.as_slice.result.now ≡ row = c.as_slice.ensures ∙ c.get.ensures ∙ c.row-item.is ∙ get_or_default c.args.rows.now c.loop-row.row-index c.row-item.result [] c.loop-row-test.true in
    (λ yes. absurd (cc), λ bare. sym c.if-not-is_bare_of.true ∙ c.is_bare_of.ensures.1 (subst (λ r. All (λ n. level_of ls n ≡ c.args.level → ⊥) r) (sym is) (bare_row c.args.rows.now ls c.args.level c.loop-row.row-index c.requires c.loop-row-test.true bare)))

pub returns : goal.returns
returns c =
    let past = c.loop-row-test.false in
    (λ yes. bare_rows c.args.rows.now c.args.lemmas.now c.args.level c.requires (λ k l. c.loop-row.invariant k (omega arith)), λ bare. refl)
