use Rattle.std.proofs.Common.{◌≡◌, ◌<◌, ◌≤◌, ℕ, List, length, ap₂, ◌∙◌, arith, Some, ap}
use Rattle.std.specs.Prelude.{Option}
use Rattle.lin_atoms.specs.declared.lit.Lit.{Lit}
use Rattle.book_rules.specs.Frames.{Framed}
use Rattle.book_rules.specs.Proofs.{unshown}
use Rattle.book_rules.specs.Walks.{on}
use Rattle.step_rules.specs.Tokens.{all_shown}
use Rattle.step_rules.proofs.OnLemmas.{lemma-past, lemma-there}
use Rattle.lemma_frames.specs.Frames.{lemma_of, pred_of}
use Rattle.step_rules.specs.Standing.{Standing}
use Rattle.step_rules.proofs.lift_step.rules.lift_rule_32_each_clause_has_proof.Goals as goal

pub returns-then-step-count : goal.returns-then-step-count
returns-then-step-count c =
    let b = c.args.parts.now in
    let step = c.args.step.now in
    let same : length c.parts.inside.frames.now.lemmas ≡ length b.frames.lemmas = ap (λ (s : Standing). length s.frames.lemmas) c.parts.view_is in
    let past : length b.frames.lemmas ≤ step.lemma = omega (arith, same) in
    lemma-past b.frames.lemmas step.lemma (λ (found : Option Framed). on found (λ (e : Framed). unshown b.system step.from (Some e.lemma) (all_shown step.proofs))) past

pub returns : goal.returns
returns c =
    let b = c.args.parts.now in
    let step = c.args.step.now in
    let same : length c.parts.inside.frames.now.lemmas ≡ length b.frames.lemmas = ap (λ (s : Standing). length s.frames.lemmas) c.parts.view_is in
    let within : step.lemma < length b.frames.lemmas = omega (arith, same) in
    c.in_ok-by.ensures
    ∙ ap₂ (λ (pred : ℕ) (cube : List Lit). unshown b.system step.from (Some (record { pred = pred; cube = cube })) (all_shown step.proofs)) (c.pred_of-pred.ensures.pred ∙ ap (λ (s : Standing). pred_of s.frames.lemmas step.lemma) c.parts.view_is) (c.lemma.ensures ∙ ap (λ (s : Standing). lemma_of s.frames.lemmas step.lemma) c.parts.view_is)
    ∙ lemma-there b.frames.lemmas step.lemma (λ (found : Option Framed). on found (λ (e : Framed). unshown b.system step.from (Some e.lemma) (all_shown step.proofs))) within
