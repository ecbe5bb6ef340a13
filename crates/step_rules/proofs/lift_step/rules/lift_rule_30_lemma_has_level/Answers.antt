use Rattle.std.proofs.Common.{◌<◌, ◌≤◌, length, ap, ◌==◌, cond, Some, None, ◌∙◌, arith, ℕ, ◌≡◌}
use Rattle.std.specs.Prelude.{Option}
use Rattle.book_rules.specs.LemmaRules.{level_is}
use Rattle.book_rules.specs.declared.by.By.{By}
use Rattle.book_rules.specs.declared.by.By.TheVariants.{Lemma}
use Rattle.step_rules.proofs.OnLemmas.{lemma-past, lemma-there}
use Rattle.lemma_frames.specs.Frames.{level_of}
use Rattle.step_rules.specs.Standing.{Standing}
use Rattle.step_rules.proofs.lift_step.rules.lift_rule_30_lemma_has_level.Goals as goal

pub returns-then-step-count : goal.returns-then-step-count
returns-then-step-count c =
    let lemmas = c.args.parts.now.frames.lemmas in
    let step = c.args.step.now in
    let same : length c.parts.inside.frames.now.lemmas ≡ length lemmas = ap (λ (s : Standing). length s.frames.lemmas) c.parts.view_is in
    let past : length lemmas ≤ step.lemma = omega (arith, same) in
    lemma-past lemmas step.lemma (level_is step.lemma step.from) past

pub returns : goal.returns
returns c =
    let lemmas = c.args.parts.now.frames.lemmas in
    let step = c.args.step.now in
    let same : length c.parts.inside.frames.now.lemmas ≡ length lemmas = ap (λ (s : Standing). length s.frames.lemmas) c.parts.view_is in
    let within : step.lemma < length lemmas = omega (arith, same) in
    c.told_of_level.ensures ∙ ap (λ (level : ℕ). cond {A = Option By} (level == step.from) None (Some (Lemma step.lemma))) (c.level_of.ensures ∙ ap (λ (s : Standing). level_of s.frames.lemmas step.lemma) c.parts.view_is) ∙ lemma-there lemmas step.lemma (level_is step.lemma step.from) within
