use Rattle.std.proofs.Common.{◌≡◌, ◌<◌, ◌≤◌, true, false, ap, sym, ◌∙◌, subst}
use Rattle.std.specs.Prelude.{◌↔◌, option_map}
use Rattle.std.specs.Bool.{IsTrue}
use Rattle.lemma_frames.specs.Frames.{IsBare}
use Rattle.book_rules.specs.declared.end.End.TheVariants.{Sat}
use Rattle.book_rules.specs.Legal.{is_level_empty}
use Rattle.step_rules.specs.Views.{lemmas_of}
use Rattle.chc_core.specs.Contents.{Contents}
use Rattle.chc_core.proofs.EndLemmas.{bare_is, bare-found, bare-next, bare-over}
use Rattle.chc_core.proofs.ending.bare.Goals as goal

pub loop-level-preserved : goal.loop-level-preserved
loop-level-preserved c =
    let b = c.args.parts.now in
    let level = c.loop-level.level in
    let exact = subst (λ (x : Contents). IsTrue c.level_is_bare.result ↔ IsBare x.frames.lemmas level) c.parts.view_is c.level_is_bare.ensures in
    let below : level < b.level = subst (λ (x : Contents). level < x.level) c.parts.view_is c.loop-level-test.true in
    let isnt : is_level_empty (lemmas_of b.frames.lemmas) level ≡ false = sym (bare_is b.frames.lemmas level c.level_is_bare.result exact) ∙ c.if-level_is_bare.false in
    sym (ap (option_map Sat) (bare-next (lemmas_of b.frames.lemmas) level b.level below isnt)) ∙ c.loop-level.invariant

pub returns-then-level_is_bare : goal.returns-then-level_is_bare
returns-then-level_is_bare c =
    let b = c.args.parts.now in
    let level = c.loop-level.level in
    let exact = subst (λ (x : Contents). IsTrue c.level_is_bare.result ↔ IsBare x.frames.lemmas level) c.parts.view_is c.level_is_bare.ensures in
    let below : level < b.level = subst (λ (x : Contents). level < x.level) c.parts.view_is c.loop-level-test.true in
    let is : is_level_empty (lemmas_of b.frames.lemmas) level ≡ true = sym (bare_is b.frames.lemmas level c.level_is_bare.result exact) ∙ c.if-level_is_bare.true in
    sym (ap (option_map Sat) (bare-found (lemmas_of b.frames.lemmas) level b.level below is)) ∙ c.loop-level.invariant

pub returns : goal.returns
returns c =
    let b = c.args.parts.now in
    let level = c.loop-level.level in
    let past : b.level ≤ level = subst (λ (x : Contents). x.level ≤ level) c.parts.view_is c.loop-level-test.false in
    sym (ap (option_map Sat) (bare-over (lemmas_of b.frames.lemmas) level b.level past)) ∙ c.loop-level.invariant
