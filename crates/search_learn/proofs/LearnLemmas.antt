-- A lemma that is worked on, and the obligation for which it is learnt.
use Rattle.std.proofs.Common.{◌≡◌, ℕ, zero, suc, ◌<◌, List, [], ◌∷◌, length, None, Some, refl, sym, subst, arith}
use Rattle.std.specs.Prelude.{Option, slice_get}
use Rattle.std.proofs.lemmas.List.{length-map}
use Rattle.book_rules.specs.LemmaRules.{rule_10, rule_11, rule_12, rule_13}
use Rattle.book_rules.specs.State.{Obligation, unless_live}
use Rattle.book_rules.proofs.SoundLemmas.{unbroken}
use Rattle.step_rules.specs.Standing.{Standing, standing_state}
use Rattle.step_rules.specs.Taken.{learn_of}
use Rattle.step_rules.specs.Views.{obligation_of, obligations_of}
use Rattle.step_rules.specs.declared.lemma_step.part.LemmaPart.{LemmaPart}
use Rattle.step_rules.specs.declared.step.Step.TheVariants.{LemmaStep}
use Rattle.lemma_general.specs.Generals.{IsLearnt}
use Rattle.search_strategy.specs.machinery.Steps.{IsTaken}

pub learnt : (b : Standing) (nodes : ℕ) (part : LemmaPart) → IsTaken b nodes (LemmaStep part) → IsLearnt b part
learnt b nodes part h = record { unbroken = h.unbroken; made = h.made; places = h.places; thin = h.thin }

pub taken-learnt : (b : Standing) (nodes : ℕ) (part : LemmaPart) → IsLearnt b part → IsTaken b nodes (LemmaStep part)
taken-learnt b nodes part h = record { unbroken = h.unbroken; made = h.made; places = h.places; counts = tt; thin = h.thin }

within-at : {X : Type 0} (xs : List X) (n : ℕ) (x : X) → slice_get xs n ≡ Some x → n < length xs
within-at [] n x there = absurd (cc)
within-at (y ∷ xs) zero x there = omega arith
within-at (y ∷ xs) (suc n) x there = let rest = within-at xs n x there in omega arith

live-within : (os : List Obligation) (n : ℕ) → unless_live (slice_get os n) ≡ None → n < length os
live-within os n live = by (slice_get os n) refl live where
  by : (found : Option Obligation) → slice_get os n ≡ found → unless_live found ≡ None → n < length os
  by None is h = absurd (cc)
  by (Some o) is h = within-at os n o is

pub target-there : (b : Standing) (part : LemmaPart) → IsLearnt b part → part.target < length b.tree.nodes
target-there b part h =
    let s = standing_state b in
    let l = learn_of part in
    let first = unbroken 10 (rule_10 s l) _ h.unbroken in
    let second = unbroken 11 (rule_11 b.system l) _ first.1 in
    let third = unbroken 12 (rule_12 b.system s l) _ second.1 in
    let fourth = unbroken 13 (rule_13 s l) _ third.1 in
    subst (λ (n : ℕ). part.target < n) (length-map b.tree.nodes obligation_of) (live-within (obligations_of b.tree.nodes) part.target fourth.0)

-- over what is lent
pub target-lent : (a b : Standing) (given part : LemmaPart) → a ≡ b → given ≡ part → IsLearnt b part → given.target < length a.tree.nodes
target-lent a b given part same is h = subst (λ (x : Standing). given.target < length x.tree.nodes) (sym same) (subst (λ (p : LemmaPart). p.target < length b.tree.nodes) (sym is) (target-there b part h))
