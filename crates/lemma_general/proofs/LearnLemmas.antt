-- Lemmas that are learnt in place of others.
use Rattle.std.proofs.Common.{◌≡◌, ℕ, ◌-◌, ◌<◌, ◌≤◌, zero, suc, List, [], ◌∷◌, length, Bool, true, false, ◌&&◌, cond, Some, None, refl, ap, sym, ◌∙◌, arith}
use Rattle.std.specs.Prelude.{Option, nat_le, slice_get}
use Rattle.std.specs.List.{list_all}
use Rattle.std.proofs.lemmas.Bool.Decides.{nat_tests}
use Rattle.lin_atoms.specs.declared.lit.Lit.{Lit}
use Rattle.cube_forms.specs.Cubes.{cube_holds}
use Rattle.obligation_tree.specs.Nodes.{node_at}
use Rattle.obligation_tree.specs.declared.node.Node.{Node}
use Rattle.chc_tokens.specs.declared.refuting.Shown.{Shown}
use Rattle.book_rules.specs.Frames.{Lemma}
use Rattle.book_rules.specs.LemmaRules.{closes, rule_10, rule_11, rule_12, rule_13, rule_14}
use Rattle.book_rules.specs.Places.{is_over, places_of, shown_has_places}
use Rattle.book_rules.proofs.Public.{learnt-over, over-within}
use Rattle.book_rules.specs.Rules.{Broken, rule}
use Rattle.book_rules.specs.State.{Obligation, is_of, unless_live}
use Rattle.book_rules.specs.Steps.{LemmaStep as PlainLemma}
use Rattle.book_rules.specs.Walks.{on}
use Rattle.book_rules.specs.declared.by.By.{By}
use Rattle.book_rules.specs.declared.by.By.TheVariants.{Level as ByLevel, Obligation as ByObligation, Step as ByStep}
use Rattle.cube_rules.proofs.Public.{both_true, from_both}
use Rattle.step_rules.specs.Standing.{Standing, standing_state}
use Rattle.step_rules.specs.Taken.{learn_of}
use Rattle.step_rules.specs.Tokens.{all_shown}
use Rattle.step_rules.specs.Views.{obligation_of, obligations_of}
use Rattle.step_rules.specs.declared.lemma_step.part.LemmaPart.{LemmaPart}
use Rattle.step_rules.proofs.Public.{obligation_of-at}
use Rattle.obligation_turn.specs.Turns.{GoesOn}
use Rattle.obligation_turn.proofs.RuleLemmas.{kept, passed, told-of}
use Rattle.lemma_general.specs.Generals.{IsLearnt}
use Rattle.lemma_general.specs.Tries.{point_of, IsWiderCube}
use Rattle.lemma_general.specs.machinery.Passes.{AreShownOf, IsCubeOf}
use Rattle.lemma_general.proofs.OwnLemmas.{shown-proved}

-- rules that aren't broken

pub both-none : (n : ℕ) (told : Option By) (others : Broken) → rule n told others ≡ None → (told ≡ None) × (others ≡ None)
both-none n None others h = (refl, h)
both-none n (Some by) others h = absurd (let never : ◌≡◌ {A = Option (ℕ × By)} (Some (n, by)) None = h in cc)

pub passes : (b : Bool) (by : By) → cond {A = Option By} b None (Some by) ≡ None → b ≡ true
passes true by h = refl
passes false by h = absurd (let never : Some by ≡ None = h in cc)

-- a cube that holds the obligation's point closes it at the same or a higher level

higher-too : (m n k : ℕ) → nat_le m n ≡ true → n ≤ k → nat_le m k ≡ true
higher-too m n k h le = grind (arith, nat_tests, h, le)

closes-too : (pred : ℕ) (cube other : List Lit) (level higher : ℕ) (o : Obligation) → level ≤ higher → cube_holds o.point other ≡ true → closes (record { pred = pred; cube = cube }) level o ≡ true → closes (record { pred = pred; cube = other }) higher o ≡ true
closes-too pred cube other level higher o le held h =
    let all = both_true (is_of pred o.pred && nat_le o.level level) (cube_holds o.point cube) h in
    let own = both_true (is_of pred o.pred) (nat_le o.level level) all.0 in
    from_both (is_of pred o.pred && nat_le o.level higher) (cube_holds o.point other) (from_both (is_of pred o.pred) (nat_le o.level higher) own.0 (higher-too o.level level higher own.1 le)) held

-- a live obligation is there

live-there : (nodes : List Node) (n : ℕ) → unless_live (slice_get (obligations_of nodes) n) ≡ None → n < length nodes
live-there [] n h = absurd (let never : ◌≡◌ {A = Option By} (Some ByStep) None = h in cc)
live-there (x ∷ nodes) zero h = omega arith
live-there (x ∷ nodes) (suc n) h = let rest = live-there nodes n h in omega (arith, rest)

abbrev target_of : Standing → ℕ → Obligation
target_of b target = obligation_of (node_at b.tree.nodes target)

-- what a Lemma that breaks no rule has

pub record IsPlaced (b : Standing) (part : LemmaPart) : Type 0 where
  pub low : nat_le 1 part.level ≡ true
  pub high : nat_le part.level b.level ≡ true
  pub live : rule_13 (standing_state b) (learn_of part) ≡ None
  pub there : part.target < length b.tree.nodes
  pub closing : closes (record { pred = part.pred; cube = part.lemma }) part.level (target_of b part.target) ≡ true

pub placed : (b : Standing) (part : LemmaPart) → IsLearnt b part → IsPlaced b part
placed b part learnt =
    let s = standing_state b in
    let l = learn_of part in
    let first = both-none 10 (rule_10 s l) _ learnt.unbroken in
    let second = both-none 11 (rule_11 b.system l) _ first.1 in
    let third = both-none 12 (rule_12 b.system s l) _ second.1 in
    let fourth = both-none 13 (rule_13 s l) _ third.1 in
    let fifth = both-none 14 (rule_14 s l) None fourth.1 in
    let between = both_true (nat_le 1 part.level) (nat_le part.level b.level) (passes (nat_le 1 part.level && nat_le part.level b.level) (ByLevel b.level) first.0) in
    let there = live-there b.tree.nodes part.target fourth.0 in
    let tell : Obligation → Option By = λ o. cond (closes (record { pred = part.pred; cube = part.lemma }) part.level o) None (Some (ByObligation part.target)) in
    let told : tell (target_of b part.target) ≡ None = sym (ap (λ (o : Option Obligation). on o tell) (obligation_of-at b.tree.nodes part.target there)) ∙ fifth.0 in
    record {
      low = between.0;
      high = between.1;
      live = fourth.0;
      there = there;
      closing = passes (closes (record { pred = part.pred; cube = part.lemma }) part.level (target_of b part.target)) (ByObligation part.target) told;
    }

-- its cube is over its predicate, which is its obligation's
pub over-own : (b : Standing) (part : LemmaPart) → GoesOn b → IsLearnt b part → is_over b.system.preds part.pred part.lemma ≡ true
over-own b part goes learnt = learnt-over b.system (standing_state b) (learn_of part) (goes.standing).over learnt.places learnt.unbroken

-- its cube holds the point of its obligation, and so does each cube that holds as much
pub held-at : (b : Standing) (part : LemmaPart) (cube : List Lit) → IsLearnt b part → IsWiderCube part.lemma cube → cube_holds (point_of b part.target) cube ≡ true
held-at b part cube learnt within =
    let o = target_of b part.target in
    within (point_of b part.target) (both_true (is_of part.pred o.pred && nat_le o.level part.level) (cube_holds o.point part.lemma) (placed b part learnt).closing).1

-- with refutations of a cube that holds the obligation's point under the frame below, at the same or a higher level
pub relearnt : (b : Standing) (part : LemmaPart) (level : ℕ) (cube : List Lit) (proofs : List Shown) → GoesOn b → IsLearnt b part → part.level ≤ level → level ≤ b.level → IsCubeOf b part.pred cube → cube_holds (point_of b part.target) cube ≡ true
    → AreShownOf b part.pred cube (level - 1) proofs → IsLearnt b (record { target = part.target; pred = part.pred; lemma = cube; level = level; proofs = proofs })
relearnt b part level cube proofs goes learnt from to is held are =
    let s = standing_state b in
    let lemma : Lemma = record { pred = part.pred; cube = cube } in
    let made : LemmaPart = record { target = part.target; pred = part.pred; lemma = cube; level = level; proofs = proofs } in
    let l : PlainLemma = learn_of made in
    let before = placed b part learnt in
    let its = shown-proved b part.pred (level - 1) cube proofs goes is are in
    let low : nat_le 1 level ≡ true = higher-too 1 part.level level before.low from in
    let high : nat_le level b.level ≡ true = grind (arith, nat_tests, to) in
    let closing : closes lemma level (target_of b part.target) ≡ true = closes-too part.pred part.lemma cube part.level level (target_of b part.target) from held before.closing in
    let r10 = passed (nat_le 1 level && nat_le level b.level) (ByLevel b.level) (from_both (nat_le 1 level) _ low high) in
    let r14 : rule_14 s l ≡ None =
    told-of (slice_get s.obligations part.target) (target_of b part.target) (λ (o : Obligation). cond (closes lemma level o) None (Some (ByObligation part.target))) (obligation_of-at b.tree.nodes part.target before.there)
    (passed (closes lemma level (target_of b part.target)) (ByObligation part.target) closing) in
    record {
      unbroken = kept 10 (rule_10 s l) _ r10 (kept 11 (rule_11 b.system l) _ its.unshown (kept 12 (rule_12 b.system s l) _ its.misused (kept 13 (rule_13 s l) _ before.live (kept 14 (rule_14 s l) None r14 refl))));
      made = its.made;
      places = from_both _ (list_all (shown_has_places b.system) (all_shown proofs)) (over-within (places_of b.system.preds (Some part.pred)) cube is.over) its.places;
      thin = is.thin;
    }
