-- Lemmas that enter for no obligation.
use Rattle.std.proofs.Common.{◌≡◌, ℕ, ◌-◌, ◌≤◌, List, Bool, true, false, ◌&&◌, Some, refl, sym, subst, arith}
use Rattle.std.specs.Prelude.{Option, nat_le, not, None}
use Rattle.std.proofs.lemmas.Bool.Decides.{nat_tests}
use Rattle.lin_atoms.specs.declared.lit.Lit.{Lit}
use Rattle.chc_tokens.specs.declared.refuting.Shown.{Shown}
use Rattle.book_rules.specs.Areas.{is_wide}
use Rattle.book_rules.specs.Places.{is_over}
use Rattle.book_rules.specs.Steps.{StrengthenStep as PlainStrengthen}
use Rattle.book_rules.specs.StrengthenRules.{rule_80, rule_81, rule_82, rule_83}
use Rattle.book_rules.specs.declared.by.By.TheVariants.{Level as ByLevel, Step as ByStep}
use Rattle.cube_rules.proofs.Public.{both_true}
use Rattle.step_rules.specs.Standing.{Standing, standing_state}
use Rattle.step_rules.specs.Taken.{strengthen_of}
use Rattle.step_rules.specs.declared.strengthen_step.part.StrengthenPart.{StrengthenPart}
use Rattle.obligation_turn.specs.Turns.{GoesOn}
use Rattle.obligation_turn.proofs.RuleLemmas.{kept, passed}
use Rattle.lemma_general.specs.Generals.{IsAgainst, IsStrengthenOf, may_enter}
use Rattle.lemma_general.specs.machinery.Passes.{AreShownOf, IsCubeOf, IsShownOf}
use Rattle.lemma_general.proofs.OwnLemmas.{shown-proved}

-- what a lemma has that may enter

pub record MayEnter (b : Standing) (pred level : ℕ) (cube : List Lit) : Type 0 where
  pub between : (nat_le 1 level && nat_le level b.level) ≡ true
  pub low : 1 ≤ level
  pub is : IsCubeOf b pred cube

thin-of : (wide : Bool) → not wide ≡ true → wide ≡ false
thin-of true h = absurd (let never : false ≡ true = h in cc)
thin-of false h = refl

pub may : (b : Standing) (pred level : ℕ) (cube : List Lit) → may_enter b pred level cube ≡ true → MayEnter b pred level cube
may b pred level cube h =
    let all = both_true ((nat_le 1 level && nat_le level b.level) && is_over b.system.preds pred cube) (not (is_wide cube)) h in
    let most = both_true (nat_le 1 level && nat_le level b.level) (is_over b.system.preds pred cube) all.0 in
    let least = (both_true (nat_le 1 level) (nat_le level b.level) most.0).0 in
    record { between = most.0; low = grind (arith, nat_tests, least); is = record { over = most.1; thin = thin-of (is_wide cube) all.1 } }

-- with refutations of its cube under the frame below

pub strengthened : (b : Standing) (pred level : ℕ) (cube : List Lit) (proofs : List Shown) → GoesOn b → may_enter b pred level cube ≡ true → AreShownOf b pred cube (level - 1) proofs
    → IsStrengthenOf b pred level cube (record { pred = pred; lemma = cube; level = level; proofs = proofs })
strengthened b pred level cube proofs goes h are =
    let s = standing_state b in
    let made : StrengthenPart = record { pred = pred; lemma = cube; level = level; proofs = proofs } in
    let l : PlainStrengthen = strengthen_of made in
    let enters = may b pred level cube h in
    let its = shown-proved b pred (level - 1) cube proofs goes enters.is are in
    let r80 = passed (is_over b.system.preds pred cube) ByStep (enters.is).over in
    let r81 = passed (nat_le 1 level && nat_le level b.level) (ByLevel b.level) enters.between in
    record {
      unbroken = kept 80 (rule_80 b.system l) _ r80 (kept 81 (rule_81 s l) _ r81 (kept 82 (rule_82 b.system l) _ its.unshown (kept 83 (rule_83 b.system s l) None its.misused refl)));
      made = its.made;
      places = its.places;
      thin = (enters.is).thin;
      pred = refl;
      lemma = refl;
      level = refl;
    }

-- what is answered where it was asked

pub entered : (b : Standing) (pred level nodes : ℕ) (cube own copy : List Lit) (shown : Option (List Shown)) (proofs : List Shown) → GoesOn b → may_enter b pred level cube ≡ true → own ≡ cube → copy ≡ cube → shown ≡ Some proofs
    → IsShownOf b pred own (level - 1) nodes shown → IsStrengthenOf b pred level cube (record { pred = pred; lemma = copy; level = level; proofs = proofs })
entered b pred level nodes cube own copy shown proofs goes may own_is copy_is some is =
    let there = subst (λ (o : Option (List Shown)). IsShownOf b pred own (level - 1) nodes o) some is in
    let are = subst (λ (c : List Lit). AreShownOf b pred c (level - 1) proofs) own_is there in
    subst (λ (c : List Lit). IsStrengthenOf b pred level cube (record { pred = pred; lemma = c; level = level; proofs = proofs })) (sym copy_is) (strengthened b pred level cube proofs goes may are)

pub stands-against : (b : Standing) (pred level nodes : ℕ) (cube own : List Lit) (shown : Option (List Shown)) → own ≡ cube → shown ≡ None → IsShownOf b pred own (level - 1) nodes shown → IsAgainst b pred (level - 1) nodes cube
stands-against b pred level nodes cube own shown own_is none is =
    subst (λ (c : List Lit). IsAgainst b pred (level - 1) nodes c) own_is (subst (λ (o : Option (List Shown)). IsShownOf b pred own (level - 1) nodes o) none is)
