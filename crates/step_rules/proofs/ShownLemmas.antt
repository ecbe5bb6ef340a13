-- A proof among others.
use Rattle.std.proofs.Common.{◌≡◌, ℕ, zero, suc, List, [], ◌∷◌, Bool, true, false, ◌||◌, Some, refl, ap, ◌∙◌}
use Rattle.std.specs.Prelude.{slice_get}
use Rattle.std.specs.Bool.{OnTrue}
use Rattle.std.specs.List.{list_any}
use Rattle.chc_tokens.specs.declared.refuting.Shown.{Shown as ShownToken}
use Rattle.book_rules.specs.Steps.{Shown}
use Rattle.step_rules.specs.Tokens.{all_shown, shown_of}

pub on-true : (b : Bool) (P : Type 0) → (b ≡ true → P) → OnTrue b P
on-true true P h = h refl
on-true false P h = tt

first : (a b : Bool) → a ≡ true → (a || b) ≡ true
first true b h = refl
first false b h = absurd (cc)

later : (a b : Bool) → b ≡ true → (a || b) ≡ true
later true b h = refl
later false b h = h

pub proof-at : (test : Shown → Bool) (proofs : List ShownToken) (at : ℕ) (proof : ShownToken) → slice_get proofs at ≡ Some proof → test (shown_of proof) ≡ true → list_any test (all_shown proofs) ≡ true
proof-at test [] at proof there is = absurd (cc)
proof-at test (p ∷ ps) zero proof there is = let same : p ≡ proof = cc in first (test (shown_of p)) (list_any test (all_shown ps)) (ap (λ (x : ShownToken). test (shown_of x)) same ∙ is)
proof-at test (p ∷ ps) (suc n) proof there is = later (test (shown_of p)) (list_any test (all_shown ps)) (proof-at test ps n proof there is)
