-- Bounds of arguments, and places of variables among them.
use Rattle.std.proofs.Common.{◌≡◌, ℕ, zero, suc, ◌+◌, ◌<◌, ◌≤◌, List, [], ◌∷◌, ◌++◌, length, take, drop, get_or, map, Bool, true, false, ◌||◌, refl, ap, ap₂, sym, ◌∙◌, arith}
use Rattle.std.specs.Prelude.{nat_le, ◌==◌}
use Rattle.std.specs.List.{list_any}
use Rattle.std.proofs.lemmas.Bool.Decides.{nat_tests}
use mathlib.Core.Bool.{true≢false}
use Rattle.cube_rules.proofs.TestLemmas.{plus-one}

both_false : (a b : Bool) → (a || b) ≡ false → (a ≡ false) × (b ≡ false)
both_false true b h = absurd (true≢false h)
both_false false b h = (refl, h)

from_none : (a b : Bool) → a ≡ false → b ≡ false → (a || b) ≡ false
from_none true b h k = absurd (true≢false h)
from_none false b h k = k

not-le : (x bound : ℕ) → x < bound → nat_le bound x ≡ false
not-le x bound less = grind (arith, nat_tests)

more-than : (x bound : ℕ) → nat_le bound x ≡ false → x < bound
more-than x bound h = grind (arith, nat_tests)

more-suc : (args : List ℕ) (i d bound new : ℕ) → i < length args → bound ≤ new → get_or args i d < new → list_any (λ v. nat_le bound v) (take i args) ≡ false → list_any (λ v. nat_le new v) (take (suc i) args) ≡ false
more-suc [] i d bound new within old less h = absurd (omega arith)
more-suc (y ∷ args) zero d bound new within old less h = from_none (nat_le new y) false (not-le y new less) refl
more-suc (y ∷ args) (suc i) d bound new within old less h =
    let both = both_false (nat_le bound y) (list_any (λ v. nat_le bound v) (take i args)) h in
    let low = more-than y bound both.0 in
    from_none (nat_le new y) (list_any (λ v. nat_le new v) (take (suc i) args)) (not-le y new (omega (arith, low, old))) (more-suc args i d bound new (omega arith) old less both.1)

pub bound-more : (args : List ℕ) (i d bound new : ℕ) → i < length args → bound ≤ new → get_or args i d < new → list_any (λ v. nat_le bound v) (take i args) ≡ false → list_any (λ v. nat_le new v) (take (i + 1) args) ≡ false
bound-more args i d bound new within old less h = ap (λ k. list_any (λ v. nat_le new v) (take k args)) (plus-one i) ∙ more-suc args i d bound new within old less h

-- what is above all is so further up
pub none-above : (args : List ℕ) (bound k : ℕ) → bound ≤ k → list_any (λ v. nat_le bound v) args ≡ false → list_any (λ v. nat_le k v) args ≡ false
none-above [] bound k high none = refl
none-above (y ∷ args) bound k high none =
    let both = both_false (nat_le bound y) (list_any (λ v. nat_le bound v) args) none in
    let low = more-than y bound both.0 in
    from_none (nat_le k y) (list_any (λ v. nat_le k v) args) (not-le y k (omega (arith, low, high))) (none-above args bound k high both.1)
