-- The laws of a ring, for the integers of contracts: `omega` knows sums and multiples by a literal, these know products.
use Rattle.std.proofs.Common.{◌≡◌, ◌+◌, ◌*◌, arith, ap, ◌∙◌}
use Rattle.std.specs.Prelude.{ℤ, ◌+ℤ◌, ◌*ℤ◌, neg_ℤ}
use Rattle.std.proofs.Math.IntN.{*ℤ_comm}
use Rattle.std.proofs.lemmas.Int.{ints}
use borrow.Author.Differences.{up, down, product_is, sum_is_lem, neg_is, same_in}

-- a product with a sum on the left
pub +ℤ-*ℤ : (a b c : ℤ) → (a +ℤ b) *ℤ c ≡ a *ℤ c +ℤ b *ℤ c
+ℤ-*ℤ a b c =
    let first : (up (a +ℤ b) + down a + down b) * up c ≡ (down (a +ℤ b) + up a + up b) * up c = ap (λ t. t * up c) (sum_is_lem a b) in
    let second : (up (a +ℤ b) + down a + down b) * down c ≡ (down (a +ℤ b) + up a + up b) * down c = ap (λ t. t * down c) (sum_is_lem a b) in
    omega (arith, ints)

pub *ℤ_assoc : (a b c : ℤ) → (a *ℤ b) *ℤ c ≡ a *ℤ (b *ℤ c)
*ℤ_assoc a b c = same_in ((a *ℤ b) *ℤ c) (a *ℤ (b *ℤ c))
    (rw ((product_is (a *ℤ b) c).0, (product_is (a *ℤ b) c).1, (product_is a (b *ℤ c)).0, (product_is a (b *ℤ c)).1, (product_is a b).0, (product_is a b).1, (product_is b c).0, (product_is b c).1) (omega arith))

-- a product with a sum on the right
pub *ℤ-+ℤ : (a b c : ℤ) → a *ℤ (b +ℤ c) ≡ a *ℤ b +ℤ a *ℤ c
*ℤ-+ℤ a b c = *ℤ_comm a (b +ℤ c) ∙ +ℤ-*ℤ b c a ∙ ap (λ z. z +ℤ c *ℤ a) (*ℤ_comm b a) ∙ ap (λ z. a *ℤ b +ℤ z) (*ℤ_comm c a)

pub neg_ℤ-*ℤ : (a b : ℤ) → neg_ℤ a *ℤ b ≡ neg_ℤ (a *ℤ b)
neg_ℤ-*ℤ a b = same_in (neg_ℤ a *ℤ b) (neg_ℤ (a *ℤ b))
    (rw ((product_is (neg_ℤ a) b).0, (product_is (neg_ℤ a) b).1, (neg_is (a *ℤ b)).0, (neg_is (a *ℤ b)).1, (product_is a b).0, (product_is a b).1, (neg_is a).0, (neg_is a).1) (omega arith))
