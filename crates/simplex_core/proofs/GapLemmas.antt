-- Two values over different denominators, compared by a number between them.
use Rattle.std.proofs.Common.{◌≡◌, ℕ, refl, ap, sym, ◌∙◌, arith, ◌<◌, true, false, Bool, ◌⊎◌, inl, inr, ⊎_elim, nat_abs}
use Rattle.std.specs.Prelude.{ℤ, pos, neg_ℤ, int_lt, ◌-ℤ◌, ◌*ℤ◌, ◌<ℤ◌, ◌≤ℤ◌}
use Rattle.std.proofs.Math.IntN.{*ℤ_comm, *ℤ-zero, zero-*ℤ}
use Rattle.std.proofs.lemmas.Int.{ints}
use Rattle.base.proofs.Public.{*ℤ_assoc, neg_ℤ-*ℤ}
use Rattle.int_rows.proofs.Public.{lt-true}
use Rattle.lin_atoms.specs.Ratio.{Fraction}
use Rattle.lin_atoms.proofs.Public.{positive}
use Rattle.simplex_core.proofs.FractionLemmas.{keeps, order}
use Rattle.simplex_core.proofs.VertexLemmas.{not-less}

decided-cases : (a b : ℤ) (t : Bool) → int_lt a b ≡ t → (a <ℤ b) ⊎ (b ≤ℤ a)
decided-cases a b true e = inl (lt-true a b e)
decided-cases a b false e = inr (not-less a b e)

decided : (a b : ℤ) → (a <ℤ b) ⊎ (b ≤ℤ a)
decided a b = decided-cases a b (int_lt a b) refl

-- multiples by a positive number are in the same strict order
pub keeps-strict : (x y : ℤ) (d : ℕ) → 0 < d → x <ℤ y → (x *ℤ pos d) <ℤ (y *ℤ pos d)
keeps-strict x y d some h =
    ⊎_elim (λ less. less) (λ le. let back = order y x d some le in absurd (omega (arith, ints, h, back))) (decided (x *ℤ pos d) (y *ℤ pos d))

swap : (l : ℤ) (p q : ℕ) → (l *ℤ pos p) *ℤ pos q ≡ (l *ℤ pos q) *ℤ pos p
swap l p q = *ℤ_assoc l (pos p) (pos q) ∙ ap (λ z. l *ℤ z) (*ℤ_comm (pos p) (pos q)) ∙ sym (*ℤ_assoc l (pos q) (pos p))

-- how much greater x / p is than y / q, times p * q
abbrev pub gap : ℤ → ℕ → ℤ → ℕ → ℤ
gap x p y q = x *ℤ pos q -ℤ y *ℤ pos p

pub gap-above : (x y l : ℤ) (p q : ℕ) → (l *ℤ pos p) ≤ℤ x → y ≤ℤ (l *ℤ pos q) → pos 0 ≤ℤ gap x p y q
gap-above x y l p q h k =
    let first = keeps (l *ℤ pos p) x q h in
    let second = keeps y (l *ℤ pos q) p k in
    let same = swap l p q in
    omega (arith, ints, first, second, same)

pub gap-more : (x y l : ℤ) (p q : ℕ) → 0 < p → (l *ℤ pos p) ≤ℤ x → y <ℤ (l *ℤ pos q) → pos 0 <ℤ gap x p y q
gap-more x y l p q some h k =
    let first = keeps (l *ℤ pos p) x q h in
    let second = keeps-strict y (l *ℤ pos q) p some k in
    let same = swap l p q in
    omega (arith, ints, first, second, same)

pub gap-below : (x y u : ℤ) (p q : ℕ) → x ≤ℤ (u *ℤ pos p) → (u *ℤ pos q) ≤ℤ y → gap x p y q ≤ℤ pos 0
gap-below x y u p q h k =
    let first = keeps x (u *ℤ pos p) q h in
    let second = keeps (u *ℤ pos q) y p k in
    let same = swap u p q in
    omega (arith, ints, first, second, same)

pub gap-less : (x y u : ℤ) (p q : ℕ) → 0 < p → x ≤ℤ (u *ℤ pos p) → (u *ℤ pos q) <ℤ y → gap x p y q <ℤ pos 0
gap-less x y u p q some h k =
    let first = keeps x (u *ℤ pos p) q h in
    let second = keeps-strict (u *ℤ pos q) y p some k in
    let same = swap u p q in
    omega (arith, ints, first, second, same)

pub gap-none : (x y v : ℤ) (p q : ℕ) → x ≡ v *ℤ pos p → y ≡ v *ℤ pos q → gap x p y q ≡ pos 0
gap-none x y v p q h k =
    let first : x *ℤ pos q ≡ (v *ℤ pos p) *ℤ pos q = ap (λ z. z *ℤ pos q) h in
    let second : y *ℤ pos p ≡ (v *ℤ pos q) *ℤ pos p = ap (λ z. z *ℤ pos p) k in
    let same = swap v p q in
    omega (arith, ints, first, second, same)

-- a factor of the sign of the gap gives no negative product
times-zero : (a : ℤ) (z : ℤ) → z ≡ pos 0 → a *ℤ z ≡ pos 0
times-zero a z e = ap (λ y. a *ℤ y) e ∙ *ℤ-zero a

pub same-sign : (a z : ℤ) → pos 0 <ℤ a → pos 0 ≤ℤ z → pos 0 ≤ℤ (a *ℤ z)
same-sign a z some h =
    let grown = keeps (pos 0) z (nat_abs a) h in
    let turned : a *ℤ z ≡ z *ℤ pos (nat_abs a) = *ℤ_comm a z ∙ ap (λ y. z *ℤ y) (positive a some) in
    let none = zero-*ℤ (pos (nat_abs a)) in
    omega (arith, ints, grown, turned, none)

pub same-strict : (a z : ℤ) → pos 0 <ℤ a → pos 0 <ℤ z → pos 0 <ℤ (a *ℤ z)
same-strict a z some h =
    let grown = keeps-strict (pos 0) z (nat_abs a) (omega (arith, ints, some)) h in
    let turned : a *ℤ z ≡ z *ℤ pos (nat_abs a) = *ℤ_comm a z ∙ ap (λ y. z *ℤ y) (positive a some) in
    let none = zero-*ℤ (pos (nat_abs a)) in
    omega (arith, ints, grown, turned, none)

two-signs : (a z : ℤ) → neg_ℤ a *ℤ neg_ℤ z ≡ a *ℤ z
two-signs a z =
    let first = neg_ℤ-*ℤ a (neg_ℤ z) in
    let second : a *ℤ neg_ℤ z ≡ neg_ℤ (a *ℤ z) = *ℤ_comm a (neg_ℤ z) ∙ neg_ℤ-*ℤ z a ∙ ap neg_ℤ (*ℤ_comm z a) in
    omega (arith, ints, first, second)

pub other-sign : (a z : ℤ) → a <ℤ pos 0 → z ≤ℤ pos 0 → pos 0 ≤ℤ (a *ℤ z)
other-sign a z some h =
    let told = same-sign (neg_ℤ a) (neg_ℤ z) (omega (arith, ints, some)) (omega (arith, ints, h)) in
    let same = two-signs a z in
    omega (arith, ints, told, same)

pub other-strict : (a z : ℤ) → a <ℤ pos 0 → z <ℤ pos 0 → pos 0 <ℤ (a *ℤ z)
other-strict a z some h =
    let told = same-strict (neg_ℤ a) (neg_ℤ z) (omega (arith, ints, some)) (omega (arith, ints, h)) in
    let same = two-signs a z in
    omega (arith, ints, told, same)

-- a value below, or above, a number, over another denominator
pub scaled-under : (q : Fraction) (l n : ℤ) (d : ℕ) → pos 0 <ℤ q.den → 0 < d → q.num <ℤ (q.den *ℤ l) → n *ℤ q.den ≡ q.num *ℤ pos d → n <ℤ (l *ℤ pos d)
scaled-under q l n d some small less same =
    let e = nat_abs q.den in
    let den : q.den ≡ pos e = positive q.den some in
    let same' : n *ℤ pos e ≡ q.num *ℤ pos d = ap (λ z. n *ℤ z) (sym den) ∙ same in
    let turned : q.den *ℤ l ≡ l *ℤ pos e = ap (λ z. z *ℤ l) den ∙ *ℤ_comm (pos e) l in
    let less' : q.num <ℤ (l *ℤ pos e) = omega (arith, ints, less, turned) in
    let grown = keeps-strict q.num (l *ℤ pos e) d small less' in
    let swapped = swap l d e in
    ⊎_elim (λ h. h) (λ le. let back = keeps (l *ℤ pos d) n e le in absurd (omega (arith, ints, back, swapped, grown, same'))) (decided n (l *ℤ pos d))

pub scaled-over : (q : Fraction) (u n : ℤ) (d : ℕ) → pos 0 <ℤ q.den → 0 < d → (q.den *ℤ u) <ℤ q.num → n *ℤ q.den ≡ q.num *ℤ pos d → (u *ℤ pos d) <ℤ n
scaled-over q u n d some small less same =
    let e = nat_abs q.den in
    let den : q.den ≡ pos e = positive q.den some in
    let same' : n *ℤ pos e ≡ q.num *ℤ pos d = ap (λ z. n *ℤ z) (sym den) ∙ same in
    let turned : q.den *ℤ u ≡ u *ℤ pos e = ap (λ z. z *ℤ u) den ∙ *ℤ_comm (pos e) u in
    let less' : (u *ℤ pos e) <ℤ q.num = omega (arith, ints, less, turned) in
    let grown = keeps-strict (u *ℤ pos e) q.num d small less' in
    let swapped = swap u d e in
    ⊎_elim (λ h. h) (λ le. let back = keeps n (u *ℤ pos d) e le in absurd (omega (arith, ints, back, swapped, grown, same'))) (decided (u *ℤ pos d) n)

pub gap-over : (x y l : ℤ) (p q : ℕ) → 0 < q → (l *ℤ pos p) <ℤ x → y ≤ℤ (l *ℤ pos q) → pos 0 <ℤ gap x p y q
gap-over x y l p q some h k =
    let first = keeps-strict (l *ℤ pos p) x q some h in
    let second = keeps y (l *ℤ pos q) p k in
    let same = swap l p q in
    omega (arith, ints, first, second, same)

pub gap-under : (x y u : ℤ) (p q : ℕ) → 0 < q → x <ℤ (u *ℤ pos p) → (u *ℤ pos q) ≤ℤ y → gap x p y q <ℤ pos 0
gap-under x y u p q some h k =
    let first = keeps-strict x (u *ℤ pos p) q some h in
    let second = keeps (u *ℤ pos q) y p k in
    let same = swap u p q in
    omega (arith, ints, first, second, same)

pub signs : (a : ℤ) → (a <ℤ pos 0) ⊎ ((a ≡ pos 0) ⊎ (pos 0 <ℤ a))
signs a = ⊎_elim (λ below. inl below) (λ rest. ⊎_elim (λ above. inr (inr above)) (λ le. inr (inl (omega (arith, ints, rest, le)))) (decided (pos 0) a)) (decided a (pos 0))

pub no-product : (a z : ℤ) → a ≡ pos 0 → pos 0 ≤ℤ (a *ℤ z)
no-product a z e =
    let none : a *ℤ z ≡ pos 0 = ap (λ y. y *ℤ z) e ∙ zero-*ℤ z in
    omega (arith, ints, none)

pub no-gap : (a z : ℤ) → z ≡ pos 0 → pos 0 ≤ℤ (a *ℤ z)
no-gap a z e =
    let none = times-zero a z e in
    omega (arith, ints, none)

pub weakly : (z : ℤ) → pos 0 <ℤ z → pos 0 ≤ℤ z
weakly z h = omega (arith, ints)
