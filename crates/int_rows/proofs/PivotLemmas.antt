-- A pivot keeps the solutions of the rows, and solves them for the new basis.
use Rattle.std.proofs.Common.{◌≡◌, ℕ, suc, zero, List, [], ◌∷◌, refl, ap, sym, ◌∙◌, arith, ◌<◌, ◌≤◌, ◌*◌, true, false, Bool, cond, ◌==◌, length, get_or, eq-eqb}
use Rattle.std.specs.Prelude.{ℤ, pos, negsuc, neg_ℤ, nat_abs, ◌-ℤ◌, ◌*ℤ◌, ◌<ℤ◌, ◌↔◌, int_lt}
use Rattle.std.proofs.lemmas.Bool.{eqb-true}
use Rattle.std.specs.Int.{int_div_euclid}
use Rattle.std.proofs.Math.IntN.{*ℤ_comm, *ℤ-zero, zero-*ℤ}
use Rattle.std.proofs.Math.Nat.{mul-le-mul_right}
use Rattle.std.proofs.lemmas.Int.{ints}
use Rattle.base.proofs.Public.{*ℤ-+ℤ, *ℤ_assoc, +ℤ-*ℤ, neg_ℤ-*ℤ}
use Rattle.lin_atoms.specs.Dot.{dot}
use Rattle.lin_atoms.proofs.Public.{exact_quotient}
use Rattle.int_rows.specs.Pivot.{combined, crossed, eliminated, reduced, turned}
use Rattle.int_rows.specs.Rows.{Solves, content, entry, is_primitive}
use Rattle.int_rows.proofs.CombineLemmas.{combined-at, length-combined, reduced-at}
use Rattle.int_rows.proofs.EquationLemmas.{other-entry}
use Rattle.int_rows.proofs.ContentLemmas.{Divides, content-divides, divides-at, reduced-primitive}

-- the product of a combination and a point
pub dot-combined : (p q : ℤ) (xs ys point : List ℤ) → length xs ≡ length ys → dot (combined p q xs ys) point ≡ p *ℤ dot xs point -ℤ q *ℤ dot ys point
dot-combined p q [] [] point e = let first = *ℤ-zero p in let second = *ℤ-zero q in omega (arith, ints, first, second)
dot-combined p q [] (y ∷ ys) point e = absurd (omega arith)
dot-combined p q (x ∷ xs) [] point e = absurd (omega arith)
dot-combined p q (x ∷ xs) (y ∷ ys) [] e = let first = *ℤ-zero p in let second = *ℤ-zero q in omega (arith, ints, first, second)
dot-combined p q (x ∷ xs) (y ∷ ys) (z ∷ point) e =
    let rest = dot-combined p q xs ys point (omega arith) in
    let first = *ℤ-+ℤ p (x *ℤ z) (dot xs point) in
    let second = *ℤ-+ℤ q (y *ℤ z) (dot ys point) in
    let one = *ℤ_assoc p x z in
    let two = *ℤ_assoc q y z in
    let apart = +ℤ-*ℤ (p *ℤ x) (neg_ℤ (q *ℤ y)) z in
    let minus = neg_ℤ-*ℤ (q *ℤ y) z in
    omega (arith, ints, rest, first, second, one, two, apart, minus)

-- the product of a divided row and a point, times the divisor
pub dot-reduced : (g : ℕ) (row point : List ℤ) → 0 < g → Divides g row → dot (reduced (pos g) row) point *ℤ pos g ≡ dot row point
dot-reduced g [] point some h = zero-*ℤ (pos g)
dot-reduced g (a ∷ row) [] some h = zero-*ℤ (pos g)
dot-reduced g (a ∷ row) (z ∷ point) some h =
    let q = int_div_euclid a (pos g) in
    let above : pos 0 <ℤ pos g = omega (arith, ints) in
    let parts = +ℤ-*ℤ (q *ℤ z) (dot (reduced (pos g) row) point) (pos g) in
    let one : (q *ℤ z) *ℤ pos g ≡ a *ℤ z = *ℤ_assoc q z (pos g) ∙ ap (λ y. q *ℤ y) (*ℤ_comm z (pos g)) ∙ sym (*ℤ_assoc q (pos g) z) ∙ ap (λ y. y *ℤ z) (exact_quotient a (pos g) above h.0) in
    let rest = dot-reduced g row point some h.1 in
    omega (arith, ints, parts, one, rest)

-- a product with a positive number is 0, positive and so on as the other is
pub zero-factor : (v : ℤ) (g : ℕ) → 0 < g → v *ℤ pos g ≡ pos 0 → v ≡ pos 0
zero-factor (pos zero) g some h = refl
zero-factor (pos (suc n)) g some h = let le : 1 * g ≤ suc n * g = mul-le-mul_right g (omega arith) in absurd (omega (arith, ints, h, le))
zero-factor (negsuc n) g some h = let le : 1 * g ≤ suc n * g = mul-le-mul_right g (omega arith) in absurd (omega (arith, ints, h, le))

pub positive-factor : (v : ℤ) (g : ℕ) → pos 0 <ℤ (v *ℤ pos g) → pos 0 <ℤ v
positive-factor (pos zero) g h = absurd (omega (arith, ints, h))
positive-factor (pos (suc n)) g h = omega (arith, ints)
positive-factor (negsuc n) g h = absurd (omega (arith, ints, h))

pub positive-product : (k : ℕ) (v : ℤ) → 0 < k → pos 0 <ℤ v → pos 0 <ℤ (pos k *ℤ v)
positive-product k (pos n) some h = let le : 1 * n ≤ k * n = mul-le-mul_right n some in omega (arith, ints, le)
positive-product k (negsuc n) some h = absurd (omega (arith, ints))

pub lt-true : (a b : ℤ) → int_lt a b ≡ true → a <ℤ b
lt-true a b h = grind (arith, ints)

turned-step : (b : ℤ) (n : ℕ) → pos (suc n) *ℤ b ≡ neg_ℤ b *ℤ negsuc n
turned-step b n =
    let first = neg_ℤ-*ℤ b (negsuc n) in
    let second = *ℤ_comm b (negsuc n) in
    let third : neg_ℤ (pos (suc n)) *ℤ b ≡ neg_ℤ (pos (suc n) *ℤ b) = neg_ℤ-*ℤ (pos (suc n)) b in
    let same : neg_ℤ (pos (suc n)) ≡ negsuc n = refl in
    let fourth : negsuc n *ℤ b ≡ neg_ℤ (pos (suc n) *ℤ b) = third in
    omega (arith, ints, first, second, fourth)

-- the factors of a crossing make the column 0
turned-product : (a b : ℤ) → pos (nat_abs a) *ℤ b ≡ turned a b *ℤ a
turned-product (pos n) b = *ℤ_comm (pos n) b ∙ ap (λ z. z *ℤ pos n) (sym (other-entry (int_lt (pos n) (pos 0)) (neg_ℤ b) b (λ t. let less = lt-true (pos n) (pos 0) t in absurd (omega (arith, ints, less)))))
turned-product (negsuc n) b = turned-step b n

-- what a row becomes by a crossing
abbrev pub Crossed : ℕ → List ℤ → List ℤ → List ℤ
Crossed column other row = reduced (pos (content (crossed column row other))) (crossed column row other)

crossed-products : (column : ℕ) (other row point : List ℤ) → length row ≡ length other → 0 < content (crossed column row other)
    → dot (Crossed column other row) point *ℤ pos (content (crossed column row other)) ≡ pos (nat_abs (entry other column)) *ℤ dot row point -ℤ turned (entry other column) (entry row column) *ℤ dot other point
crossed-products column other row point same some =
    dot-reduced (content (crossed column row other)) (crossed column row other) point some (content-divides (crossed column row other) some)
    ∙ dot-combined (pos (nat_abs (entry other column))) (turned (entry other column) (entry row column)) row other point same

pub some-magnitude : (a : ℤ) → (a ≡ pos 0 → ⊥) → 0 < nat_abs a
some-magnitude (pos zero) h = absurd (h refl)
some-magnitude (pos (suc n)) h = omega arith
some-magnitude (negsuc n) h = omega arith

crossed-to : (column : ℕ) (other row point : List ℤ) → length row ≡ length other → 0 < content (crossed column row other) → Solves point other → Solves point row → Solves point (Crossed column other row)
crossed-to column other row point same some solved h =
    let p = pos (nat_abs (entry other column)) in
    let q = turned (entry other column) (entry row column) in
    let whole = crossed-products column other row point same some in
    let first : p *ℤ dot row point ≡ pos 0 = ap (λ z. p *ℤ z) h ∙ *ℤ-zero p in
    let second : q *ℤ dot other point ≡ pos 0 = ap (λ z. q *ℤ z) solved ∙ *ℤ-zero q in
    zero-factor (dot (Crossed column other row) point) (content (crossed column row other)) some (omega (arith, ints, whole, first, second))

crossed-from : (column : ℕ) (other row point : List ℤ) → length row ≡ length other → (entry other column ≡ pos 0 → ⊥) → 0 < content (crossed column row other) → Solves point other → Solves point (Crossed column other row) → Solves point row
crossed-from column other row point same factor some solved h =
    let n = nat_abs (entry other column) in
    let g = content (crossed column row other) in
    let q = turned (entry other column) (entry row column) in
    let whole = crossed-products column other row point same some in
    let first : dot (Crossed column other row) point *ℤ pos g ≡ pos 0 = ap (λ z. z *ℤ pos g) h ∙ zero-*ℤ (pos g) in
    let second : q *ℤ dot other point ≡ pos 0 = ap (λ z. q *ℤ z) solved ∙ *ℤ-zero q in
    let turn = *ℤ_comm (pos n) (dot row point) in
    zero-factor (dot row point) n (some-magnitude (entry other column) factor) (omega (arith, ints, whole, first, second, turn))

solved-cases : (column : ℕ) (other row point : List ℤ) (b : Bool) → length row ≡ length other → (entry other column ≡ pos 0 → ⊥) → 0 < content (crossed column row other) → Solves point other
    → Solves point (cond b row (Crossed column other row)) ↔ Solves point row
solved-cases column other row point true same factor some solved = (λ h. h, λ h. h)
solved-cases column other row point false same factor some solved = (λ h. crossed-from column other row point same factor some solved h, λ h. crossed-to column other row point same some solved h)

-- a row without the column has the same solutions, among those of the other row
pub eliminated-solved : (column : ℕ) (other row point : List ℤ) → length row ≡ length other → (entry other column ≡ pos 0 → ⊥) → 0 < content (crossed column row other) → Solves point other
    → Solves point (eliminated column other row) ↔ Solves point row
eliminated-solved column other row point same factor some solved = solved-cases column other row point (nat_abs (entry row column) == 0) same factor some solved

zero-quotient : (g : ℕ) → 0 < g → int_div_euclid (pos 0) (pos g) ≡ pos 0
zero-quotient g some = ap pos (omega arith)

pub crossed-entry : (column v : ℕ) (other row : List ℤ) → length row ≡ length other → v < length row → 0 < content (crossed column row other)
    → entry (Crossed column other row) v *ℤ pos (content (crossed column row other)) ≡ pos (nat_abs (entry other column)) *ℤ entry row v -ℤ turned (entry other column) (entry row column) *ℤ entry other v
crossed-entry column v other row same h some =
    let p = pos (nat_abs (entry other column)) in
    let q = turned (entry other column) (entry row column) in
    let g = content (crossed column row other) in
    let place : v < length (crossed column row other) = omega (arith, h, length-combined p q row other same) in
    let above : pos 0 <ℤ pos g = omega (arith, ints) in
    let value = combined-at p q row other v (pos 0) h same in
    let divides = divides-at g (crossed column row other) v place (content-divides (crossed column row other) some) in
    let exact = exact_quotient (get_or (crossed column row other) v (pos 0)) (pos g) above divides in
    ap (λ z. z *ℤ pos g) (reduced-at (pos g) p q row other v (pos 0) h same ∙ ap (λ z. int_div_euclid z (pos g)) (sym value)) ∙ exact ∙ value

gone-cases : (column : ℕ) (other row : List ℤ) (b : Bool) → (nat_abs (entry row column) == 0) ≡ b → length row ≡ length other → column < length row → 0 < content (crossed column row other) → entry (cond b row (Crossed column other row)) column ≡ pos 0
gone-cases column other row true e same h some = let none = eqb-true _ _ e in omega (arith, ints, none)
gone-cases column other row false e same h some =
    let a = entry other column in
    let b = entry row column in
    let g = content (crossed column row other) in
    let q = turned a b in
    let place : column < length (crossed column row other) = omega (arith, h, length-combined (pos (nat_abs a)) q row other same) in
    let at = reduced-at (pos g) (pos (nat_abs a)) q row other column (pos 0) h same in
    let value : get_or (crossed column row other) column (pos 0) ≡ pos (nat_abs a) *ℤ b -ℤ q *ℤ a = combined-at (pos (nat_abs a)) q row other column (pos 0) h same in
    let none : pos (nat_abs a) *ℤ b -ℤ q *ℤ a ≡ pos 0 = let turn = turned-product a b in omega (arith, ints, turn) in
    at ∙ ap (λ z. int_div_euclid z (pos g)) none ∙ zero-quotient g some

-- it is 0 in the column
pub eliminated-gone : (column : ℕ) (other row : List ℤ) → length row ≡ length other → column < length row → 0 < content (crossed column row other) → entry (eliminated column other row) column ≡ pos 0
eliminated-gone column other row same h some = gone-cases column other row (nat_abs (entry row column) == 0) refl same h some

primitive-cases : (column : ℕ) (other row : List ℤ) (b : Bool) → is_primitive row ≡ true → 0 < content (crossed column row other) → is_primitive (cond b row (Crossed column other row)) ≡ true
primitive-cases column other row true h some = h
primitive-cases column other row false h some = eq-eqb (content (Crossed column other row)) 1 (reduced-primitive (crossed column row other) some)

-- and primitive
pub eliminated-primitive : (column : ℕ) (other row : List ℤ) → is_primitive row ≡ true → 0 < content (crossed column row other) → is_primitive (eliminated column other row) ≡ true
eliminated-primitive column other row h some = primitive-cases column other row (nat_abs (entry row column) == 0) h some

positive-cases : (column v : ℕ) (other row : List ℤ) (b : Bool) → length row ≡ length other → v < length row → (entry other column ≡ pos 0 → ⊥) → 0 < content (crossed column row other) → entry other v ≡ pos 0 → pos 0 <ℤ entry row v
    → pos 0 <ℤ entry (cond b row (Crossed column other row)) v
positive-cases column v other row true same h factor some none own = own
positive-cases column v other row false same h factor some none own =
    let n = nat_abs (entry other column) in
    let q = turned (entry other column) (entry row column) in
    let g = content (crossed column row other) in
    let whole = crossed-entry column v other row same h some in
    let gone : q *ℤ entry other v ≡ pos 0 = ap (λ z. q *ℤ z) none ∙ *ℤ-zero q in
    let product = positive-product n (entry row v) (some-magnitude (entry other column) factor) own in
    positive-factor (entry (Crossed column other row) v) g (omega (arith, ints, whole, gone, product))

-- its sign stays where the other row is 0
pub eliminated-positive : (column v : ℕ) (other row : List ℤ) → length row ≡ length other → v < length row → (entry other column ≡ pos 0 → ⊥) → 0 < content (crossed column row other) → entry other v ≡ pos 0 → pos 0 <ℤ entry row v
    → pos 0 <ℤ entry (eliminated column other row) v
eliminated-positive column v other row same h factor some none own = positive-cases column v other row (nat_abs (entry row column) == 0) same h factor some none own
