-- Combinations of rows, entry by entry.
use Rattle.std.proofs.Common.{◌≡◌, ℕ, suc, zero, List, [], ◌∷◌, ◌++◌, refl, ap, sym, ◌∙◌, arith, ◌<◌, ◌≤◌, ◌+◌, ◌^◌, true, false, Bool, cond, ◌==◌, ◌&&◌, length, get_or, take, drop, set, subst, FitsSigned}
use Rattle.std.specs.Prelude.{ℤ, pos, nat_abs, ◌-ℤ◌, ◌*ℤ◌}
use Rattle.std.specs.Int.{int_div_euclid, w128}
use Rattle.std.proofs.lemmas.Bool.{eqb-true, ltb-true}
use Rattle.std.proofs.lemmas.Int.{ints}
use Rattle.std.proofs.lemmas.List.{append-nil, append_assoc, drop_more, drop_all, get_or_at, length-map, length-take-le, set_at, take_all, take_more}
use Rattle.std.proofs.lemmas.Bool.Decides.{nat_tests}
use Rattle.lin_atoms.specs.Linear.{is_short}
use Rattle.lin_atoms.proofs.Public.{both_true}
use Rattle.int_rows.specs.Pivot.{combined, crossed, eliminated, reduced, turned}
use Rattle.int_rows.specs.Rows.{are_short, content, entry}

-- each entry has its bound
pub small-at : (row : List ℤ) (i : ℕ) (d : ℤ) → i < length row → are_short row ≡ true → nat_abs (get_or row i d) < 2 ^ 63
small-at [] i d h is = absurd (omega arith)
small-at (a ∷ row) zero d h is = ltb-true _ _ (both_true (is_short a) _ is).0
small-at (a ∷ row) (suc i) d h is = small-at row i d (omega arith) (both_true (is_short a) _ is).1

pub length-combined : (p q : ℤ) (xs ys : List ℤ) → length xs ≡ length ys → length (combined p q xs ys) ≡ length xs
length-combined p q [] ys e = refl
length-combined p q (x ∷ xs) [] e = absurd (omega arith)
length-combined p q (x ∷ xs) (y ∷ ys) e = ap suc (length-combined p q xs ys (omega arith))

pub combined-at : (p q : ℤ) (xs ys : List ℤ) (i : ℕ) (d : ℤ) → i < length xs → length xs ≡ length ys → get_or (combined p q xs ys) i d ≡ p *ℤ get_or xs i d -ℤ q *ℤ get_or ys i d
combined-at p q [] ys i d h e = absurd (omega arith)
combined-at p q (x ∷ xs) [] i d h e = absurd (omega arith)
combined-at p q (x ∷ xs) (y ∷ ys) zero d h e = refl
combined-at p q (x ∷ xs) (y ∷ ys) (suc i) d h e = combined-at p q xs ys i d (omega arith) (omega arith)

pub length-reduced : (g p q : ℤ) (xs ys : List ℤ) → length xs ≡ length ys → length (reduced g (combined p q xs ys)) ≡ length xs
length-reduced g p q xs ys e = length-map (combined p q xs ys) (λ a. int_div_euclid a g) ∙ length-combined p q xs ys e

pub reduced-at : (g p q : ℤ) (xs ys : List ℤ) (i : ℕ) (d : ℤ) → i < length xs → length xs ≡ length ys → get_or (reduced g (combined p q xs ys)) i d ≡ int_div_euclid (p *ℤ get_or xs i d -ℤ q *ℤ get_or ys i d) g
reduced-at g p q [] ys i d h e = absurd (omega arith)
reduced-at g p q (x ∷ xs) [] i d h e = absurd (omega arith)
reduced-at g p q (x ∷ xs) (y ∷ ys) zero d h e = refl
reduced-at g p q (x ∷ xs) (y ∷ ys) (suc i) d h e = reduced-at g p q xs ys i d (omega arith) (omega arith)

-- one entry of the rest has room
pub small-more : (row : List ℤ) (i : ℕ) (d : ℤ) → i < length row → are_short (drop i row) ≡ (is_short (get_or row i d) && are_short (drop (i + 1) row))
small-more row i d h = ap are_short (drop_more row i d h)

pub small-end : (row : List ℤ) (i : ℕ) → length row ≤ i → are_short (drop i row) ≡ true
small-end row i h = ap are_short (drop_all i row h)

pub small-test : (a : ℤ) → nat_abs a < 2 ^ 63 → is_short a ≡ true
small-test a h = grind (arith, nat_tests)

-- a list that is written from the front: what is read, what is written, and the end
pub rest-read : (whole old : List ℤ) (i : ℕ) (d : ℤ) → i < length old → length whole ≡ length old → get_or (take i whole ++ drop i old) i d ≡ get_or old i d
rest-read whole old i d h e =
    ap (λ rest. get_or (take i whole ++ rest) i d) (drop_more old i d h) ∙ get_or_at (take i whole) (get_or old i d) (drop (i + 1) old) d i (length-take-le i whole (omega arith))

pub rest-written : (whole old : List ℤ) (i : ℕ) (v d : ℤ) → i < length old → length whole ≡ length old → v ≡ get_or whole i d → set (take i whole ++ drop i old) i v ≡ take (i + 1) whole ++ drop (i + 1) old
rest-written whole old i v d h e is =
    ap (λ rest. set (take i whole ++ rest) i v) (drop_more old i d h)
    ∙ set_at (take i whole) (get_or old i d) (drop (i + 1) old) v i (length-take-le i whole (omega arith))
    ∙ ap (λ x. take i whole ++ x ∷ drop (i + 1) old) is
    ∙ sym (append_assoc (take i whole) (get_or whole i d ∷ []) (drop (i + 1) old))
    ∙ ap (λ front. front ++ drop (i + 1) old) (sym (take_more whole i d (omega arith)))

pub written-all : (whole old : List ℤ) (i : ℕ) → length whole ≡ length old → length old ≤ i → take i whole ++ drop i old ≡ whole
written-all whole old i e h =
    ap (λ rest. take i whole ++ rest) (drop_all i old h) ∙ append-nil (take i whole) ∙ take_all i whole (omega arith)

by-test : (b : Bool) (row whole : List ℤ) → (b ≡ true → ⊥) → cond b row whole ≡ whole
by-test true row whole h = absurd (h refl)
by-test false row whole h = refl

otherwise : (b : ℤ) (row whole : List ℤ) → (b ≡ pos 0 → ⊥) → cond (nat_abs b == 0) row whole ≡ whole
otherwise b row whole some = let none : nat_abs b ≡ 0 → ⊥ = λ e. some (omega (arith, ints)) in by-test (nat_abs b == 0) row whole (λ t. none (eqb-true _ _ t))

-- what a row becomes where its entry isn't 0
pub eliminated-some : (column : ℕ) (other row : List ℤ) (p q g : ℤ) → (entry row column ≡ pos 0 → ⊥) → p ≡ pos (nat_abs (entry other column)) → q ≡ turned (entry other column) (entry row column) → g ≡ pos (content (combined p q row other))
    → reduced g (combined p q row other) ≡ eliminated column other row
eliminated-some column other row p q g some p_is q_is g_is =
    let same : combined p q row other ≡ crossed column row other = ap (λ p. combined p q row other) p_is ∙ ap (λ q. combined (pos (nat_abs (entry other column))) q row other) q_is in
    let divisor : g ≡ pos (content (crossed column row other)) = g_is ∙ ap (λ z. pos (content z)) same in
    ap (λ g. reduced g (combined p q row other)) divisor ∙ ap (reduced (pos (content (crossed column row other)))) same ∙ sym (otherwise (entry row column) row (reduced (pos (content (crossed column row other))) (crossed column row other)) some)

-- a difference of two numbers below 2^126
pub difference-small : (a b : ℤ) → nat_abs a < 2 ^ 126 → nat_abs b < 2 ^ 126 → nat_abs (a -ℤ b) < 2 ^ 127
difference-small a b h g = omega (arith, ints, h, g)

pub difference-fits : (a b : ℤ) → nat_abs a < 2 ^ 126 → nat_abs b < 2 ^ 126 → FitsSigned w128 (a -ℤ b)
difference-fits a b h g = omega (arith, ints, h, g)

-- an entry of the other row
pub other-small : (xs ys : List ℤ) (i : ℕ) (d : ℤ) → i < length xs → length xs ≡ length ys → are_short ys ≡ true → nat_abs (get_or ys i d) < 2 ^ 63
other-small xs ys i d h same is = small-at ys i d (subst (λ n. i < n) same h) is
