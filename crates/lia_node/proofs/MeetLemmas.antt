-- What is said of one variable changes its bounds alone.
use Rattle.std.proofs.Common.{◌≡◌, ℕ, zero, suc, List, [], ◌∷◌, ◌++◌, refl, ap, ap₂, sym, ◌∙◌, arith, ◌<◌, ◌≤◌, ◌+◌, true, false, Bool, ◌&&◌, cond, ◌==◌, length, map, reverse, set, get_or, append_assoc}
use Rattle.std.specs.Prelude.{ℤ, Option, nat_lt, not, nat_abs, pos}
use Rattle.std.specs.List.{list_all, range_with_len}
use Rattle.std.proofs.lemmas.Bool.{and_from, eqb-true, ltb-true}
use Rattle.std.proofs.lemmas.List.{length-map, map-append, reverse-append}
use Rattle.std.proofs.lemmas.List.FromFn.{length-range_with_len}
use Rattle.std.proofs.lemmas.List.Elements.{filter-append}
use Rattle.lin_atoms.proofs.Public.{both_true}
use Rattle.lin_atoms.specs.Linear.{Linear}
use Rattle.int_rows.specs.Node.{coefficient, greater, has_row, in_rows, is_on, lesser, lower_on, upper_on}
use Rattle.int_rows.specs.declared.bounds.Bounded.{Bounded}
use Rattle.lia_node.specs.machinery.Columns.{is_said_below, sides_fit, sides_on}

map-agree : {X : Type 0} (f g : ℕ → X) (k n : ℕ) → ((v : ℕ) → k ≤ v → f v ≡ g v) → map f (range_with_len k n) ≡ map g (range_with_len k n)
map-agree f g k zero same = refl
map-agree f g k (suc n) same = ap₂ (λ x xs. x ∷ xs) (same k (omega arith)) (map-agree f g (k + 1) n (λ v le. same v (omega (arith, le))))

set-range : {X : Type 0} (f g : ℕ → X) (k n i : ℕ) (x : X) → i < n → x ≡ f (k + i) → ((v : ℕ) → (v ≡ k + i → ⊥) → f v ≡ g v) → set (map g (range_with_len k n)) i x ≡ map f (range_with_len k n)
set-range f g k zero i x less is same = absurd (omega (arith, less))
set-range f g k (suc n) zero x less is same = ap₂ (λ y ys. y ∷ ys) (is ∙ ap f (omega arith)) (map-agree g f (k + 1) n (λ v le. sym (same v (λ e. omega (arith, le, e)))))
set-range f g k (suc n) (suc i) x less is same =
    ap₂ (λ y ys. y ∷ ys) (sym (same k (λ e. omega (arith, e)))) (set-range f g (k + 1) n i x (omega (arith, less)) (is ∙ ap f (omega arith)) (λ v other. same v (λ e. other (omega (arith, e)))))

at-range : {X : Type 0} (f : ℕ → X) (k n i : ℕ) (d : X) → i < n → get_or (map f (range_with_len k n)) i d ≡ f (k + i)
at-range f k zero i d less = absurd (omega (arith, less))
at-range f k (suc n) zero d less = ap f (omega arith)
at-range f k (suc n) (suc i) d less = at-range f (k + 1) n i d (omega (arith, less)) ∙ ap f (omega arith)

same-test : (x v : ℕ) (b : Bool) → (x == v) ≡ b → (v ≡ x → ⊥) → b ≡ false
same-test x v true e other = absurd (other (sym (eqb-true x v e)))
same-test x v false e other = refl

off-step : (a : ℤ) (b : Bool) → b ≡ false → not (nat_abs (cond b a (pos 0)) == 0) ≡ false
off-step a true e = absurd (cc)
off-step a false e = refl

-- a form of one variable says nothing of another
on-other : (b : Bounded) (x v : ℕ) (a : ℤ) → b.form.terms ≡ (x, a) ∷ [] → (v ≡ x → ⊥) → is_on v b ≡ false
on-other b x v a is other =
    ap (λ (ts : List (ℕ × ℤ)). (length ts == 1) && not (nat_abs (coefficient ts v) == 0)) is ∙ off-step a (x == v) (same-test x v (x == v) refl other)

sides-same : (b : Bounded) (bs : List Bounded) (v : ℕ) → is_on v b ≡ false → sides_on (b ∷ bs) v ≡ sides_on bs v
sides-same b bs v off = rw off refl

abbrev Both : Type 0
Both = Option ℤ × Option ℤ

pub length-bounds : (bs : List Bounded) (n : ℕ) → length (map (sides_on bs) (range_with_len 0 n)) ≡ n
length-bounds bs n = length-map (range_with_len 0 n) (sides_on bs) ∙ length-range_with_len 0 n

-- what is said of one variable
pub one-met : (b : Bounded) (bs : List Bounded) (n x : ℕ) (a : ℤ) (old new : List Both) (was now d : Both) → b.form.terms ≡ (x, a) ∷ [] → x < length old → was ≡ get_or old x d → now ≡ (greater (lower_on x b) was.0, lesser (upper_on x b) was.1)
    → new ≡ set old x now → old ≡ map (sides_on bs) (range_with_len 0 n) → new ≡ map (sides_on (b ∷ bs)) (range_with_len 0 n)
one-met b bs n x a old new was now d is there at met put all =
    let long = ap (λ (l : List Both). length l) all ∙ length-bounds bs n in
    let less : x < n = omega (arith, long, there) in
    let here : was ≡ sides_on bs x = at ∙ ap (λ (l : List Both). get_or l x d) all ∙ at-range (sides_on bs) 0 n x d less ∙ ap (sides_on bs) (omega arith) in
    let made : now ≡ sides_on (b ∷ bs) (0 + x) = met ∙ ap (λ (s : Both). (greater (lower_on x b) s.0, lesser (upper_on x b) s.1)) here ∙ ap (sides_on (b ∷ bs)) (omega arith) in
    put ∙ ap (λ (l : List Both). set l x now) all
    ∙ set-range (sides_on (b ∷ bs)) (sides_on bs) 0 n x now less made (λ v other. sides-same b bs v (on-other b x v a is (λ e. other (omega (arith, e)))))

pub lone-below : (b : Bounded) (n x : ℕ) (a : ℤ) → b.form.terms ≡ (x, a) ∷ [] → is_said_below n b ≡ true → x < n
lone-below b n x a is below = ltb-true x n (both_true (nat_lt x n) true (sym (ap (list_all (λ (t : ℕ × ℤ). nat_lt t.0 n)) is) ∙ below)).0

pub all-set : {X : Type 0} (p : X → Bool) (xs : List X) (i : ℕ) (x : X) → list_all p xs ≡ true → p x ≡ true → list_all p (set xs i x) ≡ true
all-set p [] i x all one = refl
all-set p (y ∷ xs) zero x all one = and_from _ _ one (both_true (p y) _ all).1
all-set p (y ∷ xs) (suc i) x all one = let both = both_true (p y) _ all in and_from _ _ both.0 (all-set p xs i x both.1 one)

pub none-fit : (k n : ℕ) → list_all sides_fit (map (sides_on []) (range_with_len k n)) ≡ true
none-fit k zero = refl
none-fit k (suc n) = none-fit (k + 1) n

abbrev form_of : Bounded → Linear
form_of b = b.form

short-reverse : (b : Bounded) (test : Bool) → has_row b ≡ test → reverse (map form_of (in_rows (b ∷ []))) ≡ map form_of (in_rows (b ∷ []))
short-reverse b true e = rw e refl
short-reverse b false e = rw e refl

-- forms are taken from the last on
pub forms-more : (old new : List Bounded) (b : Bounded) (made more : List Linear) → old ≡ new ++ b ∷ [] → more ≡ made ++ map (λ c. c.form) (in_rows (b ∷ [])) → map (λ c. c.form) (in_rows new) ++ reverse more ≡ map (λ c. c.form) (in_rows old) ++ reverse made
forms-more old new b made more left is =
    let one = map form_of (in_rows (b ∷ [])) in
    let front = map form_of (in_rows new) in
    ap (λ (l : List Linear). front ++ l) (ap reverse is ∙ reverse-append made one ∙ ap (λ (l : List Linear). l ++ reverse made) (short-reverse b (has_row b) refl))
    ∙ sym (append_assoc front one (reverse made))
    ∙ ap (λ (l : List Linear). l ++ reverse made) (sym (map-append form_of (in_rows new) (in_rows (b ∷ []))) ∙ ap (map form_of) (sym (filter-append has_row new (b ∷ [])) ∙ ap in_rows (sym left)))
