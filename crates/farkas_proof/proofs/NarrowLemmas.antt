-- The sum of a multiple of terms and of other terms, term by term.
use Rattle.std.proofs.Common.{◌≡◌, ◌<◌, ◌≤◌, ◌+◌, ◌^◌, ◌&&◌, ℕ, zero, suc, List, [], ◌∷◌, ◌++◌, map, take, drop, length, get_or, refl, ap, sym, ◌∙◌, arith, Bool, true, false, ◌==◌, FitsSigned, Vec, Global, vec_len}
use Rattle.std.specs.Prelude.{ℤ, nat_abs, neg_ℤ, ◌+ℤ◌, ◌-ℤ◌, ◌*ℤ◌}
use Rattle.std.specs.Int.{int_div_euclid, w64, w128}
use Rattle.std.proofs.Math.Nat.{mul-le-mul}
use Rattle.std.proofs.lemmas.Int.{ints, unsigned_abs-mul}
use Rattle.std.proofs.lemmas.Bool.{eqb-true}
use Rattle.std.proofs.lemmas.List.{append-nil, drop_more, drop_all}
use Rattle.std.specs.List.{list_all}
use Rattle.lin_atoms.specs.Multiples.{is_multiple}
use Rattle.lin_atoms.specs.Algebra.{term_on, with_term, collected, scaled_terms}
use Rattle.lin_atoms.specs.Linear.{Linear, are_ordered, fits, is_linear}
use Rattle.lin_atoms.proofs.Public.{both-ordered, collected-same, ordered-at, ordered-cons, ordered-drop, ordered-weaker, scaled-drop, scaled-ordered, second-first, term_on-whole, with_term-front, with_term-same}
use Rattle.int_rows.specs.Ready.{rounded}
use Rattle.farkas_proof.proofs.SumLemmas.{term_step}

-- what is left begins above a number
left-above : (from : ℕ) (ts : List (ℕ × ℤ)) (i : ℕ) (d : ℕ × ℤ) → i < length ts → are_ordered 0 ts ≡ true → from ≤ (get_or ts i d).0 → are_ordered from (drop i ts) ≡ true
left-above from ts i d h is above =
    let parts = ordered-at ts i d h is in
    ap (are_ordered from) (drop_more ts i d h) ∙ ordered-cons from (get_or ts i d) (drop (i + 1) ts) above parts.whole parts.rest

-- a product is put in among what comes behind it
product-first : (k : ℤ) (a b : List (ℕ × ℤ)) (i j : ℕ) (d : ℕ × ℤ) → i < length a
    → collected (scaled_terms k (drop i a) ++ drop j b) ≡ with_term (get_or a i d).0 (k *ℤ (get_or a i d).1) (collected (scaled_terms k (drop (i + 1) a) ++ drop j b))
product-first k a b i j d h =
    let t = get_or a i d in
    ap (λ (xs : List (ℕ × ℤ)). collected (xs ++ drop j b)) (scaled-drop k a i d h)
    ∙ term_step t.0 (k *ℤ t.1) (scaled_terms k (drop (i + 1) a)) (drop j b) (nat_abs (k *ℤ t.1) == 0) refl

pub ours-next : (k : ℤ) (a b : List (ℕ × ℤ)) (i j : ℕ) (d : ℕ × ℤ) → i < length a → j < length b → are_ordered 0 a ≡ true → are_ordered 0 b ≡ true → (get_or a i d).0 < (get_or b j d).0
    → collected (scaled_terms k (drop i a) ++ drop j b) ≡ term_on (get_or a i d).0 (k *ℤ (get_or a i d).1) (collected (scaled_terms k (drop (i + 1) a) ++ drop j b))
ours-next k a b i j d h g is os less =
    let t = get_or a i d in
    let rest = scaled_terms k (drop (i + 1) a) in
    let parts = ordered-at a i d h is in
    let behind = both-ordered (t.0 + 1) rest (drop j b) (scaled-ordered k (t.0 + 1) (drop (i + 1) a) parts.rest) (left-above (t.0 + 1) b j d g os (omega arith)) in
    product-first k a b i j d h ∙ with_term-front t.0 (k *ℤ t.1) (collected (rest ++ drop j b)) behind

pub theirs-next : (k : ℤ) (a b : List (ℕ × ℤ)) (i j : ℕ) (d : ℕ × ℤ) → i < length a → j < length b → are_ordered 0 a ≡ true → are_ordered 0 b ≡ true → (get_or b j d).0 < (get_or a i d).0
    → collected (scaled_terms k (drop i a) ++ drop j b) ≡ term_on (get_or b j d).0 (get_or b j d).1 (collected (scaled_terms k (drop i a) ++ drop (j + 1) b))
theirs-next k a b i j d h g is os less =
    let u = get_or b j d in
    let ours = scaled_terms k (drop i a) in
    let parts = ordered-at b j d g os in
    ap (λ (ys : List (ℕ × ℤ)). collected (ours ++ ys)) (drop_more b j d g)
    ∙ second-first u ours (drop (j + 1) b) (scaled-ordered k (u.0 + 1) (drop i a) (left-above (u.0 + 1) a i d h is (omega arith))) parts.whole parts.rest
    ∙ sym (term_on-whole u.0 u.1 (collected (ours ++ drop (j + 1) b)) parts.whole)

pub both-next : (k : ℤ) (a b : List (ℕ × ℤ)) (i j : ℕ) (d : ℕ × ℤ) → i < length a → j < length b → are_ordered 0 a ≡ true → are_ordered 0 b ≡ true → (get_or a i d).0 ≡ (get_or b j d).0
    → collected (scaled_terms k (drop i a) ++ drop j b) ≡ term_on (get_or a i d).0 (k *ℤ (get_or a i d).1 +ℤ (get_or b j d).1) (collected (scaled_terms k (drop (i + 1) a) ++ drop (j + 1) b))
both-next k a b i j d h g is os same =
    let t = get_or a i d in
    let u = get_or b j d in
    let rest = scaled_terms k (drop (i + 1) a) in
    let ours = ordered-at a i d h is in
    let theirs = ordered-at b j d g os in
    let above = scaled-ordered k (u.0 + 1) (drop (i + 1) a) (ordered-weaker (u.0 + 1) (t.0 + 1) (drop (i + 1) a) (omega arith) ours.rest) in
    product-first k a b i j d h
    ∙ ap (λ (ys : List (ℕ × ℤ)). with_term t.0 (k *ℤ t.1) (collected (rest ++ ys))) (drop_more b j d g)
    ∙ ap (with_term t.0 (k *ℤ t.1)) (second-first u rest (drop (j + 1) b) above theirs.whole theirs.rest)
    ∙ with_term-same t.0 (k *ℤ t.1) u (collected (rest ++ drop (j + 1) b)) same

-- where one list has ended, the other is the sum
pub ours-over : (k : ℤ) (a b : List (ℕ × ℤ)) (i j : ℕ) → length a ≤ i → are_ordered 0 b ≡ true → collected (scaled_terms k (drop i a) ++ drop j b) ≡ scaled_terms k (drop i a) ++ drop j b
ours-over k a b i j h os = rw (drop_all i a h) (collected-same 0 (drop j b) (ordered-drop 0 j b os))

pub theirs-over : (k : ℤ) (a b : List (ℕ × ℤ)) (i j : ℕ) → length b ≤ j → are_ordered 0 a ≡ true → collected (scaled_terms k (drop i a) ++ drop j b) ≡ scaled_terms k (drop i a) ++ drop j b
theirs-over k a b i j h is = rw (drop_all j b h, append-nil (scaled_terms k (drop i a))) (collected-same 0 (scaled_terms k (drop i a)) (scaled-ordered k 0 (drop i a) (ordered-drop 0 i a is)))

-- coefficients that are divided, one after another
pub divided-so_far : (f : ℕ × ℤ → ℕ × ℤ) (ts : List (ℕ × ℤ)) (i : ℕ) (d : ℕ × ℤ) → i < length ts → map f (take (i + 1) ts) ≡ map f (take i ts) ++ f (get_or ts i d) ∷ []
divided-so_far f [] i d h = absurd (omega arith)
divided-so_far f (t ∷ ts) zero d h = refl
divided-so_far f (t ∷ ts) (suc i) d h =
    let more : suc i + 1 ≡ suc (i + 1) = omega arith in
    ap (λ n. map f (take n (t ∷ ts))) more ∙ ap (λ (us : List (ℕ × ℤ)). f t ∷ us) (divided-so_far f ts i d (omega arith))

-- the term at the index is divided, so the rest decides
pub divided-next : (d : ℤ) (ts : List (ℕ × ℤ)) (i : ℕ) (e : ℕ × ℤ) → i < length ts → is_multiple d (get_or ts i e).1 ≡ true
    → list_all (λ t. is_multiple d t.1) (drop i ts) ≡ list_all (λ t. is_multiple d t.1) (drop (i + 1) ts)
divided-next d ts i e h whole =
    ap (λ (us : List (ℕ × ℤ)). list_all (λ t. is_multiple d t.1) us) (drop_more ts i e h) ∙ ap (λ b. b && list_all (λ t. is_multiple d t.1) (drop (i + 1) ts)) whole

-- a number that was lessened, with the other sign
pub negated-less : (m n p : ℤ) → m ≡ n -ℤ p → neg_ℤ m ≡ p +ℤ neg_ℤ n
negated-less m n p h = omega (arith, ints)

abbrev linear : List (ℕ × ℤ) → ℤ → Linear
linear ts k = record { terms = ts; constant = k }

pub same-parts : (ts us : List (ℕ × ℤ)) (j k : ℤ) → ts ≡ us → j ≡ k → linear ts j ≡ linear us k
same-parts ts us j k e f = ap (λ (vs : List (ℕ × ℤ)). linear vs j) e ∙ ap (linear us) f

-- the rounded form, from its parts
pub rounded-is : (d : ℤ) (ts : List (ℕ × ℤ)) (n : ℤ) (terms : List (ℕ × ℤ)) (k : ℤ) → terms ≡ map (λ t. (t.0, int_div_euclid t.1 d)) ts → k ≡ neg_ℤ (int_div_euclid n d) → record { terms = terms; constant = k } ≡ rounded d (record { terms = ts; constant = neg_ℤ n })
rounded-is d ts n terms k e f =
    let twice : n ≡ neg_ℤ (neg_ℤ n) = omega (arith, ints) in
    same-parts terms (map (λ t. (t.0, int_div_euclid t.1 d)) ts) k (neg_ℤ (int_div_euclid (neg_ℤ (neg_ℤ n)) d)) e (f ∙ ap (λ z. neg_ℤ (int_div_euclid z d)) twice)

-- products of numbers with 64 bits, and sums and differences with one
product-abs : (k a : ℤ) → FitsSigned w64 k → FitsSigned w64 a → nat_abs (k *ℤ a) ≤ 2 ^ 126
product-abs k a f g =
    let p : nat_abs k ≤ 2 ^ 63 = omega (arith, ints, f.sfits) in
    let q : nat_abs a ≤ 2 ^ 63 = omega (arith, ints, g.sfits) in
    omega (arith, unsigned_abs-mul k a, mul-le-mul p q)

pub product-fits : (k a p q : ℤ) → FitsSigned w64 k → FitsSigned w64 a → p ≡ k → q ≡ a → FitsSigned w128 (p *ℤ q)
product-fits k a p q f g is same =
    let small : nat_abs (p *ℤ q) ≤ 2 ^ 126 = rw (is, same) (product-abs k a f g) in
    omega (arith, ints, small)

pub sum-fits : (k a n p m : ℤ) → FitsSigned w64 k → FitsSigned w64 a → FitsSigned w64 n → p ≡ k *ℤ a → m ≡ n → FitsSigned w128 (p +ℤ m)
sum-fits k a n p m f g h is same =
    let small : nat_abs p ≤ 2 ^ 126 = rw is (product-abs k a f g) in
    omega (arith, ints, small, h.sfits, same)

pub rest-fits : (k a n p m : ℤ) → FitsSigned w64 k → FitsSigned w64 a → FitsSigned w64 n → p ≡ k *ℤ a → m ≡ n → FitsSigned w128 (m -ℤ p)
rest-fits k a n p m f g h is same =
    let small : nat_abs p ≤ 2 ^ 126 = rw is (product-abs k a f g) in
    omega (arith, ints, small, h.sfits, same)

first-true : (a b : Bool) → a && b ≡ true → a ≡ true
first-true true b h = refl
first-true false b h = absurd (cc)

pub linear-ordered : (lin : Linear) → is_linear lin ≡ true → are_ordered 0 lin.terms ≡ true
linear-ordered lin h = first-true (are_ordered 0 lin.terms) (fits lin) h

-- a list that says that it has no item
no-length : (ts : List (ℕ × ℤ)) → length ts ≡ 0 → ts ≡ []
no-length [] h = refl
no-length (t ∷ ts) h = absurd (cc)

pub no-items : (v : Vec (ℕ × ℤ) Global) → true ≡ (vec_len v == 0) → v.items ≡ []
no-items v h = no-length v.items (sym v.ok.0 ∙ eqb-true (vec_len v) 0 (sym h))
