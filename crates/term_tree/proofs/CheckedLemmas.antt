-- What is added, multiplied or taken away, each result where it fits.
use Rattle.std.proofs.Common.{◌≡◌, ◌&&◌, ℕ, ◌+◌, ◌-◌, ◌<◌, ◌≤◌, List, [], ◌∷◌, length, get_or, take, drop, map, Bool, true, false, refl, arith, ap, sym, ◌∙◌, Option, Some, None, if◌then◌else◌, fold, ◌==◌}
use Rattle.std.specs.Prelude.{ℤ, neg_ℤ, ◌-ℤ◌}
use Rattle.std.specs.List.{list_all}
use Rattle.std.proofs.lemmas.List.{at_drop_more, at_drop_all, take_all}
use Rattle.term_tree.specs.declared.scalar.Value.{Value}
use Rattle.term_tree.specs.Operators.{difference_of, integer, on_two}
use Rattle.term_tree.specs.Width.{fits_128, prefix_differences, prefix_results, checked, checked_fold}

-- a result that fits is where the rest begins, and one that doesn't ends all
fits : (f : ℤ → ℤ → ℤ) (b : Bool) (x m : ℤ) (ns : List ℤ) → Some m ≡ (if b then Some x else None)
    → (if b && list_all fits_128 (prefix_results f x ns) then Some (fold f x ns) else None) ≡ checked_fold f m ns
fits f true x m ns e = let same : x ≡ m = cc in ap (λ (k : ℤ). checked_fold f k ns) same
fits f false x m ns e = absurd (cc)

is_wide : (f : ℤ → ℤ → ℤ) (b : Bool) (x : ℤ) (ns : List ℤ) → None ≡ (if b then Some x else None)
    → (if b && list_all fits_128 (prefix_results f x ns) then Some (fold f x ns) else None) ≡ None
is_wide f true x ns e = absurd (cc)
is_wide f false x ns e = refl

-- what is left is one less
pub checked_more : (f : ℤ → ℤ → ℤ) (values : List Value) (i : ℕ) (d : Value) (total n m : ℤ) (whole : Option ℤ) → i < length values → n ≡ integer (get_or values i d)
    → Some m ≡ (if fits_128 (f total n) then Some (f total n) else None) → checked_fold f total (map integer (drop i values)) ≡ whole → checked_fold f m (map integer (drop (i + 1) values)) ≡ whole
checked_more f values i d total n m whole h is made told =
    let rest = map integer (drop (i + 1) values) in
    sym (fits f (fits_128 (f total n)) (f total n) m rest made)
    ∙ ap (λ (k : ℤ). checked_fold f total (k ∷ rest)) is
    ∙ sym (at_drop_more (λ (vs : List Value). checked_fold f total (map integer vs)) values i d h) ∙ told

pub checked_stop : (f : ℤ → ℤ → ℤ) (values : List Value) (i : ℕ) (d : Value) (total n : ℤ) (whole : Option ℤ) → i < length values → n ≡ integer (get_or values i d)
    → None ≡ (if fits_128 (f total n) then Some (f total n) else None) → checked_fold f total (map integer (drop i values)) ≡ whole → None ≡ whole
checked_stop f values i d total n whole h is none told =
    let rest = map integer (drop (i + 1) values) in
    sym (is_wide f (fits_128 (f total n)) (f total n) rest none)
    ∙ ap (λ (k : ℤ). checked_fold f total (k ∷ rest)) is
    ∙ sym (at_drop_more (λ (vs : List Value). checked_fold f total (map integer vs)) values i d h) ∙ told

pub checked_end : (f : ℤ → ℤ → ℤ) (values : List Value) (i : ℕ) (total : ℤ) (whole : Option ℤ) → length values ≤ i → checked_fold f total (map integer (drop i values)) ≡ whole → Some total ≡ whole
checked_end f values i total whole h told = sym (at_drop_all (λ (vs : List Value). checked_fold f total (map integer vs)) values i h) ∙ told

-- what is given for two numbers, one, and more
pub on_first_two : (f : ℤ → ℤ → ℤ) (values : List Value) (d : Value) (m n : ℤ) → 2 ≤ length values → m ≡ integer (get_or values 0 d) → n ≡ integer (get_or values 1 d) → f m n ≡ on_two f (map integer values)
on_first_two f [] d m n h e g = absurd (omega arith)
on_first_two f (v ∷ []) d m n h e g = absurd (omega arith)
on_first_two f (v ∷ w ∷ vs) d m n h e g = ap (λ (a : ℤ). f a n) e ∙ ap (f (integer v)) g

alone : (b : Bool) (x : ℤ) → (if b then Some x else None) ≡ (if b && true then Some x else None)
alone true x = refl
alone false x = refl

pub negated_one : (values : List Value) (d : Value) (n : ℤ) → length values ≡ 1 → n ≡ integer (get_or values 0 d)
    → checked (neg_ℤ n) ≡ (if list_all fits_128 (prefix_differences (map integer values)) then Some (difference_of (map integer values)) else None)
negated_one [] d n h e = absurd (omega arith)
negated_one (v ∷ []) d n h e = ap (λ (a : ℤ). checked (neg_ℤ a)) e ∙ alone (fits_128 (neg_ℤ (integer v))) (neg_ℤ (integer v))
negated_one (v ∷ w ∷ vs) d n h e = absurd (omega arith)

pub reduced_more : (values : List Value) (d : Value) (first : ℤ) → false ≡ (length values == 0) → (length values ≡ 1 → ⊥) → first ≡ integer (get_or values 0 d)
    → checked_fold (λ a n. a -ℤ n) first (map integer (take (length values - 1) (drop 1 values))) ≡ (if list_all fits_128 (prefix_differences (map integer values)) then Some (difference_of (map integer values)) else None)
reduced_more [] d first some more e = absurd (cc)
reduced_more (v ∷ []) d first some more e = absurd (more refl)
reduced_more (v ∷ w ∷ vs) d first some more e =
    ap (λ (rest : List Value). checked_fold (λ x y. x -ℤ y) first (map integer rest)) (take_all (length (v ∷ w ∷ vs) - 1) (w ∷ vs) (omega arith)) ∙ ap (λ (a : ℤ). checked_fold (λ x y. x -ℤ y) a (map integer (w ∷ vs))) e
