-- Steps of a difference of two lists of terms.
use Rattle.std.proofs.Common.{◌≡◌, ℕ, suc, zero, List, [], ◌∷◌, ◌++◌, refl, ap, sym, ◌∙◌, arith, ◌<◌, ◌≤◌, ◌+◌, ◌^◌, ◌&&◌, true, false, Bool, cond, ◌==◌, length, drop, get_or, append_assoc}
use Rattle.std.specs.Prelude.{ℤ, pos, nat_abs, neg_ℤ, ◌+ℤ◌, ◌-ℤ◌, nat_lt}
use Rattle.std.proofs.lemmas.Int.{ints}
use Rattle.std.proofs.lemmas.Bool.{ltb-true}
use Rattle.std.proofs.lemmas.Bool.Decides.{nat_tests}
use Rattle.std.proofs.lemmas.List.{drop_more, drop_all}
use Rattle.lin_atoms.specs.Linear.{Linear, are_ordered, are_short, is_short}
use Rattle.lin_atoms.specs.Algebra.{collected, negated_terms, term_on}
use Rattle.lin_atoms.proofs.LinearLemmas.{are_ordered-negated, are_short-negated, both_true}
use Rattle.lin_atoms.proofs.MergeLemmas.{both-first, ours-ended, ours-first, theirs-ended, theirs-first}
use Rattle.linear_terms.specs.Linear.{is_narrow, less}

pub length-negated : (ts : List (ℕ × ℤ)) → length (negated_terms ts) ≡ length ts
length-negated [] = refl
length-negated (t ∷ ts) = ap suc (length-negated ts)

pub negated-at : (ts : List (ℕ × ℤ)) (j : ℕ) (d : ℕ × ℤ) → j < length ts → get_or (negated_terms ts) j d ≡ ((get_or ts j d).0, neg_ℤ (get_or ts j d).1)
negated-at [] j d h = absurd (omega arith)
negated-at (t ∷ ts) zero d h = refl
negated-at (t ∷ ts) (suc j) d h = negated-at ts j d (omega arith)

pub turned-more : (ts : List (ℕ × ℤ)) (j : ℕ) (d : ℕ × ℤ) → j < length ts → drop j (negated_terms ts) ≡ ((get_or ts j d).0, neg_ℤ (get_or ts j d).1) ∷ drop (j + 1) (negated_terms ts)
turned-more ts j d h = drop_more (negated_terms ts) j d (omega (arith, length-negated ts)) ∙ ap (λ (t : ℕ × ℤ). t ∷ drop (j + 1) (negated_terms ts)) (negated-at ts j d h)

name-at : (ts : List (ℕ × ℤ)) (j : ℕ) (d : ℕ × ℤ) → j < length ts → (get_or (negated_terms ts) j d).0 ≡ (get_or ts j d).0
name-at ts j d h = ap (λ (t : ℕ × ℤ). t.0) (negated-at ts j d h)

minus-is : (a b : ℤ) → a +ℤ neg_ℤ b ≡ a -ℤ b
minus-is a b = omega (arith, ints)

pub ours-before : (a b : List (ℕ × ℤ)) (i j : ℕ) (d : ℕ × ℤ) → i < length a → j < length b → are_ordered 0 a ≡ true → are_ordered 0 b ≡ true → (get_or a i d).0 < (get_or b j d).0
    → collected (drop i a ++ drop j (negated_terms b)) ≡ term_on (get_or a i d).0 (get_or a i d).1 (collected (drop (i + 1) a ++ drop j (negated_terms b)))
ours-before a b i j d h g is os less =
    ours-first a (negated_terms b) i j d h (omega (arith, length-negated b)) is (are_ordered-negated 0 b ∙ os) (omega (arith, name-at b j d g))

pub theirs-before : (a b : List (ℕ × ℤ)) (i j : ℕ) (d : ℕ × ℤ) → i < length a → j < length b → are_ordered 0 a ≡ true → are_ordered 0 b ≡ true → (get_or b j d).0 < (get_or a i d).0
    → collected (drop i a ++ drop j (negated_terms b)) ≡ term_on (get_or b j d).0 (neg_ℤ (get_or b j d).1) (collected (drop i a ++ drop (j + 1) (negated_terms b)))
theirs-before a b i j d h g is os less =
    theirs-first a (negated_terms b) i j d h (omega (arith, length-negated b)) is (are_ordered-negated 0 b ∙ os) (omega (arith, name-at b j d g))
    ∙ ap (λ (t : ℕ × ℤ). term_on t.0 t.1 (collected (drop i a ++ drop (j + 1) (negated_terms b)))) (negated-at b j d g)

pub both-meet : (a b : List (ℕ × ℤ)) (i j : ℕ) (d : ℕ × ℤ) → i < length a → j < length b → are_ordered 0 a ≡ true → are_ordered 0 b ≡ true → (get_or a i d).0 ≡ (get_or b j d).0
    → collected (drop i a ++ drop j (negated_terms b)) ≡ term_on (get_or a i d).0 ((get_or a i d).1 -ℤ (get_or b j d).1) (collected (drop (i + 1) a ++ drop (j + 1) (negated_terms b)))
both-meet a b i j d h g is os same =
    both-first a (negated_terms b) i j d h (omega (arith, length-negated b)) is (are_ordered-negated 0 b ∙ os) (same ∙ sym (name-at b j d g))
    ∙ ap (λ (t : ℕ × ℤ). term_on (get_or a i d).0 ((get_or a i d).1 +ℤ t.1) (collected (drop (i + 1) a ++ drop (j + 1) (negated_terms b)))) (negated-at b j d g)
    ∙ ap (λ (x : ℤ). term_on (get_or a i d).0 x (collected (drop (i + 1) a ++ drop (j + 1) (negated_terms b)))) (minus-is (get_or a i d).1 (get_or b j d).1)

append-none : (xs : List (ℕ × ℤ)) → xs ++ [] ≡ xs
append-none [] = refl
append-none (x ∷ xs) = ap (λ (ys : List (ℕ × ℤ)). x ∷ ys) (append-none xs)

-- one more term with the other sign, and none any more
pub turned-next : (made new whole ts : List (ℕ × ℤ)) (i : ℕ) (d : ℕ × ℤ) → i < length ts → new ≡ made ++ ((get_or ts i d).0, neg_ℤ (get_or ts i d).1) ∷ []
    → made ++ drop i (negated_terms ts) ≡ whole → new ++ drop (i + 1) (negated_terms ts) ≡ whole
turned-next made new whole ts i d h e is =
    ap (λ (xs : List (ℕ × ℤ)). xs ++ drop (i + 1) (negated_terms ts)) e ∙ append_assoc made (((get_or ts i d).0, neg_ℤ (get_or ts i d).1) ∷ []) (drop (i + 1) (negated_terms ts))
    ∙ ap (λ (ys : List (ℕ × ℤ)). made ++ ys) (sym (turned-more ts i d h)) ∙ is

pub turned-end : (made whole ts : List (ℕ × ℤ)) (i : ℕ) → length ts ≤ i → made ++ drop i (negated_terms ts) ≡ whole → made ≡ whole
turned-end made whole ts i h is = sym (append-none made) ∙ ap (λ (xs : List (ℕ × ℤ)). made ++ xs) (sym (drop_all i (negated_terms ts) (omega (arith, length-negated ts)))) ∙ is

-- where one list has ended, the difference is what is left
pub ended-ours : (a b : List (ℕ × ℤ)) (i j : ℕ) → length a ≤ i → are_ordered 0 b ≡ true → collected (drop i a ++ drop j (negated_terms b)) ≡ drop i a ++ drop j (negated_terms b)
ended-ours a b i j h os = ours-ended a (negated_terms b) i j h (are_ordered-negated 0 b ∙ os)

pub ended-theirs : (a b : List (ℕ × ℤ)) (i j : ℕ) → length b ≤ j → are_ordered 0 a ≡ true → collected (drop i a ++ drop j (negated_terms b)) ≡ drop i a ++ drop j (negated_terms b)
ended-theirs a b i j h is = theirs-ended a (negated_terms b) i j (omega (arith, length-negated b)) is

pub all-made : (made mid new ours theirs whole : List (ℕ × ℤ)) (i j : ℕ) → mid ≡ made ++ drop i ours → new ≡ mid ++ drop j (negated_terms theirs)
    → collected (drop i ours ++ drop j (negated_terms theirs)) ≡ drop i ours ++ drop j (negated_terms theirs) → made ++ collected (drop i ours ++ drop j (negated_terms theirs)) ≡ whole → new ≡ whole
all-made made mid new ours theirs whole i j first second ended told =
    second ∙ ap (λ (xs : List (ℕ × ℤ)). xs ++ drop j (negated_terms theirs)) first ∙ append_assoc made (drop i ours) (drop j (negated_terms theirs))
    ∙ ap (λ (xs : List (ℕ × ℤ)). made ++ xs) (sym ended) ∙ told

-- where all terms are short

pub short-++ : (ts us : List (ℕ × ℤ)) → are_short ts ≡ true → are_short us ≡ true → are_short (ts ++ us) ≡ true
short-++ [] us h is = is
short-++ (t ∷ ts) us h is = let parts = both_true (is_short t.1) (are_short ts) h in rw (parts.0, short-++ ts us parts.1 is) refl

pub short-drop : (ts : List (ℕ × ℤ)) (i : ℕ) → are_short ts ≡ true → are_short (drop i ts) ≡ true
short-drop ts zero is = is
short-drop [] (suc i) is = refl
short-drop (t ∷ ts) (suc i) is = short-drop ts i (both_true (is_short t.1) (are_short ts) is).1

one-short : (v : ℕ) (a : ℤ) (b : Bool) → is_short a ≡ true → are_short (cond b [] ((v, a) ∷ [])) ≡ true
one-short v a true is = refl
one-short v a false is = rw is refl

pub short-more : (ts new : List (ℕ × ℤ)) (v : ℕ) (a : ℤ) → new ≡ ts ++ term_on v a [] → are_short ts ≡ true → is_short a ≡ true → are_short new ≡ true
short-more ts new v a e h is = ap are_short e ∙ short-++ ts (term_on v a []) h (one-short v a (nat_abs a == 0) is)

pub all-short : (made mid new ours theirs : List (ℕ × ℤ)) (i j : ℕ) → mid ≡ made ++ drop i ours → new ≡ mid ++ drop j (negated_terms theirs)
    → are_short made ≡ true → are_short ours ≡ true → are_short theirs ≡ true → are_short new ≡ true
all-short made mid new ours theirs i j first second these are others =
    ap are_short (second ∙ ap (λ (xs : List (ℕ × ℤ)). xs ++ drop j (negated_terms theirs)) first)
    ∙ short-++ (made ++ drop i ours) (drop j (negated_terms theirs)) (short-++ made (drop i ours) these (short-drop ours i are)) (short-drop (negated_terms theirs) j (are_short-negated theirs ∙ others))

-- where one isn't

wide-cons : (b : Bool) (ts : List (ℕ × ℤ)) → are_short ts ≡ false → (b && are_short ts) ≡ false
wide-cons true ts is = is
wide-cons false ts is = refl

wide-behind : (ts us : List (ℕ × ℤ)) → are_short us ≡ false → are_short (ts ++ us) ≡ false
wide-behind [] us is = is
wide-behind (t ∷ ts) us is = wide-cons (is_short t.1) (ts ++ us) (wide-behind ts us is)

wide-whole : (a : ℤ) → is_short a ≡ false → (nat_abs a == 0) ≡ false
wide-whole a is = grind (arith, nat_tests)

wide-on : (v : ℕ) (a : ℤ) (rest : List (ℕ × ℤ)) (b : Bool) → b ≡ false → is_short a ≡ false → are_short (cond b rest ((v, a) ∷ rest)) ≡ false
wide-on v a rest true whole is = absurd (cc)
wide-on v a rest false whole is = rw is refl

pub wide-there : (made rest whole : List (ℕ × ℤ)) (v : ℕ) (a : ℤ) → made ++ term_on v a rest ≡ whole → is_short a ≡ false → are_short whole ≡ false
wide-there made rest whole v a e is = ap are_short (sym e) ∙ wide-behind made (term_on v a rest) (wide-on v a rest (nat_abs a == 0) (wide-whole a is) is)

-- the difference of two forms
pub same-terms : (a b : Linear) (xs ys : List (ℕ × ℤ)) → xs ≡ a.terms → ys ≡ b.terms → collected (xs ++ negated_terms ys) ≡ collected (a.terms ++ negated_terms b.terms)
same-terms a b xs ys these those = ap (λ (us : List (ℕ × ℤ)). collected (us ++ negated_terms ys)) these ∙ ap (λ (us : List (ℕ × ℤ)). collected (a.terms ++ negated_terms us)) those

pub less-made : (a b made : Linear) (ts : List (ℕ × ℤ)) (k : ℤ) → made ≡ record { terms = ts; constant = k } → ts ≡ collected (a.terms ++ negated_terms b.terms) → k ≡ a.constant +ℤ neg_ℤ b.constant → made ≡ less a b
less-made a b made ts k is terms constant = is ∙ ap (λ (us : List (ℕ × ℤ)). record { terms = us; constant = k }) terms ∙ ap (λ (n : ℤ). record { terms = collected (a.terms ++ negated_terms b.terms); constant = n }) constant

both : (b c : Bool) → b ≡ true → c ≡ true → (b && c) ≡ true
both b c h is = grind arith

pub less-narrow : (a b : Linear) (k : ℤ) → are_short (collected (a.terms ++ negated_terms b.terms)) ≡ true → k ≡ a.constant +ℤ neg_ℤ b.constant → is_short k ≡ true → is_narrow (less a b) ≡ true
less-narrow a b k are constant is = both (are_short (collected (a.terms ++ negated_terms b.terms))) (is_short (a.constant +ℤ neg_ℤ b.constant)) are (ap is_short (sym constant) ∙ is)
