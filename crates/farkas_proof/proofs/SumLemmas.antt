-- Terms of a sum in the making: a product is put in.
use Rattle.std.proofs.Common.{◌≡◌, ◌<◌, ◌≤◌, ◌+◌, ◌%◌, ℕ, suc, zero, List, [], ◌∷◌, ◌++◌, map, take, drop, set, length, get_or, refl, ap, sym, ◌∙◌, arith, true, false, Bool, cond, ◌&&◌, ◌==◌, append_assoc}
use Rattle.std.specs.Prelude.{ℤ, pos, nat_abs, nat_le, nat_lt, neg_ℤ, ◌+ℤ◌, ◌*ℤ◌, ◌<ℤ◌}
use Rattle.std.specs.Int.{int_div_euclid, int_signum}
use Rattle.std.proofs.Math.IntN.{zero-*ℤ}
use Rattle.std.specs.List.{list_all, remove}
use Rattle.std.proofs.lemmas.Bool.{leb-true, ltb-true, ltb-false, eqb-true}
use Rattle.std.proofs.lemmas.Bool.Decides.{nat_tests}
use Rattle.std.proofs.Math.Nat.{mul-mod_left}
use Rattle.std.proofs.lemmas.Int.{ints, unsigned_abs-mul}
use Rattle.std.proofs.lemmas.List.{append-nil, drop_more, take_more, get_or-map}
use Rattle.lin_atoms.specs.Multiples.{is_multiple}
use Rattle.lin_atoms.specs.machinery.Accumulator.{Total}
use Rattle.farkas_proof.proofs.SoundLemmas.{divided}
use Rattle.lin_atoms.specs.Algebra.{added, term_on, with_term, collected, scaled, scaled_terms}
use Rattle.lin_atoms.specs.Linear.{Linear, are_ordered, is_short}
use Rattle.lin_atoms.specs.declared.lit.Lit.{Lit}
use Rattle.refutation_trees.specs.Combination.{are_multipliers, combined, is_divided_by, is_multiplier, linear_at}
use Rattle.int_rows.specs.Ready.{rounded}
use Rattle.lin_atoms.proofs.Public.{both_true, collected-ordered, collected-same, length_at, ordered, ordered-cons, quotient_is, scaled-drop, scaled-ordered, term_on-whole, with_term-behind, with_term-same}
use Rattle.farkas_proof.specs.machinery.Sum.{are_counted, seen, standing}

pub seen-at : (ts : List (ℕ × Total)) (i : ℕ) (d : ℕ × Total) → i < length ts → get_or (seen ts) i (0, pos 0) ≡ ((get_or ts i d).0, (get_or ts i d).1.value)
seen-at ts i d h = get_or-map (λ (t : ℕ × Total). (t.0, t.1.value)) ts i d (0, pos 0) h

length-seen : (ts : List (ℕ × Total)) → length (seen ts) ≡ length ts
length-seen [] = refl
length-seen (t ∷ ts) = ap suc (length-seen ts)

-- the term at the index is the first of the rest
rest-at : (ts : List (ℕ × Total)) (i : ℕ) (d : ℕ × Total) → i < length ts → drop i (seen ts) ≡ ((get_or ts i d).0, (get_or ts i d).1.value) ∷ drop (i + 1) (seen ts)
rest-at ts i d h =
    let within : i < length (seen ts) = omega (arith, length-seen ts) in
    drop_more (seen ts) i (0, pos 0) within ∙ ap (λ (t : ℕ × ℤ). t ∷ drop (i + 1) (seen ts)) (seen-at ts i d h)

front-at : (ts : List (ℕ × Total)) (i : ℕ) (d : ℕ × Total) → i < length ts → take (i + 1) (seen ts) ≡ take i (seen ts) ++ ((get_or ts i d).0, (get_or ts i d).1.value) ∷ []
front-at ts i d h =
    let within : i < length (seen ts) = omega (arith, length-seen ts) in
    take_more (seen ts) i (0, pos 0) within ∙ ap (λ (t : ℕ × ℤ). take i (seen ts) ++ t ∷ []) (seen-at ts i d h)

pub place-more : (ts : List (ℕ × Total)) (i v : ℕ) (a : ℤ) (d : ℕ × Total) → i < length ts → (get_or ts i d).0 < v → with_term v a (seen ts) ≡ take i (seen ts) ++ with_term v a (drop i (seen ts))
    → with_term v a (seen ts) ≡ take (i + 1) (seen ts) ++ with_term v a (drop (i + 1) (seen ts))
place-more ts i v a d h less told =
    let x : ℕ × ℤ = ((get_or ts i d).0, (get_or ts i d).1.value) in
    told ∙ ap (λ (us : List (ℕ × ℤ)). take i (seen ts) ++ with_term v a us) (rest-at ts i d h) ∙ ap (λ (us : List (ℕ × ℤ)). take i (seen ts) ++ us) (with_term-behind v a x (drop (i + 1) (seen ts)) less)
    ∙ sym (append_assoc (take i (seen ts)) (x ∷ []) (with_term v a (drop (i + 1) (seen ts)))) ∙ ap (λ (us : List (ℕ × ℤ)). us ++ with_term v a (drop (i + 1) (seen ts))) (sym (front-at ts i d h))

-- the terms before one that isn't above the variable stay before it
before-some : (ts : List (ℕ × ℤ)) (from i v : ℕ) (a : ℤ) → are_ordered from ts ≡ true → i < length ts → (get_or ts i (0, pos 0)).0 ≤ v → with_term v a ts ≡ take i ts ++ with_term v a (drop i ts)
before-some [] from i v a o h le = absurd (omega arith)
before-some (t ∷ ts) from zero v a o h le = refl
before-some (t ∷ ts) from (suc i) v a o h le =
    let here : i < length ts = omega arith in
    let rest : are_ordered (t.0 + 1) ts ≡ true = (both_true (nat_lt 0 (nat_abs t.1)) _ (both_true (nat_le from t.0) _ o).1).1 in
    let above : t.0 + 1 + i ≤ (get_or ts i (0, pos 0)).0 = length_at (t.0 + 1) ts i (0, pos 0) here rest in
    let less : t.0 < v = omega arith in
    with_term-behind v a t ts less ∙ ap (λ (us : List (ℕ × ℤ)). t ∷ us) (before-some ts (t.0 + 1) i v a rest here le)

pub place-before : (ts : List (ℕ × Total)) (i v : ℕ) (a : ℤ) (d : ℕ × Total) → are_ordered 0 (seen ts) ≡ true → i < length ts → (get_or ts i d).0 ≤ v → with_term v a (seen ts) ≡ take i (seen ts) ++ with_term v a (drop i (seen ts))
place-before ts i v a d o h le =
    let within : i < length (seen ts) = omega (arith, length-seen ts) in
    let same : (get_or (seen ts) i (0, pos 0)).0 ≡ (get_or ts i d).0 = ap (λ (t : ℕ × ℤ). t.0) (seen-at ts i d h) in
    before-some (seen ts) 0 i v a o within (omega (arith, same, le))

pub place-met : (ts : List (ℕ × Total)) (i v : ℕ) (a : ℤ) (d : ℕ × Total) → i < length ts → (get_or ts i d).0 ≡ v → with_term v a (seen ts) ≡ take i (seen ts) ++ with_term v a (drop i (seen ts))
    → with_term v a (seen ts) ≡ take i (seen ts) ++ term_on v (a +ℤ (get_or (seen ts) i (0, pos 0)).1) (drop (i + 1) (seen ts))
place-met ts i v a d h same told =
    let x : ℕ × ℤ = ((get_or ts i d).0, (get_or ts i d).1.value) in
    told ∙ ap (λ (us : List (ℕ × ℤ)). take i (seen ts) ++ with_term v a us) (rest-at ts i d h) ∙ ap (λ (us : List (ℕ × ℤ)). take i (seen ts) ++ us) (with_term-same v a x (drop (i + 1) (seen ts)) (sym same))
    ∙ ap (λ (t : ℕ × ℤ). take i (seen ts) ++ term_on v (a +ℤ t.1) (drop (i + 1) (seen ts))) (sym (seen-at ts i d h))

front-only : (v : ℕ) (a : ℤ) (t : ℕ × ℤ) (ts us : List (ℕ × ℤ)) → v < t.0 → cond (nat_lt v t.0) (term_on v a (t ∷ ts)) us ≡ term_on v a (t ∷ ts)
front-only v a t ts us h = grind (arith, nat_tests)

pub place-free : (ts : List (ℕ × Total)) (i v : ℕ) (a : ℤ) (d : ℕ × Total) → i < length ts → v < (get_or ts i d).0 → with_term v a (seen ts) ≡ take i (seen ts) ++ with_term v a (drop i (seen ts))
    → with_term v a (seen ts) ≡ take i (seen ts) ++ term_on v a (drop i (seen ts))
place-free ts i v a d h less told =
    let x : ℕ × ℤ = ((get_or ts i d).0, (get_or ts i d).1.value) in
    let here = rest-at ts i d h in
    told ∙ ap (λ (us : List (ℕ × ℤ)). take i (seen ts) ++ with_term v a us) here ∙ ap (λ (us : List (ℕ × ℤ)). take i (seen ts) ++ us) (front-only v a x (drop (i + 1) (seen ts)) _ less)
    ∙ ap (λ (us : List (ℕ × ℤ)). take i (seen ts) ++ term_on v a us) (sym here)

drop-end : {X : Type 0} (xs : List X) (i : ℕ) → length xs ≤ i → drop i xs ≡ []
drop-end [] zero h = refl
drop-end [] (suc i) h = refl
drop-end (x ∷ xs) zero h = absurd (omega arith)
drop-end (x ∷ xs) (suc i) h = drop-end xs i (omega arith)

pub place-end : (ts : List (ℕ × Total)) (i v : ℕ) (a : ℤ) → length ts ≤ i → with_term v a (seen ts) ≡ take i (seen ts) ++ with_term v a (drop i (seen ts))
    → with_term v a (seen ts) ≡ take i (seen ts) ++ term_on v a (drop i (seen ts))
place-end ts i v a h told =
    let none : drop i (seen ts) ≡ [] = drop-end (seen ts) i (omega (arith, length-seen ts)) in
    told ∙ ap (λ (us : List (ℕ × ℤ)). take i (seen ts) ++ with_term v a us) none ∙ ap (λ (us : List (ℕ × ℤ)). take i (seen ts) ++ term_on v a us) (sym none)

-- the term belongs before one that is above it, or at the end
place-last : (ts : List (ℕ × Total)) (i v : ℕ) (a : ℤ) (b : Bool) → nat_lt i (length ts) ≡ b → ((d : ℕ × Total) → i < length ts → v < (get_or ts i d).0)
    → with_term v a (seen ts) ≡ take i (seen ts) ++ with_term v a (drop i (seen ts)) → with_term v a (seen ts) ≡ take i (seen ts) ++ term_on v a (drop i (seen ts))
place-last ts i v a true is behind told =
    let lt : i < length ts = ltb-true i (length ts) is in
    let d : ℕ × Total = (0, record { value = pos 0; added = 0 }) in
    place-free ts i v a d lt (behind d lt) told
place-last ts i v a false is behind told = place-end ts i v a (ltb-false i (length ts) is) told

pub place-found : (ts : List (ℕ × Total)) (i v : ℕ) (a : ℤ) → ((d : ℕ × Total) → i < length ts → v < (get_or ts i d).0)
    → with_term v a (seen ts) ≡ take i (seen ts) ++ with_term v a (drop i (seen ts)) → with_term v a (seen ts) ≡ take i (seen ts) ++ term_on v a (drop i (seen ts))
place-found ts i v a behind told = place-last ts i v a (nat_lt i (length ts)) refl behind told

seen-set : (ts : List (ℕ × Total)) (i : ℕ) (e : ℕ × Total) → i < length ts → seen (set ts i e) ≡ take i (seen ts) ++ (e.0, e.1.value) ∷ drop (i + 1) (seen ts)
seen-set [] i e h = absurd (omega arith)
seen-set (t ∷ ts) zero e h = refl
seen-set (t ∷ ts) (suc i) e h =
    let more : suc i + 1 ≡ suc (i + 1) = omega arith in
    ap (λ (us : List (ℕ × ℤ)). (t.0, t.1.value) ∷ us) (seen-set ts i e (omega arith)) ∙ ap (λ n. (t.0, t.1.value) ∷ (take i (seen ts) ++ (e.0, e.1.value) ∷ drop n ((t.0, t.1.value) ∷ seen ts))) (sym more)

seen-gone : (ts : List (ℕ × Total)) (i : ℕ) → i < length ts → seen (take i ts ++ drop (i + 1) ts) ≡ take i (seen ts) ++ drop (i + 1) (seen ts)
seen-gone [] i h = absurd (omega arith)
seen-gone (t ∷ ts) zero h = refl
seen-gone (t ∷ ts) (suc i) h =
    let more : suc i + 1 ≡ suc (i + 1) = omega arith in
    ap (λ n. seen (t ∷ (take i ts ++ drop n (t ∷ ts)))) more ∙ ap (λ (us : List (ℕ × ℤ)). (t.0, t.1.value) ∷ us) (seen-gone ts i (omega arith)) ∙ ap (λ n. (t.0, t.1.value) ∷ (take i (seen ts) ++ drop n ((t.0, t.1.value) ∷ seen ts))) (sym more)

seen-put : (ts : List (ℕ × Total)) (i : ℕ) (e : ℕ × Total) → i ≤ length ts → seen (take i ts ++ e ∷ drop i ts) ≡ take i (seen ts) ++ (e.0, e.1.value) ∷ drop i (seen ts)
seen-put ts zero e h = refl
seen-put [] (suc i) e h = absurd (omega arith)
seen-put (t ∷ ts) (suc i) e h = ap (λ (us : List (ℕ × ℤ)). (t.0, t.1.value) ∷ us) (seen-put ts i e (omega arith))

term_on-none : (v : ℕ) (a : ℤ) (ts : List (ℕ × ℤ)) → nat_abs a ≡ 0 → term_on v a ts ≡ ts
term_on-none v a ts h = grind (arith, nat_tests)

pub signum-none : (a : ℤ) → int_signum a ≡ pos 0 → nat_abs a ≡ 0
signum-none a h = grind (arith, ints)

pub signum-some : (a : ℤ) → (int_signum a ≡ pos 0 → ⊥) → 0 < nat_abs a
signum-some a h = grind (arith, ints)

-- a coefficient that changes, and one that becomes 0
pub met-set : (ts : List (ℕ × Total)) (i v w : ℕ) (a : ℤ) (t : Total) (whole : List (ℕ × ℤ)) → i < length ts → w ≡ v → t.value ≡ (get_or (seen ts) i (0, pos 0)).1 +ℤ a → 0 < nat_abs t.value
    → whole ≡ take i (seen ts) ++ term_on v (a +ℤ (get_or (seen ts) i (0, pos 0)).1) (drop (i + 1) (seen ts)) → seen (set ts i (w, t)) ≡ whole
met-set ts i v w a t whole h e is some told =
    let turned : a +ℤ (get_or (seen ts) i (0, pos 0)).1 ≡ t.value = omega (arith, ints) in
    seen-set ts i (w, t) h ∙ ap (λ x. take i (seen ts) ++ (x, t.value) ∷ drop (i + 1) (seen ts)) e ∙ ap (λ (us : List (ℕ × ℤ)). take i (seen ts) ++ us) (sym (term_on-whole v t.value (drop (i + 1) (seen ts)) some))
    ∙ ap (λ x. take i (seen ts) ++ term_on v x (drop (i + 1) (seen ts))) (sym turned) ∙ sym told

pub met-gone : (ts : List (ℕ × Total)) (i v : ℕ) (a b : ℤ) (whole : List (ℕ × ℤ)) → i < length ts → b ≡ (get_or (seen ts) i (0, pos 0)).1 +ℤ a → nat_abs b ≡ 0
    → whole ≡ take i (seen ts) ++ term_on v (a +ℤ (get_or (seen ts) i (0, pos 0)).1) (drop (i + 1) (seen ts)) → seen (take i ts ++ drop (i + 1) ts) ≡ whole
met-gone ts i v a b whole h is none told =
    let gone : nat_abs (a +ℤ (get_or (seen ts) i (0, pos 0)).1) ≡ 0 = omega (arith, ints) in
    seen-gone ts i h ∙ ap (λ (us : List (ℕ × ℤ)). take i (seen ts) ++ us) (sym (term_on-none v (a +ℤ (get_or (seen ts) i (0, pos 0)).1) (drop (i + 1) (seen ts)) gone)) ∙ sym told

pub free-put : (ts : List (ℕ × Total)) (i v : ℕ) (a : ℤ) (t : Total) (whole : List (ℕ × ℤ)) → i ≤ length ts → t.value ≡ a → 0 < nat_abs a
    → whole ≡ take i (seen ts) ++ term_on v a (drop i (seen ts)) → seen (take i ts ++ (v, t) ∷ drop i ts) ≡ whole
free-put ts i v a t whole h is some told =
    seen-put ts i (v, t) h ∙ ap (λ x. take i (seen ts) ++ (v, x) ∷ drop i (seen ts)) is ∙ ap (λ (us : List (ℕ × ℤ)). take i (seen ts) ++ us) (sym (term_on-whole v a (drop i (seen ts)) some)) ∙ sym told

take-drop : {X : Type 0} (i : ℕ) (xs : List X) → take i xs ++ drop i xs ≡ xs
take-drop zero xs = refl
take-drop (suc i) [] = refl
take-drop {X = X} (suc i) (x ∷ xs) = ap (λ (ys : List X). x ∷ ys) (take-drop i xs)

pub free-none : (ts : List (ℕ × Total)) (i v : ℕ) (a : ℤ) (whole : List (ℕ × ℤ)) → nat_abs a ≡ 0 → whole ≡ take i (seen ts) ++ term_on v a (drop i (seen ts)) → seen ts ≡ whole
free-none ts i v a whole none told =
    sym (take-drop i (seen ts)) ∙ ap (λ (us : List (ℕ × ℤ)). take i (seen ts) ++ us) (sym (term_on-none v a (drop i (seen ts)) none)) ∙ sym told

-- the count
count_more : (n m : ℕ) (rest : Bool) → m ≤ n → rest ≡ true → (nat_le m n && rest) ≡ true
count_more n m rest h t = grind (arith, nat_tests)

pub counted-weaker : (m n : ℕ) (ts : List (ℕ × Total)) → m ≤ n → are_counted m ts ≡ true → are_counted n ts ≡ true
counted-weaker m n [] h t = refl
counted-weaker m n (x ∷ ts) h t =
    let both = both_true (nat_le x.1.added m) _ t in
    count_more n x.1.added _ (let le = leb-true _ _ both.0 in omega arith) (counted-weaker m n ts h both.1)

pub counted-at : (n : ℕ) (ts : List (ℕ × Total)) (i : ℕ) (d : ℕ × Total) → i < length ts → are_counted n ts ≡ true → (get_or ts i d).1.added ≤ n
counted-at n [] i d h t = absurd (omega arith)
counted-at n (x ∷ ts) zero d h t = leb-true _ _ (both_true (nat_le x.1.added n) _ t).0
counted-at n (x ∷ ts) (suc i) d h t = counted-at n ts i d (omega arith) (both_true (nat_le x.1.added n) _ t).1

pub counted-set : (n : ℕ) (ts : List (ℕ × Total)) (i : ℕ) (e : ℕ × Total) → e.1.added ≤ n → are_counted n ts ≡ true → are_counted n (set ts i e) ≡ true
counted-set n [] i e h t = refl
counted-set n (x ∷ ts) zero e h t = count_more n e.1.added _ h (both_true (nat_le x.1.added n) _ t).1
counted-set n (x ∷ ts) (suc i) e h t = let both = both_true (nat_le x.1.added n) _ t in ap (λ b. b && are_counted n (set ts i e)) both.0 ∙ counted-set n ts i e h both.1

pub counted-gone : (n : ℕ) (ts : List (ℕ × Total)) (i : ℕ) → are_counted n ts ≡ true → are_counted n (take i ts ++ drop (i + 1) ts) ≡ true
counted-gone n [] zero t = refl
counted-gone n [] (suc i) t = ap (are_counted n) (drop-end [] (suc i + 1) (omega arith))
counted-gone n (x ∷ ts) zero t = (both_true (nat_le x.1.added n) _ t).1
counted-gone n (x ∷ ts) (suc i) t =
    let more : suc i + 1 ≡ suc (i + 1) = omega arith in
    let both = both_true (nat_le x.1.added n) _ t in
    ap (λ m. are_counted n (x ∷ (take i ts ++ drop m (x ∷ ts)))) more ∙ ap (λ b. b && are_counted n (take i ts ++ drop (i + 1) ts)) both.0 ∙ counted-gone n ts i both.1

pub counted-put : (n : ℕ) (ts : List (ℕ × Total)) (i : ℕ) (e : ℕ × Total) → e.1.added ≤ n → are_counted n ts ≡ true → are_counted n (take i ts ++ e ∷ drop i ts) ≡ true
counted-put n ts zero e h t = count_more n e.1.added _ h t
counted-put n [] (suc i) e h t = count_more n e.1.added _ h refl
counted-put n (x ∷ ts) (suc i) e h t = let both = both_true (nat_le x.1.added n) _ t in ap (λ b. b && are_counted n (take i ts ++ e ∷ drop i ts)) both.0 ∙ counted-put n ts i e h both.1

-- an element that was written last is not there any more
pub set-gone : (ts : List (ℕ × Total)) (i : ℕ) (e : ℕ × Total) → take i (set ts i e) ++ drop (i + 1) (set ts i e) ≡ take i ts ++ drop (i + 1) ts
set-gone [] zero e = refl
set-gone [] (suc i) e = refl
set-gone (t ∷ ts) zero e = refl
set-gone (t ∷ ts) (suc i) e =
    let more : suc i + 1 ≡ suc (i + 1) = omega arith in
    ap (λ n. t ∷ (take i (set ts i e) ++ drop n (t ∷ set ts i e))) more ∙ ap (λ (us : List (ℕ × Total)). t ∷ us) (set-gone ts i e) ∙ ap (λ n. t ∷ (take i ts ++ drop n (t ∷ ts))) (sym more)

-- the coefficient that stood there
pub stood : (ts : List (ℕ × Total)) (i v : ℕ) (x : ℕ × Total) (new a : ℤ) → i < length ts → x ≡ get_or ts i x → (get_or (seen ts) i (0, pos 0)).0 ≡ v → new ≡ x.1.value +ℤ a
    → (x.0 ≡ v) × (new ≡ (get_or (seen ts) i (0, pos 0)).1 +ℤ a)
stood ts i v x new a h is e sum =
    let there = seen-at ts i x h in (
      ap (λ (t : ℕ × Total). t.0) is ∙ sym (ap (λ (t : ℕ × ℤ). t.0) there) ∙ e,
      sum ∙ ap (λ (t : ℕ × Total). t.1.value +ℤ a) is ∙ ap (λ (t : ℕ × ℤ). t.1 +ℤ a) (sym there),
    )

pub removed : (ts : List (ℕ × Total)) (i : ℕ) → remove ts i ≡ take i ts ++ drop (i + 1) ts
removed [] zero = refl
removed [] (suc i) = sym (drop-end [] (suc i + 1) (omega arith))
removed (t ∷ ts) zero = refl
removed (t ∷ ts) (suc i) =
    let more : suc i + 1 ≡ suc (i + 1) = omega arith in
    ap (λ (us : List (ℕ × Total)). t ∷ us) (removed ts i) ∙ ap (λ n. t ∷ (take i ts ++ drop n (t ∷ ts))) (sym more)

none_step : (v : ℕ) (b : ℤ) (t : ℕ × ℤ) (ts us : List (ℕ × ℤ)) → nat_abs b ≡ 0 → 0 < nat_abs t.1 → us ≡ ts → (c d : Bool) → (v == t.0) ≡ d → cond c (term_on v b (t ∷ ts)) (cond d (term_on v (b +ℤ t.1) ts) (t ∷ us)) ≡ t ∷ ts
none_step v b t ts us h some same true d e = term_on-none v b (t ∷ ts) h
none_step v b t ts us h some same false true e =
    let plain : b +ℤ t.1 ≡ t.1 = omega (arith, ints) in
    ap (λ x. term_on v x ts) plain ∙ term_on-whole v t.1 ts some ∙ ap (λ x. (x, t.1) ∷ ts) (eqb-true v t.0 e)
none_step v b t ts us h some same false false e = ap (λ (ys : List (ℕ × ℤ)). t ∷ ys) same

with_term-none : (n v : ℕ) (b : ℤ) (ts : List (ℕ × ℤ)) → nat_abs b ≡ 0 → are_ordered n ts ≡ true → with_term v b ts ≡ ts
with_term-none n v b [] h is = term_on-none v b [] h
with_term-none n v b (t ∷ ts) h is = let o = ordered n t ts is in none_step v b t ts (with_term v b ts) h o.whole (with_term-none (t.0 + 1) v b ts h o.rest) (nat_lt v t.0) (v == t.0) refl

pub term_step : (v : ℕ) (b : ℤ) (xs ys : List (ℕ × ℤ)) (z : Bool) → (nat_abs b == 0) ≡ z → collected (cond z xs ((v, b) ∷ xs) ++ ys) ≡ with_term v b (collected (xs ++ ys))
term_step v b xs ys true e = sym (with_term-none 0 v b (collected (xs ++ ys)) (eqb-true _ _ e) (collected-ordered (xs ++ ys)))
term_step v b xs ys false e = refl

-- one more term of a multiple
pub scaled-step : (k : ℤ) (ts ys made : List (ℕ × ℤ)) (i : ℕ) (d : ℕ × ℤ) → i < length ts → made ≡ collected (scaled_terms k (drop (i + 1) ts) ++ ys)
    → with_term (get_or ts i d).0 (k *ℤ (get_or ts i d).1) made ≡ collected (scaled_terms k (drop i ts) ++ ys)
scaled-step k ts ys made i d h is =
    ap (with_term (get_or ts i d).0 (k *ℤ (get_or ts i d).1)) is
    ∙ sym (term_step (get_or ts i d).0 (k *ℤ (get_or ts i d).1) (scaled_terms k (drop (i + 1) ts)) ys (nat_abs (k *ℤ (get_or ts i d).1) == 0) refl)
    ∙ ap (λ (us : List (ℕ × ℤ)). collected (us ++ ys)) (sym (scaled-drop k ts i d h))

pub scaled-none : (k : ℤ) (ts ys : List (ℕ × ℤ)) → are_ordered 0 ys ≡ true → ys ≡ collected (scaled_terms k (drop (length ts) ts) ++ ys)
scaled-none k ts ys is = sym (collected-same 0 ys is) ∙ ap (λ (us : List (ℕ × ℤ)). collected (scaled_terms k us ++ ys)) (sym (drop-end ts (length ts) (omega arith)))

and-false : (a : Bool) {b : Bool} → b ≡ false → (a && b) ≡ false
and-false true h = h
and-false false h = refl

-- multipliers, from the last to the first
pub multipliers-more : (lits : List Lit) (ms : List (ℕ × ℤ)) (i : ℕ) (d : ℕ × ℤ) → i < length ms → is_multiplier lits (get_or ms i d) ≡ true → are_multipliers lits (drop (i + 1) ms) ≡ true → are_multipliers lits (drop i ms) ≡ true
multipliers-more lits ms i d h here rest = ap (are_multipliers lits) (drop_more ms i d h) ∙ ap (λ b. b && are_multipliers lits (drop (i + 1) ms)) here ∙ rest

pub combined-more : (lits : List Lit) (ms : List (ℕ × ℤ)) (i : ℕ) (d : ℕ × ℤ) → i < length ms → combined lits (drop i ms) ≡ added (scaled (get_or ms i d).1 (linear_at lits (get_or ms i d).0)) (combined lits (drop (i + 1) ms))
combined-more lits ms i d h = ap (combined lits) (drop_more ms i d h)

pub multipliers-fail : (lits : List Lit) (ms : List (ℕ × ℤ)) (i : ℕ) (d : ℕ × ℤ) → i < length ms → is_multiplier lits (get_or ms i d) ≡ false → are_multipliers lits ms ≡ false
multipliers-fail lits [] i d h f = absurd (omega arith)
multipliers-fail lits (m ∷ ms) zero d h f = ap (λ b. b && are_multipliers lits ms) f
multipliers-fail lits (m ∷ ms) (suc i) d h f = and-false (is_multiplier lits m) (multipliers-fail lits ms i d (omega arith) f)

pub small-multiplier : (lits : List Lit) (which : ℕ) (k : ℤ) → is_multiplier lits (which, k) ≡ true → is_short k ≡ true
small-multiplier lits which k h = (both_true (is_short k) _ h).0

pub negated-sum : (new old k a : ℤ) → new ≡ old +ℤ neg_ℤ (k *ℤ a) → neg_ℤ new ≡ k *ℤ a +ℤ neg_ℤ old
negated-sum new old k a h = omega (arith, ints)

pub ordered-made : (ts us : List (ℕ × ℤ)) → ts ≡ collected us → are_ordered 0 ts ≡ true
ordered-made ts us h = ap (are_ordered 0) h ∙ collected-ordered us

-- coefficients that are divided, one after another
pub divided-more : (f : ℕ × ℤ → ℕ × ℤ) (ts : List (ℕ × Total)) (i : ℕ) (d : ℕ × Total) → i < length ts → map f (seen (take (i + 1) ts)) ≡ map f (seen (take i ts)) ++ f ((get_or ts i d).0, (get_or ts i d).1.value) ∷ []
divided-more f [] i d h = absurd (omega arith)
divided-more f (t ∷ ts) zero d h = refl
divided-more f (t ∷ ts) (suc i) d h =
    let more : suc i + 1 ≡ suc (i + 1) = omega arith in
    ap (λ n. map f (seen (take n (t ∷ ts)))) more ∙ ap (λ (us : List (ℕ × ℤ)). f (t.0, t.1.value) ∷ us) (divided-more f ts i d (omega arith))

pub divided-rest : (f : ℕ × ℤ → ℕ × ℤ) (ts : List (ℕ × Total)) (i : ℕ) (d : ℕ × Total) → i < length ts → map f (seen (drop i ts)) ≡ f ((get_or ts i d).0, (get_or ts i d).1.value) ∷ map f (seen (drop (i + 1) ts))
divided-rest f ts i d h = ap (λ (us : List (ℕ × Total)). map f (seen us)) (drop_more ts i d h)

-- a number that times the divisor makes the sum
pub whole-is : (v q d : ℤ) → pos 0 <ℤ d → q *ℤ d ≡ v → (q ≡ int_div_euclid v d) × (is_multiple d v ≡ true)
whole-is v q d some is =
    let size : 0 < nat_abs d = omega (arith, ints) in
    let none : q *ℤ d +ℤ pos 0 ≡ v = omega (arith, ints, is) in
    let rest : nat_abs v % nat_abs d ≡ 0 = ap (λ z. nat_abs z % nat_abs d) (sym is) ∙ ap (λ k. k % nat_abs d) (unsigned_abs-mul q d) ∙ mul-mod_left (nat_abs q) (nat_abs d) in
    (quotient_is v q d 0 some none size, ap (λ k. k == 0) rest)

not_zero : (n : ℕ) → (n ≡ 0 → ⊥) → 0 < n
not_zero n h = omega arith

some_quotient : (a d : ℤ) → pos 0 <ℤ d → 0 < nat_abs a → is_multiple d a ≡ true → 0 < nat_abs (int_div_euclid a d)
some_quotient a d h some t =
    let whole = divided a d h t in
    not_zero (nat_abs (int_div_euclid a d)) (λ none.
    let q : int_div_euclid a d ≡ pos 0 = omega (arith, ints) in
    let p : a ≡ pos 0 = sym whole ∙ ap (λ z. z *ℤ d) q ∙ zero-*ℤ d in
    omega (arith, ints))

pub ordered-divided : (d : ℤ) (from : ℕ) (ts : List (ℕ × ℤ)) → pos 0 <ℤ d → list_all (λ t. is_multiple d t.1) ts ≡ true → are_ordered from ts ≡ true → are_ordered from (map (λ t. (t.0, int_div_euclid t.1 d)) ts) ≡ true
ordered-divided d from [] h t is = refl
ordered-divided d from (x ∷ ts) h t is =
    let both = both_true (is_multiple d x.1) _ t in
    let o = ordered from x ts is in
    ordered-cons from (x.0, int_div_euclid x.1 d) (map (λ t. (t.0, int_div_euclid t.1 d)) ts) o.above (some_quotient x.1 d h o.whole both.0) (ordered-divided d (x.0 + 1) ts h both.1 o.rest)

twice : (x : ℤ) → neg_ℤ (neg_ℤ x) ≡ x
twice x = omega (arith, ints)

made_of : List (ℕ × ℤ) → ℤ → Linear
made_of ts k = record { terms = ts; constant = k }

-- the rounded form, from its parts
pub form-is : (d : ℤ) (ts : List (ℕ × Total)) (n : Total) (terms : List (ℕ × ℤ)) (k : ℤ) → terms ≡ map (λ t. (t.0, int_div_euclid t.1 d)) (seen ts) → k ≡ neg_ℤ (int_div_euclid n.value d) → record { terms = terms; constant = k } ≡ rounded d (standing ts n)
unfolding made_of
form-is d ts n terms k e f =
    ap (λ (us : List (ℕ × ℤ)). made_of us k) e ∙ ap (made_of (map (λ t. (t.0, int_div_euclid t.1 d)) (seen ts))) (f ∙ ap (λ z. neg_ℤ (int_div_euclid z d)) (sym (twice n.value)))

-- a product behind terms
seen-push : (ts : List (ℕ × Total)) (e : ℕ × Total) → seen (ts ++ e ∷ []) ≡ seen ts ++ (e.0, e.1.value) ∷ []
seen-push [] e = refl
seen-push (t ∷ ts) e = ap (λ (us : List (ℕ × ℤ)). (t.0, t.1.value) ∷ us) (seen-push ts e)

pub counted-push : (n : ℕ) (ts : List (ℕ × Total)) (e : ℕ × Total) → e.1.added ≤ n → are_counted n ts ≡ true → are_counted n (ts ++ e ∷ []) ≡ true
counted-push n [] e h t = count_more n e.1.added _ h refl
counted-push n (x ∷ ts) e h t = let both = both_true (nat_le x.1.added n) _ t in ap (λ b. b && are_counted n (ts ++ e ∷ [])) both.0 ∙ counted-push n ts e h both.1

pub product-put : (ts us : List (ℕ × Total)) (v : ℕ) (t : Total) (a : ℤ) → us ≡ ts ++ (v, t) ∷ [] → t.value ≡ a → 0 < nat_abs a → seen us ≡ seen ts ++ term_on v a []
product-put ts us v t a u is some = ap seen u ∙ seen-push ts (v, t) ∙ ap (λ x. seen ts ++ (v, x) ∷ []) is ∙ ap (λ (xs : List (ℕ × ℤ)). seen ts ++ xs) (sym (term_on-whole v a [] some))

pub product-none : (ts : List (ℕ × Total)) (v : ℕ) (a : ℤ) → nat_abs a ≡ 0 → seen ts ≡ seen ts ++ term_on v a []
product-none ts v a none = sym (append-nil (seen ts)) ∙ ap (λ (xs : List (ℕ × ℤ)). seen ts ++ xs) (sym (term_on-none v a [] none))

-- the first multiples, behind nothing
pub first-sum : (k : ℤ) (ts us made : List (ℕ × ℤ)) → us ≡ [] → are_ordered 0 ts ≡ true → made ≡ scaled_terms k ts → made ≡ collected (scaled_terms k ts ++ us)
first-sum k ts us made none is m =
    m ∙ sym (collected-same 0 (scaled_terms k ts) (scaled-ordered k 0 ts is)) ∙ ap collected (sym (append-nil (scaled_terms k ts)) ∙ ap (λ (xs : List (ℕ × ℤ)). scaled_terms k ts ++ xs) (sym none))

-- whether the divisor divides what is left of a sum
pub divided-at : (d : ℤ) (ts : List (ℕ × Total)) (n : Total) (i : ℕ) (t : ℕ × Total) → t ≡ get_or ts i t → i < length ts
    → is_divided_by d (standing (drop i ts) n) ≡ is_multiple d t.1.value && is_divided_by d (standing (drop (i + 1) ts) n)
divided-at d ts n i t is h =
    ap (λ (us : List (ℕ × Total)). is_divided_by d (standing us n)) (drop_more ts i t h) ∙ ap (λ (e : ℕ × Total). is_multiple d e.1.value && is_divided_by d (standing (drop (i + 1) ts) n)) (sym is)

-- a product that is 0 adds no term
pub free-zero : (ts : List (ℕ × Total)) (i v : ℕ) (a : ℤ) (n : ℤ) (whole : List (ℕ × ℤ)) → n ≡ a → true ≡ (nat_abs n == 0)
    → whole ≡ take i (seen ts) ++ term_on v a (drop i (seen ts)) → seen ts ≡ whole
free-zero ts i v a n whole is none told = free-none ts i v a whole (ap nat_abs (sym is) ∙ eqb-true _ _ (sym none)) told

-- a test has one answer
pub never : true ≡ false → ⊥
never h = cc
