-- Predicates found by name in a set.
use Rattle.std.proofs.Common.{◌≡◌, ◌+◌, ℕ, List, [], ◌∷◌, map, length, Bool, true, false, cond, not, ◌||◌, refl, sym, ap, ◌∙◌, arith, lt-ltb}
use Rattle.std.proofs.lemmas.Bool.Decides.{nat_tests}
use Rattle.std.proofs.lemmas.List.{length-map}
use Rattle.std.specs.List.{position_or_len}
use Rattle.std.specs.Prelude.{nat_eq, nat_lt, position, suc, Option, None, Some, if◌then◌else◌}
use Rattle.std.specs.Cmp.Lexicographic.{pointwise}
use Rattle.std.specs.Str.{bytes_eq}
use Rattle.std.proofs.lemmas.Slice.Eq.{bytes_eq-Decides}
use Rattle.term_tree.specs.declared.script.Pred.{Pred}
use Rattle.term_check.specs.Spelling.{pred_from}
use Rattle.term_check.specs.Words.{is_word_among}

same_test : (x y : Bool) → (x ≡ true → y ≡ true) → (y ≡ true → x ≡ true) → x ≡ y
same_test true y f g = sym (f refl)
same_test false true f g = g refl
same_test false false f g = refl

-- either way round
pub same_bytes : (a b : List ℕ) → pointwise nat_eq a b ≡ bytes_eq b a
same_bytes a b =
    let here = bytes_eq-Decides a b in
    let there = bytes_eq-Decides b a in
    same_test (pointwise nat_eq a b) (bytes_eq b a) (λ h. there.1 (sym (here.0 h))) (λ h. here.1 (sym (there.0 h)))

abbrev pub names_of : List Pred → List (List ℕ)
names_of preds = map (λ p. p.name.bytes) preds

-- the number that a place gives
counted : (b : Bool) (n q l : ℕ) (rest : Option ℕ) → rest ≡ cond (nat_lt q l) (Some (n + 1 + q)) None
    → (if b then Some n else rest) ≡ cond (nat_lt (cond (not b) (1 + q) 0) (suc l)) (Some (n + cond (not b) (1 + q) 0)) None
counted true n q l rest h =
    let first : nat_lt 0 (suc l) ≡ true = lt-ltb 0 (suc l) (omega arith) in
    let none : n ≡ n + 0 = omega arith in
    ap Some none ∙ sym (ap (λ t. cond t (Some (n + 0)) None) first)
counted false n q l rest h =
    let same : nat_lt q l ≡ nat_lt (1 + q) (suc l) = grind (arith, nat_tests) in
    let more : n + 1 + q ≡ n + (1 + q) = omega arith in
    h ∙ ap (λ t. cond t (Some (n + 1 + q)) None) same ∙ ap (λ (k : ℕ). cond (nat_lt (1 + q) (suc l)) (Some k) None) more

number_from : (n : ℕ) (name : List ℕ) (preds : List Pred)
    → pred_from n name preds ≡ cond (nat_lt (position_or_len (bytes_eq name) (names_of preds)) (length (names_of preds))) (Some (n + position_or_len (bytes_eq name) (names_of preds))) None
number_from n name [] = refl
number_from n name (p ∷ ps) =
    let q = position_or_len (bytes_eq name) (names_of ps) in
    let l = length (names_of ps) in
    ap (λ b. if b then Some n else pred_from (n + 1) name ps) (same_bytes p.name.bytes name) ∙ counted (bytes_eq name p.name.bytes) n q l (pred_from (n + 1) name ps) (number_from (n + 1) name ps)

place_named : {K : Type 0} (bytes : K → List ℕ) (name : List ℕ) (ks : List K) → position_or_len (λ k. bytes_eq name (bytes k)) ks ≡ position_or_len (bytes_eq name) (map bytes ks)
place_named bytes name [] = refl
place_named bytes name (k ∷ ks) = ap (λ (q : ℕ). cond (not (bytes_eq name (bytes k))) (1 + q) 0) (place_named bytes name ks)

abbrev place_or_none : ℕ → ℕ → Option ℕ
place_or_none q l = cond (nat_lt q l) (Some q) None

-- the number of a predicate is the place of its name among the keys
pub number_is : {K : Type 0} (bytes : K → List ℕ) (name : List ℕ) (ks : List K) (preds : List Pred) → map bytes ks ≡ names_of preds → position (λ k. bytes_eq name (bytes k)) ks ≡ pred_from 0 name preds
number_is bytes name ks preds are =
    let q = position_or_len (bytes_eq name) (names_of preds) in
    let first : q ≡ 0 + q = omega arith in
    ap (λ (l : ℕ). place_or_none (position_or_len (λ k. bytes_eq name (bytes k)) ks) l) (sym (length-map ks bytes)) ∙ ap (λ (q : ℕ). place_or_none q (length (map bytes ks))) (place_named bytes name ks)
    ∙ ap (λ (names : List (List ℕ)). place_or_none (position_or_len (bytes_eq name) names) (length names)) are
    ∙ ap (λ (k : ℕ). cond (nat_lt q (length (names_of preds))) (Some k) None) first ∙ sym (number_from 0 name preds)

-- a name without a number is none of theirs
pub none_named : (n : ℕ) (name : List ℕ) (preds : List Pred) → pred_from n name preds ≡ None → is_word_among (names_of preds) name ≡ false
none_named n name [] none = refl
none_named n name (p ∷ ps) none = ap (λ b. b || is_word_among (names_of ps) name) (sym (same_bytes p.name.bytes name)) ∙ by (bytes_eq p.name.bytes name) none (none_named (n + 1) name ps)
  where
    by : (b : Bool) → (if b then Some n else pred_from (n + 1) name ps) ≡ None → (pred_from (n + 1) name ps ≡ None → is_word_among (names_of ps) name ≡ false) → (b || is_word_among (names_of ps) name) ≡ false
    by true e later = absurd (cc)
    by false e later = later e
