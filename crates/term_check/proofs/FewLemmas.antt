-- Names found by comparing each, and those after them by their hash.
use Rattle.std.proofs.Common.{◌≡◌, ℕ, zero, suc, ◌+◌, ◌-◌, ◌<◌, ◌≤◌, Bool, true, false, cond, ◌||◌, get_or, List, [], ◌∷◌, ◌++◌, map, take, length, Some, None, Option, if◌then◌else◌, refl, sym, ap, ◌∙◌, arith}
use Rattle.std.proofs.lemmas.List.{map_more}
use Rattle.std.proofs.lemmas.List.Folds.{list_any-append}
use Rattle.std.specs.Str.{bytes_eq}
use Rattle.term_check.specs.declared.scope.Bound.{Bound}
use Rattle.term_check.specs.declared.scope.Named.{Named}
use Rattle.term_check.specs.declared.scope.Meaning.{Meaning}
use Rattle.term_check.specs.machinery.Meanings.{named_as}
use Rattle.term_check.specs.Operators.{first_of}
use Rattle.term_check.specs.Spelling.{bound_to}
use Rattle.term_check.specs.Words.{is_word_among}
use Rattle.term_check.proofs.MeaningLemmas.{bound_more}

first_in_turn : (a b c : Option Bound) → first_of (first_of a b) c ≡ first_of a (first_of b c)
first_in_turn (Some x) b c = refl
first_in_turn None b c = refl

first_alone : (a : Option Bound) → a ≡ first_of a None
first_alone (Some x) = refl
first_alone None = refl

-- the later names are the inner ones
pub bound_appended : (name : List ℕ) (outer inner : List Named) → bound_to name (outer ++ inner) ≡ first_of (bound_to name inner) (bound_to name outer)
bound_appended name [] inner = first_alone (bound_to name inner)
bound_appended name (n ∷ ns) inner =
    let this : Option Bound = if bytes_eq n.name.bytes name then Some n.bound else None in
    ap (λ o. first_of o this) (bound_appended name ns inner) ∙ first_in_turn (bound_to name inner) (bound_to name ns) this

-- what the first names tell, by the last of them
last_of : (name : List ℕ) (few : List Meaning) (i : ℕ) (d : Meaning) → 0 < i → i ≤ length few
    → bound_to name (map named_as (take i few)) ≡ cond (bytes_eq (get_or few (i - 1) d).name.now name) (Some (get_or few (i - 1) d).bound) (bound_to name (map named_as (take (i - 1) few)))
last_of name few i d some within =
    let again : i ≡ i - 1 + 1 = omega (arith, some) in
    ap (λ k. bound_to name (map named_as (take k few))) again ∙ ap (bound_to name) (map_more named_as few (i - 1) d (omega (arith, some, within)))
    ∙ bound_more name (map named_as (take (i - 1) few)) (named_as (get_or few (i - 1) d))

pub last_found : (name : List ℕ) (few : List Meaning) (i : ℕ) (d : Meaning) → 0 < i → i ≤ length few → bound_to name (map named_as (take i few)) ≡ bound_to name (map named_as few)
    → bytes_eq (get_or few (i - 1) d).name.now name ≡ true → Some (get_or few (i - 1) d).bound ≡ bound_to name (map named_as few)
last_found name few i d some within same is =
    sym (ap (λ own. cond own (Some (get_or few (i - 1) d).bound) (bound_to name (map named_as (take (i - 1) few)))) is) ∙ sym (last_of name few i d some within) ∙ same

pub last_other : (name : List ℕ) (few : List Meaning) (i : ℕ) (d : Meaning) → 0 < i → i ≤ length few → bound_to name (map named_as (take i few)) ≡ bound_to name (map named_as few)
    → bytes_eq (get_or few (i - 1) d).name.now name ≡ false → bound_to name (map named_as (take (i - 1) few)) ≡ bound_to name (map named_as few)
last_other name few i d some within same is =
    sym (ap (λ own. cond own (Some (get_or few (i - 1) d).bound) (bound_to name (map named_as (take (i - 1) few)))) is) ∙ sym (last_of name few i d some within) ∙ same

-- the names of a set behind others
pub among_later : (first later : List (List ℕ)) (name : List ℕ) → is_word_among first name ≡ false → is_word_among (first ++ later) name ≡ is_word_among later name
among_later first later name none = list_any-append (bytes_eq name) first later ∙ ap (λ b. b || is_word_among later name) none

none_later : (a b : Bool) → (a || b) ≡ false → b ≡ false
none_later false b none = none
none_later true b none = absurd (cc)

pub not_later : (first later : List (List ℕ)) (name : List ℕ) → is_word_among (first ++ later) name ≡ false → is_word_among later name ≡ false
not_later first later name none = none_later (is_word_among first name) (is_word_among later name) (sym (list_any-append (bytes_eq name) first later) ∙ none)

-- the outermost names alone
pub left : (n : ℕ) (few : List Meaning) (more : List Named) → take n (map named_as few ++ more) ≡ map named_as (take n few) ++ take (n - length few) more
left zero few more =
    let none : 0 ≡ 0 - length few = omega arith in
    ap (λ k. take k more) none
left (suc n) [] more =
    let all : suc n ≡ suc n - 0 = omega arith in
    ap (λ k. take k more) all
left (suc n) (m ∷ few) more =
    let one_less : n - length few ≡ suc n - suc (length few) = omega arith in
    ap (λ rest. named_as m ∷ rest) (left n few more) ∙ ap (λ k. named_as m ∷ (map named_as (take n few) ++ take k more)) one_less
