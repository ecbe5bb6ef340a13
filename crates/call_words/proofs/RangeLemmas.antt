-- Numerals are read as numbers of their range exactly where they are such.
use Rattle.std.proofs.Common.{◌≡◌, ℕ, ◌≤◌, List, Bool, true, false, Some, None, refl, sym, ◌∙◌, ap, arith}
use Rattle.std.specs.Prelude.{nat_le, Option, if◌then◌else◌}
use Rattle.std.proofs.lemmas.Bool.Decides.{nat_tests}
use Rattle.base.specs.Numeral.{is_numeral, number_of}
use Rattle.call_words.specs.Words.{IsGiven, IsGivenOr, IsCount}
use Rattle.call_words.specs.machinery.Reading.{at_least, at_most, number_given, number_or, numeral_within}

at_most_is : (most n k : ℕ) → at_most most n ≡ Some k → (n ≡ k) × (k ≤ most)
at_most_is most n k h = by (nat_le n most) refl h
  where
    by : (b : Bool) → nat_le n most ≡ b → (let o : Option ℕ = if b then Some n else None in o) ≡ Some k → (n ≡ k) × (k ≤ most)
    by true is e = let same : n ≡ k = cc in let low : n ≤ most = grind (arith, nat_tests, is) in (same, omega (arith, same, low))
    by false is e = absurd (cc)

at_least_is : (least : ℕ) (found : Option ℕ) (k : ℕ) → at_least least found ≡ Some k → (least ≤ k) × (found ≡ Some k)
at_least_is least None k h = absurd (cc)
at_least_is least (Some n) k h = by (nat_le least n) refl h
  where
    by : (b : Bool) → nat_le least n ≡ b → (let o : Option ℕ = if b then Some n else None in o) ≡ Some k → (least ≤ k) × (Some n ≡ Some k)
    by true is e = let same : n ≡ k = cc in let low : least ≤ n = grind (arith, nat_tests, is) in (omega (arith, same, low), e)
    by false is e = absurd (cc)

numeral_read : (least most : ℕ) (word : List ℕ) (k : ℕ) → numeral_within least most word ≡ Some k → IsCount least most word k
numeral_read least most word k h = by (is_numeral word) refl h
  where
    by : (b : Bool) → is_numeral word ≡ b → (let o : Option ℕ = if b then at_least least (at_most most (number_of word)) else None in o) ≡ Some k → IsCount least most word k
    by true is e =
        let both = at_least_is least (at_most most (number_of word)) k e in
        let top = at_most_is most (number_of word) k both.1 in
        (is, top.0, both.0, top.1)
    by false is e = absurd (cc)

numeral_found : (least most : ℕ) (word : List ℕ) (n : ℕ) → IsCount least most word n → numeral_within least most word ≡ Some n
numeral_found least most word n (is, number, low, high) =
    let small : nat_le n most ≡ true = grind (arith, nat_tests, high) in
    let large : nat_le least n ≡ true = grind (arith, nat_tests, low) in
    ap (λ (b : Bool). let o : Option ℕ = if b then at_least least (at_most most (number_of word)) else None in o) is
    ∙ ap (λ (k : ℕ). at_least least (at_most most k)) number
    ∙ ap (λ (b : Bool). at_least least (let o : Option ℕ = if b then Some n else None in o)) small
    ∙ ap (λ (b : Bool). let o : Option ℕ = if b then Some n else None in o) large

pub some_same : (a b : ℕ) → (let o : Option ℕ = Some a in o) ≡ Some b → a ≡ b
some_same a b h = cc

pub or_read : (least most default : ℕ) (text : Option (List ℕ)) (n : ℕ) → number_or least most default text ≡ Some n → IsGivenOr least most default text n
or_read least most default None n h = sym (some_same default n h)
or_read least most default (Some text) n h = numeral_read least most text n h

pub or_found : (least most default : ℕ) (text : Option (List ℕ)) (n : ℕ) → IsGivenOr least most default text n → number_or least most default text ≡ Some n
or_found least most default None n h = ap (λ (k : ℕ). let o : Option ℕ = Some k in o) (sym h)
or_found least most default (Some text) n h = numeral_found least most text n h

pub or_within : (least most default : ℕ) (text : Option (List ℕ)) (n : ℕ) → least ≤ default → default ≤ most → IsGivenOr least most default text n → (least ≤ n) × (n ≤ most)
or_within least most default None n low high h = (omega (arith, h, low), omega (arith, h, high))
or_within least most default (Some text) n low high h = (h.2, h.3)

pub given_read : (least most : ℕ) (text : Option (List ℕ)) (n : ℕ) → number_given least most text ≡ Some n → IsGiven least most text n
given_read least most None n h = absurd (cc)
given_read least most (Some text) n h = numeral_read least most text n h

pub given_found : (least most : ℕ) (text : Option (List ℕ)) (n : ℕ) → IsGiven least most text n → number_given least most text ≡ Some n
given_found least most None n h = absurd h
given_found least most (Some text) n h = numeral_found least most text n h

pub given_within : (least most : ℕ) (text : Option (List ℕ)) (n : ℕ) → IsGiven least most text n → n ≤ most
given_within least most None n h = absurd h
given_within least most (Some text) n h = h.3
