-- The digits of a number are its numeral.
use Rattle.std.proofs.Common.{ℕ, ◌≡◌, ◌+◌, ◌-◌, ◌*◌, ◌/◌, ◌%◌, ◌^◌, ◌<◌, ◌≤◌, List, [], ◌∷◌, ◌++◌, Bool, true, false, ◌&&◌, nat_lt, refl, ◌∙◌, arith, decimal}
use Rattle.std.proofs.lemmas.Fmt.{decimal_by_steps}
use Rattle.std.proofs.lemmas.List.Folds.{list_all-append}
use Rattle.std.proofs.lemmas.List.Sums.{fold-append}
use Rattle.std.specs.List.{list_all}
use Rattle.base.specs.Bytes.{is_digit}
use Rattle.base.specs.Numeral.{is_numeral, number_of}
use Rattle.term_tree.proofs.Public.{both_true}

-- the first digit isn't 0
abbrev leads : List ℕ → Bool
leads [] = false
leads (d ∷ ds) = nat_lt 48 d

pub record IsSpelled (n : ℕ) (ds : List ℕ) : Type 0 where
  pub digits : list_all is_digit ds ≡ true
  pub numeral : is_numeral ds ≡ true
  pub value : number_of ds ≡ n
  pub first : 0 < n → leads ds ≡ true

digit : (k : ℕ) → k < 10 → is_digit (48 + k) ≡ true
digit k h = grind arith

digit_leads : (k : ℕ) → 0 < k → nat_lt 48 (48 + k) ≡ true
digit_leads k h = grind arith

both : (a b : Bool) → a ≡ true → b ≡ true → (a && b) ≡ true
both true b h k = k
both false b h k = absurd (cc)

led : (ds : List ℕ) → leads ds ≡ true → list_all is_digit ds ≡ true → is_numeral ds ≡ true
led [] h k = absurd (cc)
led (d ∷ []) h k = (both_true (is_digit d) true k).0
led (d ∷ e ∷ ds) h k = both (nat_lt 48 d) (list_all is_digit (d ∷ e ∷ ds)) h k

leads_more : (ds : List ℕ) (d : ℕ) → leads ds ≡ true → leads (ds ++ d ∷ []) ≡ true
leads_more [] d h = absurd (cc)
leads_more (c ∷ ds) d h = h

one : (n : ℕ) → n < 10 → IsSpelled n ((48 + n) ∷ [])
one n h = record {
  digits = both (is_digit (48 + n)) true (digit n h) refl;
  numeral = digit n h;
  value = omega arith;
  first = digit_leads n;
}

step : (n : ℕ) (ds : List ℕ) → 10 ≤ n → IsSpelled (n / 10) ds → IsSpelled n (ds ++ ((48 + n % 10) ∷ []))
step n ds h s =
    let d : ℕ = 48 + n % 10 in
    let is : is_digit d ≡ true = digit (n % 10) (omega arith) in
    let front : leads (ds ++ d ∷ []) ≡ true = leads_more ds d (s.first (omega arith)) in
    let all : list_all is_digit (ds ++ d ∷ []) ≡ true = list_all-append is_digit ds (d ∷ []) ∙ both (list_all is_digit ds) (is_digit d && true) s.digits (both (is_digit d) true is refl) in
    let sum : number_of (ds ++ d ∷ []) ≡ 10 * number_of ds + (d - 48) = fold-append (λ m c. 10 * m + (c - 48)) 0 ds (d ∷ []) in
    record {
      digits = all;
      numeral = led (ds ++ d ∷ []) front all;
      value = omega (arith, sum, s.value);
      first = λ _. front;
    }

pub decimal_is : (n : ℕ) → n < 2 ^ 64 → IsSpelled n (decimal n)
decimal_is n small = decimal_by_steps IsSpelled one step n small
