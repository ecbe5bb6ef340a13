-- The first numbers above the variables of the first literals of a list.
use Rattle.std.proofs.Common.{◌≡◌, ◌<◌, ◌≤◌, ◌+◌, ◌-◌, ℕ, zero, suc, List, [], ◌∷◌, ◌++◌, take, length, get_or, min, refl, ap, sym, ◌∙◌, arith, Some, None, Bool, true, false}
use Rattle.std.specs.Prelude.{max, nat_le, slice_get}
use Rattle.std.proofs.lemmas.Bool.{leb-true, leb-false}
use Rattle.std.proofs.lemmas.List.{length-append, length-take, length-take-le, take-append-le, take-take, take_all, take_more}
use Rattle.lin_atoms.specs.Denial.{linear_of}
use Rattle.lin_atoms.specs.declared.lit.Lit.{Lit}
use Rattle.refutation_trees.specs.Combination.{lits_end, terms_end}
use Rattle.farkas_proof.specs.machinery.Ends.{ends_from}

abbrev end_of : Lit → ℕ
end_of lit = terms_end (linear_of lit).terms

joined : (a b c d : ℕ) → max (max (max a b) c) d ≡ max (max a (max b c)) d
joined a b c d = omega arith

-- one literal more
ends-push : (from : ℕ) (lits : List Lit) (lit : Lit) → ends_from from (lits ++ lit ∷ []) ≡ ends_from from lits ++ max (max from (lits_end lits)) (end_of lit) ∷ []
ends-push from [] lit = let same : max from 0 ≡ from = omega arith in ap (λ (n : ℕ). max n (end_of lit) ∷ []) (sym same)
ends-push from (l ∷ lits) lit =
    let end = max from (end_of l) in
    ap (λ (ns : List ℕ). end ∷ ns) (ends-push end lits lit) ∙ ap (λ (n : ℕ). end ∷ (ends_from end lits ++ n ∷ [])) (joined from (end_of l) (lits_end lits) (end_of lit))

ends-pushed : (lits : List Lit) (lit : Lit) → ends_from 0 (lits ++ lit ∷ []) ≡ ends_from 0 lits ++ max (lits_end lits) (end_of lit) ∷ []
ends-pushed lits lit = let same : max 0 (lits_end lits) ≡ lits_end lits = omega arith in ends-push 0 lits lit ∙ ap (λ (n : ℕ). ends_from 0 lits ++ max n (end_of lit) ∷ []) same

-- the first literals
ends-take : (from n : ℕ) (lits : List Lit) → take n (ends_from from lits) ≡ ends_from from (take n lits)
ends-take from zero lits = refl
ends-take from (suc n) [] = refl
ends-take from (suc n) (l ∷ lits) = ap (λ (ns : List ℕ). max from (end_of l) ∷ ns) (ends-take (max from (end_of l)) n lits)

-- the last of the numbers
last-end : (from n e : ℕ) (lits : List Lit) → n ≡ length (ends_from from lits) - 1 → Some e ≡ slice_get (ends_from from lits) n → e ≡ max from (lits_end lits)
last-end from n e [] h is = absurd (cc)
last-end from zero e (l ∷ []) h is = let here : e ≡ max from (end_of l) = cc in omega arith
last-end from (suc n) e (l ∷ []) h is = absurd (omega arith)
last-end from zero e (l ∷ m ∷ lits) h is = absurd (omega arith)
last-end from (suc n) e (l ∷ m ∷ lits) h is = let rest = last-end (max from (end_of l)) n e (m ∷ lits) (omega arith) is in omega arith

pub end-some : (ends : List ℕ) (lits : List Lit) (e : ℕ) → ends ≡ ends_from 0 lits → Some e ≡ slice_get ends (length ends - 1) → e ≡ lits_end lits
end-some ends lits e k is =
    let last = last-end 0 (length (ends_from 0 lits) - 1) e lits refl (is ∙ ap (λ (ns : List ℕ). slice_get ns (length ns - 1)) k) in
    omega arith

some-last : (from n : ℕ) (lits : List Lit) → n < length (ends_from from lits) → None ≡ slice_get (ends_from from lits) n → ⊥
some-last from n [] h is = omega arith
some-last from zero (l ∷ lits) h is = cc
some-last from (suc n) (l ∷ lits) h is = some-last (max from (end_of l)) n lits (omega arith) is

none-last : (lits : List Lit) → None ≡ slice_get (ends_from 0 lits) (length (ends_from 0 lits) - 1) → 0 ≡ lits_end lits
none-last [] h = refl
none-last (l ∷ lits) h = absurd (some-last 0 (length (ends_from 0 (l ∷ lits)) - 1) (l ∷ lits) (omega arith) h)

pub end-none : (ends : List ℕ) (lits : List Lit) → ends ≡ ends_from 0 lits → None ≡ slice_get ends (length ends - 1) → 0 ≡ lits_end lits
end-none ends lits k is = none-last lits (is ∙ ap (λ (ns : List ℕ). slice_get ns (length ns - 1)) k)

-- the numbers that are kept are those of the first literals
length-ends : (from : ℕ) (lits : List Lit) → length (ends_from from lits) ≡ length lits
length-ends from [] = refl
length-ends from (l ∷ lits) = ap suc (length-ends (max from (end_of l)) lits)

kept-within : (ends : List ℕ) (lits : List Lit) → ends ≡ ends_from 0 (take (length ends) lits) → length ends ≤ length lits
kept-within ends lits is =
    let all : length ends ≡ length (take (length ends) lits) = ap length is ∙ length-ends 0 (take (length ends) lits) in
    let least : length (take (length ends) lits) ≡ min (length ends) (length lits) = length-take (length ends) lits in
    omega (arith, all, least)

pub kept-all : (ends : List ℕ) (lits : List Lit) → ends ≡ ends_from 0 (take (length ends) lits) → length lits ≤ length ends → ends ≡ ends_from 0 lits
kept-all ends lits is h = is ∙ ap (ends_from 0) (take_all (length ends) lits h)

pub kept-push : (ends : List ℕ) (lits more : List Lit) → ends ≡ ends_from 0 (take (length ends) lits) → ends ≡ ends_from 0 (take (length ends) (lits ++ more))
kept-push ends lits more is = is ∙ ap (ends_from 0) (sym (take-append-le (length ends) lits more (kept-within ends lits is)))

pub kept-more : (ends : List ℕ) (lits : List Lit) (e : ℕ) (d : Lit) → ends ≡ ends_from 0 (take (length ends) lits) → length ends < length lits → e ≡ max (lits_end (take (length ends) lits)) (terms_end (linear_of (get_or lits (length ends) d)).terms)
    → ends ++ e ∷ [] ≡ ends_from 0 (take (length (ends ++ e ∷ [])) lits)
kept-more ends lits e d is h v =
    let n = length ends in
    let before = take n lits in
    let lit = get_or lits n d in
    let long : length (ends ++ e ∷ []) ≡ n + 1 = length-append ends (e ∷ []) in
    ap (λ (xs : List ℕ). xs ++ e ∷ []) is ∙ ap (λ (x : ℕ). ends_from 0 before ++ x ∷ []) v ∙ sym (ends-pushed before lit)
    ∙ ap (ends_from 0) (sym (take_more lits n d h)) ∙ ap (λ (k : ℕ). ends_from 0 (take k lits)) (sym long)

truncated : (depth : ℕ) (ends : List ℕ) (lits : List Lit) (b : Bool) → nat_le depth (length ends) ≡ b → ends ≡ ends_from 0 (take (length ends) lits) → take depth ends ≡ ends_from 0 (take (length (take depth ends)) (take depth lits))
truncated depth ends lits true e is =
    let le : depth ≤ length ends = leb-true _ _ e in
    ap (take depth) is ∙ ends-take 0 depth (take (length ends) lits)
    ∙ ap (ends_from 0) (take-take depth (length ends) lits le ∙ sym (take-take depth depth lits (omega arith)))
    ∙ ap (λ (k : ℕ). ends_from 0 (take k (take depth lits))) (sym (length-take-le depth ends le))
truncated depth ends lits false e is =
    let gt : length ends ≤ depth = let lt = leb-false _ _ e in omega (arith, lt) in
    let all = take_all depth ends gt in
    all ∙ is ∙ ap (ends_from 0) (sym (take-take (length ends) depth lits gt)) ∙ ap (λ (xs : List ℕ). ends_from 0 (take (length xs) (take depth lits))) (sym all)

pub kept-truncate : (depth : ℕ) (ends : List ℕ) (lits : List Lit) → ends ≡ ends_from 0 (take (length ends) lits) → take depth ends ≡ ends_from 0 (take (length (take depth ends)) (take depth lits))
kept-truncate depth ends lits is = truncated depth ends lits (nat_le depth (length ends)) refl is
