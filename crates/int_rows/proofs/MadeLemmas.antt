-- Rows and terms that are made one by one, entries that are read, and results that are no refusals.
use Rattle.std.proofs.Common.{◌≡◌, ◌≤◌, ◌<◌, ◌+◌, ◌^◌, ◌++◌, ◌∷◌, [], ℕ, List, Bool, true, false, Result, Ok, Err, Vec, Global, arith, ap, sym, subst, ◌∙◌, get_or, length, map, take, FitsSigned}
use Rattle.std.specs.Prelude.{ℤ, pos, nat_abs, ◌-ℤ◌}
use Rattle.std.specs.Int.{cast_signed, cast_unsigned, w64}
use Rattle.std.proofs.lemmas.Bool.{false≢true}
use Rattle.std.proofs.lemmas.Int.{fits_signed_from_abs, ints, to_z-of_z}
use Rattle.std.proofs.lemmas.List.{map-append, take_more}
use Rattle.int_rows.specs.declared.stop.PushStop.{PushStop}

abbrev lines : List (Vec ℤ Global) → List (List ℤ)
lines rows = map (λ r. r.items) rows

-- a copy of one more row
pub lines-more : (rows made new : List (Vec ℤ Global)) (i : ℕ) (row next : Vec ℤ Global) → i < length rows → row ≡ get_or rows i row → new ≡ made ++ next ∷ [] → next.items ≡ row.items → lines made ≡ lines (take i rows) → lines new ≡ lines (take (i + 1) rows)
lines-more rows made new i row next h at pushed is before =
    ap lines pushed
    ∙ map-append (λ r. r.items) made (next ∷ [])
    ∙ ap (λ (l : List (List ℤ)). l ++ next.items ∷ []) before
    ∙ ap (λ (r : List ℤ). lines (take i rows) ++ r ∷ []) (is ∙ ap (λ (r : Vec ℤ Global). r.items) at)
    ∙ sym (ap lines (take_more rows i row h) ∙ map-append (λ r. r.items) (take i rows) (get_or rows i row ∷ []))

-- and of one that is changed
pub changed-more : (f : List ℤ → List ℤ) (rows made new : List (Vec ℤ Global)) (i : ℕ) (row next : Vec ℤ Global) → i < length rows → row ≡ get_or rows i row → new ≡ made ++ next ∷ [] → next.items ≡ f row.items
    → lines made ≡ map f (lines (take i rows)) → lines new ≡ map f (lines (take (i + 1) rows))
changed-more f rows made new i row next h at pushed is before =
    ap lines pushed
    ∙ map-append (λ r. r.items) made (next ∷ [])
    ∙ ap (λ (l : List (List ℤ)). l ++ next.items ∷ []) before
    ∙ ap (λ (r : List ℤ). map f (lines (take i rows)) ++ r ∷ []) (is ∙ ap (λ (r : Vec ℤ Global). f r.items) at)
    ∙ sym (ap (λ rs. map f (lines rs)) (take_more rows i row h) ∙ ap (λ (l : List (List ℤ)). map f l) (map-append (λ r. r.items) (take i rows) (get_or rows i row ∷ [])) ∙ map-append f (lines (take i rows)) ((get_or rows i row).items ∷ []))

-- the end of a count
pub same-count : (i n : ℕ) → i ≤ n → n ≤ i → i ≡ n
same-count i n h g = omega (arith, h, g)

-- an entry as it is handed on
pub read-small : (z : ℤ) → nat_abs z < 2 ^ 63 → nat_abs (cast_signed w64 (cast_unsigned w64 z)) < 2 ^ 63
read-small z h = subst (λ n. nat_abs n < 2 ^ 63) (sym (to_z-of_z w64 z (fits_signed_from_abs w64 z h))) h

pub minus-fits : (x a : ℤ) → x ≡ a → nat_abs a < 2 ^ 63 → FitsSigned w64 (pos 0 -ℤ x)
minus-fits x a same h = omega (arith, ints, same, h)

abbrev is_refusal : {T : Type 0} → Result T PushStop → Bool
is_refusal (Ok t) = false
is_refusal (Err e) = true

pub no-refusal : {T : Type 0} (t : T) (e : PushStop) → (let r : Result T PushStop = Ok t in r) ≡ Err e → ⊥
no-refusal t e is = false≢true (ap is_refusal is)

-- one more term is mapped
pub mapped-more : (f : ℕ × ℤ → ℕ × ℤ) (ts : List (ℕ × ℤ)) (i : ℕ) (d : ℕ × ℤ) → i < length ts → map f (take (i + 1) ts) ≡ map f (take i ts) ++ f (get_or ts i d) ∷ []
mapped-more f ts i d h = ap (map f) (take_more ts i d h) ∙ map-append f (take i ts) (get_or ts i d ∷ [])
