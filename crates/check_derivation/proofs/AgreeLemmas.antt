-- Two lists whose items stand in a relation, one pair after another.
use Rattle.std.proofs.Common.{◌≡◌, ℕ, suc, ◌+◌, ◌<◌, ◌≤◌, List, [], ◌∷◌, length, drop, get_or, Bool, true, false, ◌&&◌, refl, ap, sym, ◌∙◌, arith}
use Rattle.std.proofs.lemmas.List.{drop_all, drop_more}
use Rattle.term_tree.proofs.Public.{both_true}
use Rattle.check_derivation.specs.machinery.Tests.{agree}

and_false : (b : Bool) → (b && false) ≡ false
and_false true = refl
and_false false = refl

module _ {X : Type 0} where
  drop_at : (xs : List X) (i : ℕ) (x : X) → i < length xs → get_or xs i x ≡ x → drop i xs ≡ x ∷ drop (i + 1) xs
  drop_at xs i x less same = drop_more xs i x less ∙ ap (λ (y : X). y ∷ drop (i + 1) xs) same

module _ {A B : Type 0} (test : A → B → Bool) where
  agree_more : (xs : List A) (ys : List B) (i : ℕ) (x : A) (y : B) → i < length xs → i < length ys → get_or xs i x ≡ x → get_or ys i y ≡ y
      → agree test (drop i xs) (drop i ys) ≡ (test x y && agree test (drop (i + 1) xs) (drop (i + 1) ys))
  agree_more xs ys i x y less within is_x is_y =
      ap (λ (l : List A). agree test l (drop i ys)) (drop_at xs i x less is_x) ∙ ap (λ (l : List B). agree test (x ∷ drop (i + 1) xs) l) (drop_at ys i y within is_y)

  -- where a pair stands in the relation, what is left decides
  pub agree_step : (xs : List A) (ys : List B) (i : ℕ) (x : A) (y : B) (whole : Bool) → i < length xs → i < length ys → get_or xs i x ≡ x → get_or ys i y ≡ y → test x y ≡ true
      → agree test (drop i xs) (drop i ys) ≡ whole → agree test (drop (i + 1) xs) (drop (i + 1) ys) ≡ whole
  agree_step xs ys i x y whole less within is_x is_y stands so_far =
      sym (agree_more xs ys i x y less within is_x is_y ∙ ap (λ (b : Bool). b && agree test (drop (i + 1) xs) (drop (i + 1) ys)) stands) ∙ so_far

  pub agree_stop : (xs : List A) (ys : List B) (i : ℕ) (x : A) (y : B) (whole : Bool) → i < length xs → i < length ys → get_or xs i x ≡ x → get_or ys i y ≡ y → test x y ≡ false
      → agree test (drop i xs) (drop i ys) ≡ whole → false ≡ whole
  agree_stop xs ys i x y whole less within is_x is_y stands so_far =
      sym (agree_more xs ys i x y less within is_x is_y ∙ ap (λ (b : Bool). b && agree test (drop (i + 1) xs) (drop (i + 1) ys)) stands) ∙ so_far

  pub agree_done : (xs : List A) (ys : List B) (i : ℕ) (whole : Bool) → length xs ≡ length ys → length xs ≤ i → agree test (drop i xs) (drop i ys) ≡ whole → true ≡ whole
  agree_done xs ys i whole same past so_far =
      sym (ap (λ (l : List A). agree test l (drop i ys)) (drop_all i xs past) ∙ ap (λ (l : List B). agree test [] l) (drop_all i ys (omega (arith, same, past)))) ∙ so_far

  pub agree_uneven : (xs : List A) (ys : List B) → (length xs ≡ length ys → ⊥) → false ≡ agree test xs ys
  agree_uneven [] [] differ = absurd (differ refl)
  agree_uneven [] (y ∷ ys) differ = refl
  agree_uneven (x ∷ xs) [] differ = refl
  agree_uneven (x ∷ xs) (y ∷ ys) differ = sym (ap (λ (b : Bool). test x y && b) (sym (agree_uneven xs ys (λ e. differ (ap suc e)))) ∙ and_false (test x y))

  pub agree_long : (xs : List A) (ys : List B) → agree test xs ys ≡ true → length xs ≡ length ys
  agree_long [] [] h = refl
  agree_long [] (y ∷ ys) h = absurd (cc)
  agree_long (x ∷ xs) [] h = absurd (cc)
  agree_long (x ∷ xs) (y ∷ ys) h = ap suc (agree_long xs ys (both_true (test x y) (agree test xs ys) h).1)
