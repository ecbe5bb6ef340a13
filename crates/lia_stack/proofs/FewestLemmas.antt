-- How the first of the disjunctions with the fewest parts is found.
use Rattle.std.proofs.Common.{◌≡◌, ℕ, zero, suc, ◌+◌, ◌<◌, ◌≤◌, List, [], ◌∷◌, length, take, ap, sym, ◌∙◌, arith, true, false, Bool, Some, option_map, ⊎_elim}
use Rattle.std.specs.Prelude.{ℤ, slice_get, slice_index_or}
use Rattle.std.specs.List.{list_all, list_any}
use Rattle.std.proofs.lemmas.Bool.{cases_lt, false≢true}
use Rattle.std.proofs.lemmas.Option.{same_Some, slice_get-get_or, get_or_from_slice_get}
use Rattle.lin_atoms.specs.Truth.{truth}
use Rattle.lin_atoms.specs.declared.form.Form.{Form}
use Rattle.lin_atoms.proofs.Public.{both_true}
use Rattle.lia_stack.specs.machinery.Fewest.{IsFewest}

of-first : {X : Type 0} (p : X → Bool) (xs : List X) (n k : ℕ) (x : X) → list_all p (take n xs) ≡ true → k < n → slice_get xs k ≡ Some x → p x ≡ true
of-first p [] n k x all less at = absurd (cc)
of-first p (y ∷ xs) zero k x all less at = absurd (omega (arith, less))
of-first p (y ∷ xs) (suc n) zero x all less at = let same : y ≡ x = cc in ap p (sym same) ∙ (both_true (p y) _ all).0
of-first p (y ∷ xs) (suc n) (suc k) x all less at = of-first p xs n k x (both_true (p y) _ all).1 (omega (arith, less)) at

-- the first that is false at the point
pub fewest-first : (point : List ℤ) (cases : List (List Form)) (known : ℕ) → known < length cases → option_map (list_any (truth point)) (slice_get cases known) ≡ Some false → list_all (list_any (truth point)) (take known cases) ≡ true → IsFewest point cases (known + 1) known
fewest-first point cases known less broken before =
    let parts = slice_index_or cases known [] in
    let there : slice_get cases known ≡ Some parts = slice_get-get_or cases known [] less in
    let earlier : (k : ℕ) (others : List Form) → slice_get cases k ≡ Some others → k < known → list_any (truth point) others ≡ false → ⊥ = λ k others at sooner wrong. false≢true (sym wrong ∙ of-first (list_any (truth point)) cases known k others before sooner at) in
    record {
      parts = parts;
      there = there;
      broken = same_Some _ _ (sym (ap (option_map (list_any (truth point))) there) ∙ broken);
      least = λ k others at within wrong. ⊎_elim (λ sooner. absurd (earlier k others at sooner wrong)) (λ past.
          let here : known ≡ k = omega (arith, within, past) in
          let same : parts ≡ others = same_Some _ _ (sym there ∙ ap (slice_get cases) here ∙ at) in
          let size = ap length same in
          omega (arith, size)) (cases_lt k known);
      first = λ k others at sooner wrong. absurd (earlier k others at sooner wrong);
    }

-- the next is true there, or has as many parts
pub fewest-kept : (point : List ℤ) (cases : List (List Form)) (at known : ℕ) → IsFewest point cases at known → (list_any (truth point) (slice_index_or cases at []) ≡ false → length (slice_index_or cases known []) ≤ length (slice_index_or cases at [])) → IsFewest point cases (at + 1) known
fewest-kept point cases at known is more = record {
  parts = is.parts;
  there = is.there;
  broken = is.broken;
  least = λ k others there within wrong. ⊎_elim (λ sooner. is.least k others there sooner wrong) (λ past.
      let here : at ≡ k = omega (arith, within, past) in
      let own : slice_index_or cases at [] ≡ others = ap (λ (n : ℕ). slice_index_or cases n []) here ∙ get_or_from_slice_get cases k others [] there in
      let size = ap length (get_or_from_slice_get cases known is.parts [] is.there) in
      let other = ap length own in
      let least = more (ap (list_any (truth point)) own ∙ wrong) in
      omega (arith, least, size, other)) (cases_lt k at);
  first = is.first;
}

-- the next is false there and has fewer
pub fewest-next : (point : List ℤ) (cases : List (List Form)) (at known : ℕ) → IsFewest point cases at known → at < length cases → list_any (truth point) (slice_index_or cases at []) ≡ false → length (slice_index_or cases at []) < length (slice_index_or cases known []) → IsFewest point cases (at + 1) at
fewest-next point cases at known is inside broken fewer =
    let size = ap length (get_or_from_slice_get cases known is.parts [] is.there) in
    let first : (k : ℕ) (others : List Form) → slice_get cases k ≡ Some others → k < at → list_any (truth point) others ≡ false → length (slice_index_or cases at []) < length others = λ k others there sooner wrong. let least = is.least k others there sooner wrong in omega (arith, least, size, fewer) in
    record {
      parts = slice_index_or cases at [];
      there = slice_get-get_or cases at [] inside;
      broken = broken;
      least = λ k others there within wrong. ⊎_elim (λ sooner. let less = first k others there sooner wrong in omega (arith, less)) (λ past.
          let here : at ≡ k = omega (arith, within, past) in
          let own : slice_index_or cases at [] ≡ others = ap (λ (n : ℕ). slice_index_or cases n []) here ∙ get_or_from_slice_get cases k others [] there in
          let other = ap length own in
          omega (arith, other)) (cases_lt k at);
      first = first;
    }
