-- The steps of the loops over the values of an operator's arguments.
use Rattle.std.proofs.Common.{◌≡◌, ℕ, ◌+◌, ◌-◌, ◌<◌, ◌≤◌, List, [], ◌∷◌, length, get_or, drop, map, Bool, true, false, refl, ap, sym, ◌∙◌, arith, add-one, drop-cons, length-drop}
use Rattle.std.specs.Prelude.{not, ◌||◌}
use Rattle.term_tree.specs.declared.scalar.Value.{Value}
use Rattle.term_tree.specs.Operators.{truth, chained, implied}

pub dropped : (values : List Value) (i : ℕ) (d : Value) → i < length values → drop i values ≡ get_or values i d ∷ drop (i + 1) values
dropped values i d h = rw (add-one, drop-cons values i d)

short : (r : Value → Value → Bool) (vs : List Value) → length vs ≤ 1 → chained r vs ≡ true
short r [] h = refl
short r (v ∷ []) h = refl
short r (v ∷ w ∷ vs) h = absurd (omega arith)

pub chained_end : (r : Value → Value → Bool) (values : List Value) (i : ℕ) → length values ≤ i → true ≡ chained r (drop (i - 1) values)
chained_end r values i h = sym (short r (drop (i - 1) values) (omega (arith, length-drop (i - 1) values)))

-- a part before the last that is false makes it true, and else the rest decides
pub implied_at : (values : List Value) (i : ℕ) (d : Value) → i + 1 < length values
    → implied (map truth (drop i values)) ≡ (not (truth (get_or values i d)) || implied (map truth (drop (i + 1) values)))
implied_at values i d h =
    let some : 0 < length (drop (i + 1) values) = omega (arith, length-drop (i + 1) values) in
    ap (λ (vs : List Value). implied (map truth vs)) (dropped values i d (omega arith)) ∙ more (truth (get_or values i d)) (drop (i + 1) values) some
  where
    more : (b : Bool) (vs : List Value) → 0 < length vs → implied (b ∷ map truth vs) ≡ (not b || implied (map truth vs))
    more b [] e = absurd (omega arith)
    more b (v ∷ vs) e = refl

pub implied_early : (values : List Value) (i : ℕ) (d : Value) (b : Bool) → i < length values → (i + 1 ≡ length values → ⊥) → b ≡ truth (get_or values i d) → b ≡ false
    → true ≡ implied (map truth (drop i values))
implied_early values i d b h more is early =
    sym (implied_at values i d (omega arith) ∙ ap (λ (t : Bool). not t || implied (map truth (drop (i + 1) values))) (sym is ∙ early))
