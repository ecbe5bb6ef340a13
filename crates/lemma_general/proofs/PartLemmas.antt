-- Parts of lists of literals, and a list without a literal.
use Rattle.std.proofs.Common.{◌≡◌, ℕ, ◌<◌, zero, suc, List, [], ◌∷◌, ◌++◌, Bool, true, false, ◌||◌, inl, inr, length, take, drop, refl, ap, sym, ◌∙◌, subst, arith}
use Rattle.std.specs.Prelude.{Option, option_map, slice_get}
use Rattle.std.specs.List.{list_all, list_any}
use mathlib.Core.Bool.{true≢false}
use Rattle.lin_atoms.specs.declared.lit.Lit.{Lit}
use Rattle.lin_atoms.specs.Truth.{lit_truth}
use Rattle.cube_forms.specs.Cubes.{cube_is_short, lit_is_short}
use Rattle.cube_rules.proofs.Public.{both_true, from_both, plus-one}
use Rattle.lemma_general.specs.Generals.{IsPart, without}
use Rattle.lemma_general.specs.Tries.{IsWiderCube}
use Rattle.book_rules.specs.Walks.{has}

pub part-self : (lits : List Lit) → IsPart lits lits
part-self [] = tt
part-self (x ∷ lits) = inl (refl, part-self lits)

pub part-trans : (part mid whole : List Lit) → IsPart part mid → IsPart mid whole → IsPart part whole
part-trans [] mid whole h k = tt
part-trans (x ∷ part) [] whole h k = absurd h
part-trans (x ∷ part) (y ∷ mid) [] h k = absurd k
part-trans (x ∷ part) (y ∷ mid) (z ∷ whole) (inl h) (inl k) = inl (h.0 ∙ k.0, part-trans part mid whole h.1 k.1)
part-trans (x ∷ part) (y ∷ mid) (z ∷ whole) (inl h) (inr k) = inr (part-trans (x ∷ part) (y ∷ mid) whole (inl h) k)
part-trans (x ∷ part) (y ∷ mid) (z ∷ whole) (inr h) (inl k) = inr (part-trans (x ∷ part) mid whole h k.1)
part-trans (x ∷ part) (y ∷ mid) (z ∷ whole) (inr h) (inr k) = inr (part-trans (x ∷ part) (y ∷ mid) whole (inr h) k)

-- a part is one of a longer list
later : (y : Lit) (part whole : List Lit) → IsPart part whole → IsPart part (y ∷ whole)
later y [] whole h = tt
later y (x ∷ part) whole h = inr h

-- a list without the literal at a place, as it is taken apart

abbrev gone : ℕ → List Lit → List Lit
gone at lits = take at lits ++ drop (suc at) lits

without-gone : (at : ℕ) (lits : List Lit) → gone at lits ≡ without at lits
without-gone at lits = ap (λ (n : ℕ). take at lits ++ drop n lits) (sym (plus-one at))

part-gone : (at : ℕ) (lits : List Lit) → at < length lits → IsPart (gone at lits) lits
part-gone at [] less = absurd (omega arith)
part-gone zero (x ∷ lits) less = later x lits lits (part-self lits)
part-gone (suc at) (x ∷ lits) less = inl (refl, part-gone at lits (omega arith))

pub part-without : (at : ℕ) (lits : List Lit) → at < length lits → IsPart (without at lits) lits
part-without at lits less = subst (λ (c : List Lit). IsPart c lits) (without-gone at lits) (part-gone at lits less)

shorter-gone : (at : ℕ) (lits : List Lit) → at < length lits → length (gone at lits) < length lits
shorter-gone at [] less = absurd (omega arith)
shorter-gone zero (x ∷ lits) less = omega arith
shorter-gone (suc at) (x ∷ lits) less = let rest = shorter-gone at lits (omega arith) in omega (arith, rest)

pub shorter : (at : ℕ) (lits : List Lit) → at < length lits → length (without at lits) < length lits
shorter at lits less = subst (λ (c : List Lit). length c < length lits) (without-gone at lits) (shorter-gone at lits less)

-- what all of a list pass, a part passes

pub part-all : (p : Lit → Bool) (part whole : List Lit) → IsPart part whole → list_all p whole ≡ true → list_all p part ≡ true
part-all p [] whole h all = refl
part-all p (x ∷ part) [] h all = absurd h
part-all p (x ∷ part) (y ∷ whole) (inl h) all = let both = both_true (p y) (list_all p whole) all in from_both (p x) (list_all p part) (ap p h.0 ∙ both.0) (part-all p part whole h.1 both.1)
part-all p (x ∷ part) (y ∷ whole) (inr h) all = let both = both_true (p y) (list_all p whole) all in part-all p (x ∷ part) whole h both.1

none-of : (a b : Bool) → (a || b) ≡ false → (a ≡ false) × (b ≡ false)
none-of true b h = absurd (true≢false h)
none-of false b h = (refl, h)

pub part-none : (p : Lit → Bool) (part whole : List Lit) → IsPart part whole → list_any p whole ≡ false → list_any p part ≡ false
part-none p [] whole h none = refl
part-none p (x ∷ part) [] h none = absurd h
part-none p (x ∷ part) (y ∷ whole) (inl h) none = let both = none-of (p y) (list_any p whole) none in ap (λ b. b || list_any p part) (ap p h.0 ∙ both.0) ∙ part-none p part whole h.1 both.1
part-none p (x ∷ part) (y ∷ whole) (inr h) none = let both = none-of (p y) (list_any p whole) none in part-none p (x ∷ part) whole h both.1

pub part-holds : (part whole : List Lit) → IsPart part whole → IsWiderCube whole part
part-holds part whole h = λ tuple held. part-all (lit_truth tuple) part whole h held

pub short-without : (at : ℕ) (lits : List Lit) → at < length lits → cube_is_short lits ≡ true → cube_is_short (without at lits) ≡ true
short-without at lits within short = part-all lit_is_short (without at lits) lits (part-without at lits within) short

-- a test of how many places a predicate has, by what was looked up
pub over-told : {S : Type 0} (preds : List (List S)) (pred : ℕ) (found : Option (List S)) (test : ℕ → Bool) → slice_get preds pred ≡ found → has (option_map (λ (sorts : List S). length sorts) found) test ≡ has (option_map (λ (sorts : List S). length sorts) (slice_get preds pred)) test
over-told {S = S} preds pred found test there = sym (ap (λ (o : Option (List S)). has (option_map (λ (sorts : List S). length sorts) o) test) there)
