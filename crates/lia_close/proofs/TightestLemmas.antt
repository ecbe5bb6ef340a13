-- The search for the literal that gives the tightest bound on a variable.
use Rattle.std.proofs.Common.{◌≡◌, ℕ, zero, suc, ◌+◌, List, [], ◌∷◌, refl, ap, sym, ◌∙◌, subst, arith, true, false, Bool, cond}
use Rattle.std.specs.Prelude.{ℤ, pos, neg_ℤ, ◌≤ℤ◌, ◌<ℤ◌, int_le, int_lt, Option, None, Some, slice_get}
use Rattle.std.specs.List.{flat_map}
use Rattle.std.specs.Option.{option_map}
use Rattle.std.proofs.lemmas.Int.{ints}
use Rattle.int_rows.specs.Node.{bounds_of, coefficient, greater, greatest_lower, is_on, least_upper, lesser, lower_on, upper_on}
use Rattle.int_rows.specs.declared.bounds.Bounded.{Bounded}
use Rattle.int_rows.specs.declared.bounds.Ready.{Ready}
use Rattle.int_rows.specs.declared.bounds.Ready.TheVariants.{Truth, Bounds}
use Rattle.int_rows.proofs.ReadyLemmas.{le-true, true-le}
use Rattle.lia_close.specs.declared.side.Side.{Side}
use Rattle.lia_close.specs.declared.side.Side.TheVariants.{Lower, Upper}
use Rattle.lia_close.specs.machinery.Tightest.{IsGreatest, IsLeast, greatest_found, greatest_from, is_greater, is_less, least_found, least_from, side_above, side_below}

both-sides : (c d : Bool) (l u : Option ℤ) (first second : Side) → (cond {A = Option ℤ × Side} c (cond d (l, first) (u, second)) (None, first)).0 ≡ cond c (cond d l u) None
both-sides true true l u first second = refl
both-sides true false l u first second = refl
both-sides false d l u first second = refl

below-is : (v : ℕ) (b : Bounded) → (side_below v (Bounds b)).0 ≡ lower_on v b
below-is v b = both-sides (is_on v b) (int_lt (pos 0) (coefficient b.form.terms v)) b.lower (option_map neg_ℤ b.upper) Lower Upper

above-is : (v : ℕ) (b : Bounded) → (side_above v (Bounds b)).0 ≡ upper_on v b
above-is v b = both-sides (is_on v b) (int_lt (pos 0) (coefficient b.form.terms v)) b.upper (option_map neg_ℤ b.lower) Upper Lower

-- what one more literal says joins what the rest says
next-lower : (v : ℕ) (r : Ready) (rs : List Ready) → greatest_lower (flat_map bounds_of (r ∷ rs)) v ≡ greater (side_below v r).0 (greatest_lower (flat_map bounds_of rs) v)
next-lower v (Truth t) rs = refl
next-lower v (Bounds b) rs = ap (λ (l : Option ℤ). greater l (greatest_lower (flat_map bounds_of rs) v)) (sym (below-is v b))

next-upper : (v : ℕ) (r : Ready) (rs : List Ready) → least_upper (flat_map bounds_of (r ∷ rs)) v ≡ lesser (side_above v r).0 (least_upper (flat_map bounds_of rs) v)
next-upper v (Truth t) rs = refl
next-upper v (Bounds b) rs = ap (λ (u : Option ℤ). lesser u (least_upper (flat_map bounds_of rs) v)) (sym (above-is v b))

less-true : (a b : ℤ) → int_lt a b ≡ true → a <ℤ b
less-true a b h = grind (arith, ints)

less-false : (a b : ℤ) → int_lt a b ≡ false → b ≤ℤ a
less-false a b h = grind (arith, ints)

-- the greater of two numbers, and the lesser
greater-up : (o m : ℤ) → o ≤ℤ m → greater (Some o) (Some m) ≡ Some m
greater-up o m h = ap (λ (b : Bool). Some (cond b m o)) (true-le o m h)

greater-down : (o m : ℤ) → m ≤ℤ o → greater (Some o) (Some m) ≡ Some o
greater-down o m h = by-test (int_le o m) refl where
  by-test : (b : Bool) → int_le o m ≡ b → Some (cond b m o) ≡ Some o
  by-test true e = let le = le-true o m e in ap Some (let same : m ≡ o = omega (arith, ints, le, h) in same)
  by-test false e = refl

lesser-up : (o m : ℤ) → o ≤ℤ m → lesser (Some o) (Some m) ≡ Some o
lesser-up o m h = ap (λ (b : Bool). Some (cond b o m)) (true-le o m h)

lesser-down : (o m : ℤ) → m ≤ℤ o → lesser (Some o) (Some m) ≡ Some m
lesser-down o m h = by-test (int_le o m) refl where
  by-test : (b : Bool) → int_le o m ≡ b → Some (cond b o m) ≡ Some m
  by-test true e = let le = le-true o m e in ap Some (let same : o ≡ m = omega (arith, ints, le, h) in same)
  by-test false e = refl

greater-none : (t : Option ℤ) → greater t None ≡ t
greater-none None = refl
greater-none (Some t) = refl

lesser-none : (t : Option ℤ) → lesser t None ≡ t
lesser-none None = refl
lesser-none (Some t) = refl

-- the tightest of what was found, of one more, and of the rest
takes-more : (n o k : ℤ) → o <ℤ n → (b : Bool) → int_le n k ≡ b → greater (Some o) (Some (cond b k n)) ≡ Some (cond b k n)
takes-more n o k less true e = let le = le-true n k e in greater-up o k (omega (arith, ints, less, le))
takes-more n o k less false e = greater-up o n (omega (arith, ints, less))

greater-takes : (l t g : Option ℤ) → is_greater l t ≡ true → greater t (greater l g) ≡ greater l g
greater-takes None t g more = absurd (cc)
greater-takes (Some n) None g more = refl
greater-takes (Some n) (Some o) None more = let less = less-true o n more in greater-up o n (omega (arith, ints, less))
greater-takes (Some n) (Some o) (Some k) more = takes-more n o k (less-true o n more) (int_le n k) refl

keeps-more : (n o k : ℤ) → n ≤ℤ o → (b : Bool) → int_le n k ≡ b → greater (Some o) (Some (cond b k n)) ≡ greater (Some o) (Some k)
keeps-more n o k less true e = refl
keeps-more n o k less false e = let over = less-below n k e in greater-down o n less ∙ sym (greater-down o k (omega (arith, ints, less, over))) where
  less-below : (n k : ℤ) → int_le n k ≡ false → k <ℤ n
  less-below n k h = grind (arith, ints)

greater-keeps : (l t g : Option ℤ) → is_greater l t ≡ false → greater t (greater l g) ≡ greater t g
greater-keeps None t g more = refl
greater-keeps (Some n) None g more = absurd (cc)
greater-keeps (Some n) (Some o) None more = greater-down o n (less-false o n more)
greater-keeps (Some n) (Some o) (Some k) more = keeps-more n o k (less-false o n more) (int_le n k) refl

takes-less : (n o k : ℤ) → n <ℤ o → (b : Bool) → int_le n k ≡ b → lesser (Some o) (Some (cond b n k)) ≡ Some (cond b n k)
takes-less n o k less true e = lesser-down o n (omega (arith, ints, less))
takes-less n o k less false e = let over = less-below n k e in lesser-down o k (omega (arith, ints, less, over)) where
  less-below : (n k : ℤ) → int_le n k ≡ false → k <ℤ n
  less-below n k h = grind (arith, ints)

lesser-takes : (l t g : Option ℤ) → is_less l t ≡ true → lesser t (lesser l g) ≡ lesser l g
lesser-takes None t g more = absurd (cc)
lesser-takes (Some n) None g more = refl
lesser-takes (Some n) (Some o) None more = let less = less-true n o more in lesser-down o n (omega (arith, ints, less))
lesser-takes (Some n) (Some o) (Some k) more = takes-less n o k (less-true n o more) (int_le n k) refl

keeps-less : (n o k : ℤ) → o ≤ℤ n → (b : Bool) → int_le n k ≡ b → lesser (Some o) (Some (cond b n k)) ≡ lesser (Some o) (Some k)
keeps-less n o k less true e = let le = le-true n k e in lesser-up o n less ∙ sym (lesser-up o k (omega (arith, ints, less, le)))
keeps-less n o k less false e = refl

lesser-keeps : (l t g : Option ℤ) → is_less l t ≡ false → lesser t (lesser l g) ≡ lesser t g
lesser-keeps None t g more = refl
lesser-keeps (Some n) None g more = absurd (cc)
lesser-keeps (Some n) (Some o) None more = lesser-up o n (less-false n o more)
lesser-keeps (Some n) (Some o) (Some k) more = keeps-less n o k (less-false n o more) (int_le n k) refl

-- what was found so far gives the tightest bound so far
abbrev SoFar : (Ready → Option ℤ × Side) → List Ready → Option ℤ → Option (ℕ × Side) → Type 0
SoFar says readied None found = found ≡ None
SoFar says readied (Some k) found = (at : ℕ) × (side : Side) × (b : Bounded) × (found ≡ Some (at, side)) × (slice_get readied at ≡ Some (Bounds b)) × (says (Bounds b) ≡ (Some k, side))

none-some : (k : ℤ) → None ≡ Some k → ⊥
none-some k e = cc

-- a literal that gives a bound isn't one without a variable
found-here : (says : Ready → Option ℤ × Side) (readied : List Ready) (at : ℕ) (r : Ready) (l : Option ℤ) (side : Side) → ((t : Bool) → (says (Truth t)).0 ≡ None) → says r ≡ (l, side) → (l ≡ None → ⊥) → slice_get readied at ≡ Some r → SoFar says readied l (Some (at, side))
found-here says readied at r None side truth e some there = absurd (some refl)
found-here says readied at (Truth t) (Some k) side truth e some there = absurd (none-some k (sym (truth t) ∙ ap (λ (p : Option ℤ × Side). p.0) e))
found-here says readied at (Bounds b) (Some k) side truth e some there = (at, side, b, refl, there, e)

greater-some : (l t : Option ℤ) → is_greater l t ≡ true → l ≡ None → ⊥
greater-some None t h e = absurd (cc)
greater-some (Some n) t h e = absurd (cc)

less-some : (l t : Option ℤ) → is_less l t ≡ true → l ≡ None → ⊥
less-some None t h e = absurd (cc)
less-some (Some n) t h e = absurd (cc)

-- the rest stands behind
pub into-rest : (readied rs : List Ready) (r : Ready) (at : ℕ) → ((k : ℕ) (one : Ready) → slice_get (r ∷ rs) k ≡ Some one → slice_get readied (at + k) ≡ Some one) → (k : ℕ) (one : Ready) → slice_get rs k ≡ Some one → slice_get readied (at + 1 + k) ≡ Some one
into-rest readied rs r at into k one e = ap (λ (i : ℕ). slice_get readied i) (let same : at + 1 + k ≡ at + suc k = omega arith in same) ∙ into (suc k) one e

pub into-first : (readied rs : List Ready) (r : Ready) (at : ℕ) → ((k : ℕ) (one : Ready) → slice_get (r ∷ rs) k ≡ Some one → slice_get readied (at + k) ≡ Some one) → slice_get readied at ≡ Some r
into-first readied rs r at into = ap (λ (i : ℕ). slice_get readied i) (let same : at ≡ at + zero = omega arith in same) ∙ into zero r refl

pub into-all : (readied : List Ready) (k : ℕ) (one : Ready) → slice_get readied k ≡ Some one → slice_get readied (0 + k) ≡ Some one
into-all readied k one e = ap (λ (i : ℕ). slice_get readied i) (let same : 0 + k ≡ k = omega arith in same) ∙ e

-- one turn, by what the rest gives
greatest-turn : (v at : ℕ) (readied : List Ready) (r : Ready) (rs : List Ready) (t g : Option ℤ) (found : Option (ℕ × Side))
    → ((t : Option ℤ) (found : Option (ℕ × Side)) → SoFar (side_below v) readied t found → SoFar (side_below v) readied (greater t g) (greatest_from v (at + 1) t found rs)) → slice_get readied at ≡ Some r → SoFar (side_below v) readied t found
    → (b : Bool) → is_greater (side_below v r).0 t ≡ b → SoFar (side_below v) readied (greater t (greater (side_below v r).0 g)) (cond b (greatest_from v (at + 1) (side_below v r).0 (Some (at, (side_below v r).1)) rs) (greatest_from v (at + 1) t found rs))
greatest-turn v at readied r rs t g found rest there so true e =
    let l = (side_below v r).0 in
    let side = (side_below v r).1 in
    let here = found-here (side_below v) readied at r l side (λ t. refl) refl (greater-some l t e) there in
    subst (λ (o : Option ℤ). SoFar (side_below v) readied o (greatest_from v (at + 1) l (Some (at, side)) rs)) (sym (greater-takes l t g e)) (rest l (Some (at, side)) here)
greatest-turn v at readied r rs t g found rest there so false e =
    subst (λ (o : Option ℤ). SoFar (side_below v) readied o (greatest_from v (at + 1) t found rs)) (sym (greater-keeps (side_below v r).0 t g e)) (rest t found so)

-- the whole search, by induction over the rest: what is found in the end gives the greatest of the bounds
greatest-go : (v : ℕ) (readied rest : List Ready) (at : ℕ) (t : Option ℤ) (found : Option (ℕ × Side)) → ((k : ℕ) (one : Ready) → slice_get rest k ≡ Some one → slice_get readied (at + k) ≡ Some one) → SoFar (side_below v) readied t found
    → SoFar (side_below v) readied (greater t (greatest_lower (flat_map bounds_of rest) v)) (greatest_from v at t found rest)
greatest-go v readied [] at t found into so = subst (λ (o : Option ℤ). SoFar (side_below v) readied o found) (sym (greater-none t)) so
greatest-go v readied (r ∷ rs) at t found into so =
    subst (λ (o : Option ℤ). SoFar (side_below v) readied (greater t o) (greatest_from v at t found (r ∷ rs))) (sym (next-lower v r rs))
    (greatest-turn v at readied r rs t (greatest_lower (flat_map bounds_of rs) v) found (λ t' found' so'. greatest-go v readied rs (at + 1) t' found' (into-rest readied rs r at into) so') (into-first readied rs r at into) so (is_greater (side_below v r).0 t) refl)

least-turn : (v at : ℕ) (readied : List Ready) (r : Ready) (rs : List Ready) (t g : Option ℤ) (found : Option (ℕ × Side))
    → ((t : Option ℤ) (found : Option (ℕ × Side)) → SoFar (side_above v) readied t found → SoFar (side_above v) readied (lesser t g) (least_from v (at + 1) t found rs)) → slice_get readied at ≡ Some r → SoFar (side_above v) readied t found
    → (b : Bool) → is_less (side_above v r).0 t ≡ b → SoFar (side_above v) readied (lesser t (lesser (side_above v r).0 g)) (cond b (least_from v (at + 1) (side_above v r).0 (Some (at, (side_above v r).1)) rs) (least_from v (at + 1) t found rs))
least-turn v at readied r rs t g found rest there so true e =
    let u = (side_above v r).0 in
    let side = (side_above v r).1 in
    let here = found-here (side_above v) readied at r u side (λ t. refl) refl (less-some u t e) there in
    subst (λ (o : Option ℤ). SoFar (side_above v) readied o (least_from v (at + 1) u (Some (at, side)) rs)) (sym (lesser-takes u t g e)) (rest u (Some (at, side)) here)
least-turn v at readied r rs t g found rest there so false e =
    subst (λ (o : Option ℤ). SoFar (side_above v) readied o (least_from v (at + 1) t found rs)) (sym (lesser-keeps (side_above v r).0 t g e)) (rest t found so)

least-go : (v : ℕ) (readied rest : List Ready) (at : ℕ) (t : Option ℤ) (found : Option (ℕ × Side)) → ((k : ℕ) (one : Ready) → slice_get rest k ≡ Some one → slice_get readied (at + k) ≡ Some one) → SoFar (side_above v) readied t found
    → SoFar (side_above v) readied (lesser t (least_upper (flat_map bounds_of rest) v)) (least_from v at t found rest)
least-go v readied [] at t found into so = subst (λ (o : Option ℤ). SoFar (side_above v) readied o found) (sym (lesser-none t)) so
least-go v readied (r ∷ rs) at t found into so =
    subst (λ (o : Option ℤ). SoFar (side_above v) readied (lesser t o) (least_from v at t found (r ∷ rs))) (sym (next-upper v r rs))
    (least-turn v at readied r rs t (least_upper (flat_map bounds_of rs) v) found (λ t' found' so'. least-go v readied rs (at + 1) t' found' (into-rest readied rs r at into) so') (into-first readied rs r at into) so (is_less (side_above v r).0 t) refl)

-- what was found, and that nothing was
greatest-made : (readied : List Ready) (v : ℕ) (found : ℕ × Side) (tightest : Option ℤ) (all : Option (ℕ × Side)) → greatest_lower (flat_map bounds_of readied) v ≡ tightest → all ≡ Some found → SoFar (side_below v) readied tightest all → IsGreatest readied v found
greatest-made readied v found None all is e so = let said : all ≡ None = so in absurd (cc)
greatest-made readied v found (Some k) all is e so =
    let same : (so.0, so.1) ≡ found = let said = so.3 in cc in
    record {
      bounded = so.2;
      there = ap (λ (f : ℕ × Side). slice_get readied f.0) (sym same) ∙ so.4;
      number = k;
      side = so.5 ∙ ap (λ (f : ℕ × Side). (Some k, f.1)) same;
      greatest = is;
    }

greatest-nothing : (readied : List Ready) (v : ℕ) (tightest : Option ℤ) (all : Option (ℕ × Side)) → all ≡ None → SoFar (side_below v) readied tightest all → tightest ≡ None
greatest-nothing readied v None all e so = refl
greatest-nothing readied v (Some k) all e so = absurd (let said = so.3 in cc)

pub greatest-is : (readied : List Ready) (v : ℕ) (found : ℕ × Side) → greatest_found readied v ≡ Some found → IsGreatest readied v found
greatest-is readied v found e = greatest-made readied v found (greatest_lower (flat_map bounds_of readied) v) (greatest_found readied v) refl e (greatest-go v readied readied 0 None None (into-all readied) refl)

pub greatest-none : (readied : List Ready) (v : ℕ) → greatest_found readied v ≡ None → greatest_lower (flat_map bounds_of readied) v ≡ None
greatest-none readied v e = greatest-nothing readied v (greatest_lower (flat_map bounds_of readied) v) (greatest_found readied v) e (greatest-go v readied readied 0 None None (into-all readied) refl)

-- the same from above
least-made : (readied : List Ready) (v : ℕ) (found : ℕ × Side) (tightest : Option ℤ) (all : Option (ℕ × Side)) → least_upper (flat_map bounds_of readied) v ≡ tightest → all ≡ Some found → SoFar (side_above v) readied tightest all → IsLeast readied v found
least-made readied v found None all is e so = let said : all ≡ None = so in absurd (cc)
least-made readied v found (Some k) all is e so =
    let same : (so.0, so.1) ≡ found = let said = so.3 in cc in
    record {
      bounded = so.2;
      there = ap (λ (f : ℕ × Side). slice_get readied f.0) (sym same) ∙ so.4;
      number = k;
      side = so.5 ∙ ap (λ (f : ℕ × Side). (Some k, f.1)) same;
      least = is;
    }

least-nothing : (readied : List Ready) (v : ℕ) (tightest : Option ℤ) (all : Option (ℕ × Side)) → all ≡ None → SoFar (side_above v) readied tightest all → tightest ≡ None
least-nothing readied v None all e so = refl
least-nothing readied v (Some k) all e so = absurd (let said = so.3 in cc)

pub least-is : (readied : List Ready) (v : ℕ) (found : ℕ × Side) → least_found readied v ≡ Some found → IsLeast readied v found
least-is readied v found e = least-made readied v found (least_upper (flat_map bounds_of readied) v) (least_found readied v) refl e (least-go v readied readied 0 None None (into-all readied) refl)

pub least-none : (readied : List Ready) (v : ℕ) → least_found readied v ≡ None → least_upper (flat_map bounds_of readied) v ≡ None
least-none readied v e = least-nothing readied v (least_upper (flat_map bounds_of readied) v) (least_found readied v) e (least-go v readied readied 0 None None (into-all readied) refl)
