-- A formula that says that others are true, and one of some parts, by what is decided of each part.
use Rattle.std.proofs.Common.{◌≡◌, ℕ, zero, suc, List, [], ◌∷◌, ◌++◌, Bool, true, false, ◌&&◌, ◌||◌, refl, ap, sym, ◌∙◌, arith, ◌<◌, ◌≤◌, length, take, get_or}
use Rattle.std.specs.Prelude.{ℤ, Option, Some, None, IfSome}
use Rattle.std.specs.List.{list_all, list_any}
use Rattle.lin_atoms.specs.Truth.{truth}
use Rattle.lin_atoms.specs.declared.form.Form.{Form}
use Rattle.lin_atoms.specs.declared.form.Form.TheViews.{And, Or}
use Rattle.lin_atoms.proofs.Public.{both_true, truth-And, truth-Or}
use Rattle.refutation_trees.specs.Refutation.{HasNoPoint}
use Rattle.lia_search.specs.declared.decision.Decision.{Decision}
use Rattle.lia_search.specs.declared.decision.Decision.TheVariants.{Model, Refuted, GaveUp}
use Rattle.chc_checker.specs.machinery.Judging.{Settles}
use Rattle.chc_checker.specs.machinery.Parts.{AreParts, HasNoneWith, AreAmong, HaveNone, IsRefuted}

-- truth values

and-true : (a : Bool) → (a && true) ≡ a
and-true true = refl
and-true false = refl

and-false : (a : Bool) → (a && false) ≡ false
and-false true = refl
and-false false = refl

all-last : (p : Form → Bool) (fs : List Form) (f : Form) → list_all p (fs ++ f ∷ []) ≡ (list_all p fs && p f)
all-last p [] f = and-true (p f)
all-last p (g ∷ fs) f = ap (λ (b : Bool). p g && b) (all-last p fs f) ∙ and-assoc (p g) (list_all p fs) (p f) where
  and-assoc : (a b c : Bool) → (a && (b && c)) ≡ ((a && b) && c)
  and-assoc true b c = refl
  and-assoc false b c = refl

-- the last conjunct

pub last_parts : (form last : Form) (all others parts : List Form) → form ≡ And all → all ≡ others ++ last ∷ [] → last ≡ Or parts → AreParts form others parts
last_parts form last all others parts is are or = λ point.
    ap (truth point) is ∙ truth-And point all ∙ ap (list_all (truth point)) are ∙ all-last (truth point) others last
    ∙ ap (λ (b : Bool). list_all (truth point) others && b) (ap (truth point) or ∙ truth-Or point parts)

-- one part

with-part : (point : List ℤ) (part : Form) (others : List Form) → truth point (And (part ∷ others)) ≡ (truth point part && list_all (truth point) others)
with-part point part others = truth-And point (part ∷ others)

all-taken : (p : Form → Bool) (n : ℕ) (fs : List Form) → list_all p fs ≡ true → list_all p (take n fs) ≡ true
all-taken p zero fs h = refl
all-taken p (suc n) [] h = refl
all-taken p (suc n) (f ∷ fs) h = let both = both_true (p f) (list_all p fs) h in from-two (p f) (list_all p (take n fs)) both.0 (all-taken p n fs both.1) where
  from-two : (a b : Bool) → a ≡ true → b ≡ true → (a && b) ≡ true
  from-two true b h k = k
  from-two false b h k = absurd (cc)

none-more : (a b c : Bool) → (b ≡ true → c ≡ true) → (a && c) ≡ false → (a && b) ≡ false
none-more false b c more h = refl
none-more true false c more h = refl
none-more true true c more h = absurd (true-false c (more refl) h) where
  true-false : (c : Bool) → c ≡ true → c ≡ false → ⊥
  true-false true h k = cc
  true-false false h k = cc

pub among_taken : (n : ℕ) (others : List Form) → AreAmong (take n others) others
among_taken n others = λ test all. all-taken test n others all

pub fewer_none : (part : Form) (some others : List Form) → AreAmong some others → (found : Option Decision) → IfSome found (HasNoneWith part some) → IfSome found (HasNoneWith part others)
fewer_none part some others among None h = tt
fewer_none part some others among (Some (Model point)) h = h
fewer_none part some others among (Some (GaveUp gave_up)) h = h
fewer_none part some others among (Some (Refuted refuted)) h = λ point.
    with-part point part others
    ∙ none-more (truth point part) (list_all (truth point) others) (list_all (truth point) some) (among (truth point)) (sym (with-part point part some) ∙ h point)

pub none_settles : (part : Form) (others : List Form) (vars nodes : ℕ) (decision : Decision) → HasNoneWith part others decision → Settles (And (part ∷ others)) vars nodes decision
none_settles part others vars nodes (Refuted refuted) h = h
none_settles part others vars nodes (Model point) h = absurd h
none_settles part others vars nodes (GaveUp gave_up) h = absurd h

-- the formula has a point of a part

any-get : (p : Form → Bool) (xs : List Form) (i : ℕ) (x : Form) → i < length xs → x ≡ get_or xs i x → p x ≡ true → list_any p xs ≡ true
any-get p [] i x within is h = absurd (omega arith)
any-get p (y ∷ xs) zero x within is h = or-first (p y) (list_any p xs) (ap p (sym is) ∙ h) where
  or-first : (a b : Bool) → a ≡ true → (a || b) ≡ true
  or-first true b h = refl
  or-first false b h = absurd (cc)
any-get p (y ∷ xs) (suc i) x within is h = or-second (p y) (list_any p xs) (any-get p xs i x (omega arith) is h) where
  or-second : (a b : Bool) → b ≡ true → (a || b) ≡ true
  or-second true b h = refl
  or-second false b h = h

both-sides : (a b c : Bool) → (a && b) ≡ true → c ≡ true → ((b && c) && true) ≡ true
both-sides true true true h k = refl
both-sides true true false h k = absurd (cc)
both-sides true false c h k = absurd (cc)
both-sides false b c h k = absurd (cc)

abbrev pub IsPoint : Decision → Type 0
IsPoint (Model point) = Unit {0}
IsPoint (Refuted refuted) = ⊥
IsPoint (GaveUp gave_up) = ⊥

pub part_model : (form : Form) (others parts : List Form) (vars nodes i : ℕ) (part : Form) (decision : Decision) → AreParts form others parts → i < length parts → part ≡ get_or parts i part → IsPoint decision
    → Settles (And (part ∷ others)) vars nodes decision → Settles (And (form ∷ [])) vars nodes decision
part_model form others parts vars nodes i part (Refuted refuted) are within is point h = absurd point
part_model form others parts vars nodes i part (GaveUp gave_up) are within is point h = absurd point
part_model form others parts vars nodes i part (Model point) are within is one h =
    let holds : (truth point.items part && list_all (truth point.items) others) ≡ true = sym (with-part point.items part others) ∙ h.1 in
    let there : truth point.items part ≡ true = (both_true (truth point.items part) (list_all (truth point.items) others) holds).0 in
    let any : list_any (truth point.items) parts ≡ true = any-get (truth point.items) parts i part within is there in
    (h.0, truth-And point.items (form ∷ []) ∙ ap (λ (b : Bool). b && true) (are point.items) ∙ both-sides (truth point.items part) (list_all (truth point.items) others) (list_any (truth point.items) parts) holds any)

-- none so far, and one part more

any-more : (p : Form → Bool) (xs : List Form) (i : ℕ) (x : Form) → i < length xs → x ≡ get_or xs i x → list_any p (take i xs) ≡ false → p x ≡ false → list_any p (take (suc i) xs) ≡ false
any-more p [] i x within is h k = absurd (omega arith)
any-more p (y ∷ xs) zero x within is h k = neither (p y) (ap p (sym is) ∙ k) where
  neither : (a : Bool) → a ≡ false → (a || false) ≡ false
  neither false h = refl
  neither true h = absurd (cc)
any-more p (y ∷ xs) (suc i) x within is h k = let two = none-of (p y) (list_any p (take i xs)) h in either-false (p y) (list_any p (take (suc i) xs)) two.0 (any-more p xs i x (omega arith) is two.1 k) where
  none-of : (a b : Bool) → (a || b) ≡ false → (a ≡ false) × (b ≡ false)
  none-of false b h = (refl, h)
  none-of true b h = absurd (cc)

  either-false : (a b : Bool) → a ≡ false → b ≡ false → (a || b) ≡ false
  either-false false b h k = k
  either-false true b h k = absurd (cc)

other-false : (a b : Bool) → (a && b) ≡ false → b ≡ true → a ≡ false
other-false false b h k = refl
other-false true true h k = absurd (cc)
other-false true false h k = absurd (cc)

pub none_more : (others parts : List Form) (i : ℕ) (part : Form) → i < length parts → part ≡ get_or parts i part → HaveNone others (take i parts) → HasNoPoint (And (part ∷ others)) → HaveNone others (take (suc i) parts)
none_more others parts i part within is none h = λ point all.
    any-more (truth point) parts i part within is (none point all) (other-false (truth point part) (list_all (truth point) others) (sym (with-part point part others) ∙ h point) all)

take-whole : (n : ℕ) (xs : List Form) → length xs ≤ n → take n xs ≡ xs
take-whole zero [] h = refl
take-whole zero (x ∷ xs) h = absurd (omega arith)
take-whole (suc n) [] h = refl
take-whole (suc n) (x ∷ xs) h = ap (λ (ys : List Form). x ∷ ys) (take-whole n xs (omega arith))

no-both : (a b : Bool) → (a ≡ true → b ≡ false) → ((a && b) && true) ≡ false
no-both false b h = refl
no-both true false h = refl
no-both true true h = absurd (true-not (h refl)) where
  true-not : true ≡ false → ⊥
  true-not e = cc

pub none_left : (form : Form) (others parts : List Form) (vars nodes n : ℕ) (last : Option Decision) → AreParts form others parts → length parts ≤ n → HaveNone others (take n parts) → IsRefuted last
    → IfSome last (Settles (And (form ∷ [])) vars nodes)
none_left form others parts vars nodes n None are past none is = tt
none_left form others parts vars nodes n (Some (Model point)) are past none is = absurd is
none_left form others parts vars nodes n (Some (GaveUp gave_up)) are past none is = absurd is
none_left form others parts vars nodes n (Some (Refuted refuted)) are past none is = λ point.
    truth-And point (form ∷ []) ∙ ap (λ (b : Bool). b && true) (are point)
    ∙ no-both (list_all (truth point) others) (list_any (truth point) parts) (λ all. ap (list_any (truth point)) (sym (take-whole n parts past)) ∙ none point all)
