-- What it takes that a test lets something through.
use Rattle.std.proofs.Common.{◌≡◌, ℕ, ◌≤◌, ◌<◌, Bool, true, false, ◌&&◌, refl, arith, ◌==◌, Result, Ok, Err}
use Rattle.std.proofs.lemmas.Bool.Decides.{nat_tests}
use Rattle.std.specs.Prelude.{Option, Some, None, nat_lt, nat_le, nat_eq, if◌then◌else◌}
use Rattle.term_check.specs.declared.part.Fault.{Fault}
use Rattle.term_check.specs.Rules.{unless}
use Rattle.term_check.specs.Spelling.{◌>>=◌}

pub both_are : (a b : Bool) → a ≡ true → b ≡ true → (a && b) ≡ true
both_are true b h k = k
both_are false b h k = absurd (cc)

pub if_none : {A : Type 0} (b : Bool) (o : Option A) (x : A) → (if b then o else Some x) ≡ None → (b ≡ true) × (o ≡ None)
if_none true o x h = (refl, h)
if_none false o x h = absurd (cc)

pub not_if : {A : Type 0} (b : Bool) (o : Option A) (x : A) → (if b then Some x else o) ≡ None → (b ≡ false) × (o ≡ None)
not_if true o x h = absurd (cc)
not_if false o x h = (refl, h)

pub bind_ok : {A B : Type 0} (r : Result A Fault) (f : A → Result B Fault) (b : B) → (r >>= f) ≡ Ok b → (a : A) × (r ≡ Ok a) × (f a ≡ Ok b)
bind_ok (Ok a) f b h = (a, refl, h)
bind_ok (Err e) f b h = absurd (cc)

pub unless_ok : {A : Type 0} (o : Option Fault) (r : Result A Fault) (a : A) → unless o r ≡ Ok a → (o ≡ None) × (r ≡ Ok a)
unless_ok None r a h = (refl, h)
unless_ok (Some f) r a h = absurd (cc)

pub not_below : (m n : ℕ) → nat_lt m n ≡ false → n ≤ m
not_below m n h = grind (arith, nat_tests)

pub up_to : (m n : ℕ) → m ≤ n → nat_le m n ≡ true
up_to m n h = grind (arith, nat_tests)

pub same_numbers : (m n : ℕ) → nat_eq m n ≡ true → m ≡ n
same_numbers m n h = grind (arith, nat_tests)

pub other_numbers : (m n : ℕ) → nat_eq m n ≡ false → m ≡ n → ⊥
other_numbers m n h e = grind (arith, nat_tests)

pub below_is : (m n : ℕ) → m < n → nat_lt m n ≡ true
below_is m n h = grind (arith, nat_tests)

pub above_is : (m n : ℕ) → n ≤ m → nat_lt m n ≡ false
above_is m n h = grind (arith, nat_tests)

pub same_again : (k : ℕ) → (k == k) ≡ true
same_again k = grind (arith, nat_tests)
