-- Standings that come back: what has left the basis and entered it again.
use Rattle.std.proofs.Common.{◌≡◌, ℕ, suc, zero, refl, ap, sym, ◌∙◌, arith, ◌<◌, ◌≤◌, ◌+◌, true, false, Bool, subst}
use Rattle.simplex_core.specs.Run.{is_basic}
use Rattle.simplex_core.specs.declared.standing.Standing.{Standing}

-- what stands outside the basis before and after a step stands at the same place
abbrev pub Keeps : (ℕ → Standing) → ℕ → ℕ → Type 0
Keeps s from n = (k : ℕ) → from ≤ k → k < from + n → is_basic (s k) ≡ false → is_basic (s (k + 1)) ≡ false → s k ≡ s (k + 1)

-- a step into the basis, from where the column stands at a moment
pub record Enters (s : ℕ → Standing) (from n : ℕ) (at : Standing) : Type 0 where
  pub step : ℕ
  pub low : from ≤ step
  pub high : step < from + n
  pub out : is_basic (s step) ≡ false
  pub basic : is_basic (s (step + 1)) ≡ true
  pub same : s step ≡ at

-- a step out of the basis, to where the column stands at a moment
pub record Leaves_to (s : ℕ → Standing) (from n : ℕ) (at : Standing) : Type 0 where
  pub step : ℕ
  pub low : from ≤ step
  pub high : step < from + n
  pub basic : is_basic (s step) ≡ true
  pub out : is_basic (s (step + 1)) ≡ false
  pub same : s (step + 1) ≡ at

both-ways : (b : Bool) → b ≡ true → b ≡ false → ⊥
both-ways b t f = cc

forward-cases : (s : ℕ → Standing) (from n : ℕ) (b : Bool) → is_basic (s (from + 1)) ≡ b → Keeps s from (suc n) → is_basic (s from) ≡ false → is_basic (s (from + suc n)) ≡ true
    → (Keeps s (from + 1) n → is_basic (s (from + 1)) ≡ false → is_basic (s (from + 1 + n)) ≡ true → Enters s (from + 1) n (s (from + 1))) → Enters s from (suc n) (s from)
forward-cases s from n true e keeps out basic rest = record { step = from; low = omega arith; high = omega arith; out = out; basic = e; same = refl }
forward-cases s from n false e keeps out basic rest =
    let last : from + 1 + n ≡ from + suc n = omega arith in
    let found = rest (λ k low high. keeps k (omega arith) (omega arith)) e (ap (λ k. is_basic (s k)) last ∙ basic) in
    record { step = found.step; low = omega (arith, found.low); high = omega (arith, found.high); out = found.out; basic = found.basic; same = found.same ∙ sym (keeps from (omega arith) (omega arith) out e) }

-- the first step into the basis
pub forward : (s : ℕ → Standing) (from n : ℕ) → Keeps s from n → is_basic (s from) ≡ false → is_basic (s (from + n)) ≡ true → Enters s from n (s from)
forward s from zero keeps out basic = let here : from + 0 ≡ from = omega arith in absurd (both-ways (is_basic (s from)) (ap (λ k. is_basic (s k)) (sym here) ∙ basic) out)
forward s from (suc n) keeps out basic = forward-cases s from n (is_basic (s (from + 1))) refl keeps out basic (forward s (from + 1) n)

backward-cases : (s : ℕ → Standing) (from n : ℕ) (b : Bool) → is_basic (s (from + n)) ≡ b → Keeps s from (suc n) → is_basic (s (from + n + 1)) ≡ false
    → (is_basic (s (from + n)) ≡ false → Leaves_to s from n (s (from + n))) → Leaves_to s from (suc n) (s (from + n + 1))
backward-cases s from n true e keeps out rest = record { step = from + n; low = omega arith; high = omega arith; basic = e; out = out; same = refl }
backward-cases s from n false e keeps out rest =
    let found = rest e in
    record { step = found.step; low = found.low; high = omega (arith, found.high); basic = found.basic; out = found.out; same = found.same ∙ keeps (from + n) (omega arith) (omega arith) e out }

-- the last step out of the basis
pub backward : (s : ℕ → Standing) (from n : ℕ) → Keeps s from n → is_basic (s from) ≡ true → is_basic (s (from + n)) ≡ false → Leaves_to s from n (s (from + n))
backward s from zero keeps basic out = let here : from + 0 ≡ from = omega arith in absurd (both-ways (is_basic (s from)) basic (ap (λ k. is_basic (s k)) (sym here) ∙ out))
backward s from (suc n) keeps basic out =
    let last : from + n + 1 ≡ from + suc n = omega arith in
    subst (λ k. Leaves_to s from (suc n) (s k)) last (backward-cases s from n (is_basic (s (from + n))) refl keeps (ap (λ k. is_basic (s k)) last ∙ out) (backward s from n (λ k low high. keeps k low (omega arith)) basic))

-- a step out of the basis, and one into it from where that one led
pub record Returns (s : ℕ → Standing) (from n : ℕ) : Type 0 where
  pub leaves : ℕ
  pub enters : ℕ
  pub leaves_low : from ≤ leaves
  pub leaves_high : leaves < from + n
  pub enters_low : from ≤ enters
  pub enters_high : enters < from + n
  pub leaves_basic : is_basic (s leaves) ≡ true
  pub leaves_out : is_basic (s (leaves + 1)) ≡ false
  pub enters_out : is_basic (s enters) ≡ false
  pub enters_basic : is_basic (s (enters + 1)) ≡ true
  pub same : s enters ≡ s (leaves + 1)

-- from the basis, out of it at some moment, and back into it
out-and-back : (s : ℕ → Standing) (from a b : ℕ) → Keeps s from (a + b) → is_basic (s from) ≡ true → is_basic (s (from + a)) ≡ false → is_basic (s (from + a + b)) ≡ true → Returns s from (a + b)
out-and-back s from a b keeps basic out back =
    let gone = backward s from a (λ k low high. keeps k low (omega arith)) basic out in
    let come = forward s (from + a) b (λ k low high. keeps k (omega arith) (omega arith)) out back in
    record {
      leaves = gone.step;
      enters = come.step;
      leaves_low = gone.low;
      leaves_high = omega (arith, gone.high);
      enters_low = omega (arith, come.low);
      enters_high = omega (arith, come.high);
      leaves_basic = gone.basic;
      leaves_out = gone.out;
      enters_out = come.out;
      enters_basic = come.basic;
      same = come.same ∙ sym gone.same;
    }

-- from outside the basis, into it at some moment, and back to the same place
in-and-back : (s : ℕ → Standing) (from a b : ℕ) → Keeps s from (a + b) → is_basic (s from) ≡ false → is_basic (s (from + a)) ≡ true → is_basic (s (from + a + b)) ≡ false → s from ≡ s (from + a + b) → Returns s from (a + b)
in-and-back s from a b keeps out basic back same =
    let come = forward s from a (λ k low high. keeps k low (omega arith)) out basic in
    let gone = backward s (from + a) b (λ k low high. keeps k (omega arith) (omega arith)) basic back in
    record {
      leaves = gone.step;
      enters = come.step;
      leaves_low = omega (arith, gone.low);
      leaves_high = omega (arith, gone.high);
      enters_low = come.low;
      enters_high = omega (arith, come.high);
      leaves_basic = gone.basic;
      leaves_out = gone.out;
      enters_out = come.out;
      enters_basic = come.basic;
      same = come.same ∙ same ∙ sym gone.same;
    }

returns-cases : (s : ℕ → Standing) (from a b : ℕ) (t : Bool) → is_basic (s from) ≡ t → Keeps s from (a + b) → s from ≡ s (from + a + b) → (is_basic (s from) ≡ is_basic (s (from + a)) → ⊥) → (u : Bool) → is_basic (s (from + a)) ≡ u → Returns s from (a + b)
returns-cases s from a b true e keeps same other true x = absurd (other (e ∙ sym x))
returns-cases s from a b true e keeps same other false x = out-and-back s from a b keeps e x (ap is_basic (sym same) ∙ e)
returns-cases s from a b false e keeps same other true x = in-and-back s from a b keeps e x (ap is_basic (sym same) ∙ e) same
returns-cases s from a b false e keeps same other false x = absurd (other (e ∙ sym x))

-- a column that is basic at some moment and not at the first of two at which it stands in the same way
pub returns : (s : ℕ → Standing) (from a b : ℕ) → Keeps s from (a + b) → s from ≡ s (from + a + b) → (is_basic (s from) ≡ is_basic (s (from + a)) → ⊥) → Returns s from (a + b)
returns s from a b keeps same other = returns-cases s from a b (is_basic (s from)) refl keeps same other (is_basic (s (from + a))) refl
