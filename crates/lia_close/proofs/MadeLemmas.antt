-- Literals made ready, each with its own quotient.
use Rattle.std.proofs.Common.{◌≡◌, ℕ, zero, suc, ◌+◌, ◌<◌, List, [], ◌∷◌, ◌++◌, refl, ap, ◌∙◌, true, false, Bool, cond, Some, ◌≤◌, drop, get_or, arith, length}
use Rattle.std.specs.Prelude.{pos, nat_lt, ◌^◌, slice_get, slice_index_or}
use Rattle.std.specs.List.{flat_map, list_all}
use Rattle.std.proofs.lemmas.List.{drop_more}
use Rattle.lin_atoms.specs.Denial.{linear_of}
use Rattle.lin_atoms.specs.Linear.{is_linear}
use Rattle.lin_atoms.specs.Truth.{lit_truth}
use Rattle.lin_atoms.specs.declared.lit.Lit.{Lit}
use Rattle.lin_atoms.specs.declared.lit.Lit.TheVariants.{Le, Eq, Div, NDiv}
use Rattle.lin_atoms.proofs.Public.{both_true}
use Rattle.int_rows.specs.Node.{all_bounds, bounds_of, end_of_quotients, quotients}
use Rattle.int_rows.specs.Ready.{bounded, has_no_variable, ready}
use Rattle.int_rows.specs.declared.bounds.Bounded.{Bounded}
use Rattle.int_rows.specs.declared.bounds.Ready.{Ready}
use Rattle.int_rows.specs.declared.bounds.Ready.TheVariants.{Truth, Bounds}
use Rattle.lia_node.specs.Known.{are_known, is_legal}
use Rattle.lia_node.specs.machinery.Solved.{is_tidy}
use Rattle.lia_node.proofs.BelowLemmas.{ends-more}
use Rattle.lia_node.proofs.TidyLemmas.{all-tidy}
use Rattle.lia_close.specs.Said.{AreAt, AreReasons, said_by}
use Rattle.lia_close.specs.machinery.Taken.{all_ready}

-- the literals made ready are those of the tableau
pub ready-bounds : (q : ℕ) (lits : List Lit) → flat_map bounds_of (all_ready q lits) ≡ all_bounds q lits
ready-bounds q [] = refl
ready-bounds q (lit ∷ lits) = ap (λ (bs : List Bounded). bounds_of (ready q lit) ++ bs) (ready-bounds (q + quotients lit) lits)

-- the literal of that number says this, with some number for its quotient
pub record IsMade (lits : List Lit) (i : ℕ) (b : Bounded) : Type 0 where
  pub quotient : ℕ
  pub lit : Lit
  pub there : slice_get lits i ≡ Some lit
  pub is : b ≡ bounded quotient lit
  pub variable : has_no_variable lit ≡ false

made-one : (h t : Bool) (made b : Bounded) → Some (cond h (Truth t) (Bounds made)) ≡ Some (Bounds b) → (b ≡ made) × (h ≡ false)
made-one true t made b e = absurd (cc)
made-one false t made b e = (let same : b ≡ made = cc in same, refl)

pub made-at : (q : ℕ) (lits : List Lit) (i : ℕ) (b : Bounded) → slice_get (all_ready q lits) i ≡ Some (Bounds b) → IsMade lits i b
made-at q [] i b e = absurd (cc)
made-at q (lit ∷ lits) zero b e =
    let parts = made-one (has_no_variable lit) (lit_truth [] lit) (bounded q lit) b e in
    record { quotient = q; lit = lit; there = refl; is = parts.0; variable = parts.1 }
made-at q (lit ∷ lits) (suc i) b e =
    let rest = made-at (q + quotients lit) lits i b e in
    record { quotient = rest.quotient; lit = rest.lit; there = rest.there; is = rest.is; variable = rest.variable }

-- and what gives its bounds stands from its reason on
pub record IsReason (known lits : List Lit) (reasons : List ℕ) (i : ℕ) (b : Bounded) : Type 0 where
  pub made : IsMade lits i b
  pub at : AreAt known (slice_index_or reasons i 0) (said_by made.quotient made.lit)

pub reason-at : (known : List Lit) (q : ℕ) (lits : List Lit) (reasons : List ℕ) (i : ℕ) (b : Bounded) → AreReasons known q lits reasons → slice_get (all_ready q lits) i ≡ Some (Bounds b) → IsReason known lits reasons i b
reason-at known q [] reasons i b are e = absurd (cc)
reason-at known q (lit ∷ lits) [] i b are e = absurd are
reason-at known q (lit ∷ lits) (r ∷ rs) zero b are e =
    let parts = made-one (has_no_variable lit) (lit_truth [] lit) (bounded q lit) b e in
    record { made = record { quotient = q; lit = lit; there = refl; is = parts.0; variable = parts.1 }; at = are.0 parts.1 }
reason-at known q (lit ∷ lits) (r ∷ rs) (suc i) b are e =
    let rest = reason-at known (q + quotients lit) lits rs i b are.1 e in
    record { made = record { quotient = rest.made.quotient; lit = rest.made.lit; there = rest.made.there; is = rest.made.is; variable = rest.made.variable }; at = rest.at }

no-constant : (q : ℕ) (lit : Lit) → (bounded q lit).form.constant ≡ pos 0
no-constant q (Le lin) = refl
no-constant q (Eq lin) = refl
no-constant q (Div n lin) = refl
no-constant q (NDiv n lin) = refl

pub made-plain : (q : ℕ) (lits : List Lit) (i : ℕ) (b : Bounded) → slice_get (all_ready q lits) i ≡ Some (Bounds b) → b.form.constant ≡ pos 0
made-plain q lits i b e = let made = made-at q lits i b e in ap (λ (c : Bounded). c.form.constant) made.is ∙ no-constant made.quotient made.lit

flat-at : (test : Bounded → Bool) (readied : List Ready) (k : ℕ) (b : Bounded) → list_all test (flat_map bounds_of readied) ≡ true → slice_get readied k ≡ Some (Bounds b) → test b ≡ true
flat-at test [] k b h e = absurd (cc)
flat-at test (Truth t ∷ rs) zero b h e = absurd (cc)
flat-at test (Truth t ∷ rs) (suc k) b h e = flat-at test rs k b h e
flat-at test (Bounds c ∷ rs) zero b h e = ap test (let same : b ≡ c = cc in same) ∙ (both_true (test c) _ h).0
flat-at test (Bounds c ∷ rs) (suc k) b h e = flat-at test rs k b (both_true (test c) _ h).1 e

pub made-tidy : (q : ℕ) (lits : List Lit) (i : ℕ) (b : Bounded) → list_all is_legal lits ≡ true → are_known q lits ≡ true → slice_get (all_ready q lits) i ≡ Some (Bounds b) → is_tidy b ≡ true
made-tidy q lits i b legal known e = flat-at is_tidy (all_ready q lits) i b (ap (λ (bs : List Bounded). list_all is_tidy bs) (ready-bounds q lits) ∙ all-tidy q lits legal known) e

-- a literal as the code has it
pub legal-at : (lits : List Lit) (i : ℕ) (lit : Lit) → list_all is_legal lits ≡ true → slice_get lits i ≡ Some lit → is_legal lit ≡ true
legal-at [] i lit legal e = absurd (cc)
legal-at (l ∷ lits) zero lit legal e = ap is_legal (let same : lit ≡ l = cc in same) ∙ (both_true (is_legal l) _ legal).0
legal-at (l ∷ lits) (suc i) lit legal e = legal-at lits i lit (both_true (is_legal l) _ legal).1 e

pub legal-linear : (lit : Lit) → is_legal lit ≡ true → is_linear (linear_of lit) ≡ true
legal-linear (Le lin) h = h
legal-linear (Eq lin) h = h
legal-linear (Div n lin) h = (both_true (nat_lt n (2 ^ 63)) _ (both_true (nat_lt 0 n) _ h).1).1
legal-linear (NDiv n lin) h = (both_true (nat_lt n (2 ^ 63)) _ (both_true (nat_lt 0 n) _ h).1).1

-- the next literal's quotient has room where the end has
pub next-end : (q i : ℕ) (lits : List Lit) (d : Lit) (n : ℕ) → i < length lits → n ≡ quotients (get_or lits i d) → q + n ≤ end_of_quotients q (drop i lits)
next-end q i lits d n less e =
    let more = ends-more (q + quotients (get_or lits i d)) (drop (i + 1) lits) in
    let same = ap (λ (ls : List Lit). end_of_quotients q ls) (drop_more lits i d less) in
    omega (arith, more, same, e)
