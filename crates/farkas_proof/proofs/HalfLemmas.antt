-- Vertices where a variable is a half, and where a quotient is.
use Rattle.std.proofs.Common.{◌≡◌, ℕ, suc, zero, ◌<◌, List, [], ◌∷◌, get_or, refl, ap, ◌∙◌, arith, eq-eqb, Option, Some, None}
use Rattle.std.specs.Prelude.{ℤ, pos, neg_ℤ}
use Rattle.std.proofs.lemmas.Int.{ints}
use Rattle.int_rows.specs.Basis.{bound, outside}
use Rattle.int_rows.specs.Node.{all_bounds, system_of}
use Rattle.int_rows.specs.Ready.{bounded}
use Rattle.int_rows.specs.Rows.{content}
use Rattle.int_rows.specs.declared.bounds.Bounded.{Bounded}
use Rattle.int_rows.proofs.Public.{follows-own, one-primitive}
use Rattle.refutation_trees.specs.GivenUp.{IsEvidence}
use Rattle.farkas_proof.specs.Instances.{both, first_is_one, is_double, is_even, is_one}
use Rattle.refutation_trees.specs.declared.evidence.Evidence.TheVariants.{Nodes}
use Rattle.farkas_proof.proofs.PairLemmas.{bounded-Eq, both-end}
use Rattle.farkas_proof.proofs.PinnedLemmas.{Case, only-column, split-once}

abbrev double-bounds : Bounded
double-bounds = record { form = record { terms = (0, neg_ℤ (pos 2)) ∷ (1, pos 1) ∷ []; constant = pos 0 }; lower = Some (pos 0); upper = Some (pos 0) }

abbrev one-bounds : Bounded
one-bounds = record { form = record { terms = (1, pos 1) ∷ []; constant = pos 0 }; lower = Some (pos 1); upper = Some (pos 1) }

half-bounds : all_bounds 2 (is_double ∷ is_one ∷ []) ≡ double-bounds ∷ one-bounds ∷ []
half-bounds =
    let double = bounded-Eq 2 1 (record { terms = (0, neg_ℤ (pos 2)) ∷ (1, pos 1) ∷ []; constant = pos 0 }) (one-primitive (neg_ℤ (pos 2) ∷ pos 1 ∷ []) 1 (omega arith) refl) in
    let one = bounded-Eq 2 1 (record { terms = (1, pos 1) ∷ []; constant = neg_ℤ (pos 1) }) (one-primitive (pos 1 ∷ []) 0 (omega arith) refl) in
    ap (λ b. b ∷ bounded 2 is_one ∷ []) double ∙ ap (λ b. double-bounds ∷ b ∷ []) one

-- 2x - y + s = 0
abbrev double-row : List ℤ
double-row = pos 2 ∷ neg_ℤ (pos 1) ∷ pos 1 ∷ []

-- y is 1 and s is 0
abbrev half-fixed : List (Option ℤ)
half-fixed = None ∷ Some (pos 1) ∷ Some (pos 0) ∷ []

half-held : (k : ℕ) → k < 2 → bound half-fixed (get_or (outside 3 (0 ∷ [])) k 0) ≡ Some (get_or (pos 1 ∷ pos 0 ∷ []) k (pos 0))
half-held zero h = refl
half-held (suc zero) h = refl
half-held (suc (suc k)) h = absurd (omega arith)

-- x is a half
abbrev half-case : Case
half-case = record {
  e = double-row;
  row = double-row;
  fixed = half-fixed;
  b = 0;
  values = pos 1 ∷ pos 0 ∷ [];
  nums = pos 1 ∷ pos 2 ∷ pos 0 ∷ [];
  den = 2;
  is = record {
    basic = record {
      width = refl;
      follows = follows-own (double-row ∷ []) 0 (omega arith);
      primitive = eq-eqb (content double-row) 1 (one-primitive double-row 2 (omega arith) refl);
      positive = omega (arith, ints);
      zero = λ other inside. only-column double-row 0 other inside.0 inside.1 inside.2;
    };
    rising = refl;
    within = refl;
    positive = omega arith;
    width = refl;
    solves = refl;
    each = refl;
    held = half-held;
    at = (refl, (refl, tt));
  };
}

pub half-given-up : IsEvidence (both is_double is_one) (Nodes 1)
half-given-up =
    split-once half-case 2 is_double is_one 0 (pos 0) (both-end is_double is_one) refl (ap (system_of 2) half-bounds) (record { variable = omega arith; beyond = omega (arith, ints); beneath = omega (arith, ints) })

abbrev even-bounds : Bounded
even-bounds = record { form = record { terms = (0, pos 1) ∷ (1, neg_ℤ (pos 2)) ∷ []; constant = pos 0 }; lower = Some (pos 0); upper = Some (pos 0) }

abbrev first-bounds : Bounded
first-bounds = record { form = record { terms = (0, pos 1) ∷ []; constant = pos 0 }; lower = Some (pos 1); upper = Some (pos 1) }

quotient-bounds : all_bounds 1 (is_even ∷ first_is_one ∷ []) ≡ even-bounds ∷ first-bounds ∷ []
quotient-bounds = ap (λ b. even-bounds ∷ b ∷ []) (bounded-Eq 2 1 (record { terms = (0, pos 1) ∷ []; constant = neg_ℤ (pos 1) }) (one-primitive (pos 1 ∷ []) 0 (omega arith) refl))

-- s - x + 2q = 0
abbrev even-row : List ℤ
even-row = neg_ℤ (pos 1) ∷ pos 2 ∷ pos 1 ∷ []

-- x is 1 and s is 0
abbrev quotient-fixed : List (Option ℤ)
quotient-fixed = Some (pos 1) ∷ None ∷ Some (pos 0) ∷ []

quotient-held : (k : ℕ) → k < 2 → bound quotient-fixed (get_or (outside 3 (1 ∷ [])) k 0) ≡ Some (get_or (pos 1 ∷ pos 0 ∷ []) k (pos 0))
quotient-held zero h = refl
quotient-held (suc zero) h = refl
quotient-held (suc (suc k)) h = absurd (omega arith)

-- the quotient q is a half
abbrev quotient-case : Case
quotient-case = record {
  e = even-row;
  row = even-row;
  fixed = quotient-fixed;
  b = 1;
  values = pos 1 ∷ pos 0 ∷ [];
  nums = pos 2 ∷ pos 1 ∷ pos 0 ∷ [];
  den = 2;
  is = record {
    basic = record {
      width = refl;
      follows = follows-own (even-row ∷ []) 0 (omega arith);
      primitive = eq-eqb (content even-row) 1 (one-primitive even-row 2 (omega arith) refl);
      positive = omega (arith, ints);
      zero = λ other inside. only-column even-row 1 other inside.0 inside.1 inside.2;
    };
    rising = refl;
    within = refl;
    positive = omega arith;
    width = refl;
    solves = refl;
    each = refl;
    held = quotient-held;
    at = (refl, (refl, tt));
  };
}

pub quotient-given-up : IsEvidence (both is_even first_is_one) (Nodes 1)
quotient-given-up =
    split-once quotient-case 1 is_even first_is_one 1 (pos 0) (both-end is_even first_is_one) refl (ap (system_of 2) quotient-bounds) (record { variable = omega arith; beyond = omega (arith, ints); beneath = omega (arith, ints) })
