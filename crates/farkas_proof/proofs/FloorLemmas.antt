-- A vertex where a variable is 2 ^ 63.
use Rattle.std.proofs.Common.{◌≡◌, ℕ, suc, zero, ◌^◌, ◌<◌, List, [], ◌∷◌, get_or, refl, ap, sym, ◌∙◌, subst, arith, eq-eqb, inr, Option, Some, None}
use Rattle.std.specs.Prelude.{ℤ, pos, neg_ℤ, ◌*ℤ◌}
use Rattle.std.proofs.lemmas.Int.{ints}
use Rattle.int_rows.specs.Basis.{System, IsWideCoordinate, bound, outside}
use Rattle.int_rows.specs.Node.{all_bounds, system, system_of}
use Rattle.int_rows.specs.Ready.{bounded}
use Rattle.int_rows.specs.Rows.{content, entry}
use Rattle.int_rows.specs.declared.bounds.Bounded.{Bounded}
use Rattle.int_rows.proofs.Public.{one-primitive}
use Rattle.lin_atoms.specs.Dot.{dot}
use Rattle.refutation_trees.specs.GivenUp.{IsEvidence, tableau}
use Rattle.farkas_proof.specs.Instances.{both, is_multiple_of_second, is_two}
use Rattle.refutation_trees.specs.declared.evidence.Evidence.TheVariants.{Coordinate}
use Rattle.farkas_proof.proofs.PairLemmas.{bounded-Eq, both-end, both-node}
use Rattle.farkas_proof.proofs.PinnedLemmas.{Case, only-column, pinned, pinned-basic, pinned-meets, point-of}

abbrev multiple-bounds : Bounded
multiple-bounds = record { form = record { terms = (0, pos 1) ∷ (1, neg_ℤ (pos (2 ^ 62))) ∷ []; constant = pos 0 }; lower = Some (pos 0); upper = Some (pos 0) }

abbrev two-bounds : Bounded
two-bounds = record { form = record { terms = (1, pos 1) ∷ []; constant = pos 0 }; lower = Some (pos 2); upper = Some (pos 2) }

floor-bounds : all_bounds 2 (is_multiple_of_second ∷ is_two ∷ []) ≡ multiple-bounds ∷ two-bounds ∷ []
floor-bounds =
    let multiple = bounded-Eq 2 1 (record { terms = (0, pos 1) ∷ (1, neg_ℤ (pos (2 ^ 62))) ∷ []; constant = pos 0 }) (one-primitive (pos 1 ∷ neg_ℤ (pos (2 ^ 62)) ∷ []) 0 (omega arith) refl) in
    let two = bounded-Eq 2 1 (record { terms = (1, pos 1) ∷ []; constant = neg_ℤ (pos 2) }) (one-primitive (pos 1 ∷ []) 0 (omega arith) refl) in
    ap (λ b. b ∷ bounded 2 is_two ∷ []) multiple ∙ ap (λ b. multiple-bounds ∷ b ∷ []) two

-- s - x + 2 ^ 62 * y = 0
abbrev multiple-equation : List ℤ
multiple-equation = neg_ℤ (pos 1) ∷ pos (2 ^ 62) ∷ pos 1 ∷ []

abbrev multiple-row : List ℤ
multiple-row = pos 1 ∷ neg_ℤ (pos (2 ^ 62)) ∷ neg_ℤ (pos 1) ∷ []

floor-system : tableau (both is_multiple_of_second is_two) (is_multiple_of_second ∷ is_two ∷ []) ≡ pinned multiple-equation (None ∷ Some (pos 2) ∷ Some (pos 0) ∷ [])
floor-system = ap (λ q. system q (is_multiple_of_second ∷ is_two ∷ [])) (both-end is_multiple_of_second is_two) ∙ ap (system_of 2) floor-bounds

multiple-entries : (v : ℕ) → pos 1 *ℤ entry multiple-row v ≡ dot (neg_ℤ (pos 1) ∷ []) (entry multiple-equation v ∷ [])
multiple-entries zero = refl
multiple-entries (suc zero) = refl
multiple-entries (suc (suc zero)) = refl
multiple-entries (suc (suc (suc v))) = refl

-- y is 2 and s is 0
abbrev floor-fixed : List (Option ℤ)
floor-fixed = None ∷ Some (pos 2) ∷ Some (pos 0) ∷ []

floor-held : (k : ℕ) → k < 2 → bound floor-fixed (get_or (outside 3 (0 ∷ [])) k 0) ≡ Some (get_or (pos 2 ∷ pos 0 ∷ []) k (pos 0))
floor-held zero h = refl
floor-held (suc zero) h = refl
floor-held (suc (suc k)) h = absurd (omega arith)

-- x is 2 ^ 63
abbrev floor-case : Case
floor-case = record {
  e = multiple-equation;
  row = multiple-row;
  fixed = floor-fixed;
  b = 0;
  values = pos 2 ∷ pos 0 ∷ [];
  nums = pos (2 ^ 63) ∷ pos 2 ∷ pos 0 ∷ [];
  den = 1;
  is = record {
    basic = record {
      width = refl;
      follows = record { multiple = 1; multipliers = neg_ℤ (pos 1) ∷ []; positive = omega arith; each = refl; combination = multiple-entries };
      primitive = eq-eqb (content multiple-row) 1 (one-primitive multiple-row 0 (omega arith) refl);
      positive = omega (arith, ints);
      zero = λ other inside. only-column multiple-row 0 other inside.0 inside.1 inside.2;
    };
    rising = refl;
    within = refl;
    positive = omega arith;
    width = refl;
    solves = refl;
    each = refl;
    held = floor-held;
    at = (refl, (refl, tt));
  };
}

wide-floor : IsWideCoordinate (pinned multiple-equation floor-fixed) (0 ∷ []) (pos 2 ∷ pos 0 ∷ []) 0
wide-floor = record {
  point = point-of floor-case.nums 1;
  is_basic = pinned-basic floor-case;
  within = omega arith;
  wide = inr (record { variable = omega arith; vertex = pinned-meets floor-case; is_wide = omega arith });
}

pub floor-given-up : IsEvidence (both is_multiple_of_second is_two) (Coordinate (is_multiple_of_second ∷ is_two ∷ []) (0 ∷ []) (pos 2 ∷ pos 0 ∷ []) 0)
floor-given-up = (both-node is_multiple_of_second is_two, subst (λ (s : System). IsWideCoordinate s (0 ∷ []) (pos 2 ∷ pos 0 ∷ []) 0) (sym floor-system) wide-floor)
