-- Two equations with large coefficients: a row of the basis of both variables is wide.
use Rattle.std.proofs.Common.{◌≡◌, ℕ, suc, zero, ◌-◌, ◌*◌, ◌<◌, List, [], ◌∷◌, get_or, map, refl, ap, sym, ◌∙◌, subst, arith, eq-eqb, ◌⊎◌, inl, inr}
use Rattle.std.specs.Prelude.{ℤ, pos, neg_ℤ, ◌*ℤ◌, Some}
use Rattle.std.specs.List.{Contains}
use Rattle.std.proofs.lemmas.Int.{ints}
use Rattle.lin_atoms.specs.Dot.{dot}
use Rattle.int_rows.specs.Basis.{System, IsBasis, IsBasicRow, IsWideRow}
use Rattle.int_rows.specs.Node.{all_bounds, system, system_of}
use Rattle.int_rows.specs.Ready.{bounded}
use Rattle.int_rows.specs.Rows.{content, entry}
use Rattle.int_rows.specs.declared.bounds.Bounded.{Bounded}
use Rattle.int_rows.proofs.Public.{one-primitive}
use Rattle.refutation_trees.specs.GivenUp.{IsEvidence, tableau}
use Rattle.farkas_proof.specs.Instances.{both, large, large_on_first, large_on_second}
use Rattle.refutation_trees.specs.Refutation.{form_end}
use Rattle.refutation_trees.specs.declared.evidence.Evidence.TheVariants.{Row}
use Rattle.farkas_proof.proofs.PairLemmas.{both-end, both-node, bounded-Eq}

large-end : form_end (both large_on_first large_on_second) ≡ 2
large-end = both-end large_on_first large_on_second

abbrev first-bounds : Bounded
first-bounds = record { form = record { terms = (0, pos large) ∷ (1, pos 1) ∷ []; constant = pos 0 }; lower = Some (pos 3); upper = Some (pos 3) }

abbrev second-bounds : Bounded
second-bounds = record { form = record { terms = (0, pos 1) ∷ (1, pos large) ∷ []; constant = pos 0 }; lower = Some (pos 5); upper = Some (pos 5) }

large-bounds : all_bounds 2 (large_on_first ∷ large_on_second ∷ []) ≡ first-bounds ∷ second-bounds ∷ []
large-bounds =
    let one = bounded-Eq 2 1 (record { terms = (0, pos large) ∷ (1, pos 1) ∷ []; constant = neg_ℤ (pos 3) }) (one-primitive (pos large ∷ pos 1 ∷ []) 1 (omega arith) refl) in
    let two = bounded-Eq 2 1 (record { terms = (0, pos 1) ∷ (1, pos large) ∷ []; constant = neg_ℤ (pos 5) }) (one-primitive (pos 1 ∷ pos large ∷ []) 0 (omega arith) refl) in
    ap (λ b. b ∷ bounded 2 large_on_second ∷ []) one ∙ ap (λ b. first-bounds ∷ b ∷ []) two

abbrev large-tableau : System
large-tableau = system_of 2 (first-bounds ∷ second-bounds ∷ [])

large-system : tableau (both large_on_first large_on_second) (large_on_first ∷ large_on_second ∷ []) ≡ large-tableau
large-system = ap (λ q. system q (large_on_first ∷ large_on_second ∷ [])) large-end ∙ ap (system_of 2) large-bounds

two-at : (a b other k : ℕ) → k < 2 → get_or (a ∷ b ∷ []) k other ≡ other → (other ≡ a) ⊎ (other ≡ b)
two-at a b other zero h e = inl (sym e)
two-at a b other (suc zero) h e = inr (sym e)
two-at a b other (suc (suc k)) h e = absurd (omega arith)

pub one-of-two : (a b other : ℕ) → Contains (a ∷ b ∷ []) other → (other ≡ a) ⊎ (other ≡ b)
one-of-two a b other inside = two-at a b other inside.0 inside.1 inside.2

abbrev pub wide : ℕ
wide = large * large - 1

abbrev equations-of : List (List ℤ)
equations-of = (neg_ℤ (pos large) ∷ neg_ℤ (pos 1) ∷ pos 1 ∷ pos 0 ∷ []) ∷ (neg_ℤ (pos 1) ∷ neg_ℤ (pos large) ∷ pos 0 ∷ pos 1 ∷ []) ∷ []

abbrev row-of-first : List ℤ
row-of-first = pos wide ∷ pos 0 ∷ neg_ℤ (pos large) ∷ pos 1 ∷ []

abbrev row-of-second : List ℤ
row-of-second = pos 0 ∷ pos wide ∷ pos 1 ∷ neg_ℤ (pos large) ∷ []

first-entries : (v : ℕ) → pos 1 *ℤ entry row-of-first v ≡ dot (neg_ℤ (pos large) ∷ pos 1 ∷ []) (map (λ r. entry r v) equations-of)
first-entries zero = refl
first-entries (suc zero) = refl
first-entries (suc (suc zero)) = refl
first-entries (suc (suc (suc zero))) = refl
first-entries (suc (suc (suc (suc v)))) = refl

second-entries : (v : ℕ) → pos 1 *ℤ entry row-of-second v ≡ dot (pos 1 ∷ neg_ℤ (pos large) ∷ []) (map (λ r. entry r v) equations-of)
second-entries zero = refl
second-entries (suc zero) = refl
second-entries (suc (suc zero)) = refl
second-entries (suc (suc (suc zero))) = refl
second-entries (suc (suc (suc (suc v)))) = refl

first-zero : (other : ℕ) → (other ≡ 0) ⊎ (other ≡ 1) → (other ≡ 0 → ⊥) → entry row-of-first other ≡ pos 0
first-zero other (inl e) away = absurd (away e)
first-zero other (inr e) away = ap (entry row-of-first) e

second-zero : (other : ℕ) → (other ≡ 0) ⊎ (other ≡ 1) → (other ≡ 1 → ⊥) → entry row-of-second other ≡ pos 0
second-zero other (inl e) away = ap (entry row-of-second) e
second-zero other (inr e) away = absurd (away e)

first-row : IsBasicRow 4 equations-of (0 ∷ 1 ∷ []) 0 row-of-first
first-row = record {
  width = refl;
  follows = record { multiple = 1; multipliers = neg_ℤ (pos large) ∷ pos 1 ∷ []; positive = omega arith; each = refl; combination = first-entries };
  primitive = eq-eqb (content row-of-first) 1 (one-primitive row-of-first 3 (omega arith) refl);
  positive = omega (arith, ints);
  zero = λ other inside away. first-zero other (one-of-two 0 1 other inside) away;
}

second-row : IsBasicRow 4 equations-of (0 ∷ 1 ∷ []) 1 row-of-second
second-row = record {
  width = refl;
  follows = record { multiple = 1; multipliers = pos 1 ∷ neg_ℤ (pos large) ∷ []; positive = omega arith; each = refl; combination = second-entries };
  primitive = eq-eqb (content row-of-second) 1 (one-primitive row-of-second 2 (omega arith) refl);
  positive = omega (arith, ints);
  zero = λ other inside away. second-zero other (one-of-two 0 1 other inside) away;
}

row-of : (column : ℕ) → (column ≡ 0) ⊎ (column ≡ 1) → (row : List ℤ) × IsBasicRow 4 equations-of (0 ∷ 1 ∷ []) column row
row-of column (inl e) = (row-of-first, subst (λ k. IsBasicRow 4 equations-of (0 ∷ 1 ∷ []) k row-of-first) (sym e) first-row)
row-of column (inr e) = (row-of-second, subst (λ k. IsBasicRow 4 equations-of (0 ∷ 1 ∷ []) k row-of-second) (sym e) second-row)

both-basis : IsBasis 4 equations-of (0 ∷ 1 ∷ [])
both-basis = record { rising = refl; within = refl; full = refl; rows = λ column inside. row-of column (one-of-two 0 1 column inside) }

wide-row : IsWideRow large-tableau.columns large-tableau.equations (0 ∷ 1 ∷ []) (pos wide)
wide-row = record {
  is_basis = both-basis;
  column = 0;
  basic = (0, omega arith, refl);
  row = row-of-first;
  is_row = first-row;
  place = 0;
  is_entry = refl;
  is_wide = omega arith;
}

pub large-given-up : IsEvidence (both large_on_first large_on_second) (Row (large_on_first ∷ large_on_second ∷ []) (0 ∷ 1 ∷ []) (pos (large * large - 1)))
large-given-up = (both-node large_on_first large_on_second, subst (λ (s : System). IsWideRow s.columns s.equations (0 ∷ 1 ∷ []) (pos wide)) (sym large-system) wide-row)
