-- Which numbers of the facts by hand are closed.
use Rattle.std.proofs.Common.{ℕ, zero, suc, List, [], ◌∷◌, refl, sym, subst, arith}
use Rattle.std.specs.List.{All, Contains}
use Rattle.std.proofs.lemmas.List.Elements.{All-cons, All-head, All-nil}
use Rattle.std.proofs.lemmas.Option.{none-some}
use Rattle.book_rules.specs.State.{Fact}
use Rattle.cert_derivations.specs.Examples.{small_facts}
use Rattle.cert_derivations.specs.Steps.{AreClosed, IsBehind}
use Rattle.cert_derivations.proofs.LookUpLemmas.{some_is}

pub closed_here : AreClosed small_facts (0 ∷ 2 ∷ 3 ∷ [])
closed_here = (
  record { fact = _; there = refl; premises = All-nil (Contains {X = ℕ} []) },
  (
    record { fact = _; there = refl; premises = All-cons (Contains {X = ℕ} (0 ∷ [])) 0 [] (0, omega arith, refl) (All-nil (Contains {X = ℕ} (0 ∷ []))) },
    (
      record { fact = _; there = refl; premises = All-cons (Contains {X = ℕ} (0 ∷ 2 ∷ [])) 2 [] (1, omega arith, refl) (All-nil (Contains {X = ℕ} (0 ∷ 2 ∷ []))) },
      tt,
    ),
  ),
)

-- false rests on 2
needs_2 : (before : List ℕ) → IsBehind small_facts before 3 → Contains before 2
needs_2 before behind =
    let same = some_is _ behind.fact behind.there in
    All-head (Contains before) 2 [] (subst (λ (f : Fact). All (Contains before) f.premises) (sym same) behind.premises)

not_among : Contains {X = ℕ} (0 ∷ []) 2 → ⊥
not_among (zero, less, is) = absurd (omega (arith, is))
not_among (suc k, less, is) = absurd (omega (arith, less))

pub not_missing : AreClosed small_facts (0 ∷ 3 ∷ []) → ⊥
not_missing closed = not_among (needs_2 (0 ∷ []) closed.1.0)

pub not_late : AreClosed small_facts (0 ∷ 3 ∷ 2 ∷ []) → ⊥
not_late closed = not_among (needs_2 (0 ∷ []) closed.1.0)

pub not_absent : AreClosed small_facts (4 ∷ []) → ⊥
not_absent closed = none-some closed.0.fact closed.0.there
