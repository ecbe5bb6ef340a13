-- Passes over the literals of a lemma.
use Rattle.std.proofs.Common.{◌≡◌, ℕ, ◌+◌, ◌-◌, ◌<◌, ◌≤◌, List, Bool, true, false, inl, inr, cond, length, refl, ap, sym, ◌∙◌, subst, arith}
use Rattle.std.specs.Prelude.{◌⊎◌, Option, Some, None, nat_abs, nat_le, ◌==◌, ◌^◌}
use Rattle.std.specs.List.{list_all, list_any}
use Rattle.std.proofs.lemmas.Bool.{eqb-true}
use Rattle.std.proofs.lemmas.Bool.Decides.{nat_tests}
use mathlib.Core.Bool.{true≢false}
use Rattle.lin_atoms.specs.Denial.{linear_of}
use Rattle.lin_atoms.specs.Truth.{lit_is_below}
use Rattle.lin_atoms.specs.declared.lit.Lit.{Lit}
use Rattle.book_rules.specs.Places.{places_of}
use Rattle.book_rules.specs.Walks.{has}
use Rattle.step_rules.specs.Standing.{Standing}
use Rattle.obligation_turn.specs.Turns.{GoesOn}
use Rattle.step_rules.specs.declared.lemma_step.part.LemmaPart.{LemmaPart}
use Rattle.lemma_general.specs.Generals.{IsAgainst, IsForSame, IsGeneralised, IsLearnt, IsLeast, IsPart, IsRaised, bounds_of, without}
use Rattle.lemma_general.specs.machinery.Passes.{AreMet, IsCubeOf, IsPassed, IsRaisedOnce, IsSplit, IsTaken}
use Rattle.lemma_general.specs.declared.breaking.Breaking.{Breaking}
use Rattle.lemma_general.proofs.BoundLemmas.{bounds-below, bounds-thin}
use Rattle.lemma_general.proofs.LearnLemmas.{over-own}
use Rattle.lemma_general.proofs.PartLemmas.{part-all, part-none, part-self, part-trans, part-without, shorter}

-- cubes of which a lemma may be asked

over-by : (places : Option ℕ) (cube made : List Lit) → ((n : ℕ) → list_all (lit_is_below n) cube ≡ true → list_all (lit_is_below n) made ≡ true)
    → has places (λ n. list_all (lit_is_below n) cube) ≡ true → has places (λ n. list_all (lit_is_below n) made) ≡ true
over-by None cube made f h = h
over-by (Some n) cube made f h = f n h

pub own-cube : (b : Standing) (part : LemmaPart) → GoesOn b → IsLearnt b part → IsCubeOf b part.pred part.lemma
own-cube b part goes learnt = record { over = over-own b part goes learnt; thin = learnt.thin }

pub part-cube : (b : Standing) (part : LemmaPart) (made : List Lit) → GoesOn b → IsLearnt b part → IsPart made part.lemma → IsCubeOf b part.pred made
part-cube b part made goes learnt is = record {
  over = over-by (places_of b.system.preds (Some part.pred)) part.lemma made (λ n below. part-all (lit_is_below n) made part.lemma is below) (over-own b part goes learnt);
  thin = part-none (λ lit. list_any (λ t. nat_le (2 ^ 54) (nat_abs t.1)) (linear_of lit).terms) made part.lemma is learnt.thin;
}

pub bounds-cube : (b : Standing) (part : LemmaPart) → GoesOn b → IsLearnt b part → IsCubeOf b part.pred (bounds_of part.lemma)
bounds-cube b part goes learnt = record {
  over = over-by (places_of b.system.preds (Some part.pred)) part.lemma (bounds_of part.lemma) (λ n below. bounds-below n part.lemma below) (over-own b part goes learnt);
  thin = bounds-thin part.lemma learnt.thin;
}

-- the same obligation

pub same-self : (part : LemmaPart) → IsForSame part part
same-self part = record { target = refl; pred = refl; level = refl }

pub same-trans : (a b c : LemmaPart) → IsForSame a b → IsForSame b c → IsForSame a c
same-trans a b c h k = record { target = k.target ∙ h.target; pred = k.pred ∙ h.pred; level = k.level ∙ h.level }

-- a pass that is under way at a place

pub record IsPassing (b : Standing) (nodes at : ℕ) (first now : LemmaPart) (seen : List Breaking) (dropped : Bool) : Type 0 where
  pub learnt : IsLearnt b now
  pub same : IsForSame first now
  pub part : IsPart now.lemma first.lemma
  pub met : AreMet b now seen
  pub fewer : dropped ≡ true → length now.lemma < length first.lemma
  pub least : dropped ≡ false → (now ≡ first) × ((i : ℕ) → i < at → IsAgainst b first.pred (first.level - 1) nodes (without i first.lemma))

pub passing-first : (b : Standing) (nodes : ℕ) (first : LemmaPart) (met : List Breaking) → IsLearnt b first → AreMet b first met → IsPassing b nodes 0 first first met false
passing-first b nodes first met learnt all = record {
  learnt = learnt;
  same = same-self first;
  part = part-self first.lemma;
  met = all;
  fewer = λ h. absurd (true≢false (sym h));
  least = λ h. (refl, λ i less. absurd (omega arith));
}

pub passing-dropped : (b : Standing) (nodes at : ℕ) (first part new : LemmaPart) (met more : List Breaking) (dropped : Bool) → at < length part.lemma → IsPassing b nodes at first part met dropped → IsTaken b nodes (without at part.lemma) part new true → AreMet b new more
    → IsPassing b nodes at first new more true
passing-dropped b nodes at first part new met more dropped within on taken all =
    let cut : IsPart new.lemma part.lemma = subst (λ (c : List Lit). IsPart c part.lemma) (sym taken.2) (part-without at part.lemma within) in
    let less : length new.lemma < length part.lemma = subst (λ (c : List Lit). length c < length part.lemma) (sym taken.2) (shorter at part.lemma within) in
    let most : length part.lemma ≤ length first.lemma = at-most dropped on in
    record {
      learnt = taken.0;
      same = same-trans first part new on.same taken.1;
      part = part-trans new.lemma part.lemma first.lemma cut on.part;
      met = all;
      fewer = λ h. omega (arith, less, most);
      least = λ h. absurd (true≢false h);
    }
  where
    at-most : (d : Bool) → IsPassing b nodes at first part met d → length part.lemma ≤ length first.lemma
    at-most true o = let f = o.fewer refl in omega (arith, f)
    at-most false o = let e = ap (λ (p : LemmaPart). length p.lemma) (o.least refl).0 in omega (arith, e)

pub passing-kept : (b : Standing) (nodes at : ℕ) (first part new : LemmaPart) (met more : List Breaking) (dropped : Bool) → IsPassing b nodes at first part met dropped → IsTaken b nodes (without at part.lemma) part new false → AreMet b new more
    → IsPassing b nodes (at + 1) first new more dropped
passing-kept b nodes at first part new met more dropped on taken all =
    subst (λ (p : LemmaPart). AreMet b p more → IsPassing b nodes (at + 1) first p more dropped) (sym taken.0) (λ its. record {
      learnt = on.learnt;
      same = on.same;
      part = on.part;
      met = its;
      fewer = on.fewer;
      least = λ h. (let before = on.least h in (before.0, λ i less. up-to i (before.0) (before.1) less));
    }) all
  where
    up-to : (i : ℕ) → part ≡ first → ((j : ℕ) → j < at → IsAgainst b first.pred (first.level - 1) nodes (without j first.lemma)) → i < at + 1 → IsAgainst b first.pred (first.level - 1) nodes (without i first.lemma)
    up-to i is before less = by (i == at) refl
      where
        by : (t : Bool) → (i == at) ≡ t → IsAgainst b first.pred (first.level - 1) nodes (without i first.lemma)
        by true e = (let same : at ≡ i = sym (eqb-true i at e) in subst (λ (n : ℕ). IsAgainst b first.pred (first.level - 1) nodes (without n first.lemma)) same
            (subst (λ (p : LemmaPart). IsAgainst b p.pred (p.level - 1) nodes (without at p.lemma)) is taken.1))
        by false e = (let lower : i < at = grind (arith, nat_tests, e, less) in before i lower)

pub passed : (b : Standing) (nodes at : ℕ) (first part : LemmaPart) (met : List Breaking) (dropped : Bool) → length part.lemma ≤ at → IsPassing b nodes at first part met dropped → IsPassed b nodes first part dropped
passed b nodes at first part met true past on = (on.learnt, on.same, on.part, on.fewer refl)
passed b nodes at first part met false past on =
    let least = on.least refl in
    let long : length first.lemma ≤ at = subst (λ (p : LemmaPart). length p.lemma ≤ at) least.0 past in
    (least.0, λ i less. least.1 i (omega (arith, long, less)))

-- between two passes

pub record IsBetween (b : Standing) (nodes : ℕ) (given now : LemmaPart) (seen : List Breaking) (going : Bool) : Type 0 where
  pub learnt : IsLearnt b now
  pub same : IsForSame given now
  pub part : IsPart now.lemma (bounds_of given.lemma) ⊎ (IsAgainst b given.pred (given.level - 1) nodes (bounds_of given.lemma) × IsPart now.lemma given.lemma)
  pub met : AreMet b now seen
  pub least : going ≡ false → IsLeast b now.pred (now.level - 1) nodes now.lemma

pub between-first : (b : Standing) (nodes : ℕ) (given part : LemmaPart) (met : List Breaking) → IsLearnt b given → IsSplit b nodes given part → AreMet b part met → IsBetween b nodes given part met true
between-first b nodes given part met learnt (inl how) all = record {
  learnt = how.0;
  same = how.1;
  part = inl (subst (IsPart part.lemma) how.2 (part-self part.lemma));
  met = all;
  least = λ h. absurd (true≢false h);
}
between-first b nodes given part met learnt (inr how) all = record {
  learnt = subst (IsLearnt b) (sym how.1) learnt;
  same = subst (IsForSame given) (sym how.1) (same-self given);
  part = inr (how.0, subst (λ (p : LemmaPart). IsPart p.lemma given.lemma) (sym how.1) (part-self given.lemma));
  met = all;
  least = λ h. absurd (true≢false h);
}

pub between-next : (b : Standing) (nodes : ℕ) (given part new : LemmaPart) (met more : List Breaking) (going : Bool) → IsBetween b nodes given part met true → IsPassed b nodes part new going → AreMet b new more → IsBetween b nodes given new more going
between-next b nodes given part new met more true on passed all = record {
  learnt = passed.0;
  same = same-trans given part new on.same passed.1;
  part = by on.part;
  met = all;
  least = λ h. absurd (true≢false h);
}
  where
    by : IsPart part.lemma (bounds_of given.lemma) ⊎ (IsAgainst b given.pred (given.level - 1) nodes (bounds_of given.lemma) × IsPart part.lemma given.lemma)
        → IsPart new.lemma (bounds_of given.lemma) ⊎ (IsAgainst b given.pred (given.level - 1) nodes (bounds_of given.lemma) × IsPart new.lemma given.lemma)
    by (inl is) = inl (part-trans new.lemma part.lemma (bounds_of given.lemma) passed.2 is)
    by (inr is) = inr (is.0, part-trans new.lemma part.lemma given.lemma passed.2 is.1)
between-next b nodes given part new met more false on passed all =
    subst (λ (p : LemmaPart). AreMet b p more → IsBetween b nodes given p more false) (sym passed.0) (λ its. record { learnt = on.learnt; same = on.same; part = on.part; met = its; least = λ h. passed.1 }) all

pub between-done : (b : Standing) (nodes : ℕ) (given part : LemmaPart) (met : List Breaking) → IsBetween b nodes given part met false → IsGeneralised b nodes given part
between-done b nodes given part met on = record { learnt = on.learnt; same = on.same; part = on.part; least = on.least refl }

-- a lemma that rises

pub record IsRising (b : Standing) (nodes : ℕ) (given part : LemmaPart) (going : Bool) : Type 0 where
  pub learnt : IsLearnt b part
  pub target : part.target ≡ given.target
  pub pred : part.pred ≡ given.pred
  pub lemma : part.lemma ≡ given.lemma
  pub level : given.level ≤ part.level
  pub highest : going ≡ false → (part.level ≡ b.level) ⊎ IsAgainst b part.pred part.level nodes part.lemma

pub rising-first : (b : Standing) (nodes : ℕ) (part : LemmaPart) → IsLearnt b part → IsRising b nodes part part true
rising-first b nodes part learnt = record { learnt = learnt; target = refl; pred = refl; lemma = refl; level = omega arith; highest = λ h. absurd (true≢false h) }

pub rising-next : (b : Standing) (nodes : ℕ) (given part new : LemmaPart) (going : Bool) → IsRising b nodes given part true → IsRaisedOnce b nodes part new going → IsRising b nodes given new going
rising-next b nodes given part new true on once =
    let up = once.4 in
    let from = on.level in
    record { learnt = once.0; target = once.1 ∙ on.target; pred = once.2 ∙ on.pred; lemma = once.3 ∙ on.lemma; level = omega (arith, up, from); highest = λ h. absurd (true≢false h) }
rising-next b nodes given part new false on once =
    subst (λ (p : LemmaPart). IsRising b nodes given p false) (sym once.0) (record { learnt = on.learnt; target = on.target; pred = on.pred; lemma = on.lemma; level = on.level; highest = λ h. once.1 })

pub risen : (b : Standing) (nodes : ℕ) (given part : LemmaPart) → IsRising b nodes given part false → IsRaised b nodes given part
risen b nodes given part on = record { learnt = on.learnt; target = on.target; pred = on.pred; lemma = on.lemma; level = on.level; highest = on.highest refl }

-- passes grow fewer literals

pub fewer-after : (b : Standing) (nodes : ℕ) (old new : LemmaPart) (going : Bool) → IsPassed b nodes old new going → cond {A = ℕ} going (length new.lemma + 1) 0 < length old.lemma + 1
fewer-after b nodes old new true passed = let less = passed.3 in omega (arith, less)
fewer-after b nodes old new false passed = omega arith
