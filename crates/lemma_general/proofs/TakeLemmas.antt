-- A cube in a lemma's place, a lemma at the next level, and a lemma's lift, as the code has them in hand.
use Rattle.std.proofs.Common.{◌≡◌, ℕ, ◌+◌, ◌-◌, ◌<◌, ◌≤◌, List, Bool, true, false, inl, inr, length, Some, refl, ap, sym, ◌∙◌, subst, arith}
use Rattle.std.specs.Prelude.{nat_le}
use Rattle.std.specs.List.{list_any}
use Rattle.std.proofs.lemmas.Bool.Decides.{nat_tests}
use Rattle.lin_atoms.specs.declared.lit.Lit.{Lit}
use Rattle.cube_forms.specs.Cubes.{cube_holds}
use Rattle.lemma_frames.specs.Frames.{lemma_of, level_of, pred_of as pred_at}
use Rattle.chc_tokens.specs.declared.goal.Goal.TheVariants.{Holds}
use Rattle.chc_tokens.specs.declared.refuting.Shown.{Shown}
use Rattle.chc_tokens.specs.declared.seeing.Seen.{Seen}
use Rattle.book_rules.specs.Walks.{AllOf}
use Rattle.clause_queries.specs.Answers.{IsHit, IsLost}
use Rattle.clause_queries.specs.Kept.{is_kept}
use Rattle.clause_queries.specs.declared.finding.Found.{Found}
use Rattle.clause_queries.specs.declared.finding.Found.TheVariants.{Refuted, Instance, GivenUp}
use Rattle.clause_queries.specs.declared.lost.Lost.{Lost}
use Rattle.step_rules.specs.Standing.{Standing}
use Rattle.step_rules.specs.declared.lemma_step.part.LemmaPart.{LemmaPart}
use Rattle.obligation_turn.specs.Turns.{GoesOn}
use Rattle.obligation_turn.proofs.LiftLemmas.{lifts}
use Rattle.lemma_general.specs.Generals.{IsAgainst, IsForSame, IsLearnt, IsLiftOf, bounds_of, without}
use Rattle.lemma_general.specs.Tries.{IsMet, point_of}
use Rattle.lemma_general.specs.machinery.Passes.{AreMet, AreProofsOf, AreShownOf, IsAnswerOf, IsCubeOf, IsFoundOf, IsPlainlyShown, IsRaisedOnce, IsReplaced, IsShownOf, IsSplit, IsTaken, refuted_of}
use Rattle.lemma_general.specs.declared.breaking.Breaking.{Breaking}
use Rattle.lemma_general.proofs.LearnLemmas.{held-at, placed, relearnt}
use Rattle.lemma_general.proofs.MetLemmas.{any-hit}
use Rattle.lemma_general.proofs.BoundLemmas.{bounds-within}
use Rattle.lemma_general.proofs.PartLemmas.{part-holds, part-without}
use Rattle.lemma_general.proofs.PassLemmas.{bounds-cube, own-cube, part-cube}

le-of : (m n : ℕ) → nat_le m n ≡ true → m ≤ n
le-of m n h = grind (arith, nat_tests, h)

-- a cube that is taken, or isn't

pub replaced : (b : Standing) (old : LemmaPart) (cube lemma : List Lit) (proofs : List Shown) → GoesOn b → IsLearnt b old → IsCubeOf b old.pred cube → cube_holds (point_of b old.target) cube ≡ true → lemma ≡ cube → AreShownOf b old.pred cube (old.level - 1) proofs
    → IsReplaced b cube old (record { target = old.target; pred = old.pred; lemma = lemma; level = old.level; proofs = proofs })
replaced b old cube lemma proofs goes learnt is held same are =
    let top : old.level ≤ b.level = le-of old.level b.level (placed b old learnt).high in
    let made = relearnt b old old.level cube proofs goes learnt (omega arith) top is held are in
    let kept : IsLearnt b (record { target = old.target; pred = old.pred; lemma = lemma; level = old.level; proofs = proofs }) =
    subst (λ (c : List Lit). IsLearnt b (record { target = old.target; pred = old.pred; lemma = c; level = old.level; proofs = proofs })) (sym same) made in
    (kept, record { target = refl; pred = refl; level = refl }, same)

-- what was met stays so for a lemma of the same predicate and level
pub met-same : (b : Standing) (old new : LemmaPart) (met : List Breaking) → IsForSame old new → AreMet b old met → AreMet b new met
met-same b old new met same all =
    subst (λ (p : ℕ). AllOf (IsMet b p (new.level - 1)) met) (sym same.pred) (subst (λ (l : ℕ). AllOf (IsMet b old.pred (l - 1)) met) (sym same.level) all)

pub met-against : (b : Standing) (nodes : ℕ) (old : LemmaPart) (cube : List Lit) (met : List Breaking) → IsCubeOf b old.pred cube → is_kept cube ≡ true → AreMet b old met → list_any (λ (one : Breaking). cube_holds one.tuple cube) met ≡ true
    → IsAgainst b old.pred (old.level - 1) nodes cube
met-against b nodes old cube met is kept all h = inl (any-hit b old.pred (old.level - 1) cube met is kept all h)

pub hit-against : (b : Standing) (pred k nodes : ℕ) (cube : List Lit) (seen : Seen) → IsHit b.system b.frames.lemmas (Some pred) (Holds cube) k seen → IsAgainst b pred k nodes cube
hit-against b pred k nodes cube seen hit = inl (seen, hit)

pub lost-against : (b : Standing) (pred k nodes : ℕ) (cube : List Lit) (lost : Lost) → IsLost b.system b.frames.lemmas (Some pred) (Holds cube) k nodes lost → IsAgainst b pred k nodes cube
lost-against b pred k nodes cube lost is = inr (lost, is)

-- without a literal, and split

pub drop-cube : (b : Standing) (part : LemmaPart) (at : ℕ) (cube : List Lit) → GoesOn b → IsLearnt b part → at < length part.lemma → cube ≡ without at part.lemma → IsCubeOf b part.pred cube
drop-cube b part at cube goes learnt within is = subst (IsCubeOf b part.pred) (sym is) (part-cube b part (without at part.lemma) goes learnt (part-without at part.lemma within))

pub drop-held : (b : Standing) (part : LemmaPart) (at : ℕ) (cube : List Lit) → IsLearnt b part → at < length part.lemma → cube ≡ without at part.lemma → cube_holds (point_of b part.target) cube ≡ true
drop-held b part at cube learnt within is =
    subst (λ (c : List Lit). cube_holds (point_of b part.target) c ≡ true) (sym is) (held-at b part (without at part.lemma) learnt (part-holds (without at part.lemma) part.lemma (part-without at part.lemma within)))

pub split-cube : (b : Standing) (part : LemmaPart) (cube : List Lit) → GoesOn b → IsLearnt b part → cube ≡ bounds_of part.lemma → IsCubeOf b part.pred cube
split-cube b part cube goes learnt is = subst (IsCubeOf b part.pred) (sym is) (bounds-cube b part goes learnt)

pub split-held : (b : Standing) (part : LemmaPart) (cube : List Lit) → IsLearnt b part → cube ≡ bounds_of part.lemma → cube_holds (point_of b part.target) cube ≡ true
split-held b part cube learnt is = subst (λ (c : List Lit). cube_holds (point_of b part.target) c ≡ true) (sym is) (held-at b part (bounds_of part.lemma) learnt (bounds-within part.lemma))

pub split-none : (b : Standing) (nodes : ℕ) (part : LemmaPart) (lits : List Lit) → IsLearnt b part → lits ≡ part.lemma → bounds_of lits ≡ lits → IsSplit b nodes part part
split-none b nodes part lits learnt is none = inl (learnt, record { target = refl; pred = refl; level = refl }, sym (ap bounds_of (sym is) ∙ none ∙ is))

pub split-by : (b : Standing) (nodes : ℕ) (old new : LemmaPart) (cube : List Lit) (yes : Bool) → cube ≡ bounds_of old.lemma → IsTaken b nodes cube old new yes → IsSplit b nodes old new
split-by b nodes old new cube true is taken = inl (subst (λ (c : List Lit). IsReplaced b c old new) is taken)
split-by b nodes old new cube false is taken = inr (subst (IsAgainst b old.pred (old.level - 1) nodes) is taken.1, taken.0)

-- the next level

pub raised-once : (b : Standing) (nodes level : ℕ) (old : LemmaPart) (proofs : List Shown) → GoesOn b → IsLearnt b old → old.level < b.level → level ≡ old.level + 1 → AreShownOf b old.pred old.lemma old.level proofs
    → IsRaisedOnce b nodes old (record { target = old.target; pred = old.pred; lemma = old.lemma; level = level; proofs = proofs }) true
raised-once b nodes level old proofs goes learnt below up are =
    let same : old.level ≡ level - 1 = omega (arith, up) in
    let from : old.level ≤ level = omega (arith, up) in
    let to : level ≤ b.level = omega (arith, up, below) in
    let held = held-at b old old.lemma learnt (λ tuple h. h) in
    let made = relearnt b old level old.lemma proofs goes learnt from to (own-cube b old goes learnt) held (subst (λ (m : ℕ). AreShownOf b old.pred old.lemma m proofs) same are) in
    (made, refl, refl, refl, up, to)

pub at-top : (b : Standing) (nodes : ℕ) (old : LemmaPart) → IsLearnt b old → b.level ≤ old.level → IsRaisedOnce b nodes old old false
at-top b nodes old learnt high =
    let top : old.level ≤ b.level = le-of old.level b.level (placed b old learnt).high in
    (refl, inl (omega (arith, high, top)))

pub not-raised : (b : Standing) (nodes : ℕ) (old : LemmaPart) → IsAgainst b old.pred old.level nodes old.lemma → IsRaisedOnce b nodes old old false
not-raised b nodes old against = (refl, inr against)

-- a lemma of the book

pub lifted-of : (b : Standing) (id : ℕ) (proofs : List Shown) → GoesOn b → id < length b.frames.lemmas → level_of b.frames.lemmas id < b.level → AreProofsOf b (pred_at b.frames.lemmas id) (lemma_of b.frames.lemmas id) (level_of b.frames.lemmas id) proofs
    → IsLiftOf b id (record { lemma = id; from = level_of b.frames.lemmas id; proofs = proofs })
lifted-of b id proofs goes within below are = let legal = lifts b id proofs goes within below are in record { unbroken = legal.unbroken; made = legal.made; places = legal.places; lemma = refl }

-- the same of what the code has in hand, over what is lent

pub lift-lent : (a b : Standing) (id k : ℕ) (proofs : List Shown) → a ≡ b → GoesOn b → id < length b.frames.lemmas → level_of b.frames.lemmas id < b.level → k ≡ level_of a.frames.lemmas id
    → AreProofsOf b (pred_at b.frames.lemmas id) (lemma_of b.frames.lemmas id) (level_of b.frames.lemmas id) proofs → IsLiftOf b id (record { lemma = id; from = k; proofs = proofs })
lift-lent a b id k proofs same goes within below level are =
    let own : k ≡ level_of b.frames.lemmas id = level ∙ ap (λ (x : Standing). level_of x.frames.lemmas id) same in
    subst (λ (m : ℕ). IsLiftOf b id (record { lemma = id; from = m; proofs = proofs })) (sym own) (lifted-of b id proofs goes within below are)

pub level-below : (a b : Standing) (level : ℕ) → a ≡ b → level < a.level → level < b.level
level-below a b level same low = subst (λ (x : Standing). level < x.level) same low

pub level-above : (a b : Standing) (level : ℕ) → a ≡ b → a.level ≤ level → b.level ≤ level
level-above a b level same high = subst (λ (x : Standing). x.level ≤ level) same high

-- what was found, as its refutations

pub plainly : (b : Standing) (pred k nodes : ℕ) (cube : List Lit) (found : Found) → IsFoundOf b pred cube k nodes found → IsPlainlyShown b pred cube k nodes (refuted_of found)
plainly b pred k nodes cube (Refuted proofs) is = is
plainly b pred k nodes cube (Instance seen) is = inl (seen, is)
plainly b pred k nodes cube (GivenUp lost) is = inr (lost, is)

pub shown : (b : Standing) (pred k nodes : ℕ) (cube : List Lit) (found : Found) → IsAnswerOf b pred cube k nodes found → IsShownOf b pred cube k nodes (refuted_of found)
shown b pred k nodes cube (Refuted proofs) is = is
shown b pred k nodes cube (Instance seen) is = inl (seen, is)
shown b pred k nodes cube (GivenUp lost) is = inr (lost, is)
