-- Instances that are kept, and cubes that hold their heads.
use Rattle.std.proofs.Common.{◌≡◌, ℕ, ◌<◌, List, [], ◌∷◌, ◌++◌, Bool, true, false, ◌||◌, not, length, Some, None, refl, ap, ap₂, sym, ◌∙◌, subst}
use Rattle.std.specs.Prelude.{ℤ, Option, option_map, slice_get}
use Rattle.std.specs.List.{list_all, list_any}
use Rattle.std.proofs.lemmas.Option.{slice_get_within}
use mathlib.Core.Bool.{true≢false}
use Rattle.lin_atoms.specs.declared.lit.Lit.{Lit}
use Rattle.clause_form.specs.System.{is_clause}
use Rattle.clause_form.specs.declared.atom.Atom.{Atom}
use Rattle.clause_form.specs.declared.clause.Clause.{Clause}
use Rattle.clause_form.proofs.Public.{keeps}
use Rattle.cube_forms.specs.Cubes.{cube_holds, tuple_at}
use Rattle.chc_tokens.specs.Instances.{token_atom_at, token_head_at}
use Rattle.chc_tokens.specs.Kept.{seen_clause, seen_point}
use Rattle.chc_tokens.specs.Tokens.{is_passed, token_meets}
use Rattle.chc_tokens.specs.declared.goal.Goal.TheVariants.{Holds}
use Rattle.chc_tokens.specs.declared.seeing.Seen.{Seen}
use Rattle.book_rules.specs.Proofs.{is_head}
use Rattle.book_rules.specs.Walks.{AllOf}
use Rattle.book_rules.proofs.ListLemmas.{all_of-push}
use Rattle.cube_rules.proofs.Public.{both_true}
use Rattle.clause_queries.specs.Answers.{GoalFits, IsHit}
use Rattle.clause_queries.specs.Kept.{is_kept}
use Rattle.clause_queries.specs.Uses.{uses}
use Rattle.clause_queries.proofs.Public.{has-goal, number_is}
use Rattle.step_rules.specs.Standing.{Standing}
use Rattle.lemma_general.specs.Tries.{IsMet}
use Rattle.lemma_general.specs.machinery.Passes.{IsCubeOf}
use Rattle.lemma_general.specs.declared.breaking.Breaking.{Breaking}

pub fits-of : (b : Standing) (pred : ℕ) (cube : List Lit) → IsCubeOf b pred cube → GoalFits b.system.preds (Some pred) (Holds cube)
fits-of b pred cube is = (pred, refl, is.over, is.thin)

pub met-hit : (b : Standing) (pred k : ℕ) (cube : List Lit) (met : Breaking) → IsCubeOf b pred cube → is_kept cube ≡ true → IsMet b pred k met → cube_holds met.tuple cube ≡ true → IsHit b.system b.frames.lemmas (Some pred) (Holds cube) k met.seen
met-hit b pred k cube met is kept one held =
    let clause = (one.at).clause in
    let headed = (both_true (is_head (Some pred) clause.head) _ (one.at).asked).0 in
    record {
      at = one.at;
      instance = record {
        clause = clause;
        there = (one.at).there;
        number = refl;
        seen_is = one.seen_is;
        placed = has-goal b.system.preds (length clause.sorts) (Some pred) (Holds cube) clause (fits-of b pred cube is) kept headed (keeps b.system.preds clause one.legal).head;
        head = ap (λ h. token_meets (Holds cube) h) one.head ∙ ap not held;
        body = one.body;
      };
    }

pub any-hit : (b : Standing) (pred k : ℕ) (cube : List Lit) (met : List Breaking) → IsCubeOf b pred cube → is_kept cube ≡ true → AllOf (IsMet b pred k) met → list_any (λ (one : Breaking). cube_holds one.tuple cube) met ≡ true
    → (seen : Seen) × IsHit b.system b.frames.lemmas (Some pred) (Holds cube) k seen
any-hit b pred k cube [] is kept all h = absurd (true≢false (sym h))
any-hit b pred k cube (m ∷ met) is kept all h = by (cube_holds m.tuple cube) refl h (any-hit b pred k cube met is kept all.1)
  where
    by : (t : Bool) → cube_holds m.tuple cube ≡ t → (t || list_any (λ (one : Breaking). cube_holds one.tuple cube) met) ≡ true
        → (list_any (λ (one : Breaking). cube_holds one.tuple cube) met ≡ true → (seen : Seen) × IsHit b.system b.frames.lemmas (Some pred) (Holds cube) k seen)
        → (seen : Seen) × IsHit b.system b.frames.lemmas (Some pred) (Holds cube) k seen
    by true held g later = (m.seen, met-hit b pred k cube m is kept all.0 held)
    by false held g later = later g

-- the head that is met is of the predicate
head-pred : (pred : ℕ) (head : Option Atom) (atom : Atom) → is_head (Some pred) head ≡ true → head ≡ Some atom → atom.pred ≡ pred
head-pred pred head atom g is = sym (number_is pred atom.pred (ap (is_head (Some pred)) (sym is) ∙ g))

-- an instance that was found is one to keep
pub hit-met : (b : Standing) (pred k : ℕ) (cube : List Lit) (seen : Seen) (tuple : List ℤ) (clause : Clause) (atom : Atom) → slice_get b.system.clauses (seen_clause seen) ≡ Some clause → is_clause b.system.preds clause ≡ true
    → IsHit b.system b.frames.lemmas (Some pred) (Holds cube) k seen → clause.head ≡ Some atom → tuple ≡ tuple_at (seen_point seen) atom.args → IsMet b pred k (record { seen = seen; tuple = tuple })
hit-met b pred k cube seen tuple clause atom there legal hit head is =
    let point = seen_point seen in
    let fs = b.frames.lemmas in
    let first : (hit.at).clause ≡ clause = (let both = sym (hit.at).there ∙ there in cc) in
    let second : (hit.instance).clause ≡ (hit.at).clause = (let both = sym (hit.instance).there ∙ (hit.at).there in cc) in
    let headed = (both_true (is_head (Some pred) ((hit.at).clause).head) _ (hit.at).asked).0 in
    let at_head : ((hit.at).clause).head ≡ Some atom = ap (λ (c : Clause). c.head) first ∙ head in
    let own : atom.pred ≡ pred = head-pred pred ((hit.at).clause).head atom headed at_head in
    let met : token_head_at point (hit.at).clause ≡ Some (pred, tuple) = ap (option_map (token_atom_at point)) at_head ∙ ap₂ (λ (p : ℕ) (values : List ℤ). Some (p, values)) own (sym is) in
    record {
      at = hit.at;
      seen_is = (hit.instance).seen_is;
      legal = ap (is_clause b.system.preds) first ∙ legal;
      head = met;
      body = subst (λ (c : Clause). list_all (is_passed point c) (uses k fs (hit.at).clause) ≡ true) second (hit.instance).body;
    }

-- the same of what the code has in hand, over what is lent

pub hit-there : (a b : Standing) (pred k : ℕ) (cube : List Lit) (seen : Seen) (n : ℕ) → a ≡ b → IsHit b.system b.frames.lemmas (Some pred) (Holds cube) k seen → n ≡ seen_clause seen → n < length a.system.clauses
hit-there a b pred k cube seen n same hit is =
    let there = slice_get_within b.system.clauses (seen_clause seen) (hit.at).clause (hit.at).there in
    subst (λ (x : Standing). n < length x.system.clauses) (sym same) (subst (λ (m : ℕ). m < length b.system.clauses) (sym is) there)

clause-lent : (a b : Standing) (seen : Seen) (n : ℕ) (clause : Clause) → a ≡ b → n ≡ seen_clause seen → slice_get a.system.clauses n ≡ Some clause → slice_get b.system.clauses (seen_clause seen) ≡ Some clause
clause-lent a b seen n clause same is there = ap (slice_get b.system.clauses) (sym is) ∙ ap (λ (x : Standing). slice_get x.system.clauses n) (sym same) ∙ there

pub hit-kept : (a b : Standing) (pred k n : ℕ) (cube : List Lit) (seen : Seen) (clause : Clause) (atom : Atom) (point tuple : List ℤ) (args : List ℕ) (met new : List Breaking) → a ≡ b → IsHit b.system b.frames.lemmas (Some pred) (Holds cube) k seen → n ≡ seen_clause seen
    → slice_get a.system.clauses n ≡ Some clause → is_clause a.system.preds clause ≡ true → clause.head ≡ Some atom → point ≡ seen_point seen → args ≡ atom.args → tuple ≡ tuple_at point args → AllOf (IsMet b pred k) met
    → new ≡ met ++ (record { seen = seen; tuple = tuple }) ∷ [] → AllOf (IsMet b pred k) new
hit-kept a b pred k n cube seen clause atom point tuple args met new same hit is there legal head at_point at_args tuple_is all pushed =
    let legal_b : is_clause b.system.preds clause ≡ true = ap (λ (x : Standing). is_clause x.system.preds clause) (sym same) ∙ legal in
    let one = hit-met b pred k cube seen tuple clause atom (clause-lent a b seen n clause same is there) legal_b hit head (tuple_is ∙ ap₂ tuple_at at_point at_args) in
    subst (AllOf (IsMet b pred k)) (sym pushed) (all_of-push (IsMet b pred k) met (record { seen = seen; tuple = tuple }) all one)

pub hit-headed : (a b : Standing) (pred k n : ℕ) (cube : List Lit) (seen : Seen) (clause : Clause) → a ≡ b → IsHit b.system b.frames.lemmas (Some pred) (Holds cube) k seen → n ≡ seen_clause seen → slice_get a.system.clauses n ≡ Some clause → clause.head ≡ None → ⊥
hit-headed a b pred k n cube seen clause same hit is there none =
    let first : (hit.at).clause ≡ clause = (let both = sym (hit.at).there ∙ clause-lent a b seen n clause same is there in cc) in
    let headed = (both_true (is_head (Some pred) ((hit.at).clause).head) _ (hit.at).asked).0 in
    true≢false (sym headed ∙ ap (λ (c : Clause). is_head (Some pred) c.head) first ∙ ap (is_head (Some pred)) none)
