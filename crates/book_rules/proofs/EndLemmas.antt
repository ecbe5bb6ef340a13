-- A level below N that no lemma has exactly is a solution, and a recorded false is derivable.
use Rattle.std.proofs.Common.{◌≡◌, ℕ, ◌+◌, ◌-◌, ◌<◌, ◌≤◌, zero, suc, List, [], ◌∷◌, Bool, true, false, ◌||◌, not, cond, Some, None, refl, ap, sym, ◌∙◌, subst, arith}
use Rattle.std.specs.Prelude.{Option, is_none, nat_lt, ◌==◌, option_map, slice_get}
use Rattle.std.specs.List.{list_all, list_any}
use Rattle.std.proofs.lemmas.Bool.Decides.{nat_tests}
use mathlib.Core.Bool.{true≢false}
use Rattle.book_rules.specs.declared.end.End.{End}
use Rattle.book_rules.specs.declared.end.End.TheVariants.{Unsat, Sat, Spent, Stalled}
use Rattle.book_rules.specs.Walks.{number_from, first_number, or_else}
use Rattle.book_rules.specs.Instances.{Ground, Relation, IsDerivable}
use Rattle.book_rules.specs.Frames.{Framed, accepts, in_frame, IsShown, IsSolution}
use Rattle.book_rules.specs.State.{Fact, State}
use Rattle.book_rules.specs.Legal.{is_level_empty, bare_from, all_stalled_from, end}
use Rattle.book_rules.specs.Kept.{IsSound, IsFalse}
use Rattle.book_rules.proofs.ListLemmas.{both_true, from_both, all_weaken, all_at, all_tested, all_of-at, any_false}
use Rattle.book_rules.proofs.FrameLemmas.{in_frame-level, accepts_else}

-- which end it is

sat_end : (u v : Option ℕ) (b c : Bool) (n level : ℕ) → or_else (option_map Unsat u) (or_else (option_map Sat v) (or_else (cond {A = Option End} b (Some (Spent n)) None) (cond {A = Option End} c (Some Stalled) None))) ≡ Some (Sat level)
    → v ≡ Some level
sat_end (Some f) v b c n level h = absurd (cc)
sat_end None (Some l) b c n level h = let same : Sat l ≡ Sat level = cc in let is : l ≡ level = cc in ap (λ x. Some x) is
sat_end None None true c n level h = absurd (cc)
sat_end None None false true n level h = absurd (cc)
sat_end None None false false n level h = absurd (cc)

unsat_end : (u v : Option ℕ) (b c : Bool) (n fact : ℕ) → or_else (option_map Unsat u) (or_else (option_map Sat v) (or_else (cond {A = Option End} b (Some (Spent n)) None) (cond {A = Option End} c (Some Stalled) None))) ≡ Some (Unsat fact)
    → u ≡ Some fact
unsat_end (Some f) v b c n fact h = let is : f ≡ fact = cc in ap (λ x. Some x) is
unsat_end None (Some l) b c n fact h = absurd (cc)
unsat_end None None true c n fact h = absurd (cc)
unsat_end None None false true n fact h = absurd (cc)
unsat_end None None false false n fact h = absurd (cc)

-- the bare level

bare_is : (es : List Framed) (from count level : ℕ) → bare_from es from count ≡ Some level → (is_level_empty es level ≡ true) × (from ≤ level) × (level < from + count)
bare_is es from zero level h = absurd (cc)
bare_is es from (suc count) level h = here (is_level_empty es from) refl h (bare_is es (from + 1) count level) where
  here : (b : Bool) → is_level_empty es from ≡ b → cond {A = Option ℕ} b (Some from) (bare_from es (from + 1) count) ≡ Some level
      → (bare_from es (from + 1) count ≡ Some level → (is_level_empty es level ≡ true) × (from + 1 ≤ level) × (level < from + 1 + count)) → (is_level_empty es level ≡ true) × (from ≤ level) × (level < from + suc count)
  here true is found rest =
      let same : from ≡ level = cc in
      let low : from ≤ level = omega (arith, same) in
      let high : level < from + suc count = omega (arith, same) in
      (subst (λ l. is_level_empty es l ≡ true) same is, low, high)
  here false is found rest =
      let more = rest found in
      let low' = more.1 in
      let high' = more.2 in
      let low : from ≤ level = omega (arith, low') in
      let high : level < from + suc count = omega (arith, high') in
      (more.0, low, high)

all_by_at : {X : Type 0} (p : X → Bool) (xs : List X) → ((i : ℕ) (x : X) → slice_get xs i ≡ Some x → p x ≡ true) → list_all p xs ≡ true
all_by_at p [] f = refl
all_by_at p (x ∷ xs) f = from_both (p x) _ (f zero x refl) (all_by_at p xs (λ i y is. f (suc i) y is))

-- one lemma, of a level above the bare one
one_closed : (I : Relation) (es : List Framed) (k c : ℕ) (body : List Ground) (a : Ground) → I c body (Some a) → list_all (in_frame es k) body ≡ true → (e : Framed) → IsShown I es (e.level - 1) e.lemma
    → (e.level == k) ≡ false → list_all (λ x. nat_lt e.level k || accepts e.lemma x) body ≡ true → (b : Bool) → nat_lt e.level k ≡ b → (b || accepts e.lemma a) ≡ true
one_closed I es k c body a i inside e shown apart own true is = refl
one_closed I es k c body a i inside e shown apart own false is =
    let below : k ≤ e.level - 1 = grind (arith, nat_tests) in
    let at : k ≤ e.level = omega arith in
    shown c body a i
    (all_weaken (in_frame es k) (in_frame es (e.level - 1)) (λ x. in_frame-level es k (e.level - 1) x below) body inside)
    (all_weaken (λ x. nat_lt e.level k || accepts e.lemma x) (accepts e.lemma) (λ x. accepts_else e.level k (accepts e.lemma x) at) body own)

not_any : (b : Bool) → not b ≡ true → b ≡ false
not_any true h = absurd (true≢false (sym h))
not_any false h = refl

pub bare_is_solution : (I : Relation) (s : State) → IsSound I s → (k : ℕ) → 0 < k → k ≤ s.level - 1 → is_level_empty s.lemmas k ≡ true → IsSolution I s.lemmas k
bare_is_solution I s sound k some below bare =
    let first : nat_lt 0 k ≡ true = grind (arith, nat_tests) in
    let deep : 0 < s.level = omega arith in
    let apart = any_false (λ (e : Framed). e.level == k) s.lemmas (not_any (list_any (λ (e : Framed). e.level == k) s.lemmas) bare) in
    record {
      closed = λ c body a i inside. from_both (nat_lt 0 k) _ first (all_by_at (λ (e : Framed). nat_lt e.level k || accepts e.lemma a) s.lemmas (λ at e is.
          one_closed I s.lemmas k c body a i inside e (all_of-at (λ (x : Framed). IsShown I s.lemmas (x.level - 1) x.lemma) s.lemmas at e is sound.shown)
          (not_any (e.level == k) (all_at (λ (x : Framed). not (x.level == k)) s.lemmas at e is apart))
          (all_weaken (in_frame s.lemmas k) (λ x. nat_lt e.level k || accepts e.lemma x) (λ x t. all_at (λ (y : Framed). nat_lt y.level k || accepts y.lemma x) s.lemmas at e is (both_true (nat_lt 0 k) _ t).1) body inside)
          (nat_lt e.level k) refl));
      refuted = λ c body i. none_there (list_all (in_frame s.lemmas k) body) (list_all (in_frame s.lemmas (s.level - 1)) body)
          (all_weaken (in_frame s.lemmas k) (in_frame s.lemmas (s.level - 1)) (λ x. in_frame-level s.lemmas k (s.level - 1) x below) body) (sound.refuted deep c body i);
    } where
      none_there : (a b : Bool) → (a ≡ true → b ≡ true) → b ≡ false → a ≡ false
      none_there true b f h = absurd (true≢false (sym (f refl) ∙ h))
      none_there false b f h = refl

-- a solution has all that can be derived, so not false
pub derivable_in_solution : (I : Relation) (es : List Framed) (k : ℕ) → IsSolution I es k → (h : ℕ) (a : Ground) → IsDerivable I h (Some a) → in_frame es k a ≡ true
derivable_in_solution I es k solution zero a d = absurd d
derivable_in_solution I es k solution (suc h) a (c, body, i, parts) =
    solution.closed c body a i (all_tested (λ x. IsDerivable I h (Some x)) (in_frame es k) (derivable_in_solution I es k solution h) body parts)

pub solution_has_no_false : (I : Relation) (es : List Framed) (k : ℕ) → IsSolution I es k → (h : ℕ) → IsDerivable I h None → ⊥
solution_has_no_false I es k solution zero d = absurd d
solution_has_no_false I es k solution (suc h) (c, body, i, parts) =
    true≢false (sym (all_tested (λ x. IsDerivable I h (Some x)) (in_frame es k) (derivable_in_solution I es k solution h) body parts) ∙ solution.refuted c body i)

pub sat_is_solution : (I : Relation) (s : State) (level : ℕ) → IsSound I s → end s ≡ Some (Sat level) → IsSolution I s.lemmas level
sat_is_solution I s level sound ends =
    let found = sat_end (first_number (λ (f : Fact). is_none f.conclusion) s.facts) (bare_from s.lemmas 1 (s.level - 1)) (s.spent == s.given) (all_stalled_from s.obligations 0 s.obligations) s.spent level ends in
    let bare = bare_is s.lemmas 1 (s.level - 1) level found in
    let low = bare.1 in
    let high = bare.2 in
    let some : 0 < level = omega (arith, low) in
    let below : level ≤ s.level - 1 = omega (arith, high) in
    bare_is_solution I s sound level some below bare.0

-- the recorded false

number_is : {X : Type 0} (n : ℕ) (test : X → Bool) (xs : List X) (m : ℕ) → number_from n test xs ≡ Some m → (i : ℕ) × (x : X) × (m ≡ n + i) × (slice_get xs i ≡ Some x) × (test x ≡ true)
number_is n test [] m h = absurd (cc)
number_is {X = X} n test (x ∷ xs) m h = here (test x) refl h (number_is (n + 1) test xs m) where
  here : (b : Bool) → test x ≡ b → cond {A = Option ℕ} b (Some n) (number_from (n + 1) test xs) ≡ Some m
      → (number_from (n + 1) test xs ≡ Some m → (i : ℕ) × (y : X) × (m ≡ n + 1 + i) × (slice_get xs i ≡ Some y) × (test y ≡ true)) → (i : ℕ) × (y : X) × (m ≡ n + i) × (slice_get (x ∷ xs) i ≡ Some y) × (test y ≡ true)
  here true is found rest = let same : n ≡ m = cc in let at : m ≡ n + 0 = omega (arith, same) in (zero, x, at, refl, is)
  here false is found rest = let more = rest found in let at' = more.2 in let i = more.0 in let at : m ≡ n + suc i = omega (arith, at') in (suc i, more.1, at, more.3, more.4)

none_is : (o : Option Ground) → is_none o ≡ true → o ≡ None
none_is None h = refl
none_is (Some a) h = absurd (true≢false (sym h))

pub unsat_is_derivable : (I : Relation) (s : State) (number : ℕ) → IsSound I s → end s ≡ Some (Unsat number) → IsFalse I s number
unsat_is_derivable I s number sound ends =
    let found = unsat_end (first_number (λ (f : Fact). is_none f.conclusion) s.facts) (bare_from s.lemmas 1 (s.level - 1)) (s.spent == s.given) (all_stalled_from s.obligations 0 s.obligations) s.spent number ends in
    let at = number_is 0 (λ (f : Fact). is_none f.conclusion) s.facts number found in
    let where_is = at.2 in
    let same : at.0 ≡ number = omega (arith, where_is) in
    let f = at.1 in
    let is = none_is f.conclusion at.4 in
    record {
      fact = f;
      there = subst (λ n. slice_get s.facts n ≡ Some f) same at.3;
      is_false = is;
      derivable = subst (λ head. IsDerivable I f.height head) is (all_of-at (λ (g : Fact). IsDerivable I g.height g.conclusion) s.facts at.0 f at.3 sound.derived);
    }
