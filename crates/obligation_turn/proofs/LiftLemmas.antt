-- What is found of a lemma: a Lift, or what keeps it where it is.
use Rattle.std.proofs.Common.{◌≡◌, ℕ, ◌+◌, ◌<◌, ◌≤◌, zero, suc, List, [], ◌∷◌, ◌++◌, take, length, Bool, true, false, not, cond, Some, None, refl, ap, ap₂, sym, ◌∙◌, subst, arith}
use Rattle.std.specs.Prelude.{Option, ℤ, nat_lt, option_map, slice_get, ◌==◌}
use Rattle.std.specs.List.{list_all}
use Rattle.std.proofs.lemmas.Bool.Decides.{nat_tests}
use Rattle.std.proofs.lemmas.List.{map-append}
use Rattle.std.proofs.lemmas.List.Folds.{list_all-append}
use mathlib.Core.Bool.{true≢false}
use Rattle.lin_atoms.specs.declared.lit.Lit.{Lit}
use Rattle.clause_form.specs.System.{Clauses}
use Rattle.clause_form.specs.declared.atom.Atom.{Atom}
use Rattle.clause_form.specs.declared.clause.Clause.{Clause}
use Rattle.lemma_frames.specs.Frames.{lemma_of, level_of, pred_of as pred_at}
use Rattle.lemma_frames.specs.declared.framed.Framed.{Framed as KeptLemma}
use Rattle.chc_tokens.specs.Instances.{accepts, token_atom_at, is_broken}
use Rattle.chc_tokens.specs.Kept.{kept_lemma, kept_why, seen_clause, seen_point}
use Rattle.chc_tokens.specs.Queries.{has_places, query_at}
use Rattle.chc_tokens.specs.Tokens.{IsKept, IsNoLift, breaks_in, fits_head, is_passed}
use Rattle.chc_tokens.specs.declared.goal.Goal.TheVariants.{Holds}
use Rattle.chc_tokens.specs.declared.keeping.NoLift.{NoLift as NoLiftToken}
use Rattle.chc_tokens.specs.declared.refuting.Shown.{Shown}
use Rattle.chc_tokens.specs.declared.seeing.Seen.{Seen}
use Rattle.chc_tokens.specs.declared.why.Why.{Why as WhyKept}
use Rattle.chc_tokens.specs.declared.why.Why.TheVariants.{Broken as BrokenBy, Unknown as UnknownBy}
use Rattle.book_rules.specs.Frames.{Framed}
use Rattle.book_rules.specs.LemmaRules.{level_is, rule_30, rule_31, rule_32, rule_33}
use Rattle.book_rules.specs.Places.{head_of, is_over, is_over_atom, no_lift_has_places, used_has_places}
use Rattle.book_rules.specs.Proofs.{all_may_use, is_head, unshown}
use Rattle.book_rules.specs.RaiseRules.{below_from, is_no_lift_of, seen_outside}
use Rattle.book_rules.specs.Same.{same_cube}
use Rattle.book_rules.specs.State.{State}
use Rattle.book_rules.specs.Steps.{LiftStep as PlainLift, NoLift as PlainNoLift, Why}
use Rattle.book_rules.specs.Walks.{first_told, on}
use Rattle.book_rules.specs.declared.by.By.TheVariants.{Lemma as ByLemma, Level as ByLevel}
use Rattle.book_rules.specs.OpenRules.{shut_out}
use Rattle.book_rules.specs.Instances.{body_at}
use Rattle.book_rules.proofs.ListLemmas.{all_of-at, all_of-push}
use Rattle.book_rules.proofs.Public.{cubes_equal}
use Rattle.cube_rules.specs.Views.{framed_at, lemmas_of}
use Rattle.cube_rules.proofs.Public.{both_true, framed_of-at, from_both}
use Rattle.clause_queries.specs.Answers.{AreProofs, IsHit, IsLost}
use Rattle.clause_queries.specs.Uses.{uses}
use Rattle.clause_queries.specs.declared.lost.Lost.{Lost}
use Rattle.clause_queries.proofs.Public.{number_is, own_number}
use Rattle.step_rules.specs.Standing.{Standing, standing_state}
use Rattle.step_rules.specs.Taken.{lift_of}
use Rattle.step_rules.specs.Tokens.{all_no_lifts, all_used, left_of, no_lift_of, seen_of, why_of}
use Rattle.step_rules.specs.declared.lift_step.part.LiftPart.{LiftPart}
use Rattle.obligation_turn.specs.Turns.{AreSought, GoesOn, IsWhySought, WhyCounts}
use Rattle.obligation_turn.specs.machinery.Lifts.{AreKept, ArePairs, IsKeptAt, IsLegalLift, IsPair}
use Rattle.obligation_turn.proofs.BodyLemmas.{body-accepted, body-inside}
use Rattle.obligation_turn.proofs.ProvedLemmas.{proved, uses-may, uses-over}
use Rattle.obligation_turn.proofs.RuleLemmas.{has-of, kept, passed, told-of, unmarked}

-- an instance that breaks the lemma

pub broken-of : (lemma : List Lit) (point : List ℤ) (head : Option Atom) → has_places head lemma ≡ true → accepts lemma (option_map (token_atom_at point) head) ≡ false → is_broken lemma (option_map (token_atom_at point) head) ≡ true
broken-of lemma point None places h = absurd (true≢false (sym places))
broken-of lemma point (Some atom) places h = by (is_broken lemma (Some (token_atom_at point atom))) h
  where
    by : (b : Bool) → not b ≡ false → b ≡ true
    by true k = refl
    by false k = absurd (true≢false k)

pub hit-keeps : (sys : Clauses) (fs : List KeptLemma) (pred : Option ℕ) (lemma : List Lit) (k : ℕ) (seen : Seen) → IsHit sys fs pred (Holds lemma) k seen → IsKept sys lemma (BrokenBy seen)
hit-keeps sys fs pred lemma k seen hit =
    let is = hit.instance in
    let point = seen_point seen in (
      is.seen_is,
      ap (λ (o : Option Clause). fits_head o lemma) is.there ∙ is.placed,
      ap (λ (o : Option Clause). breaks_in o point lemma) is.there ∙ broken-of lemma point (is.clause).head is.placed is.head,
    )

pub lost-keeps : (sys : Clauses) (fs : List KeptLemma) (pred : Option ℕ) (lemma : List Lit) (k nodes : ℕ) (lost : Lost) → IsLost sys fs pred (Holds lemma) k nodes lost → IsKept sys lemma (UnknownBy lost.clause lost.used lost.evidence)
lost-keeps sys fs pred lemma k nodes lost is = (is.given_up).form

-- the lemma of a number is over its predicate, and stands at its level

over-of : (b : Standing) (id : ℕ) → GoesOn b → id < length b.frames.lemmas → is_over b.system.preds (pred_at b.frames.lemmas id) (lemma_of b.frames.lemmas id) ≡ true
over-of b id goes within =
    all_of-at (λ (e : Framed). is_over b.system.preds e.lemma.pred e.lemma.cube ≡ true) (lemmas_of b.frames.lemmas) id (framed_at b.frames.lemmas id) (framed_of-at b.frames.lemmas id within) ((goes.standing).over).lemmas

head-over : (sys : Clauses) (pred : ℕ) (cube : List Lit) (n : ℕ) (clause : Clause) → slice_get sys.clauses n ≡ Some clause → is_head (Some pred) clause.head ≡ true → is_over sys.preds pred cube ≡ true → is_over_atom sys.preds (head_of sys n) cube ≡ true
head-over sys pred cube n clause there headed over = ap (λ (o : Option Clause). is_over_atom sys.preds (on o (λ (c : Clause). c.head)) cube) there ∙ by clause.head headed
  where
    by : (head : Option Atom) → is_head (Some pred) head ≡ true → is_over_atom sys.preds head cube ≡ true
    by None h = refl
    by (Some atom) h = ap (λ (p : ℕ). is_over sys.preds p cube) (sym (number_is pred atom.pred h)) ∙ over

-- what keeps it

pub kept-broken : (b : Standing) (nodes id : ℕ) (seen : Seen) (token : NoLiftToken) → GoesOn b → id < length b.frames.lemmas
    → IsHit b.system b.frames.lemmas (Some (pred_at b.frames.lemmas id)) (Holds (lemma_of b.frames.lemmas id)) (level_of b.frames.lemmas id) seen
    → kept_lemma token ≡ lemma_of b.frames.lemmas id → kept_why token ≡ BrokenBy seen → IsNoLift b.system token → IsKeptAt b nodes id token
kept-broken b nodes id seen token goes within hit cube_is why_is no_lift =
    let sys = b.system in
    let fs = b.frames.lemmas in
    let s = standing_state b in
    let e = framed_at fs id in
    let cube = lemma_of fs id in
    let k = level_of fs id in
    let clause = hit.at.clause in
    let there = hit.at.there in
    let headed = (both_true (is_head (Some e.lemma.pred) clause.head) _ hit.at.asked).0 in
    let is = hit.instance in
    let same : is.clause ≡ clause = (let both = sym is.there ∙ there in cc) in
    let body = subst (λ (c : Clause). list_all (is_passed (seen_point seen) c) (uses k fs clause) ≡ true) same is.body in
    let plain : PlainNoLift = record { cube = cube; why = Why.Broken (seen_of seen) } in
    let is_plain : plain ≡ no_lift_of token = ap₂ (λ (c : List Lit) (w : WhyKept). record { cube = c; why = why_of w }) (sym cube_is) (sym why_is) in
    let of_lemma : is_no_lift_of sys e.lemma plain ≡ true =
    from_both (same_cube cube cube) _ ((cubes_equal cube cube).1 refl) (has-of (slice_get sys.clauses (seen_clause seen)) clause (λ (c : Clause). is_head (Some e.lemma.pred) c.head) there headed) in
    let inside : seen_outside sys s (id, e) plain.why ≡ None =
    told-of (slice_get sys.clauses (seen_clause seen)) clause (λ (c : Clause). first_told (shut_out s.lemmas k) (body_at (seen_point seen) c)) there
    (body-inside (seen_point seen) clause k (lemmas_of fs) (body-accepted (seen_point seen) clause k fs body)) in
    let places : no_lift_has_places sys plain ≡ true = from_both (is_over_atom sys.preds (head_of sys (seen_clause seen)) cube) true (head-over sys e.lemma.pred cube (seen_clause seen) clause there headed (over-of b id goes within)) refl in
    record {
      no_lift = no_lift;
      pair = subst (IsPair sys s (id, e)) is_plain (record { of_lemma = of_lemma; inside = inside; known = refl });
      places = subst (λ (k' : PlainNoLift). no_lift_has_places sys k' ≡ true) is_plain places;
      counts = subst (WhyCounts nodes) (sym why_is) tt;
      sought = subst (IsWhySought b nodes id) (sym why_is) tt;
    }

pub kept-unknown : (b : Standing) (nodes id : ℕ) (lost : Lost) (token : NoLiftToken) → GoesOn b → id < length b.frames.lemmas
    → IsLost b.system b.frames.lemmas (Some (pred_at b.frames.lemmas id)) (Holds (lemma_of b.frames.lemmas id)) (level_of b.frames.lemmas id) nodes lost
    → kept_lemma token ≡ lemma_of b.frames.lemmas id → kept_why token ≡ UnknownBy lost.clause lost.used lost.evidence → IsNoLift b.system token → IsKeptAt b nodes id token
kept-unknown b nodes id lost token goes within is cube_is why_is no_lift =
    let sys = b.system in
    let fs = b.frames.lemmas in
    let s = standing_state b in
    let e = framed_at fs id in
    let cube = lemma_of fs id in
    let k = level_of fs id in
    let n = lost.clause in
    let clause = is.at.clause in
    let there = is.at.there in
    let up = is.given_up in
    let over = ((goes.standing).over).lemmas in
    let headed = (both_true (is_head (Some e.lemma.pred) clause.head) _ is.at.asked).0 in
    let plain : PlainNoLift = record { cube = cube; why = Why.Unknown n (all_used lost.used) (left_of lost.evidence) } in
    let is_plain : plain ≡ no_lift_of token = ap₂ (λ (c : List Lit) (w : WhyKept). record { cube = c; why = why_of w }) (sym cube_is) (sym why_is) in
    let of_lemma : is_no_lift_of sys e.lemma plain ≡ true =
    from_both (same_cube cube cube) _ ((cubes_equal cube cube).1 refl) (has-of (slice_get sys.clauses n) clause (λ (c : Clause). is_head (Some e.lemma.pred) c.head) there headed) in
    let may : all_may_use sys (lemmas_of fs) k None n (all_used lost.used) ≡ true = uses-may sys k fs None n clause lost.used is.under over there in
    let uses_over : list_all (used_has_places sys n) (all_used lost.used) ≡ true = uses-over sys k fs n clause lost.used is.under over there in
    let places : no_lift_has_places sys plain ≡ true = from_both (is_over_atom sys.preds (head_of sys n) cube) _ (head-over sys e.lemma.pred cube n clause there headed (over-of b id goes within)) uses_over in
    record {
      no_lift = no_lift;
      pair = subst (IsPair sys s (id, e)) is_plain (record { of_lemma = of_lemma; inside = refl; known = passed (all_may_use sys (lemmas_of fs) k None n (all_used lost.used)) (ByLemma id) may });
      places = subst (λ (x : PlainNoLift). no_lift_has_places sys x ≡ true) is_plain places;
      counts = subst (WhyCounts nodes) (sym why_is) up.counts;
      sought = subst (IsWhySought b nodes id) (sym why_is) is;
    }

-- a lemma that is implied goes up

le-false : (m n : ℕ) → n ≤ m → nat_lt m n ≡ false
le-false m n h = grind (arith, nat_tests, h)

pub lifts : (b : Standing) (id : ℕ) (proofs : List Shown) → GoesOn b → id < length b.frames.lemmas → level_of b.frames.lemmas id < b.level
    → AreProofs b.system b.frames.lemmas (Some (pred_at b.frames.lemmas id)) (Holds (lemma_of b.frames.lemmas id)) (level_of b.frames.lemmas id) proofs
    → IsLegalLift b (record { lemma = id; from = level_of b.frames.lemmas id; proofs = proofs })
lifts b id proofs goes within below are =
    let sys = b.system in
    let fs = b.frames.lemmas in
    let s = standing_state b in
    let e = framed_at fs id in
    let k = level_of fs id in
    let part : LiftPart = record { lemma = id; from = k; proofs = proofs } in
    let l : PlainLift = lift_of part in
    let there = framed_of-at fs id within in
    let is = proved sys fs k (Some e.lemma) None proofs ((goes.standing).over).lemmas (over-of b id goes within) are in
    let r30 : rule_30 s l ≡ None = ap (level_is id k) there ∙ passed (k == k) (ByLemma id) (own_number k) in
    let r31 : rule_31 s l ≡ None = unmarked (nat_lt b.level (k + 1)) (ByLevel b.level) (le-false b.level (k + 1) (omega (arith, below))) in
    let r32 : rule_32 sys s l ≡ None = told-of (slice_get (lemmas_of fs) id) e (λ (x : Framed). unshown sys k (Some x.lemma) l.proofs) there is.unshown in
    record {
      unbroken = kept 30 (rule_30 s l) _ r30 (kept 31 (rule_31 s l) _ r31 (kept 32 (rule_32 sys s l) _ r32 (kept 33 (rule_33 sys s l) None is.misused refl)));
      made = is.made;
      places = is.places;
    }

-- lemmas one after another

take-next : {X : Type 0} (xs : List X) (n : ℕ) (x : X) → slice_get xs n ≡ Some x → take (suc n) xs ≡ take n xs ++ x ∷ []
take-next [] n x there = absurd (cc)
take-next (y ∷ xs) zero x there = let same : y ≡ x = cc in ap (λ z. z ∷ []) same
take-next (y ∷ xs) (suc n) x there = ap (λ zs. y ∷ zs) (take-next xs n x there)

length-take : {X : Type 0} (xs : List X) (n : ℕ) (x : X) → slice_get xs n ≡ Some x → length (take n xs) ≡ n
length-take [] n x there = absurd (cc)
length-take (y ∷ xs) zero x there = refl
length-take (y ∷ xs) (suc n) x there = ap suc (length-take xs n x there)

below-push : (level from : ℕ) (es : List Framed) (e : Framed) → below_from level from (es ++ e ∷ []) ≡ below_from level from es ++ cond {A = List (ℕ × Framed)} (nat_lt e.level level) ((from + length es, e) ∷ []) []
below-push level from [] e = ap (λ (m : ℕ). cond {A = List (ℕ × Framed)} (nat_lt e.level level) ((m, e) ∷ []) []) (omega arith)
below-push level from (x ∷ es) e =
    let number : from + 1 + length es ≡ from + length (x ∷ es) = omega arith in
    let rest = below-push level (from + 1) es e ∙ ap (λ (m : ℕ). below_from level (from + 1) es ++ cond {A = List (ℕ × Framed)} (nat_lt e.level level) ((m, e) ∷ []) []) number in
    by (nat_lt x.level level) rest
  where
    by : (b : Bool) → below_from level (from + 1) (es ++ e ∷ []) ≡ below_from level (from + 1) es ++ cond {A = List (ℕ × Framed)} (nat_lt e.level level) ((from + length (x ∷ es), e) ∷ []) []
        → cond {A = List (ℕ × Framed)} b ((from, x) ∷ below_from level (from + 1) (es ++ e ∷ [])) (below_from level (from + 1) (es ++ e ∷ []))
        ≡ cond {A = List (ℕ × Framed)} b ((from, x) ∷ below_from level (from + 1) es) (below_from level (from + 1) es) ++ cond {A = List (ℕ × Framed)} (nat_lt e.level level) ((from + length (x ∷ es), e) ∷ []) []
    by true h = ap (λ (zs : List (ℕ × Framed)). (from, x) ∷ zs) h
    by false h = h

pairs-push : (sys : Clauses) (s : State) (es : List (ℕ × Framed)) (ks : List PlainNoLift) (e : ℕ × Framed) (k : PlainNoLift) → ArePairs sys s es ks → IsPair sys s e k → ArePairs sys s (es ++ e ∷ []) (ks ++ k ∷ [])
pairs-push sys s [] [] e k are is = (is, tt)
pairs-push sys s [] (x ∷ ks) e k are is = absurd are
pairs-push sys s (y ∷ es) [] e k are is = absurd are
pairs-push sys s (y ∷ es) (x ∷ ks) e k are is = (are.0, pairs-push sys s es ks e k are.1 is)

sought-push : (b : Standing) (nodes : ℕ) (es : List (ℕ × Framed)) (ks : List NoLiftToken) (e : ℕ × Framed) (k : NoLiftToken) → ArePairs b.system (standing_state b) es (all_no_lifts ks) → AreSought b nodes es ks → IsWhySought b nodes e.0 (kept_why k) → AreSought b nodes (es ++ e ∷ []) (ks ++ k ∷ [])
sought-push b nodes [] [] e k are h is = (is, tt)
sought-push b nodes [] (x ∷ ks) e k are h is = absurd are
sought-push b nodes (y ∷ es) [] e k are h is = absurd are
sought-push b nodes (y ∷ es) (x ∷ ks) e k are h is = (h.0, sought-push b nodes es ks e k are.1 h.1 is)

-- what stands below the next number
below-next : (b : Standing) (id : ℕ) (low : Bool) → id < length b.frames.lemmas → nat_lt (level_of b.frames.lemmas id) b.level ≡ low
    → below_from b.level 0 (take (id + 1) (lemmas_of b.frames.lemmas)) ≡ below_from b.level 0 (take id (lemmas_of b.frames.lemmas)) ++ cond {A = List (ℕ × Framed)} low ((id, framed_at b.frames.lemmas id) ∷ []) []
below-next b id low within is =
    let es = lemmas_of b.frames.lemmas in
    let e = framed_at b.frames.lemmas id in
    let there = framed_of-at b.frames.lemmas id within in
    let next : id + 1 ≡ suc id = omega arith in
    let long = length-take es id e there in
    let number : 0 + length (take id es) ≡ id = omega (arith, long) in
    ap (λ (m : ℕ). below_from b.level 0 (take m es)) next ∙ ap (below_from b.level 0) (take-next es id e there) ∙ below-push b.level 0 (take id es) e
    ∙ ap (λ (m : ℕ). below_from b.level 0 (take id es) ++ cond {A = List (ℕ × Framed)} (nat_lt e.level b.level) ((m, e) ∷ []) []) number
    ∙ ap (λ c. below_from b.level 0 (take id es) ++ cond {A = List (ℕ × Framed)} c ((id, e) ∷ []) []) is

append-none : {X : Type 0} (xs : List X) → xs ++ [] ≡ xs
append-none [] = refl
append-none (x ∷ xs) = ap (λ ys. x ∷ ys) (append-none xs)

pub none-kept : (b : Standing) (nodes : ℕ) (kept : List NoLiftToken) → kept ≡ [] → AreKept b nodes 0 kept
none-kept b nodes kept is = subst (AreKept b nodes 0) (sym is) (record { no_lifts = tt; pairs = tt; places = refl; counts = tt; sought = tt })

pub kept-above : (b : Standing) (nodes id : ℕ) (kept : List NoLiftToken) → id < length b.frames.lemmas → nat_lt (level_of b.frames.lemmas id) b.level ≡ false → AreKept b nodes id kept → AreKept b nodes (id + 1) kept
kept-above b nodes id kept within high are = record {
  no_lifts = are.no_lifts;
  pairs = subst (λ (es : List (ℕ × Framed)). ArePairs b.system (standing_state b) es (all_no_lifts kept)) (sym (below-next b id false within high ∙ append-none (below_from b.level 0 (take id (lemmas_of b.frames.lemmas))))) are.pairs;
  places = are.places;
  counts = are.counts;
  sought = subst (λ (es : List (ℕ × Framed)). AreSought b nodes es kept) (sym (below-next b id false within high ∙ append-none (below_from b.level 0 (take id (lemmas_of b.frames.lemmas))))) are.sought;
}

pub kept-below : (b : Standing) (nodes id : ℕ) (kept : List NoLiftToken) (token : NoLiftToken) (new : List NoLiftToken) → id < length b.frames.lemmas → nat_lt (level_of b.frames.lemmas id) b.level ≡ true → new ≡ kept ++ token ∷ [] → IsKeptAt b nodes id token → AreKept b nodes id kept → AreKept b nodes (id + 1) new
kept-below b nodes id kept token new within low is one are =
    let more : all_no_lifts (kept ++ token ∷ []) ≡ all_no_lifts kept ++ no_lift_of token ∷ [] = map-append no_lift_of kept (token ∷ []) in
    let pushed : AreKept b nodes (id + 1) (kept ++ token ∷ []) = record {
      no_lifts = all_of-push (IsNoLift b.system) kept token are.no_lifts one.no_lift;
      pairs = subst (λ (es : List (ℕ × Framed)). ArePairs b.system (standing_state b) es (all_no_lifts (kept ++ token ∷ []))) (sym (below-next b id true within low))
          (subst (ArePairs b.system (standing_state b) (below_from b.level 0 (take id (lemmas_of b.frames.lemmas)) ++ (id, framed_at b.frames.lemmas id) ∷ [])) (sym more)
          (pairs-push b.system (standing_state b) (below_from b.level 0 (take id (lemmas_of b.frames.lemmas))) (all_no_lifts kept) (id, framed_at b.frames.lemmas id) (no_lift_of token) are.pairs one.pair));
      places = ap (list_all (no_lift_has_places b.system)) more ∙ list_all-append (no_lift_has_places b.system) (all_no_lifts kept) (no_lift_of token ∷ [])
          ∙ from_both _ _ are.places (from_both (no_lift_has_places b.system (no_lift_of token)) true one.places refl);
      counts = all_of-push (λ (k : NoLiftToken). WhyCounts nodes (kept_why k)) kept token are.counts one.counts;
      sought = subst (λ (es : List (ℕ × Framed)). AreSought b nodes es (kept ++ token ∷ [])) (sym (below-next b id true within low))
          (sought-push b nodes (below_from b.level 0 (take id (lemmas_of b.frames.lemmas))) kept (id, framed_at b.frames.lemmas id) token are.pairs are.sought one.sought);
    } in
    subst (AreKept b nodes (id + 1)) (sym is) pushed
