-- The terms that two arenas have for one tree match, one to one, where the tree's parts start in the order of the text.
use Rattle.std.proofs.Common.{◌≡◌, ℕ, zero, suc, ◌+◌, ◌<◌, ◌≤◌, ◌==◌, List, [], ◌∷◌, ◌++◌, length, get_or, Bool, true, false, refl, ap, sym, ◌∙◌, subst, arith}
use Rattle.std.proofs.lemmas.Option.{get_or_from_slice_get}
use Rattle.std.specs.Prelude.{slice_get, Option, Some, None, pos, if◌then◌else◌}
use Rattle.term_tree.specs.declared.node.TermId.{TermId}
use Rattle.term_tree.specs.declared.node.Node.{Node}
use Rattle.term_tree.specs.declared.node.Node.TheVariants.{Num, True, False, Var, LetVar, Pred, Op, Divisible, Let, Forall, Exists}
use Rattle.term_tree.specs.Arena.{Arena}
use Rattle.term_tree.proofs.PlainLemmas.{same_number}
use Rattle.term_check.specs.Term.{Term, numeral, truth, variable, let_name, predicate, operation, divisible, binding, universal, existential, Terms, none, more, IsTermAt, AreTermsAt}
use Rattle.linear_terms.specs.Width.{first_of_two}
use Rattle.clause_readings.specs.Layout.{IsLaid, AreLaid}
use Rattle.clause_readings.specs.Matching.{AreMatched, IsNodeLike, AreNodesLike, IsOneToOne}
use Rattle.clause_readings.proofs.FoundLemmas.{start_of, args_of, body_of, found, found_among, found_itself, found_within, all_within, all_laid_apart}

-- what is found in a part is found in the whole
abbrev Lifts : List Node → Term → ℕ → Term → ℕ → Type 0
Lifts nodes top top_id part id = (offset x : ℕ) → found nodes offset part id ≡ Some x → found nodes offset top top_id ≡ Some x

abbrev LiftsAll : List Node → Term → ℕ → Terms → List TermId → Type 0
LiftsAll nodes top top_id parts ids = (offset x : ℕ) → found_among nodes offset parts ids ≡ Some x → found nodes offset top top_id ≡ Some x

-- the two numbers are those of one part of the tree
pub data IsMet (A B : Arena) (top : Term) (i j : ℕ) : ℕ → ℕ → Type 0 where
  met : (first second : List TermId) (low high : ℕ) (part : Term) (a b : ℕ) → IsLaid low high part → IsTermAt A first part a → IsTermAt B second part b
      → Lifts A.nodes top i part a → Lifts B.nodes top j part b → length first ≡ length second
      → ((k : ℕ) (p q : TermId) → slice_get first k ≡ Some p → slice_get second k ≡ Some q → IsMet A B top i j p.0 q.0)
      → IsMet A B top i j a b

-- a part starts where its node does
starts_at : (X : Arena) (lets : List TermId) (t : Term) (id : ℕ) → IsTermAt X lets t id → slice_get X.offsets id ≡ Some (start_of t)
starts_at X lets (numeral at value) id h = h.1
starts_at X lets (truth at true) id h = h.1
starts_at X lets (truth at false) id h = h.1
starts_at X lets (variable at number sort) id h = h.1
starts_at X lets (let_name at number) id h = h.2.1
starts_at X lets (predicate at number args) id h = h.1.1
starts_at X lets (operation at op args) id h = h.1.1
starts_at X lets (divisible at by arg) id h = h.1.1
starts_at X lets (binding at bound body) id h = h.2.1
starts_at X lets (universal at first sorts body) id h = h.1.1
starts_at X lets (existential at first sorts body) id h = h.1.1

not_here : (at offset : ℕ) → at < offset → (at == offset) ≡ false
not_here at offset h = by_test (at == offset) refl
  where
    by_test : (t : Bool) → (at == offset) ≡ t → (at == offset) ≡ false
    by_test true e = let same = same_number at offset e in absurd (omega (arith, same, h))
    by_test false e = e

-- past the start of a term what is found in its parts is found in it
passes : (at offset id x : ℕ) (later : Option ℕ) → at < offset → later ≡ Some x → (if at == offset then Some id else later) ≡ Some x
passes at offset id x later h is = ap (λ (t : Bool). if t then Some id else later) (not_here at offset h) ∙ is

-- what is found behind an end isn't found before it
skips : (low mid : ℕ) (offset x : ℕ) (before : Option ℕ) (later : Option ℕ) → ((y : ℕ) → before ≡ Some y → offset < mid) → mid ≤ offset → later ≡ Some x → first_of_two before later ≡ Some x
skips low mid offset x None later h past is = is
skips low mid offset x (Some y) later h past is = let early = h y refl in absurd (omega (arith, early, past))

-- lists of names of which those at one place are related, with more behind them
with_more : (P : ℕ → ℕ → Type 0) (first second ids args : List TermId) → length first ≡ length second
    → ((k : ℕ) (p q : TermId) → slice_get first k ≡ Some p → slice_get second k ≡ Some q → P p.0 q.0) → AreMatched P ids args
    → (k : ℕ) (p q : TermId) → slice_get (first ++ ids) k ≡ Some p → slice_get (second ++ args) k ≡ Some q → P p.0 q.0
with_more P [] [] [] [] e h m k p q x y = absurd (cc)
with_more P [] [] [] (o ∷ args) e h m k p q x y = absurd m
with_more P [] [] (i ∷ ids) [] e h m k p q x y = absurd m
with_more P [] [] (i ∷ ids) (o ∷ args) e h m zero p q x y =
    let one : i ≡ p = cc in
    let two : o ≡ q = cc in
    subst (λ (z : TermId). P z.0 q.0) one (subst (λ (z : TermId). P i.0 z.0) two m.0)
with_more P [] [] (i ∷ ids) (o ∷ args) e h m (suc k) p q x y = with_more P [] [] ids args refl (λ n r s u v. absurd (cc)) m.1 k p q x y
with_more P [] (s ∷ second) ids args e h m k p q x y = absurd (cc)
with_more P (f ∷ first) [] ids args e h m k p q x y = absurd (cc)
with_more P (f ∷ first) (s ∷ second) ids args e h m zero p q x y = h zero p q x y
with_more P (f ∷ first) (s ∷ second) ids args e h m (suc k) p q x y =
    with_more P first second ids args (omega (arith, e)) (λ n r t u v. h (suc n) r t u v) m k p q x y

same_lengths : (P : ℕ → ℕ → Type 0) (first second ids args : List TermId) → length first ≡ length second → AreMatched P ids args → length (first ++ ids) ≡ length (second ++ args)
same_lengths P [] [] [] [] e m = refl
same_lengths P [] [] [] (o ∷ args) e m = absurd m
same_lengths P [] [] (i ∷ ids) [] e m = absurd m
same_lengths P [] [] (i ∷ ids) (o ∷ args) e m = ap suc (same_lengths P [] [] ids args refl m.1)
same_lengths P [] (s ∷ second) ids args e m = absurd (cc)
same_lengths P (f ∷ first) [] ids args e m = absurd (cc)
same_lengths P (f ∷ first) (s ∷ second) ids args e m = ap suc (same_lengths P first second ids args (omega (arith, e)) m)

module _ (A B : Arena) (top : Term) (i j : ℕ) where
  abbrev Met : ℕ → ℕ → Type 0
  Met a b = IsMet A B top i j a b

  -- names in scope that were met in order
  abbrev AreNamesMet : List TermId → List TermId → Type 0
  AreNamesMet first second = (k : ℕ) (p q : TermId) → slice_get first k ≡ Some p → slice_get second k ≡ Some q → Met p.0 q.0

  -- where a number was met
  record Place (a b : ℕ) : Type 0 where
    offset : ℕ
    here : slice_get A.offsets a ≡ Some offset
    there : slice_get B.offsets b ≡ Some offset
    found_here : found A.nodes offset top i ≡ Some a
    found_there : found B.nodes offset top j ≡ Some b

  place : (a b : ℕ) → Met a b → Place a b
  place _ _ (met first second low high part a b laid x y lift other e names) = record {
    offset = start_of part;
    here = starts_at A first part a x;
    there = starts_at B second part b y;
    found_here = lift (start_of part) a (found_itself A.nodes part a);
    found_there = other (start_of part) b (found_itself B.nodes part b);
  }

  pub one_to_one : IsOneToOne Met
  one_to_one a b c d h k =
      let p = place a b h in
      let q = place c d k in (
        λ e.
            let same : Some p.offset ≡ Some q.offset = sym p.here ∙ ap (λ (x : ℕ). slice_get A.offsets x) e ∙ q.here in
            let offsets : p.offset ≡ q.offset = cc in
            let both : Some b ≡ Some d = sym p.found_there ∙ ap (λ (o : ℕ). found B.nodes o top j) offsets ∙ q.found_there in
            cc,
        λ e.
            let same : Some p.offset ≡ Some q.offset = sym p.there ∙ ap (λ (x : ℕ). slice_get B.offsets x) e ∙ q.there in
            let offsets : p.offset ≡ q.offset = cc in
            let both : Some a ≡ Some c = sym p.found_here ∙ ap (λ (o : ℕ). found A.nodes o top i) offsets ∙ q.found_here in
            cc,
      )

  pub same_starts : (a b : ℕ) → Met a b → get_or A.offsets a 0 ≡ get_or B.offsets b 0
  same_starts a b h = let p = place a b h in get_or_from_slice_get A.offsets a p.offset 0 p.here ∙ sym (get_or_from_slice_get B.offsets b p.offset 0 p.there)

  module _ (first second : List TermId) (e : length first ≡ length second) (names : AreNamesMet first second) where
    children : (low high : ℕ) (ts : Terms) (ids args : List TermId) → AreLaid low high ts → AreTermsAt A first ts ids → AreTermsAt B second ts args
        → LiftsAll A.nodes top i ts ids → LiftsAll B.nodes top j ts args → AreMatched Met ids args
    children low high none [] [] laid x y lift other = tt
    children low high none [] (o ∷ args) laid x y lift other = absurd y
    children low high none (id ∷ ids) args laid x y lift other = absurd x
    children low high (more t ts) [] args laid x y lift other = absurd x
    children low high (more t ts) (id ∷ ids) [] laid x y lift other = absurd y
    children low high (more t ts) (id ∷ ids) (o ∷ args) laid x y lift other = (
      met first second low laid.0 t id.0 o.0 laid.1 x.0 y.0
          (λ offset z f. lift offset z (ap (λ (r : Option ℕ). first_of_two r (found_among A.nodes offset ts ids)) f))
          (λ offset z f. other offset z (ap (λ (r : Option ℕ). first_of_two r (found_among B.nodes offset ts args)) f)) e names,
      children laid.0 high ts ids args laid.2 x.1 y.1
          (λ offset z f. lift offset z (skips low laid.0 offset z (found A.nodes offset t id.0) (found_among A.nodes offset ts ids)
          (λ u g. (found_within low laid.0 A.nodes offset t id.0 u laid.1 g).1) (all_within laid.0 high A.nodes offset ts ids z laid.2 f).0 f))
          (λ offset z f. other offset z (skips low laid.0 offset z (found B.nodes offset t o.0) (found_among B.nodes offset ts args)
          (λ u g. (found_within low laid.0 B.nodes offset t o.0 u laid.1 g).1) (all_within laid.0 high B.nodes offset ts args z laid.2 f).0 f)),
    )

    abbrev IsLike : ℕ → ℕ → Type 0
    IsLike a b = (node : Node) × (other : Node) × (slice_get A.nodes a ≡ Some node) × (slice_get B.nodes b ≡ Some other) × IsNodeLike Met node other

    -- what is found in the arguments is found in the whole
    module _ (X : Arena) (root : ℕ) (at low high a : ℕ) (ts : Terms) (ids : List TermId) (node : Node) (is : slice_get X.nodes a ≡ Some node) (args : args_of (Some node) ≡ ids) (laid : AreLaid (at + 1) high ts)
        (lift : (offset x : ℕ) → (if at == offset then Some a else found_among X.nodes offset ts (args_of (slice_get X.nodes a))) ≡ Some x → found X.nodes offset top root ≡ Some x) where
      arguments_lift : LiftsAll X.nodes top root ts ids
      arguments_lift offset x f =
          let w = all_within (at + 1) high X.nodes offset ts ids x laid f in
          let listed : args_of (slice_get X.nodes a) ≡ ids = ap args_of is ∙ args in
          lift offset x (passes at offset a x (found_among X.nodes offset ts (args_of (slice_get X.nodes a))) (omega (arith, w.0)) (ap (found_among X.nodes offset ts) listed ∙ f))

    module _ (X : Arena) (root : ℕ) (at high a : ℕ) (t : Term) (id : ℕ) (node : Node) (is : slice_get X.nodes a ≡ Some node) (body : body_of (Some node) ≡ id) (laid : IsLaid (at + 1) high t)
        (lift : (offset x : ℕ) → (if at == offset then Some a else found X.nodes offset t (body_of (slice_get X.nodes a))) ≡ Some x → found X.nodes offset top root ≡ Some x) where
      body_lifts : Lifts X.nodes top root t id
      body_lifts offset x f =
          let w = found_within (at + 1) high X.nodes offset t id x laid f in
          let there : body_of (slice_get X.nodes a) ≡ id = ap body_of is ∙ body in
          lift offset x (passes at offset a x (found X.nodes offset t (body_of (slice_get X.nodes a))) (omega (arith, w.0)) (ap (found X.nodes offset t) there ∙ f))

    -- the terms that a let binds, and its body
    module _ (X : Arena) (root : ℕ) (at mid high a : ℕ) (bound : Terms) (body : Term) (ids : List TermId) (id : TermId) (is : slice_get X.nodes a ≡ Some (Let ids id))
        (laid : AreLaid (at + 1) mid bound) (body_laid : IsLaid mid high body)
        (lift : (offset x : ℕ) → (if at == offset then Some a else first_of_two (found_among X.nodes offset bound (args_of (slice_get X.nodes a))) (found X.nodes offset body (body_of (slice_get X.nodes a)))) ≡ Some x
        → found X.nodes offset top root ≡ Some x) where
      whole : (offset x : ℕ) → at < offset → first_of_two (found_among X.nodes offset bound ids) (found X.nodes offset body id.0) ≡ Some x → found X.nodes offset top root ≡ Some x
      whole offset x past f =
          lift offset x (passes at offset a x _ past (ap (λ (n : Option Node). first_of_two (found_among X.nodes offset bound (args_of n)) (found X.nodes offset body (body_of n))) is ∙ f))

      bound_lift : LiftsAll X.nodes top root bound ids
      bound_lift offset x f =
          let w = all_within (at + 1) mid X.nodes offset bound ids x laid f in
          whole offset x (omega (arith, w.0)) (ap (λ (r : Option ℕ). first_of_two r (found X.nodes offset body id.0)) f)

      inner_lifts : Lifts X.nodes top root body id.0
      inner_lifts offset x f =
          let w = found_within mid high X.nodes offset body id.0 x body_laid f in
          let l = all_laid_apart (at + 1) mid bound laid in
          whole offset x (omega (arith, w.0, l))
          (skips 0 mid offset x (found_among X.nodes offset bound ids) (found X.nodes offset body id.0) (λ y g. (all_within (at + 1) mid X.nodes offset bound ids y laid g).1) w.0 f)

    like_at : (low high : ℕ) (part : Term) (a b : ℕ) → IsLaid low high part → IsTermAt A first part a → IsTermAt B second part b → Lifts A.nodes top i part a → Lifts B.nodes top j part b → IsLike a b
    like_at low high (numeral at value) a b laid x y lift other = (Num value, Num value, x.0, y.0, refl)
    like_at low high (truth at true) a b laid x y lift other = (True, True, x.0, y.0, refl)
    like_at low high (truth at false) a b laid x y lift other = (False, False, x.0, y.0, refl)
    like_at low high (variable at number sort) a b laid x y lift other = (Var number sort, Var number sort, x.0, y.0, refl)
    like_at low high (let_name at number) a b laid x y lift other = (LetVar x.0, LetVar y.0, x.2.0, y.2.0, (y.0, refl, names number x.0 y.0 x.1 y.1))
    like_at low high (predicate at number args) a b laid x y lift other = (
      Pred number x.0,
      Pred number y.0,
      x.1.0,
      y.1.0,
      (
        y.0,
        refl,
        children (at + 1) high args x.0 y.0 laid.2 x.2 y.2 (arguments_lift A i at low high a args x.0 (Pred number x.0) x.1.0 refl laid.2 lift)
            (arguments_lift B j at low high b args y.0 (Pred number y.0) y.1.0 refl laid.2 other),
      ),
    )
    like_at low high (operation at op args) a b laid x y lift other = (
      Op op x.0,
      Op op y.0,
      x.1.0,
      y.1.0,
      (
        y.0,
        refl,
        children (at + 1) high args x.0 y.0 laid.2 x.2 y.2 (arguments_lift A i at low high a args x.0 (Op op x.0) x.1.0 refl laid.2 lift)
            (arguments_lift B j at low high b args y.0 (Op op y.0) y.1.0 refl laid.2 other),
      ),
    )
    like_at low high (divisible at by arg) a b laid x y lift other = (
      Divisible (pos by) x.0,
      Divisible (pos by) y.0,
      x.1.0,
      y.1.0,
      (
        y.0,
        refl,
        met first second (at + 1) high arg x.0.0 y.0.0 laid.2 x.2 y.2 (body_lifts A i at high a arg x.0.0 (Divisible (pos by) x.0) x.1.0 refl laid.2 lift)
            (body_lifts B j at high b arg y.0.0 (Divisible (pos by) y.0) y.1.0 refl laid.2 other) e names,
      ),
    )
    like_at low high (binding at bound body) a b laid x y lift other =
        let bounds = children (at + 1) laid.2.0 bound x.0 y.0 laid.2.1 x.3 y.3 (bound_lift A i at laid.2.0 high a bound body x.0 x.1 x.2.0 laid.2.1 laid.2.2 lift)
        (bound_lift B j at laid.2.0 high b bound body y.0 y.1 y.2.0 laid.2.1 laid.2.2 other) in (
          Let x.0 x.1,
          Let y.0 y.1,
          x.2.0,
          y.2.0,
          (
            y.0,
            y.1,
            refl,
            bounds,
            met (first ++ x.0) (second ++ y.0) laid.2.0 high body x.1.0 y.1.0 laid.2.2 x.4 y.4
                (inner_lifts A i at laid.2.0 high a bound body x.0 x.1 x.2.0 laid.2.1 laid.2.2 lift)
                (inner_lifts B j at laid.2.0 high b bound body y.0 y.1 y.2.0 laid.2.1 laid.2.2 other)
                (same_lengths Met first second x.0 y.0 e bounds) (with_more Met first second x.0 y.0 e names bounds),
          ),
        )
    like_at low high (universal at number sorts body) a b laid x y lift other = (
      Forall number sorts x.0,
      Forall number sorts y.0,
      x.1.0,
      y.1.0,
      (
        y.0,
        refl,
        met first second (at + 1) high body x.0.0 y.0.0 laid.2 x.2 y.2 (body_lifts A i at high a body x.0.0 (Forall number sorts x.0) x.1.0 refl laid.2 lift)
            (body_lifts B j at high b body y.0.0 (Forall number sorts y.0) y.1.0 refl laid.2 other) e names,
      ),
    )
    like_at low high (existential at number sorts body) a b laid x y lift other = (
      Exists number sorts x.0,
      Exists number sorts y.0,
      x.1.0,
      y.1.0,
      (
        y.0,
        refl,
        met first second (at + 1) high body x.0.0 y.0.0 laid.2 x.2 y.2 (body_lifts A i at high a body x.0.0 (Exists number sorts x.0) x.1.0 refl laid.2 lift)
            (body_lifts B j at high b body y.0.0 (Exists number sorts y.0) y.1.0 refl laid.2 other) e names,
      ),
    )

  pub met_alike : AreNodesLike A.nodes B.nodes Met
  met_alike _ _ (met first second low high part a b laid x y lift other e names) = like_at first second e names low high part a b laid x y lift other

  -- the two terms of the whole tree are met
  pub met_at_top : (low high : ℕ) → IsLaid low high top → IsTermAt A [] top i → IsTermAt B [] top j → Met i j
  met_at_top low high laid x y = met [] [] low high top i j laid x y (λ offset z f. f) (λ offset z f. f) refl (λ k p q u v. absurd (cc))
