-- Bodies in a scope: what they say rests on the variables in scope alone, and a body of sort Bool has a truth value.
use Rattle.std.proofs.Common.{◌≡◌, ℕ, zero, suc, ◌<◌, List, [], ◌∷◌, ◌++◌, Bool, true, false, ◌&&◌, ◌||◌, ◌==◌, refl, ap, sym, ◌∙◌, subst, arith, map}
use Rattle.std.proofs.lemmas.Bool.Decides.{nat_tests}
use Rattle.std.specs.Prelude.{slice_get, Option, Some, None, Ok, nat_lt}
use Rattle.std.specs.List.{list_all}
use Rattle.term_tree.specs.declared.sort.Sort.{Sort}
use Rattle.term_tree.specs.declared.sort.Sort.TheVariants.{Bool as BoolSort}
use Rattle.term_tree.specs.declared.script.Pred.{Pred as Declared}
use Rattle.term_tree.specs.declared.node.TermId.{TermId}
use Rattle.term_tree.specs.declared.node.OpKind.TheVariants.{And}
use Rattle.term_tree.specs.declared.node.Node.{Node}
use Rattle.term_tree.specs.declared.node.Node.TheVariants.{Pred, Op, Let}
use Rattle.term_tree.specs.declared.scalar.Value.{Value}
use Rattle.term_tree.specs.declared.scalar.Value.TheVariants.{Bool as Truth}
use Rattle.term_tree.specs.Arena.{IsArena, is_below}
use Rattle.term_tree.specs.Legal.{NamesInScope, with_bound, has_some, is_scoped}
use Rattle.term_tree.specs.Operators.{truth}
use Rattle.term_tree.specs.Sorts.{has_sort, have_sorts, is_sorted, predicate_sort, sort_of}
use Rattle.term_tree.specs.Subterms.{is_among}
use Rattle.term_tree.specs.Truth.{Interpretation, Completes, HasSort, HaveSorts, HasValue}
use Rattle.term_tree.specs.Value.{Environment, value_of}
use Rattle.term_tree.proofs.LawLemmas.{one_value}
use Rattle.term_tree.proofs.Public.{arena_below, below_from, both_true, has_value_at, scoped_at, sort_at, there_is}
use Rattle.horn_shape.specs.declared.clause.AtomUse.{AtomUse}
use Rattle.horn_shape.specs.Instance.{tuple_of}
use Rattle.horn_shape.specs.Plain.{is_plain_term}
use Rattle.horn_shape.specs.Shape.{Content, nothing, arguments, atom_of, guard_of, at, each, body_form, body_reading}
use Rattle.horn_shape.specs.Content.{met}
use Rattle.horn_shape.specs.machinery.Gathering.{place_of}
use Rattle.horn_shape.proofs.BodyLemmas.{same_read, chosen_ok, both_ok, bound_ok, met_beside, tuple_is, body_there}
use Rattle.horn_shape.proofs.KnownLemmas.{among_plain, determined, valued_args, valued_plain}
use Rattle.horn_shape.proofs.ScopeLemmas.{AgreeBelow, IsScope, args_same, sort_is, sort_chosen, chosen_sort, plain_local, plain_sorted, bound_scope}
use Rattle.horn_shape.proofs.ShapeLemmas.{body_plain, body_mixed}

-- the interpretation gives each declared predicate a truth value at values of its sorts
abbrev pub GivesTruth : List Declared → Interpretation → Type 0
GivesTruth preds I = (pred : ℕ) (p : Declared) (values : List Value) → slice_get preds pred ≡ Some p → HaveSorts p.args values → HasSort BoolSort (I pred values)

-- what is known can be completed
pub completion : (known : List (Option Value)) → (values : List Value) × Completes known values
completion [] = ([], tt)
completion (None ∷ known) = let rest = completion known in (Truth false ∷ rest.0, rest.1)
completion (Some v ∷ known) = let rest = completion known in (v ∷ rest.0, (refl, rest.1))

backwards : (n : ℕ) (E F : Environment) → AgreeBelow n E F → AgreeBelow n F E
backwards n E F agree k less = sym (agree k less)

-- what is known of a body in a scope
pub record IsSettled (I : Interpretation) (preds : List Declared) (nodes : List Node) (id : TermId) (c : Content) (n : ℕ) (E : Environment) : Type 0 where
  pub same : (F : Environment) → AgreeBelow n E F → met I nodes F c ≡ met I nodes E c
  pub truths : sort_of preds nodes id.0 ≡ Some BoolSort → (v : Value) → HasValue I nodes id.0 E v → HasSort BoolSort v

module _ (I : Interpretation) (preds : List Declared) (nodes : List Node) (arena : IsArena nodes) where
  -- the tuple of an application
  pub tuple_same : (n : ℕ) (E : Environment) (scope : NamesInScope) (pred : ℕ) (args lets : List TermId) → IsScope preds nodes n E scope → list_all (λ a. is_plain_term nodes a.0) args ≡ true
      → list_all (λ a. is_scoped nodes a.0 scope) args ≡ true → (F : Environment) → AgreeBelow n E F
      → tuple_of nodes F (record { pred = pred; args = arguments lets args }) ≡ tuple_of nodes E (record { pred = pred; args = arguments lets args })
  tuple_same n E scope pred args lets is plain scoped F agree =
      sym (tuple_is nodes F pred lets args)
      ∙ args_same preds nodes n args F E (λ k h. plain_local preds nodes arena k n E scope is (among_plain (is_plain_term nodes) k args plain h) (among_plain (λ j. is_scoped nodes j scope) k args scoped h) F E (backwards n E F agree))
      ∙ tuple_is nodes E pred lets args

  have_them : (sorts : List Sort) (ids : List TermId) (E : Environment) → ((k : ℕ) (s : Sort) → is_among k ids ≡ true → sort_of preds nodes k ≡ Some s → HasSort s (value_of nodes k E))
      → have_sorts sorts (map (λ a. sort_of preds nodes a.0) ids) ≡ true → HaveSorts sorts (map (λ a. value_of nodes a.0 E) ids)
  have_them [] [] E all h = tt
  have_them [] (id ∷ ids) E all h = absurd (cc)
  have_them (s ∷ sorts) [] E all h = absurd (cc)
  have_them (s ∷ sorts) (id ∷ ids) E all h =
      let both = both_true (has_sort s (sort_of preds nodes id.0)) (have_sorts sorts (map (λ (a : TermId). sort_of preds nodes a.0) ids)) h in (
        all id.0 s (first id.0 (is_among id.0 ids)) (sort_is s (sort_of preds nodes id.0) both.0),
        have_them sorts ids E (λ k t among e. all k t (more id.0 k (is_among k ids) among) e) both.1,
      )
    where
      first : (k : ℕ) (b : Bool) → ((k == k) || b) ≡ true
      first k b = grind (arith, nat_tests)

      more : (i k : ℕ) (b : Bool) → b ≡ true → ((i == k) || b) ≡ true
      more i k b h = grind (arith, nat_tests)

  declared : (p : Option Declared) (given : List (Option Sort)) (s : Sort) → predicate_sort p given ≡ Some s → (q : Declared) × (p ≡ Some q) × (have_sorts q.args given ≡ true)
  declared None given s h = absurd (cc)
  declared (Some q) given s h = (q, refl, (sort_chosen (have_sorts q.args given) BoolSort s h).0)

  -- an application has a truth value
  pub applied_truth : GivesTruth preds I → (n : ℕ) (E : Environment) (scope : NamesInScope) (pred : ℕ) (args : List TermId) (s : Sort) → IsScope preds nodes n E scope
      → list_all (λ a. is_plain_term nodes a.0) args ≡ true → list_all (λ a. is_scoped nodes a.0 scope) args ≡ true
      → predicate_sort (slice_get preds pred) (map (λ a. sort_of preds nodes a.0) args) ≡ Some s → HasSort BoolSort (I pred (map (λ a. value_of nodes a.0 E) args))
  applied_truth gives n E scope pred args s is plain scoped h =
      let p = declared (slice_get preds pred) (map (λ (a : TermId). sort_of preds nodes a.0) args) s h in
      gives pred p.0 (map (λ (a : TermId). value_of nodes a.0 E) args) p.1
      (have_them p.0.args args E
      (λ k t among e. plain_sorted preds nodes arena k n E scope t is (among_plain (is_plain_term nodes) k args plain among) (among_plain (λ j. is_scoped nodes j scope) k args scoped among) e) p.2)

  module _ (gives : GivesTruth preds I) where
    abbrev Settleds : ℕ → Type 0
    Settleds bound = (k : TermId) (lets : List TermId) (x : Content) (n : ℕ) (E : Environment) (scope : NamesInScope) → k.0 < bound → body_reading nodes k.0 (place_of k lets) ≡ Ok x
        → IsScope preds nodes n E scope → is_scoped nodes k.0 scope ≡ true → IsSettled I preds nodes k x n E

    each_settled : (bound : ℕ) (lets ids : List TermId) (c : Content) (n : ℕ) (E : Environment) (scope : NamesInScope) → Settleds bound → list_all (is_below bound) ids ≡ true
        → each (body_reading nodes) lets ids ≡ Ok c → IsScope preds nodes n E scope → list_all (λ a. is_scoped nodes a.0 scope) ids ≡ true → (F : Environment) → AgreeBelow n E F
        → met I nodes F c ≡ met I nodes E c
    each_settled bound lets [] c n E scope ih below h is scoped F agree = subst (λ (x : Content). met I nodes F x ≡ met I nodes E x) (same_read nothing c h) refl
    each_settled bound lets (k ∷ ids) c n E scope ih below h is scoped F agree =
        let low = both_true (nat_lt k.0 bound) (list_all (is_below bound) ids) below in
        let inner = both_true (is_scoped nodes k.0 scope) (list_all (λ (a : TermId). is_scoped nodes a.0 scope) ids) scoped in
        let parts = both_ok (at (body_reading nodes) lets k) (each (body_reading nodes) lets ids) c h in
        let x = parts.0 in
        let y = parts.1 in
        subst (λ (z : Content). met I nodes F z ≡ met I nodes E z) parts.4
        (met_beside I nodes F x y ∙ ap (λ (b : Bool). b && met I nodes F y) ((ih k lets x n E scope (below_from k.0 bound low.0) parts.2 is inner.0).same F agree)
        ∙ ap (λ (b : Bool). met I nodes E x && b) (each_settled bound lets ids y n E scope ih low.1 parts.3 is inner.1 F agree) ∙ sym (met_beside I nodes E x y))

    settled_node : (id : TermId) (lets : List TermId) (node : Node) (c : Content) (n : ℕ) (E : Environment) (scope : NamesInScope) → Settleds id.0 → slice_get nodes id.0 ≡ Some node
        → body_form (is_plain_term nodes) (body_reading nodes) node (place_of id lets) ≡ Ok c → IsScope preds nodes n E scope → is_scoped nodes id.0 scope ≡ true
        → IsSettled I preds nodes id c n E
    settled_node id lets (Pred pred args) c n E scope ih node_is h is scoped =
        let below = arena_below nodes id.0 (Pred pred args) arena node_is in
        let atom : AtomUse = record { pred = pred; args = arguments lets args } in
        let fits = chosen_ok (list_all (λ a. is_plain_term nodes a.0) args) (atom_of atom) id c h in
        let inner = sym (scoped_at nodes id.0 (Pred pred args) scope node_is below) ∙ scoped in
        let values : List Value = map (λ a. value_of nodes a.0 E) args in
        let has = (has_value_at I nodes id.0 (Pred pred args) E (I pred values) node_is below).back (determined (HasValue I nodes) args E values (I pred) (valued_args nodes arena I args E fits.0)) in
        subst (λ (x : Content). IsSettled I preds nodes id x n E) fits.1 (record {
          same = λ F agree. ap (λ (vs : List Value). truth (I pred vs) && true) (tuple_same n E scope pred args lets is fits.0 inner F agree);
          truths = λ e v value. subst (λ (w : Value). HasSort BoolSort w) (one_value I nodes id.0 E (I pred values) v has value)
              (applied_truth gives n E scope pred args BoolSort is fits.0 inner (sym (sort_at preds nodes id.0 (Pred pred args) node_is below) ∙ e));
        })
    settled_node id lets (Op And args) c n E scope ih node_is h is scoped =
        let below = arena_below nodes id.0 (Op And args) arena node_is in
        let inner = sym (scoped_at nodes id.0 (Op And args) scope node_is below) ∙ scoped in
        record {
          same = λ F agree. each_settled id.0 lets args c n E scope ih below h is inner F agree;
          truths = λ e v value.
              let d = (has_value_at I nodes id.0 (Op And args) E v node_is below).forth value in
              let whole = completion d.0 in subst (λ (w : Value). HasSort BoolSort w) (sym (d.2 whole.0 whole.1)) tt;
        }
    settled_node id lets (Let bound body) c n E scope ih node_is h is scoped =
        let below = arena_below nodes id.0 (Let bound body) arena node_is in
        let low = both_true (list_all (is_below id.0) bound) (nat_lt body.0 id.0) below in
        let fits = bound_ok (is_plain_term nodes) bound (at (body_reading nodes) (lets ++ id ∷ []) body) c h in
        let inner = both_true (list_all (λ (a : TermId). is_scoped nodes a.0 scope) bound) (is_scoped nodes body.0 (with_bound bound scope))
        (both_true (has_some bound) (list_all (λ (a : TermId). is_scoped nodes a.0 scope) bound && is_scoped nodes body.0 (with_bound bound scope))
        (sym (scoped_at nodes id.0 (Let bound body) scope node_is below) ∙ scoped)).1 in
        let there = ih body (lets ++ id ∷ []) c n E (with_bound bound scope) (below_from body.0 id.0 low.1) fits.1 (bound_scope preds nodes arena n E scope bound is fits.0 inner.0) inner.1 in
        record {
          same = there.same;
          truths = λ e v value. there.truths
              (chosen_sort (list_all is_sorted (map (λ b. sort_of preds nodes b.0) bound)) (sort_of preds nodes body.0) BoolSort (sym (sort_at preds nodes id.0 (Let bound body) node_is below) ∙ e)).1
              v ((has_value_at I nodes id.0 (Let bound body) E v node_is below).forth value);
        }
    settled_node id lets _ c n E scope ih node_is h is scoped = absurd (cc)

    settled_by : (p : Bool) (id : TermId) (lets : List TermId) (node : Node) (c : Content) (n : ℕ) (E : Environment) (scope : NamesInScope) → is_plain_term nodes id.0 ≡ p → Settleds id.0
        → slice_get nodes id.0 ≡ Some node → body_reading nodes id.0 (place_of id lets) ≡ Ok c → IsScope preds nodes n E scope → is_scoped nodes id.0 scope ≡ true
        → IsSettled I preds nodes id c n E
    settled_by true id lets node c n E scope plain ih node_is h is scoped =
        let below = arena_below nodes id.0 node arena node_is in
        let same : guard_of false (place_of id lets) ≡ c = same_read _ c (sym (body_plain nodes id.0 node (place_of id lets) node_is below plain) ∙ h) in
        subst (λ (x : Content). IsSettled I preds nodes id x n E) same (record {
          same = λ F agree. ap (λ (v : Value). (truth v && true) && true) (plain_local preds nodes arena id.0 n E scope is plain scoped F E (backwards n E F agree));
          truths = λ e v value. subst (λ (w : Value). HasSort BoolSort w) (one_value I nodes id.0 E (value_of nodes id.0 E) v (valued_plain nodes arena I id.0 E plain) value)
              (plain_sorted preds nodes arena id.0 n E scope BoolSort is plain scoped e);
        })
    settled_by false id lets node c n E scope plain ih node_is h is scoped =
        let below = arena_below nodes id.0 node arena node_is in
        settled_node id lets node c n E scope ih node_is (sym (body_mixed nodes id.0 node (place_of id lets) node_is below plain) ∙ h) is scoped

    settled_below : (bound : ℕ) → Settleds bound
    settled_below zero k lets x n E scope less h is scoped = absurd (omega (arith, less))
    settled_below (suc bound) k lets x n E scope less h is scoped =
        let found = there_is nodes k.0 (body_there I nodes arena k lets x h) in
        settled_by (is_plain_term nodes k.0) k lets found.0 x n E scope refl
        (λ j ls y m F sc lt r s q. settled_below bound j ls y m F sc (omega (arith, lt, less)) r s q) found.1 h is scoped

    -- a body in a scope
    pub settled : (id : TermId) (lets : List TermId) (c : Content) (n : ℕ) (E : Environment) (scope : NamesInScope) → body_reading nodes id.0 (place_of id lets) ≡ Ok c
        → IsScope preds nodes n E scope → is_scoped nodes id.0 scope ≡ true → IsSettled I preds nodes id c n E
    settled id lets c n E scope h is scoped = settled_below (suc id.0) id lets c n E scope (omega arith) h is scoped
