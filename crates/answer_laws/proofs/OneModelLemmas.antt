-- Whatever a text spells is one model: the same terms as trees, however they are numbered.
use Rattle.std.proofs.Common.{ℕ, zero, suc, ℤ, pos, ◌≡◌, List, [], ◌∷◌, ◌++◌, Bool, true, false, ◌&&◌, Some, refl, sym, ap, subst, ◌∙◌, slice_get, arith}
use Rattle.std.proofs.lemmas.Int.{ints}
use Rattle.std.specs.Prelude.{Result, Ok, Err}
use Rattle.term_tree.specs.declared.sort.Sort.{Sort}
use Rattle.term_tree.specs.declared.sort.Sort.TheVariants.{Int as IntSort, Bool as BoolSort}
use Rattle.term_tree.specs.declared.node.TermId.{TermId}
use Rattle.term_tree.specs.declared.node.Node.{Node}
use Rattle.term_tree.specs.declared.node.Node.TheVariants.{Num, True, False, Var, LetVar, Pred as Applied, Op, Divisible, Let, Forall, Exists}
use Rattle.term_tree.specs.declared.script.Pred.{Pred}
use Rattle.term_tree.specs.declared.definition.Definition.{Definition}
use Rattle.term_tree.specs.Arena.{Arena, IsArena}
use Rattle.term_tree.specs.Same.{is_alike, parts_of, same_parts, same_node, same_sorts, is_same_tree}
use Rattle.term_tree.proofs.Public.{arena_below, both_true, eqb_self, own_op, same_at}
use Rattle.term_check.specs.Term.{Term, numeral, truth, variable, let_name, predicate, operation, divisible, binding, universal, existential, Terms, none, more, IsTermAt, AreTermsAt}
use Rattle.answer_text.specs.declared.answer.Answer.{Answer}
use Rattle.answer_text.specs.declared.answer.Answer.TheVariants.{Sat, Unsat, Unknown}
use Rattle.answer_text.specs.Read.{AreDefinitions, IsReply, Spells}
use Rattle.answer_text.specs.ReadBack.{AreSameDefinitions, IsSameModel}
use Rattle.answer_text.specs.Reading.{Defined, Reply}
use Rattle.answer_text.specs.Reading.Reply.{model, refutation}
use Rattle.answer_text.proofs.Public.{same_reply}

both : (a b : Bool) → a ≡ true → b ≡ true → (a && b) ≡ true
both true b h k = k
both false b h k = absurd (cc)

own_integer : (k : ℤ) → Rattle.std.specs.Ordering.int_eq k k ≡ true
own_integer k = grind (arith, ints)

own_sort : (s : Sort) → Rattle.term_tree.specs.Sorts.same_sort s s ≡ true
own_sort IntSort = refl
own_sort BoolSort = refl

own_sorts : (ss : List Sort) → same_sorts ss ss ≡ true
own_sorts [] = refl
own_sorts (s ∷ ss) = both _ _ (own_sort s) (own_sorts ss)

-- partners at one place
partners : (same : ℕ → ℕ → Bool) (xs ys : List TermId) (n : ℕ) (x y : TermId) → same_parts same xs ys ≡ true → slice_get xs n ≡ Some x → slice_get ys n ≡ Some y → same x.0 y.0 ≡ true
partners same [] ys n x y h at there = absurd (cc)
partners same (i ∷ xs) [] n x y h at there = absurd (cc)
partners same (i ∷ xs) (j ∷ ys) zero x y h at there =
    let one : i ≡ x = cc in
    let two : j ≡ y = cc in
    subst (λ (k : TermId). same k.0 y.0 ≡ true) one (subst (λ (k : TermId). same i.0 k.0 ≡ true) two (both_true (same i.0 j.0) (same_parts same xs ys) h).0)
partners same (i ∷ xs) (j ∷ ys) (suc n) x y h at there = partners same xs ys n x y (both_true (same i.0 j.0) (same_parts same xs ys) h).1 at there

joined : (same : ℕ → ℕ → Bool) (xs ys ids others : List TermId) → same_parts same xs ys ≡ true → same_parts same ids others ≡ true → same_parts same (xs ++ ids) (ys ++ others) ≡ true
joined same [] [] ids others h k = k
joined same [] (j ∷ ys) ids others h k = absurd (cc)
joined same (i ∷ xs) [] ids others h k = absurd (cc)
joined same (i ∷ xs) (j ∷ ys) ids others h k =
    let parts = both_true (same i.0 j.0) (same_parts same xs ys) h in both _ _ parts.0 (joined same xs ys ids others parts.1 k)

module _ (a b : Arena) (arena : IsArena a.nodes) where
  abbrev same : ℕ → ℕ → Bool
  same = λ i. is_same_tree a.nodes i b.nodes

  -- two nodes that are there, alike, with equal parts
  same_by : (id at : ℕ) (node partner : Node) → slice_get a.nodes id ≡ Some node → slice_get b.nodes at ≡ Some partner → is_alike node partner ≡ true
      → same_parts same (parts_of node) (parts_of partner) ≡ true → is_same_tree a.nodes id b.nodes at ≡ true
  same_by id at node partner is there alike parts =
      same_at a.nodes b.nodes id at node is (arena_below a.nodes id node arena is) ∙ ap (same_node same node) there
      ∙ both (is_alike node partner) (same_parts same (parts_of node) (parts_of partner)) alike parts

  -- what two arenas have of one term, where the terms of lets around it are the same
  mutual
    same_term : (t : Term) (lets others : List TermId) (id at : ℕ) → same_parts same lets others ≡ true → IsTermAt a lets t id → IsTermAt b others t at → is_same_tree a.nodes id b.nodes at ≡ true
    same_term (numeral o value) lets others id at around one two = same_by id at (Num value) (Num value) one.0 two.0 (own_integer value) refl
    same_term (truth o true) lets others id at around one two = same_by id at True True one.0 two.0 refl refl
    same_term (truth o false) lets others id at around one two = same_by id at False False one.0 two.0 refl refl
    same_term (variable o number sort) lets others id at around one two = same_by id at (Var number sort) (Var number sort) one.0 two.0 (both _ _ (eqb_self number) (own_sort sort)) refl
    same_term (let_name o number) lets others id at around one two =
        same_by id at (LetVar one.0) (LetVar two.0) one.2.0 two.2.0 refl (both _ true (partners same lets others number one.0 two.0 around one.1 two.1) refl)
    same_term (predicate o number args) lets others id at around one two =
        same_by id at (Applied number one.0) (Applied number two.0) one.1.0 two.1.0 (eqb_self number) (same_terms args lets others one.0 two.0 around one.2 two.2)
    same_term (operation o op args) lets others id at around one two =
        same_by id at (Op op one.0) (Op op two.0) one.1.0 two.1.0 (own_op op) (same_terms args lets others one.0 two.0 around one.2 two.2)
    same_term (divisible o by arg) lets others id at around one two =
        same_by id at (Divisible (pos by) one.0) (Divisible (pos by) two.0) one.1.0 two.1.0 (own_integer (pos by)) (both _ true (same_term arg lets others one.0.0 two.0.0 around one.2 two.2) refl)
    same_term (binding o bound body) lets others id at around one two =
        let parts = same_terms bound lets others one.0 two.0 around one.3 two.3 in
        same_by id at (Let one.0 one.1) (Let two.0 two.1) one.2.0 two.2.0 refl
        (both _ _ (same_term body (lets ++ one.0) (others ++ two.0) one.1.0 two.1.0 (joined same lets others one.0 two.0 around parts) one.4 two.4) parts)
    same_term (universal o first sorts body) lets others id at around one two =
        same_by id at (Forall first sorts one.0) (Forall first sorts two.0) one.1.0 two.1.0 (both _ _ (eqb_self first) (own_sorts sorts))
        (both _ true (same_term body lets others one.0.0 two.0.0 around one.2 two.2) refl)
    same_term (existential o first sorts body) lets others id at around one two =
        same_by id at (Exists first sorts one.0) (Exists first sorts two.0) one.1.0 two.1.0 (both _ _ (eqb_self first) (own_sorts sorts))
        (both _ true (same_term body lets others one.0.0 two.0.0 around one.2 two.2) refl)

    same_terms : (ts : Terms) (lets others ids parts : List TermId) → same_parts same lets others ≡ true → AreTermsAt a lets ts ids → AreTermsAt b others ts parts → same_parts same ids parts ≡ true
    same_terms none lets others [] [] around all there = refl
    same_terms none lets others [] (p ∷ parts) around all there = absurd there
    same_terms none lets others (i ∷ ids) parts around all there = absurd all
    same_terms (more t ts) lets others [] parts around all there = absurd all
    same_terms (more t ts) lets others (i ∷ ids) [] around all there = absurd there
    same_terms (more t ts) lets others (i ∷ ids) (p ∷ parts) around all there =
        both _ _ (same_term t lets others i.0 p.0 around all.0 there.0) (same_terms ts lets others ids parts around all.1 there.1)

-- definitions of one reply
same_definitions : (rs : List Defined) (ds es : List Definition) → AreDefinitions rs ds → AreDefinitions rs es → AreSameDefinitions ds es
same_definitions [] [] [] are others = tt
same_definitions [] [] (e ∷ es) are others = absurd others
same_definitions [] (d ∷ ds) es are others = absurd are
same_definitions (r ∷ rs) [] es are others = absurd are
same_definitions (r ∷ rs) (d ∷ ds) [] are others = absurd others
same_definitions (r ∷ rs) (d ∷ ds) (e ∷ es) (one, are) (two, others) = (
  record {
    pred = one.pred ∙ sym two.pred;
    params = one.params ∙ sym two.params;
    term = same_term d.terms e.terms one.arena r.body [] [] d.body.0 e.body.0 refl one.term two.term;
  },
  same_definitions rs ds es are others,
)

same_model : (r : Reply) (ds : List Definition) (answer : Answer) → IsReply r (Sat ds) → IsReply r answer → IsSameModel ds answer
same_model (model rs) ds (Sat es) are others = same_definitions rs ds es are others
same_model (model rs) ds (Unsat lines) are others = absurd others
same_model (model rs) ds (Unknown level cause) are others = absurd others
same_model (refutation lines) ds answer are others = absurd are

abbrev reply_in : Result Reply ℕ → Reply
reply_in (Ok r) = r
reply_in (Err offset) = refutation []

pub one_model_law : (preds : List Pred) (text : List ℕ) (ds : List Definition) (answer : Answer) → Spells preds text (Sat ds) → Spells preds text answer → IsSameModel ds answer
one_model_law preds text ds answer s t =
    let same : t.claimed ≡ s.claimed = ap reply_in (sym t.spelled ∙ same_reply preds text t.trees s.trees t.stop s.stop t.reading s.reading ∙ s.spelled) in
    same_model s.claimed ds answer s.is (subst (λ (r : Reply). IsReply r answer) same t.is)
