-- The first terms of texts that match for which a test holds match.
use Rattle.std.proofs.Common.{◌≡◌, ℕ, List, [], ◌∷◌, ◌++◌, Bool, true, false, not, ◌&&◌, ap, sym, ◌∙◌, subst}
use Rattle.std.specs.Prelude.{Option, Some, None, if◌then◌else◌}
use Rattle.std.specs.List.{list_any}
use Rattle.term_tree.specs.declared.node.TermId.{TermId}
use Rattle.term_tree.specs.declared.node.Node.{Node}
use Rattle.term_tree.specs.declared.node.Node.TheVariants.{Num, True, False, Var, LetVar, Pred, Op, Divisible, Let, Forall, Exists}
use Rattle.term_tree.specs.Arena.{IsArena}
use Rattle.lin_atoms.specs.Linear.{Linear}
use Rattle.linear_terms.specs.Formula.{sides}
use Rattle.linear_terms.specs.Linear.{Naming, linear_of, is_narrow, less}
use Rattle.linear_terms.specs.Width.{first_among, first_of_two, first_where, first_wide, is_relation, is_wide_comparison, is_wide_relation, is_wide_term, text_parts}
use Rattle.term_forms.proofs.FoundLemmas.{first_at}
use Rattle.clause_readings.specs.Matching.{AreMatched, IsNodeLike, AreNodesLike}
use Rattle.clause_readings.proofs.InductionLemmas.{With, by_two, same_map_by}
use Rattle.clause_readings.proofs.LinearLemmas.{AreNamedAlike, same_linear}

-- both are there and match, or neither is
abbrev pub AreBothMatched : (ℕ → ℕ → Type 0) → Option ℕ → Option ℕ → Type 0
AreBothMatched matched None None = Unit {0}
AreBothMatched matched None (Some b) = ⊥
AreBothMatched matched (Some a) None = ⊥
AreBothMatched matched (Some a) (Some b) = matched a b

module _ (matched : ℕ → ℕ → Type 0) where
  pub one_of_two : (a b c d : Option ℕ) → AreBothMatched matched a b → AreBothMatched matched c d → AreBothMatched matched (first_of_two a c) (first_of_two b d)
  one_of_two None None c d h k = k
  one_of_two None (Some b) c d h k = absurd h
  one_of_two (Some a) None c d h k = absurd h
  one_of_two (Some a) (Some b) c d h k = h

  module _ (f g : ℕ → Option ℕ) where
    abbrev Told : ℕ → ℕ → Type 0
    Told c d = AreBothMatched matched (f c) (g d)

    abbrev Both : ℕ → ℕ → Type 0
    Both = With matched Told

    among : (ids others : List TermId) → AreMatched Both ids others → AreBothMatched matched (first_among f ids) (first_among g others)
    among [] [] h = tt
    among [] (o ∷ others) h = absurd h
    among (id ∷ ids) [] h = absurd h
    among (id ∷ ids) (o ∷ others) h = one_of_two (f id.0) (g o.0) (first_among f ids) (first_among g others) h.0.1 (among ids others h.1)

    with_body : (ids others : List TermId) (id other : TermId) → AreMatched Both ids others → Both id.0 other.0 → AreMatched Both (ids ++ id ∷ []) (others ++ other ∷ [])
    with_body [] [] id other h k = (k, tt)
    with_body [] (o ∷ others) id other h k = absurd h
    with_body (i ∷ ids) [] id other h k = absurd h
    with_body (i ∷ ids) (o ∷ others) id other h k = (h.0, with_body ids others id other h.1 k)

    abbrev Parts : List TermId → Node → Type 0
    Parts ids other = AreMatched Both ids (text_parts other)

    parts : (node other : Node) → IsNodeLike Both node other → Parts (text_parts node) other
    parts (Num k) other h = subst (Parts []) (sym h) tt
    parts True other h = subst (Parts []) (sym h) tt
    parts False other h = subst (Parts []) (sym h) tt
    parts (Var binder sort) other h = subst (Parts []) (sym h) tt
    parts (LetVar bound) other h = subst (Parts (bound ∷ [])) (sym h.1) (h.2, tt)
    parts (Pred pred args) other h = subst (Parts args) (sym h.1) h.2
    parts (Op op args) other h = subst (Parts args) (sym h.1) h.2
    parts (Divisible by arg) other h = subst (Parts (arg ∷ [])) (sym h.1) (h.2, tt)
    parts (Let bound body) other h = subst (Parts (bound ++ body ∷ [])) (sym h.2) (with_body bound h.0 body h.1 h.3 h.4)
    parts (Forall first sorts body) other h = subst (Parts (body ∷ [])) (sym h.1) (h.2, tt)
    parts (Exists first sorts body) other h = subst (Parts (body ∷ [])) (sym h.1) (h.2, tt)

  itself : (a b : ℕ) (x y : Bool) → matched a b → x ≡ y → AreBothMatched matched (if x then Some a else None) (if y then Some b else None)
  itself a b true true is e = is
  itself a b false false is e = tt
  itself a b true false is e = absurd (cc)
  itself a b false true is e = absurd (cc)

  module _ (nodes others : List Node) (arena : IsArena nodes) (other_arena : IsArena others) (like : AreNodesLike nodes others matched) where
    pub same_first : (test other_test : ℕ → Bool) → ((c d : ℕ) → matched c d → test c ≡ other_test d) → (a b : ℕ) → matched a b
        → AreBothMatched matched (first_where test nodes a) (first_where other_test others b)
    same_first test other_test same = by_two nodes others matched (λ a b. AreBothMatched matched (first_where test nodes a) (first_where other_test others b)) arena other_arena like
        (λ a b node other is there there_too below below_too like_parts.
        let step : AreBothMatched matched (first_of_two (first_among (first_where test nodes) (text_parts node)) (if test a then Some a else None))
        (first_of_two (first_among (first_where other_test others) (text_parts other)) (if other_test b then Some b else None)) =
        one_of_two (first_among (first_where test nodes) (text_parts node)) (first_among (first_where other_test others) (text_parts other))
        (if test a then Some a else None) (if other_test b then Some b else None)
        (among (first_where test nodes) (first_where other_test others) (text_parts node) (text_parts other)
        (parts (first_where test nodes) (first_where other_test others) node other like_parts))
        (itself a b (test a) (other_test b) is (same a b is)) in
        subst (λ (x : Option ℕ). AreBothMatched matched x (first_where other_test others b)) (sym (first_at test nodes a node there below))
        (subst (λ (y : Option ℕ). AreBothMatched matched (first_of_two (first_among (first_where test nodes) (text_parts node)) (if test a then Some a else None)) y)
        (sym (first_at other_test others b other there_too below_too)) step))

    module _ (naming other_naming : Naming) (named : AreNamedAlike matched naming other_naming) where
      linears : (a b : ℕ) → matched a b → linear_of naming nodes a ≡ linear_of other_naming others b
      linears = same_linear matched naming other_naming named nodes others arena other_arena like

      relation : (node other : Node) → IsNodeLike matched node other → is_wide_relation (linear_of naming nodes) (Some node) ≡ is_wide_relation (linear_of other_naming others) (Some other)
      relation (Num k) other h = ap (λ (m : Node). is_wide_relation (linear_of other_naming others) (Some m)) (sym h)
      relation True other h = ap (λ (m : Node). is_wide_relation (linear_of other_naming others) (Some m)) (sym h)
      relation False other h = ap (λ (m : Node). is_wide_relation (linear_of other_naming others) (Some m)) (sym h)
      relation (Var binder sort) other h = ap (λ (m : Node). is_wide_relation (linear_of other_naming others) (Some m)) (sym h)
      relation (LetVar bound) other h = ap (λ (m : Node). is_wide_relation (linear_of other_naming others) (Some m)) (sym h.1)
      relation (Pred pred args) other h = ap (λ (m : Node). is_wide_relation (linear_of other_naming others) (Some m)) (sym h.1)
      relation (Op op args) other h =
          ap (λ (forms : List Linear). is_relation op && list_any (λ p. not (is_narrow (less p.0 p.1))) (sides op forms))
          (same_map_by (linear_of naming nodes) (linear_of other_naming others) matched linears args h.0 h.2)
          ∙ ap (λ (m : Node). is_wide_relation (linear_of other_naming others) (Some m)) (sym h.1)
      relation (Divisible by arg) other h = ap (λ (m : Node). is_wide_relation (linear_of other_naming others) (Some m)) (sym h.1)
      relation (Let bound body) other h = ap (λ (m : Node). is_wide_relation (linear_of other_naming others) (Some m)) (sym h.2)
      relation (Forall first sorts body) other h = ap (λ (m : Node). is_wide_relation (linear_of other_naming others) (Some m)) (sym h.1)
      relation (Exists first sorts body) other h = ap (λ (m : Node). is_wide_relation (linear_of other_naming others) (Some m)) (sym h.1)

      comparison : (a b : ℕ) → matched a b → is_wide_comparison naming nodes a ≡ is_wide_comparison other_naming others b
      comparison a b is =
          let found = like a b is in
          ap (is_wide_relation (linear_of naming nodes)) found.2 ∙ relation found.0 found.1 found.4 ∙ ap (is_wide_relation (linear_of other_naming others)) (sym found.3)

      -- the first terms without room match
      pub same_wide : (a b : ℕ) → matched a b → AreBothMatched matched (first_wide naming nodes a) (first_wide other_naming others b)
      same_wide a b is =
          one_of_two (first_where (is_wide_term naming nodes) nodes a) (first_where (is_wide_term other_naming others) others b)
          (first_where (is_wide_comparison naming nodes) nodes a) (first_where (is_wide_comparison other_naming others) others b)
          (same_first (is_wide_term naming nodes) (is_wide_term other_naming others) (λ c d h. ap (λ (lin : Linear). not (is_narrow lin)) (linears c d h)) a b is)
          (same_first (is_wide_comparison naming nodes) (is_wide_comparison other_naming others) comparison a b is)
