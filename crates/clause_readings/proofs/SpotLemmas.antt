-- Terms that match have texts whose terms match, one by one, and so have those of them that have auxiliary variables.
use Rattle.std.proofs.Common.{◌≡◌, ℕ, List, [], ◌∷◌, ◌++◌, map, Bool, true, false, ◌||◌, refl, ap, sym, ◌∙◌, subst}
use Rattle.std.specs.Prelude.{slice_get, filter, Option, Some, if◌then◌else◌}
use Rattle.std.specs.List.{flat_map}
use Rattle.term_tree.specs.declared.sort.Sort.{Sort}
use Rattle.term_tree.specs.declared.node.TermId.{TermId}
use Rattle.term_tree.specs.declared.node.OpKind.{OpKind}
use Rattle.term_tree.specs.declared.node.OpKind.TheVariants.{Xor, Eq, Distinct, Ite}
use Rattle.term_tree.specs.declared.node.Node.{Node}
use Rattle.term_tree.specs.declared.node.Node.TheVariants.{Num, True, False, Var, LetVar, Pred, Op, Divisible, Let, Forall, Exists}
use Rattle.term_tree.specs.Arena.{IsArena}
use Rattle.linear_terms.specs.declared.standing.Spot.{Spot}
use Rattle.linear_terms.specs.declared.standing.Standing.{Standing}
use Rattle.linear_terms.specs.declared.standing.Standing.TheVariants.{Plain, Bit, Argument}
use Rattle.linear_terms.specs.Text.{Sorting, are_truths, chosen, has_auxiliary, inner_spots, is_unit, is_wanted, needs_one, node_spots, operands, places, spot_as, spots}
use Rattle.clause_laws.proofs.SpotLemmas.{spots_at}
use Rattle.clause_readings.specs.Matching.{AreMatched, IsNodeLike, AreNodesLike}
use Rattle.clause_readings.proofs.InductionLemmas.{With, by_two}
use Rattle.clause_readings.proofs.FormulaLemmas.{same_truths}

abbrev pub AreSpotsMatched : (ℕ → ℕ → Type 0) → List Spot → List Spot → Type 0
AreSpotsMatched matched [] [] = Unit {0}
AreSpotsMatched matched [] (t ∷ ts) = ⊥
AreSpotsMatched matched (s ∷ ss) [] = ⊥
AreSpotsMatched matched (s ∷ ss) (t ∷ ts) = matched s.id t.id × (s.standing ≡ t.standing) × AreSpotsMatched matched ss ts

-- numbers that match, one by one
abbrev pub AreNumbersMatched : (ℕ → ℕ → Type 0) → List ℕ → List ℕ → Type 0
AreNumbersMatched matched [] [] = Unit {0}
AreNumbersMatched matched [] (b ∷ bs) = ⊥
AreNumbersMatched matched (a ∷ xs) [] = ⊥
AreNumbersMatched matched (a ∷ xs) (b ∷ ys) = matched a b × AreNumbersMatched matched xs ys

module _ (matched : ℕ → ℕ → Type 0) where
  joined : (ss ts us vs : List Spot) → AreSpotsMatched matched ss ts → AreSpotsMatched matched us vs → AreSpotsMatched matched (ss ++ us) (ts ++ vs)
  joined [] [] us vs h k = k
  joined [] (t ∷ ts) us vs h k = absurd h
  joined (s ∷ ss) [] us vs h k = absurd h
  joined (s ∷ ss) (t ∷ ts) us vs h k = (h.0, h.1, joined ss ts us vs h.2 k)

  module _ (sorts other_sorts : Sorting) (same : (c d : ℕ) → matched c d → sorts c ≡ other_sorts d) (f g : ℕ → Spot → List Spot) where
    abbrev Told : ℕ → ℕ → Type 0
    Told c d = (standing : Standing) → AreSpotsMatched matched (f c (record { id = c; standing = standing })) (g d (record { id = d; standing = standing }))

    abbrev Both : ℕ → ℕ → Type 0
    Both = With matched Told

    abbrev ours : List Spot → List Spot
    ours ss = flat_map (λ (s : Spot). f s.id s) ss

    abbrev theirs : List Spot → List Spot
    theirs ss = flat_map (λ (s : Spot). g s.id s) ss

    each_text : (standing : Standing) (ids others : List TermId) (us vs : List Spot) → AreMatched Both ids others → AreSpotsMatched matched (ours us) (theirs vs)
        → AreSpotsMatched matched (ours (map (spot_as standing) ids ++ us)) (theirs (map (spot_as standing) others ++ vs))
    each_text standing [] [] us vs h k = k
    each_text standing [] (o ∷ others) us vs h k = absurd h
    each_text standing (id ∷ ids) [] us vs h k = absurd h
    each_text standing (id ∷ ids) (o ∷ others) us vs h k =
        joined (f id.0 (spot_as standing id)) (g o.0 (spot_as standing o)) (ours (map (spot_as standing) ids ++ us)) (theirs (map (spot_as standing) others ++ vs))
        (h.0.1 standing) (each_text standing ids others us vs h.1 k)

    all_texts : (standing : Standing) (ids others : List TermId) → AreMatched Both ids others
        → AreSpotsMatched matched (ours (map (spot_as standing) ids)) (theirs (map (spot_as standing) others))
    all_texts standing [] [] h = tt
    all_texts standing [] (o ∷ others) h = absurd h
    all_texts standing (id ∷ ids) [] h = absurd h
    all_texts standing (id ∷ ids) (o ∷ others) h =
        joined (f id.0 (spot_as standing id)) (g o.0 (spot_as standing o)) (ours (map (spot_as standing) ids)) (theirs (map (spot_as standing) others))
        (h.0.1 standing) (all_texts standing ids others h.1)

    only : (ids others : List TermId) → AreMatched Both ids others → AreMatched matched ids others
    only [] [] h = tt
    only [] (o ∷ others) h = absurd h
    only (id ∷ ids) [] h = absurd h
    only (id ∷ ids) (o ∷ others) h = (h.0.0, only ids others h.1)

    compared_text : (ids others : List TermId) → AreMatched Both ids others
        → AreSpotsMatched matched (ours (map (spot_as (if are_truths sorts ids then Bit else Plain)) ids)) (theirs (map (spot_as (if are_truths other_sorts others then Bit else Plain)) others))
    compared_text ids others h =
        subst (λ (b : Bool). AreSpotsMatched matched (ours (map (spot_as (if are_truths sorts ids then Bit else Plain)) ids)) (theirs (map (spot_as (if b then Bit else Plain)) others)))
        (same_truths matched sorts other_sorts same ids others (only ids others h))
        (all_texts (if are_truths sorts ids then Bit else Plain) ids others h)

    chosen_text : (ids others : List TermId) → AreMatched Both ids others → AreSpotsMatched matched (ours (chosen ids)) (theirs (chosen others))
    chosen_text [] [] h = tt
    chosen_text [] (o ∷ others) h = absurd h
    chosen_text (id ∷ ids) [] h = absurd h
    chosen_text (id ∷ ids) (o ∷ others) h =
        joined (f id.0 (spot_as Bit id)) (g o.0 (spot_as Bit o)) (ours (map (spot_as Plain) ids)) (theirs (map (spot_as Plain) others)) (h.0.1 Bit) (all_texts Plain ids others h.1)

    operand_text : (ids others : List TermId) → AreMatched Both ids others → (op : OpKind) → AreSpotsMatched matched (ours (operands sorts op ids)) (theirs (operands other_sorts op others))
    operand_text ids others h Xor = all_texts Bit ids others h
    operand_text ids others h Eq = compared_text ids others h
    operand_text ids others h Distinct = compared_text ids others h
    operand_text ids others h Ite = chosen_text ids others h
    operand_text ids others h _ = all_texts Plain ids others h

    one_text : (id other : TermId) → Told id.0 other.0 → AreSpotsMatched matched (ours (spot_as Plain id ∷ [])) (theirs (spot_as Plain other ∷ []))
    one_text id other h = joined (f id.0 (spot_as Plain id)) (g other.0 (spot_as Plain other)) [] [] (h Plain) tt

    abbrev Inner : List Spot → Node → Type 0
    Inner ss other = AreSpotsMatched matched (ours ss) (theirs (inner_spots other_sorts other))

    inner_text : (node other : Node) → IsNodeLike Both node other → Inner (inner_spots sorts node) other
    inner_text (Num k) other h = subst (Inner []) (sym h) tt
    inner_text True other h = subst (Inner []) (sym h) tt
    inner_text False other h = subst (Inner []) (sym h) tt
    inner_text (Var binder sort) other h = subst (Inner []) (sym h) tt
    inner_text (LetVar bound) other h = subst (Inner []) (sym h.1) tt
    inner_text (Pred pred args) other h = subst (Inner (map (spot_as Argument) args)) (sym h.1) (all_texts Argument args h.0 h.2)
    inner_text (Op op args) other h = subst (Inner (operands sorts op args)) (sym h.1) (operand_text args h.0 h.2 op)
    inner_text (Divisible by arg) other h = subst (Inner (spot_as Plain arg ∷ [])) (sym h.1) (one_text arg h.0 h.2.1)
    inner_text (Let bound body) other h =
        subst (Inner (map (spot_as Bit) bound ++ spot_as Plain body ∷ [])) (sym h.2) (each_text Bit bound h.0 (spot_as Plain body ∷ []) (spot_as Plain h.1 ∷ []) h.3 (one_text body h.1 h.4.1))
    inner_text (Forall first kinds body) other h = subst (Inner (spot_as Plain body ∷ [])) (sym h.1) (one_text body h.0 h.2.1)
    inner_text (Exists first kinds body) other h = subst (Inner (spot_as Plain body ∷ [])) (sym h.1) (one_text body h.0 h.2.1)

  -- a term needs an auxiliary variable by its sort and the kind of its node
  same_need : (standing : Standing) (sort : Option Sort) (node other : Node) → IsNodeLike matched node other → needs_one standing sort (Some node) ≡ needs_one standing sort (Some other)
  same_need standing sort (Num k) other h = ap (λ (m : Node). needs_one standing sort (Some m)) (sym h)
  same_need standing sort True other h = ap (λ (m : Node). needs_one standing sort (Some m)) (sym h)
  same_need standing sort False other h = ap (λ (m : Node). needs_one standing sort (Some m)) (sym h)
  same_need standing sort (Var binder kind) other h = ap (λ (m : Node). needs_one standing sort (Some m)) (sym h)
  same_need standing sort (LetVar bound) other h = by_standing standing ∙ ap (λ (m : Node). needs_one standing sort (Some m)) (sym h.1)
    where
      by_standing : (s : Standing) → needs_one s sort (Some (LetVar bound)) ≡ needs_one s sort (Some (LetVar h.0))
      by_standing Plain = refl
      by_standing Bit = refl
      by_standing Argument = refl
  same_need standing sort (Pred pred args) other h = by_standing standing ∙ ap (λ (m : Node). needs_one standing sort (Some m)) (sym h.1)
    where
      by_standing : (s : Standing) → needs_one s sort (Some (Pred pred args)) ≡ needs_one s sort (Some (Pred pred h.0))
      by_standing Plain = refl
      by_standing Bit = refl
      by_standing Argument = refl
  same_need standing sort (Op op args) other h = by_standing op standing ∙ ap (λ (m : Node). needs_one standing sort (Some m)) (sym h.1)
    where
      same_unit : (o : OpKind) → is_unit sort (Op o args) ≡ is_unit sort (Op o h.0)
      same_unit Ite = refl
      same_unit _ = refl

      by_standing : (o : OpKind) (s : Standing) → needs_one s sort (Some (Op o args)) ≡ needs_one s sort (Some (Op o h.0))
      by_standing o Plain = ap (λ (b : Bool). b || false) (same_unit o)
      by_standing o Bit = ap (λ (b : Bool). b || is_wanted Bit sort (Op o args)) (same_unit o)
      by_standing o Argument = ap (λ (b : Bool). b || true) (same_unit o)
  same_need standing sort (Divisible by arg) other h = by_standing standing ∙ ap (λ (m : Node). needs_one standing sort (Some m)) (sym h.1)
    where
      by_standing : (s : Standing) → needs_one s sort (Some (Divisible by arg)) ≡ needs_one s sort (Some (Divisible by h.0))
      by_standing Plain = refl
      by_standing Bit = refl
      by_standing Argument = refl
  same_need standing sort (Let bound body) other h = by_standing standing ∙ ap (λ (m : Node). needs_one standing sort (Some m)) (sym h.2)
    where
      by_standing : (s : Standing) → needs_one s sort (Some (Let bound body)) ≡ needs_one s sort (Some (Let h.0 h.1))
      by_standing Plain = refl
      by_standing Bit = refl
      by_standing Argument = refl
  same_need standing sort (Forall first kinds body) other h = by_standing standing ∙ ap (λ (m : Node). needs_one standing sort (Some m)) (sym h.1)
    where
      by_standing : (s : Standing) → needs_one s sort (Some (Forall first kinds body)) ≡ needs_one s sort (Some (Forall first kinds h.0))
      by_standing Plain = refl
      by_standing Bit = refl
      by_standing Argument = refl
  same_need standing sort (Exists first kinds body) other h = by_standing standing ∙ ap (λ (m : Node). needs_one standing sort (Some m)) (sym h.1)
    where
      by_standing : (s : Standing) → needs_one s sort (Some (Exists first kinds body)) ≡ needs_one s sort (Some (Exists first kinds h.0))
      by_standing Plain = refl
      by_standing Bit = refl
      by_standing Argument = refl

module _ (nodes others : List Node) (matched : ℕ → ℕ → Type 0) (arena : IsArena nodes) (other_arena : IsArena others) (like : AreNodesLike nodes others matched)
    (sorts other_sorts : Sorting) (same : (c d : ℕ) → matched c d → sorts c ≡ other_sorts d) where
  abbrev Texts : ℕ → ℕ → Type 0
  Texts a b = (standing : Standing) → AreSpotsMatched matched (spots sorts nodes a (record { id = a; standing = standing })) (spots other_sorts others b (record { id = b; standing = standing }))

  same_text : (a b : ℕ) → matched a b → Texts a b
  same_text = by_two nodes others matched Texts arena other_arena like (λ a b node other is there there_too below below_too parts standing.
      let ours : Spot = record { id = a; standing = standing } in
      let theirs : Spot = record { id = b; standing = standing } in
      let step : AreSpotsMatched matched (node_spots sorts (spots sorts nodes) node ours) (node_spots other_sorts (spots other_sorts others) other theirs) =
      (is, refl, inner_text matched sorts other_sorts same (spots sorts nodes) (spots other_sorts others) node other parts) in
      subst (λ (ss : List Spot). AreSpotsMatched matched ss (spots other_sorts others b theirs)) (sym (spots_at sorts nodes a node ours there below))
      (subst (λ (ts : List Spot). AreSpotsMatched matched (node_spots sorts (spots sorts nodes) node ours) ts) (sym (spots_at other_sorts others b other theirs there_too below_too)) step))

  same_auxiliary : (s t : Spot) → matched s.id t.id → s.standing ≡ t.standing → has_auxiliary sorts nodes s ≡ has_auxiliary other_sorts others t
  same_auxiliary s t is standing =
      let found = like s.id t.id is in
      ap (λ (k : Standing). needs_one k (sorts s.id) (slice_get nodes s.id)) standing
      ∙ ap (λ (sort : Option Sort). needs_one t.standing sort (slice_get nodes s.id)) (same s.id t.id is)
      ∙ ap (needs_one t.standing (other_sorts t.id)) found.2
      ∙ same_need matched t.standing (other_sorts t.id) found.0 found.1 found.4
      ∙ ap (needs_one t.standing (other_sorts t.id)) (sym found.3)

  one_filtered : (x y : Bool) (s t : Spot) (us vs : List Spot) → x ≡ y → matched s.id t.id → AreNumbersMatched matched (map (λ (u : Spot). u.id) us) (map (λ (v : Spot). v.id) vs)
      → AreNumbersMatched matched (map (λ (u : Spot). u.id) (if x then s ∷ us else us)) (map (λ (v : Spot). v.id) (if y then t ∷ vs else vs))
  one_filtered true true s t us vs e h k = (h, k)
  one_filtered false false s t us vs e h k = k
  one_filtered true false s t us vs e h k = absurd (cc)
  one_filtered false true s t us vs e h k = absurd (cc)

  filtered : (ss ts : List Spot) → AreSpotsMatched matched ss ts
      → AreNumbersMatched matched (map (λ (s : Spot). s.id) (filter (has_auxiliary sorts nodes) ss)) (map (λ (t : Spot). t.id) (filter (has_auxiliary other_sorts others) ts))
  filtered [] [] h = tt
  filtered [] (t ∷ ts) h = absurd h
  filtered (s ∷ ss) [] h = absurd h
  filtered (s ∷ ss) (t ∷ ts) h =
      one_filtered (has_auxiliary sorts nodes s) (has_auxiliary other_sorts others t) s t (filter (has_auxiliary sorts nodes) ss) (filter (has_auxiliary other_sorts others) ts)
      (same_auxiliary s t h.0 h.1) h.0 (filtered ss ts h.2)

  -- the terms that have auxiliary variables match, one by one
  pub same_places : (a b : ℕ) → matched a b → AreNumbersMatched matched (places sorts nodes a) (places other_sorts others b)
  same_places a b is =
      filtered (spots sorts nodes a (record { id = a; standing = Plain })) (spots other_sorts others b (record { id = b; standing = Plain })) (same_text a b is Plain)
