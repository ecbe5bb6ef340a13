-- Arguments stand in the text of the assertion, so those that are no variables have auxiliary ones.
use Rattle.std.proofs.Common.{◌≡◌, ℕ, suc, ◌==◌, List, [], ◌∷◌, ◌++◌, map, cond, Bool, true, false, ◌||◌, inl, inr, refl, ap, sym, ◌∙◌, subst}
use Rattle.std.proofs.lemmas.Bool.{eqb-true}
use Rattle.std.specs.Prelude.{slice_get, position, Option, Some, option_map, ◌⊎◌, if◌then◌else◌}
use Rattle.term_tree.specs.declared.sort.Sort.{Sort}
use Rattle.term_tree.specs.declared.node.TermId.{TermId}
use Rattle.term_tree.specs.declared.node.OpKind.{OpKind}
use Rattle.term_tree.specs.declared.node.OpKind.TheVariants.{Xor, Eq, Distinct, Ite}
use Rattle.term_tree.specs.declared.node.Node.{Node}
use Rattle.term_tree.specs.declared.node.Node.TheVariants.{Num, True, False, Var, LetVar, Pred, Op, Divisible, Let, Forall, Exists}
use Rattle.term_tree.specs.Arena.{IsArena}
use Rattle.term_tree.specs.Subterms.{is_among, is_part}
use Rattle.term_tree.proofs.Public.{arena_below, eqb_self}
use Rattle.linear_terms.specs.declared.standing.Spot.{Spot}
use Rattle.linear_terms.specs.declared.standing.Standing.{Standing}
use Rattle.linear_terms.specs.declared.standing.Standing.TheVariants.{Plain, Bit, Argument}
use Rattle.linear_terms.specs.Text.{Sorting, are_truths, chosen, inner_spots, is_unit, is_variable, needs_one, operands, spot_as}
use Rattle.term_places.specs.machinery.Placed.{all_placed, placed}
use Rattle.term_places.proofs.PlacedLemmas.{placed_at}
use Rattle.clause_normal.proofs.Lower.{position_on}
use Rattle.clause_normal.proofs.ReadLemmas.{is_name}

-- the number stands among these
abbrev pub Among : ℕ → List ℕ → Type 0
Among id [] = ⊥
Among id (x ∷ xs) = (x ≡ id) ⊎ Among id xs

among_left : (id : ℕ) (xs ys : List ℕ) → Among id xs → Among id (xs ++ ys)
among_left id [] ys h = absurd h
among_left id (x ∷ xs) ys (inl e) = inl e
among_left id (x ∷ xs) ys (inr h) = inr (among_left id xs ys h)

among_right : (id : ℕ) (xs ys : List ℕ) → Among id ys → Among id (xs ++ ys)
among_right id [] ys h = h
among_right id (x ∷ xs) ys h = inr (among_right id xs ys h)

-- so it has a position
pub placed_position : (id : ℕ) (xs : List ℕ) → Among id xs → (j : ℕ) × (position (λ p. p == id) xs ≡ Some j)
placed_position id [] h = absurd h
placed_position id (x ∷ xs) h = by_test (λ k. placed_position id xs k) (x == id) refl
  where
    rest : (x == id) ≡ false → Among id (x ∷ xs) → Among id xs
    rest differ (inl e) = absurd (unequal (sym differ ∙ ap (λ (k : ℕ). k == id) e ∙ eqb_self id))
      where
        unequal : false ≡ true → ⊥
        unequal q = absurd (cc)
    rest differ (inr k) = k

    by_test : (Among id xs → (j : ℕ) × (position (λ p. p == id) xs ≡ Some j)) → (b : Bool) → (x == id) ≡ b → (j : ℕ) × (position (λ p. p == id) (x ∷ xs) ≡ Some j)
    by_test recur true e = (0, position_on (λ p. p == id) x xs ∙ ap (λ (b : Bool). cond b (Some 0) (option_map suc (position (λ p. p == id) xs))) e)
    by_test recur false e =
        let later = recur (rest e h) in
        (suc later.0, position_on (λ p. p == id) x xs ∙ ap (λ (b : Bool). cond b (Some 0) (option_map suc (position (λ p. p == id) xs))) e ∙ ap (option_map suc) later.1)

either_by : {A : Type 0} (a b : Bool) → (a || b) ≡ true → (a ≡ true → A) → (b ≡ true → A) → A
either_by true b h f g = f refl
either_by false b h f g = g h

no_other : (a : Bool) → (a || false) ≡ true → a ≡ true
no_other true h = refl
no_other false h = h

module _ (sorts : Sorting) (nodes : List Node) where
  -- the places of the part, where it stands so, are among these
  abbrev Has : ℕ → List Spot → Type 0
  Has part spots = (s : Standing) × ((q : ℕ) → Among q (placed sorts nodes (record { id = part; standing = s })) → Among q (all_placed sorts nodes spots))

  spots_has : (s : Standing) (ids : List TermId) (part : ℕ) → is_among part ids ≡ true → (q : ℕ) → Among q (placed sorts nodes (record { id = part; standing = s })) → Among q (all_placed sorts nodes (map (spot_as s) ids))
  spots_has s [] part has q h = absurd (cc)
  spots_has s (id ∷ ids) part has q h =
      either_by (id.0 == part) (is_among part ids) has
      (λ e. among_left q (placed sorts nodes (spot_as s id)) (all_placed sorts nodes (map (spot_as s) ids))
      (subst (λ (k : ℕ). Among q (placed sorts nodes (record { id = k; standing = s }))) (sym (eqb-true id.0 part e)) h))
      (λ e. among_right q (placed sorts nodes (spot_as s id)) (all_placed sorts nodes (map (spot_as s) ids)) (spots_has s ids part e q h))

  chosen_has : (ids : List TermId) (part : ℕ) → is_among part ids ≡ true → Has part (chosen ids)
  chosen_has [] part has = absurd (cc)
  chosen_has (id ∷ ids) part has =
      either_by (id.0 == part) (is_among part ids) has
      (λ e. (
        Bit,
        λ q h. among_left q (placed sorts nodes (spot_as Bit id)) (all_placed sorts nodes (map (spot_as Plain) ids))
            (subst (λ (k : ℕ). Among q (placed sorts nodes (record { id = k; standing = Bit }))) (sym (eqb-true id.0 part e)) h),
      ))
      (λ e. (Plain, λ q h. among_right q (placed sorts nodes (spot_as Bit id)) (all_placed sorts nodes (map (spot_as Plain) ids)) (spots_has Plain ids part e q h)))

  operands_has : (op : OpKind) (ids : List TermId) (part : ℕ) → is_among part ids ≡ true → Has part (operands sorts op ids)
  operands_has Xor ids part has = (Bit, spots_has Bit ids part has)
  operands_has Eq ids part has = ((if are_truths sorts ids then Bit else Plain), spots_has (if are_truths sorts ids then Bit else Plain) ids part has)
  operands_has Distinct ids part has = ((if are_truths sorts ids then Bit else Plain), spots_has (if are_truths sorts ids then Bit else Plain) ids part has)
  operands_has Ite ids part has = chosen_has ids part has
  operands_has _ ids part has = (Plain, spots_has Plain ids part has)

  all_both : (xs ys : List Spot) (q : ℕ) → Among q (all_placed sorts nodes xs) → Among q (all_placed sorts nodes (xs ++ ys))
  all_both [] ys q h = absurd h
  all_both (x ∷ xs) ys q h = split (λ k. all_both xs ys q k) (placed sorts nodes x) h
    where
      split : (Among q (all_placed sorts nodes xs) → Among q (all_placed sorts nodes (xs ++ ys))) → (own : List ℕ) → Among q (own ++ all_placed sorts nodes xs)
          → Among q (own ++ all_placed sorts nodes (xs ++ ys))
      split recur [] k = recur k
      split recur (o ∷ own) (inl e) = inl e
      split recur (o ∷ own) (inr k) = inr (split recur own k)

  all_last : (xs : List Spot) (last : Spot) (q : ℕ) → Among q (placed sorts nodes last) → Among q (all_placed sorts nodes (xs ++ last ∷ []))
  all_last [] last q h = among_left q (placed sorts nodes last) [] h
  all_last (x ∷ xs) last q h = among_right q (placed sorts nodes x) (all_placed sorts nodes (xs ++ last ∷ [])) (all_last xs last q h)

  one_has : (s : Standing) (id : TermId) (part : ℕ) → (id.0 == part) ≡ true → Has part (spot_as s id ∷ [])
  one_has s id part e = (s, λ q h. among_left q (placed sorts nodes (spot_as s id)) [] (subst (λ (k : ℕ). Among q (placed sorts nodes (record { id = k; standing = s }))) (sym (eqb-true id.0 part e)) h))

  inner_has : (node : Node) (part : ℕ) → is_name node ≡ false → is_part part node ≡ true → Has part (inner_spots sorts node)
  inner_has (Num n) part none has = absurd (cc)
  inner_has True part none has = absurd (cc)
  inner_has False part none has = absurd (cc)
  inner_has (Var binder kind) part none has = absurd (cc)
  inner_has (LetVar bound) part none has = absurd (cc)
  inner_has (Pred pred args) part none has = (Argument, spots_has Argument args part has)
  inner_has (Op op args) part none has = operands_has op args part has
  inner_has (Divisible by arg) part none has = one_has Plain arg part has
  inner_has (Let bound body) part none has =
      either_by (is_among part bound) (body.0 == part) has
      (λ e. (Bit, λ q h. all_both (map (spot_as Bit) bound) (spot_as Plain body ∷ []) q (spots_has Bit bound part e q h)))
      (λ e. (
        Plain,
        λ q h. all_last (map (spot_as Bit) bound) (spot_as Plain body) q
            (subst (λ (k : ℕ). Among q (placed sorts nodes (record { id = k; standing = Plain }))) (sym (eqb-true body.0 part e)) h),
      ))
  inner_has (Forall first kinds body) part none has = one_has Plain body part has
  inner_has (Exists first kinds body) part none has = one_has Plain body part has

  module _ (arena : IsArena nodes) (whole : List ℕ) where
    -- the term stands in a text with these places
    abbrev pub InText : ℕ → Type 0
    InText id = (s : Standing) × ((q : ℕ) → Among q (placed sorts nodes (record { id = id; standing = s })) → Among q whole)

    inner_in : (id : ℕ) (node : Node) → slice_get nodes id ≡ Some node → InText id → (q : ℕ) → Among q (all_placed sorts nodes (inner_spots sorts node)) → Among q whole
    inner_in id node is text q h =
        text.1 q (subst (λ (ids : List ℕ). Among q ids) (sym (placed_at sorts nodes node (record { id = id; standing = text.0 }) is (arena_below nodes id node arena is)))
        (among_right q (if needs_one text.0 (sorts id) (Some node) then id ∷ [] else []) (all_placed sorts nodes (inner_spots sorts node)) h))

    -- so does each part of it, unless it is a name
    pub text_part : (id part : ℕ) (node : Node) → slice_get nodes id ≡ Some node → is_part part node ≡ true → is_name node ≡ false → InText id → InText part
    text_part id part node is has none text =
        let inside_node = inner_has node part none has in (inside_node.0, λ q h. inner_in id node is text q (inside_node.1 q h))

    needed : (sort : Option Sort) (node : Node) → is_variable node ≡ false → needs_one Argument sort (Some node) ≡ true
    needed sort node other = by_unit (is_unit sort node)
      where
        by_unit : (b : Bool) → (b || (if is_variable node then false else true)) ≡ true
        by_unit true = refl
        by_unit false = ap (λ (v : Bool). if v then false else true) other

    -- an argument of an application that stands there has a place, if it is no variable
    pub argument_placed : (id pred : ℕ) (args : List TermId) (part : ℕ) (node : Node) → slice_get nodes id ≡ Some (Pred pred args) → InText id → is_among part args ≡ true → slice_get nodes part ≡ Some node
        → is_variable node ≡ false → Among part whole
    argument_placed id pred args part node is text has part_is other =
        inner_in id (Pred pred args) is text part (spots_has Argument args part has part
        (subst (λ (ids : List ℕ). Among part ids) (sym (placed_at sorts nodes node (record { id = part; standing = Argument }) part_is (arena_below nodes part node arena part_is)))
        (among_left part (if needs_one Argument (sorts part) (Some node) then part ∷ [] else []) (all_placed sorts nodes (inner_spots sorts node))
        (subst (λ (b : Bool). Among part (if b then part ∷ [] else [])) (sym (needed (sorts part) node other)) (inl refl)))))
