-- Sides of which the differences are narrow together.
use Rattle.std.proofs.Common.{◌≡◌, ℕ, List, [], ◌∷◌, map, Bool, true, not, ◌||◌, ◌&&◌, refl, ap, sym, ◌∙◌}
use Rattle.std.specs.Prelude.{Some}
use Rattle.std.specs.List.{list_any}
use Rattle.term_tree.specs.declared.node.TermId.{TermId}
use Rattle.term_tree.specs.declared.node.OpKind.{OpKind}
use Rattle.term_tree.specs.declared.node.OpKind.TheVariants.{Distinct}
use Rattle.term_tree.specs.declared.node.Node.{Node}
use Rattle.term_tree.specs.declared.node.Node.TheVariants.{Op}
use Rattle.term_tree.specs.Subterms.{is_among, is_part}
use Rattle.lin_atoms.specs.Linear.{Linear}
use Rattle.linear_terms.specs.Formula.{neighbours, pairs, sides}
use Rattle.linear_terms.specs.Linear.{is_narrow, less}
use Rattle.linear_terms.specs.Width.{is_relation, is_wide_relation}
use Rattle.linear_terms.proofs.PartLemmas.{first_among, later_among}
use Rattle.term_widths.specs.Sides.{is_wide_pair}
use Rattle.term_widths.proofs.SideLemmas.{any_both}

module _ (f g : ℕ → Linear) where
  abbrev ours : TermId → Linear
  ours id = f id.0

  abbrev theirs : TermId → Linear
  theirs id = g id.0

  -- the differences of any two of the terms are narrow together
  abbrev pub AreAlikeOn : List TermId → Type 0
  AreAlikeOn ids = (x y : ℕ) → is_among x ids ≡ true → is_among y ids ≡ true → is_narrow (less (f x) (f y)) ≡ is_narrow (less (g x) (g y))

  later : (a : TermId) (ids : List TermId) → AreAlikeOn (a ∷ ids) → AreAlikeOn ids
  later a ids same = λ x y hx hy. same x y (later_among x a ids hx) (later_among y a ids hy)

  neighbours_alike : (ids : List TermId) → AreAlikeOn ids → list_any is_wide_pair (neighbours (map ours ids)) ≡ list_any is_wide_pair (neighbours (map theirs ids))
  neighbours_alike [] same = refl
  neighbours_alike (a ∷ []) same = refl
  neighbours_alike (a ∷ b ∷ ids) same =
      ap (λ (x : Bool). not x || list_any is_wide_pair (neighbours (map ours (b ∷ ids)))) (same a.0 b.0 (first_among a (b ∷ ids)) (later_among b.0 a (b ∷ ids) (first_among b ids)))
      ∙ ap (λ (x : Bool). not (is_narrow (less (g a.0) (g b.0))) || x) (neighbours_alike (b ∷ ids) (later a (b ∷ ids) same))

  with_alike : (a : TermId) (ids : List TermId) → ((y : ℕ) → is_among y ids ≡ true → is_narrow (less (f a.0) (f y)) ≡ is_narrow (less (g a.0) (g y)))
      → list_any is_wide_pair (map (λ (l : Linear). (ours a, l)) (map ours ids)) ≡ list_any is_wide_pair (map (λ (l : Linear). (theirs a, l)) (map theirs ids))
  with_alike a [] same = refl
  with_alike a (b ∷ ids) same =
      ap (λ (x : Bool). not x || list_any is_wide_pair (map (λ (l : Linear). (ours a, l)) (map ours ids))) (same b.0 (first_among b ids))
      ∙ ap (λ (x : Bool). not (is_narrow (less (g a.0) (g b.0))) || x) (with_alike a ids (λ y has. same y (later_among y b ids has)))

  pairs_alike : (ids : List TermId) → AreAlikeOn ids → list_any is_wide_pair (pairs (map ours ids)) ≡ list_any is_wide_pair (pairs (map theirs ids))
  pairs_alike [] same = refl
  pairs_alike (a ∷ ids) same =
      any_both (map (λ (l : Linear). (ours a, l)) (map ours ids)) (pairs (map ours ids))
      ∙ ap (λ (x : Bool). x || list_any is_wide_pair (pairs (map ours ids))) (with_alike a ids (λ y has. same a.0 y (first_among a ids) (later_among y a ids has)))
      ∙ ap (λ (x : Bool). list_any is_wide_pair (map (λ (l : Linear). (theirs a, l)) (map theirs ids)) || x) (pairs_alike ids (later a ids same))
      ∙ sym (any_both (map (λ (l : Linear). (theirs a, l)) (map theirs ids)) (pairs (map theirs ids)))

  sides_alike : (op : OpKind) (ids : List TermId) → AreAlikeOn ids → list_any is_wide_pair (sides op (map ours ids)) ≡ list_any is_wide_pair (sides op (map theirs ids))
  sides_alike Distinct ids same = pairs_alike ids same
  sides_alike _ ids same = neighbours_alike ids same

  -- so the one term is a comparison with a wide difference exactly where the other is
  pub relation_alike : (node : Node) → ((x y : ℕ) → is_part x node ≡ true → is_part y node ≡ true → is_narrow (less (f x) (f y)) ≡ is_narrow (less (g x) (g y)))
      → is_wide_relation f (Some node) ≡ is_wide_relation g (Some node)
  relation_alike (Op op args) same = ap (λ (x : Bool). is_relation op && x) (sides_alike op args same)
  relation_alike _ same = refl
