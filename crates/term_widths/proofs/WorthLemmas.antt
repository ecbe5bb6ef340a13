-- What a linear form is worth rests on what its names are worth.
use Rattle.std.proofs.Common.{◌≡◌, ℕ, zero, suc, ◌<◌, List, [], ◌∷◌, length, map, drop, Bool, true, false, ◌||◌, ◌==◌, refl, ap, sym, ◌∙◌, arith}
use Rattle.std.specs.Prelude.{slice_get, Option, Some, None, ℤ, neg_ℤ, ◌*ℤ◌}
use Rattle.term_tree.specs.declared.node.TermId.{TermId}
use Rattle.term_tree.specs.declared.node.OpKind.{OpKind}
use Rattle.term_tree.specs.declared.node.OpKind.TheVariants.{Add, Sub, Mul, Ite, Abs, Div, Mod}
use Rattle.term_tree.specs.declared.node.Node.{Node}
use Rattle.term_tree.specs.declared.node.Node.TheVariants.{Num, Var, LetVar, Op, Let}
use Rattle.term_tree.specs.Arena.{IsArena, has_parts_below}
use Rattle.term_tree.specs.Constants.{constant_of, constants_among}
use Rattle.term_tree.specs.Operators.{product_of, sum_of}
use Rattle.term_tree.specs.Subterms.{IsSubterm, inside, is_among, is_part}
use Rattle.term_tree.proofs.Public.{arena_below, eqb_self, part_below, there_is}
use Rattle.lin_atoms.specs.Linear.{Linear, value_at, variable_at}
use Rattle.lin_atoms.specs.Algebra.{negated, scaled}
use Rattle.lin_atoms.proofs.Public.{value_at-negated, value_at-scaled}
use Rattle.linear_terms.specs.Linear.{Naming, auxiliary_form, difference_form, linear_of, multiple_of, node_linear, operation_form, sum_form, told_linear, varying_form}
use Rattle.linear_terms.proofs.LinearLemmas.{sum_value, variable_value}
use Rattle.linear_terms.proofs.PartLemmas.{first_among, later_among, linear_at}
use Rattle.term_widths.specs.machinery.Apart.{Occurs}

module _ (p q : List ℤ) where
  -- forms that are worth the same, one by one
  abbrev pub Same : List Linear → List Linear → Type 0
  Same fs gs = map (value_at p) fs ≡ map (value_at q) gs

  sum_same : (fs gs : List Linear) → Same fs gs → value_at p (sum_form fs) ≡ value_at q (sum_form gs)
  sum_same fs gs same = sum_value p fs ∙ ap sum_of same ∙ sym (sum_value q gs)

  first_same : (f g : Linear) (fs gs : List Linear) → Same (f ∷ fs) (g ∷ gs) → value_at p f ≡ value_at q g
  first_same f g fs gs same = cc

  rest_same : (f g : Linear) (fs gs : List Linear) → Same (f ∷ fs) (g ∷ gs) → Same fs gs
  rest_same f g fs gs same = cc

  negated_same : (f g : Linear) → value_at p f ≡ value_at q g → value_at p (negated f) ≡ value_at q (negated g)
  negated_same f g same = value_at-negated p f ∙ ap neg_ℤ same ∙ sym (value_at-negated q g)

  all_negated : (fs gs : List Linear) → Same fs gs → Same (map negated fs) (map negated gs)
  all_negated [] [] same = refl
  all_negated [] (g ∷ gs) same = absurd (cc)
  all_negated (f ∷ fs) [] same = absurd (cc)
  all_negated (f ∷ fs) (g ∷ gs) same =
      ap (λ (x : ℤ). x ∷ map (value_at p) (map negated fs)) (negated_same f g (first_same f g fs gs same))
      ∙ ap (λ (xs : List ℤ). value_at q (negated g) ∷ xs) (all_negated fs gs (rest_same f g fs gs same))

  joined_same : (f g : Linear) (fs gs : List Linear) → value_at p f ≡ value_at q g → Same fs gs → Same (f ∷ fs) (g ∷ gs)
  joined_same f g fs gs x xs = ap (λ (a : ℤ). a ∷ map (value_at p) fs) x ∙ ap (λ (ys : List ℤ). value_at q g ∷ ys) xs

  difference_same : (fs gs : List Linear) → Same fs gs → value_at p (difference_form fs) ≡ value_at q (difference_form gs)
  difference_same [] [] same = refl
  difference_same [] (g ∷ gs) same = absurd (cc)
  difference_same (f ∷ fs) [] same = absurd (cc)
  difference_same (f ∷ []) (g ∷ []) same = negated_same f g (first_same f g [] [] same)
  difference_same (f ∷ []) (g ∷ h ∷ gs) same = let none : [] ≡ map (value_at q) (h ∷ gs) = rest_same f g [] (h ∷ gs) same in absurd (cc)
  difference_same (f ∷ e ∷ fs) (g ∷ []) same = let none : map (value_at p) (e ∷ fs) ≡ [] = rest_same f g (e ∷ fs) [] same in absurd (cc)
  difference_same (f ∷ e ∷ fs) (g ∷ h ∷ gs) same =
      sum_same (f ∷ map negated (e ∷ fs)) (g ∷ map negated (h ∷ gs))
      (joined_same f g (map negated (e ∷ fs)) (map negated (h ∷ gs)) (first_same f g (e ∷ fs) (h ∷ gs) same) (all_negated (e ∷ fs) (h ∷ gs) (rest_same f g (e ∷ fs) (h ∷ gs) same)))

  scaled_same : (k : ℤ) (f g : Linear) → value_at p f ≡ value_at q g → value_at p (scaled k f) ≡ value_at q (scaled k g)
  scaled_same k f g same = value_at-scaled p k f ∙ ap (λ (x : ℤ). k *ℤ x) same ∙ sym (value_at-scaled q k g)

  first_factor : (whole : List (Option ℤ)) (fs gs : List Linear) → Same fs gs → value_at p (multiple_of None whole fs) ≡ value_at q (multiple_of None whole gs)
  first_factor whole [] [] same = refl
  first_factor whole [] (g ∷ gs) same = absurd (cc)
  first_factor whole (f ∷ fs) [] same = absurd (cc)
  first_factor whole (f ∷ fs) (g ∷ gs) same = scaled_same (product_of (constants_among (drop 1 whole))) f g (first_same f g fs gs same)

  -- the factor that isn't constant stands at the same place
  product_same : (whole constants : List (Option ℤ)) (fs gs rest_f rest_g : List Linear) → Same fs gs → Same rest_f rest_g
      → value_at p (multiple_of (varying_form constants rest_f) whole fs) ≡ value_at q (multiple_of (varying_form constants rest_g) whole gs)
  product_same whole [] fs gs rest_f rest_g same rest = first_factor whole fs gs same
  product_same whole (c ∷ constants) fs gs [] [] same rest = first_factor whole fs gs same
  product_same whole (c ∷ constants) fs gs [] (g ∷ rest_g) same rest = absurd (cc)
  product_same whole (c ∷ constants) fs gs (f ∷ rest_f) [] same rest = absurd (cc)
  product_same whole (None ∷ constants) fs gs (f ∷ rest_f) (g ∷ rest_g) same rest = scaled_same (product_of (constants_among whole)) f g (first_same f g rest_f rest_g rest)
  product_same whole (Some n ∷ constants) fs gs (f ∷ rest_f) (g ∷ rest_g) same rest = product_same whole constants fs gs rest_f rest_g same (rest_same f g rest_f rest_g rest)

  pub operation_worth : (op : OpKind) (u w : Linear) (constants : List (Option ℤ)) (fs gs : List Linear) → value_at p u ≡ value_at q w → Same fs gs
      → value_at p (operation_form op u constants fs) ≡ value_at q (operation_form op w constants gs)
  operation_worth Add u w constants fs gs unit same = sum_same fs gs same
  operation_worth Sub u w constants fs gs unit same = difference_same fs gs same
  operation_worth Mul u w constants fs gs unit same = product_same constants constants fs gs fs gs same same
  operation_worth Ite u w constants fs gs unit same = unit
  operation_worth Abs u w constants fs gs unit same = unit
  operation_worth Div u w constants fs gs unit same = unit
  operation_worth Mod u w constants fs gs unit same = unit
  operation_worth _ u w constants fs gs unit same = refl

  -- the points give the names of the term the same values
  pub record Agree (nodes : List Node) (top : ℕ) (a b : Naming) : Type 0 where
    pub own : (binder : ℕ) → Occurs nodes top binder → variable_at p (a.own binder) ≡ variable_at q (b.own binder)
    pub auxiliary : (id : ℕ) → IsSubterm nodes top id → value_at p (auxiliary_form (a.auxiliary id)) ≡ value_at q (auxiliary_form (b.auxiliary id))

  args_same : (f g : ℕ → Linear) (args : List TermId) → ((part : ℕ) → is_among part args ≡ true → value_at p (f part) ≡ value_at q (g part))
      → Same (map (λ (x : TermId). f x.0) args) (map (λ (x : TermId). g x.0) args)
  args_same f g [] same = refl
  args_same f g (x ∷ args) same =
      joined_same (f x.0) (g x.0) (map (λ (y : TermId). f y.0) args) (map (λ (y : TermId). g y.0) args) (same x.0 (first_among x args))
      (args_same f g args (λ part has. same part (later_among part x args has)))

  either_right : (a b : Bool) → b ≡ true → (a || b) ≡ true
  either_right true b h = refl
  either_right false b h = h

  node_same : (C : ℕ → Option ℤ) (nodes : List Node) (top : ℕ) (a b : Naming) → Agree nodes top a b → (f g : ℕ → ℕ → Linear) (node : Node) (own : ℕ) → IsSubterm nodes top own
      → slice_get nodes own ≡ Some node → ((part : ℕ) → is_part part node ≡ true → value_at p (f part part) ≡ value_at q (g part part))
      → value_at p (node_linear C a f node own) ≡ value_at q (node_linear C b g node own)
  node_same C nodes top a b agree f g (Num n) own sub is same = refl
  node_same C nodes top a b agree f g (Var binder sort) own sub is same =
      variable_value p (a.own binder) ∙ agree.own binder (record { id = own; sort = sort; below = sub; is = is }) ∙ sym (variable_value q (b.own binder))
  node_same C nodes top a b agree f g (LetVar bound) own sub is same = same bound.0 (eqb_self bound.0)
  node_same C nodes top a b agree f g (Op op args) own sub is same =
      operation_worth op (auxiliary_form (a.auxiliary own)) (auxiliary_form (b.auxiliary own)) (map (λ (x : TermId). C x.0) args) (map (λ (x : TermId). f x.0 x.0) args) (map (λ (x : TermId). g x.0 x.0) args)
      (agree.auxiliary own sub) (args_same (λ part. f part part) (λ part. g part part) args same)
  node_same C nodes top a b agree f g (Let bound body) own sub is same = same body.0 (either_right (is_among body.0 bound) (body.0 == body.0) (eqb_self body.0))
  node_same C nodes top a b agree f g _ own sub is same = refl

  -- a term's form is worth the same at the two points, by its nodes
  pub linear_worth : (nodes : List Node) (top : ℕ) (a b : Naming) → IsArena nodes → Agree nodes top a b → (n id : ℕ) → id < n → id < length nodes → IsSubterm nodes top id
      → value_at p (linear_of a nodes id) ≡ value_at q (linear_of b nodes id)
  linear_worth nodes top a b arena agree zero id h within sub = absurd (omega arith)
  linear_worth nodes top a b arena agree (suc n) id h within sub =
      let found = there_is nodes id within in
      let node : Node = found.0 in
      let is : slice_get nodes id ≡ Some node = found.1 in
      let below : has_parts_below id node ≡ true = arena_below nodes id node arena is in
      ap (value_at p) (linear_at (constant_of nodes) a nodes id id node is below)
      ∙ node_same (constant_of nodes) nodes top a b agree (told_linear (constant_of nodes) a nodes) (told_linear (constant_of nodes) b nodes) node id sub is
      (λ part has. let less : part < id = part_below part id node below has in linear_worth nodes top a b arena agree n part (omega arith) (omega arith) (inside part node sub is has))
      ∙ sym (ap (value_at q) (linear_at (constant_of nodes) b nodes id id node is below))
