-- Subterms of terms that match match, and have as wide values.
use Rattle.std.proofs.Common.{◌≡◌, ℕ, ◌==◌, List, [], ◌∷◌, Bool, true, false, not, ◌||◌, refl, ap, sym, ◌∙◌, subst}
use Rattle.std.specs.Prelude.{Some, IsTrue}
use Rattle.term_tree.specs.declared.node.TermId.{TermId}
use Rattle.term_tree.specs.declared.node.Node.{Node}
use Rattle.term_tree.specs.declared.node.Node.TheVariants.{Num, True, False, Var, LetVar, Pred, Op, Divisible, Let, Forall, Exists}
use Rattle.term_tree.specs.declared.scalar.Value.{Value}
use Rattle.term_tree.specs.Arena.{IsArena}
use Rattle.term_tree.specs.Subterms.{is_among, is_part, IsSubterm, itself, inside}
use Rattle.term_tree.specs.Value.{Environment, value_of}
use Rattle.term_tree.specs.Width.{is_wide, IsWideTerm, results_fit}
use Rattle.term_tree.proofs.PlainLemmas.{eqb_self, same_number}
use Rattle.clause_readings.specs.Matching.{AreMatched, IsNodeLike, AreNodesLike}
use Rattle.clause_readings.proofs.InductionLemmas.{same_map_by}
use Rattle.clause_readings.proofs.ValueLemmas.{same_value}

or_first : (a b : Bool) → a ≡ true → (a || b) ≡ true
or_first true b h = refl
or_first false b h = absurd (cc)

or_later : (a b : Bool) → b ≡ true → (a || b) ≡ true
or_later true b h = refl
or_later false b h = h

either : {A : Type 0} (a b : Bool) → (a || b) ≡ true → (a ≡ true → A) → (b ≡ true → A) → A
either true b h f g = f refl
either false b h f g = g h

module _ (matched : ℕ → ℕ → Type 0) where
  -- what the one is made of has a partner of which the other is made
  abbrev HasPartner : ℕ → (ℕ → Bool) → Type 0
  HasPartner part made = (number : ℕ) × matched part number × (made number ≡ true)

  this_one : (part id other : ℕ) → matched id other → (id == part) ≡ true → HasPartner part (λ number. other == number)
  this_one part id other h e = (other, subst (λ (k : ℕ). matched k other) (same_number id part e) h, eqb_self other)

  one_among : (part : ℕ) (ids others : List TermId) → AreMatched matched ids others → is_among part ids ≡ true → HasPartner part (λ number. is_among number others)
  one_among part [] others h is = absurd (cc)
  one_among part (id ∷ ids) [] h is = absurd h
  one_among part (id ∷ ids) (o ∷ others) h is =
      either (id.0 == part) (is_among part ids) is
      (λ e. let one = this_one part id.0 o.0 h.0 e in (one.0, one.1, or_first (o.0 == one.0) (is_among one.0 others) one.2))
      (λ e. let one = one_among part ids others h.1 e in (one.0, one.1, or_later (o.0 == one.0) (is_among one.0 others) one.2))

  abbrev HasPartnerIn : ℕ → Node → Type 0
  HasPartnerIn part other = HasPartner part (λ number. is_part number other)

  partner_in : (part : ℕ) (node other : Node) → IsNodeLike matched node other → is_part part node ≡ true → HasPartnerIn part other
  partner_in part (Num k) other h is = absurd (cc)
  partner_in part True other h is = absurd (cc)
  partner_in part False other h is = absurd (cc)
  partner_in part (Var binder sort) other h is = absurd (cc)
  partner_in part (LetVar bound) other h is = subst (HasPartnerIn part) (sym h.1) (this_one part bound.0 h.0.0 h.2 is)
  partner_in part (Pred pred args) other h is = subst (HasPartnerIn part) (sym h.1) (one_among part args h.0 h.2 is)
  partner_in part (Op op args) other h is = subst (HasPartnerIn part) (sym h.1) (one_among part args h.0 h.2 is)
  partner_in part (Divisible by arg) other h is = subst (HasPartnerIn part) (sym h.1) (this_one part arg.0 h.0.0 h.2 is)
  partner_in part (Let bound body) other h is =
      subst (HasPartnerIn part) (sym h.2)
      (either (is_among part bound) (body.0 == part) is
      (λ e. let one = one_among part bound h.0 h.3 e in (one.0, one.1, or_first (is_among one.0 h.0) (h.1.0 == one.0) one.2))
      (λ e. let one = this_one part body.0 h.1.0 h.4 e in (one.0, one.1, or_later (is_among one.0 h.0) (h.1.0 == one.0) one.2)))
  partner_in part (Forall first sorts body) other h is = subst (HasPartnerIn part) (sym h.1) (this_one part body.0 h.0.0 h.2 is)
  partner_in part (Exists first sorts body) other h is = subst (HasPartnerIn part) (sym h.1) (this_one part body.0 h.0.0 h.2 is)

module _ (nodes others : List Node) (matched : ℕ → ℕ → Type 0) (arena : IsArena nodes) (other_arena : IsArena others) (like : AreNodesLike nodes others matched) where
  subterm_passes : (top partner id : ℕ) → matched top partner → IsSubterm nodes top id → (number : ℕ) × matched id number × IsSubterm others partner number
  subterm_passes top partner _ h itself = (partner, h, itself)
  subterm_passes top partner _ h (inside {id = id} part node sub at has) =
      let up = subterm_passes top partner id h sub in
      let found = like id up.0 up.1 in
      let both : Some found.0 ≡ Some node = sym found.2 ∙ at in
      let same : found.0 ≡ node = cc in
      let one = partner_in matched part node found.1 (subst (λ (n : Node). IsNodeLike matched n found.1) same found.4) has in
      (one.0, one.1, inside one.0 found.1 up.2 found.3 one.2)

  as_wide : (env : Environment) (node other : Node) → IsNodeLike matched node other → is_wide (value_of nodes) node env ≡ is_wide (value_of others) other env
  as_wide env (Num k) other h = ap (λ (m : Node). is_wide (value_of others) m env) (sym h)
  as_wide env True other h = ap (λ (m : Node). is_wide (value_of others) m env) (sym h)
  as_wide env False other h = ap (λ (m : Node). is_wide (value_of others) m env) (sym h)
  as_wide env (Var binder sort) other h = ap (λ (m : Node). is_wide (value_of others) m env) (sym h)
  as_wide env (LetVar bound) other h = ap (λ (m : Node). is_wide (value_of others) m env) (sym h.1)
  as_wide env (Pred pred args) other h = ap (λ (m : Node). is_wide (value_of others) m env) (sym h.1)
  as_wide env (Op op args) other h =
      ap (λ (values : List Value). not (results_fit op values))
      (same_map_by (λ c. value_of nodes c env) (λ d. value_of others d env) matched (λ c d is. same_value nodes others matched arena other_arena like c d is env) args h.0 h.2)
      ∙ ap (λ (m : Node). is_wide (value_of others) m env) (sym h.1)
  as_wide env (Divisible by arg) other h = ap (λ (m : Node). is_wide (value_of others) m env) (sym h.1)
  as_wide env (Let bound body) other h = ap (λ (m : Node). is_wide (value_of others) m env) (sym h.2)
  as_wide env (Forall first sorts body) other h = ap (λ (m : Node). is_wide (value_of others) m env) (sym h.1)
  as_wide env (Exists first sorts body) other h = ap (λ (m : Node). is_wide (value_of others) m env) (sym h.1)

  -- where a subterm of the one is wide, one of the other is
  pub wide_passes : (env : Environment) (top partner id : ℕ) → matched top partner → IsSubterm nodes top id → IsWideTerm nodes id env → (number : ℕ) × IsSubterm others partner number × IsWideTerm others number env
  wide_passes env top partner id h sub wide =
      let one = subterm_passes top partner id h sub in
      let found = like id one.0 one.1 in
      let both : Some found.0 ≡ Some wide.0 = sym found.2 ∙ wide.1 in
      let same : found.0 ≡ wide.0 = cc in
      let alike = subst (λ (n : Node). IsNodeLike matched n found.1) same found.4 in
      (one.0, one.2, (found.1, found.3, subst (λ (b : Bool). IsTrue b) (as_wide env wide.0 found.1 alike) wide.2))
