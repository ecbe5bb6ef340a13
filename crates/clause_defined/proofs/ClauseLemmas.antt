-- The predicates of a clause: their arguments stand for variables of the normal clause, and they have definitions.
use Rattle.std.proofs.Common.{◌≡◌, ℕ, suc, ◌+◌, ◌<◌, ◌≤◌, ◌==◌, List, [], ◌∷◌, ◌++◌, length, map, Bool, true, false, inl, inr, refl, ap, sym, ◌∙◌, subst, arith}
use Rattle.std.proofs.lemmas.Bool.{eqb-true}
use Rattle.std.proofs.lemmas.Bool.Decides.{nat_tests}
use Rattle.std.proofs.lemmas.List.{length-map}
use Rattle.std.proofs.lemmas.Option.{slice_get_within}
use Rattle.std.specs.Prelude.{slice_get, Option, Some, None, option_map, unwrap_or, ◌⊎◌}
use Rattle.std.specs.List.{AllByRecursion}
use Rattle.base.specs.Limits.{most_arguments}
use Rattle.term_tree.specs.declared.sort.Sort.{Sort}
use Rattle.term_tree.specs.declared.definition.Definition.{Definition}
use Rattle.term_tree.specs.declared.script.Pred.{Pred as Declared}
use Rattle.term_tree.specs.declared.script.Script.{Script}
use Rattle.term_tree.specs.declared.node.Node.{Node}
use Rattle.term_tree.specs.declared.node.Node.TheVariants.{Num, True, False, Var, LetVar, Pred, Op, Divisible, Let, Forall, Exists}
use Rattle.term_tree.specs.Arena.{IsArena}
use Rattle.term_tree.specs.Solution.{AreFormulas, DefinesEach}
use Rattle.term_tree.specs.Sorts.{has_sort, have_sorts, sort_of}
use Rattle.term_tree.proofs.Public.{both_true, eqb_self, there_is}
use Rattle.horn_shape.specs.declared.clause.AtomUse.{AtomUse}
use Rattle.horn_shape.specs.declared.clause.HornClause.{HornClause}
use Rattle.horn_shape.specs.declared.clause.Part.{Part}
use Rattle.horn_shape.specs.Clause.{IsClauseOf, IsLegalScript}
use Rattle.linear_terms.specs.Text.{is_variable}
use Rattle.linear_terms.proofs.RelationLemmas.{bool_same}
use Rattle.term_widths.proofs.PositionLemmas.{position_is}
use Rattle.clause_form.specs.declared.atom.Atom.{Atom}
use Rattle.clause_normal.specs.Normal.{argument_variable, auxiliaries, names_of, normal_atom, normal_clause, variable_sorts, top_of}
use Rattle.clause_normal.proofs.MadeLemmas.{all_got, all_map, subterm_most, top_within}
use Rattle.clause_normal.proofs.ReadLemmas.{HeadHas}
use Rattle.clause_normal.proofs.TextLemmas.{placed_position}
use Rattle.clause_laws.specs.Defined.{definition_at, head_use, uses_of}
use Rattle.clause_laws.proofs.BreakingLemmas.{defined_at}
use Rattle.clause_laws.proofs.EnteredLemmas.{named_once}
use Rattle.clause_laws.proofs.PointLemmas.{IsApplied, IsArgument, count_is, own_variable, parts}
use Rattle.clause_defined.specs.machinery.Classes.{is_same_argument, is_same_name, variable_in}
use Rattle.clause_defined.specs.machinery.Uses.{AreAtVariables, CanAllBeJudged, CanBeJudged, IsAtVariables, IsDefinedFor, OnHead, use_list, variable_of}

-- the uses of the normal clause
pub uses_listed : (script : Script) (clause : HornClause) → uses_of (normal_clause script clause) ≡ use_list (names_of script clause) script.terms.nodes clause.atoms clause.head
uses_listed script clause = listed clause.atoms clause.head
  where
    listed : (atoms : List AtomUse) (head : Option AtomUse)
        → map (λ (atom : Atom). (atom, true)) (map (normal_atom (names_of script clause) script.terms.nodes) atoms) ++ head_use (option_map (normal_atom (names_of script clause) script.terms.nodes) head)
        ≡ use_list (names_of script clause) script.terms.nodes atoms head
    listed [] None = refl
    listed [] (Some h) = refl
    listed (atom ∷ atoms) head = ap (λ (xs : List (Atom × Bool)). (normal_atom (names_of script clause) script.terms.nodes atom, true) ∷ xs) (listed atoms head)

other_variable : (auxiliary : ℕ → Option ℕ) (id : ℕ) (node : Node) → is_variable node ≡ false → argument_variable auxiliary id (Some node) ≡ unwrap_or (auxiliary id) 0
other_variable auxiliary id (Var binder sort) other = absurd (cc)
other_variable auxiliary id _ other = refl

no_number : (node : Node) → is_variable node ≡ false → variable_in (Some node) ≡ None
no_number (Var binder sort) other = absurd (cc)
no_number _ other = refl

unequal : (a b : ℕ) → (a ≡ b → ⊥) → (a == b) ≡ false
unequal a b h = grind (arith, nat_tests)

sorts_long : (S : ℕ → Option Sort) (kinds : List Sort) (args : List Part) → have_sorts kinds (map (λ (part : Part). S part.term.0) args) ≡ true → length args ≡ length kinds
sorts_long S [] [] h = refl
sorts_long S [] (part ∷ args) h = absurd (cc)
sorts_long S (kind ∷ kinds) [] h = absurd (cc)
sorts_long S (kind ∷ kinds) (part ∷ args) h =
    ap suc (sorts_long S kinds args (both_true (has_sort kind (S part.term.0)) (have_sorts kinds (map (λ (p : Part). S p.term.0) args)) h).1)

head_map : (P Q : AtomUse → Type 0) → ((atom : AtomUse) → P atom → Q atom) → (head : Option AtomUse) → HeadHas P head → OnHead Q head
head_map P Q f None h = tt
head_map P Q f (Some atom) h = f atom h

all_mapped : {X Y : Type 0} (P : X → Type 0) (Q : Y → Type 0) (f : X → Y) → ((x : X) → P x → Q (f x)) → (xs : List X) → AllByRecursion P xs → AllByRecursion Q (map f xs)
all_mapped P Q f g [] all = tt
all_mapped P Q f g (x ∷ xs) all = (g x all.0, all_mapped P Q f g xs all.1)

module _ (script : Script) (clause : HornClause) (arena : IsArena script.terms.nodes) (legal : IsLegalScript script) (is : IsClauseOf script clause.assertion clause) where
  abbrev Argument : Part → Type 0
  Argument part = IsArgument script clause.assertion clause arena legal is part.term.0

  -- an argument is a variable of the clause's own
  record IsOwn (id : ℕ) : Type 0 where
    binder : ℕ
    sort : Sort
    node : slice_get script.terms.nodes id ≡ Some (Var binder sort)
    low : binder < length clause.vars

  -- or has an auxiliary one
  record IsOther (id : ℕ) : Type 0 where
    node : Node
    there : slice_get script.terms.nodes id ≡ Some node
    other : is_variable node ≡ false
    place : ℕ
    named : (names_of script clause).auxiliary id ≡ Some (length clause.vars + place)
    within : place < length (auxiliaries script clause)

  argument_within : (part : Part) → Argument part → part.term.0 < length script.terms.nodes
  argument_within part argument =
      let most = subterm_most script.terms.nodes arena (top_of script clause) part.term.0 argument.0 in
      let top = top_within script clause arena legal is in
      omega (arith, most, top)

  kind : (part : Part) → Argument part → IsOwn part.term.0 ⊎ IsOther part.term.0
  kind part argument = let found = there_is script.terms.nodes part.term.0 (argument_within part argument) in by_node found.0 found.1
    where
      placed_at : (node : Node) → slice_get script.terms.nodes part.term.0 ≡ Some node → is_variable node ≡ false → IsOther part.term.0
      placed_at node at none =
          let found = placed_position part.term.0 (auxiliaries script clause) (argument.1 node at none) in
          let place = position_is (λ p. p == part.term.0) (auxiliaries script clause) found.0 found.1 in
          record { node = node; there = at; other = none; place = found.0; named = ap (option_map (λ i. length clause.vars + i)) found.1; within = place.within }

      by_node : (node : Node) → slice_get script.terms.nodes part.term.0 ≡ Some node → IsOwn part.term.0 ⊎ IsOther part.term.0
      by_node (Var binder sort) at = inl (record {
        binder = binder;
        sort = sort;
        node = at;
        low = slice_get_within clause.vars binder sort (own_variable script clause.assertion clause arena legal is part.term.0 binder sort argument.0 at);
      })
      by_node (Num n) at = inr (placed_at (Num n) at refl)
      by_node True at = inr (placed_at True at refl)
      by_node False at = inr (placed_at False at refl)
      by_node (LetVar bound) at = inr (placed_at (LetVar bound) at refl)
      by_node (Pred pred args) at = inr (placed_at (Pred pred args) at refl)
      by_node (Op op args) at = inr (placed_at (Op op args) at refl)
      by_node (Divisible by arg) at = inr (placed_at (Divisible by arg) at refl)
      by_node (Let bound body) at = inr (placed_at (Let bound body) at refl)
      by_node (Forall first sorts body) at = inr (placed_at (Forall first sorts body) at refl)
      by_node (Exists first sorts body) at = inr (placed_at (Exists first sorts body) at refl)

  own_is : (part : Part) (k : IsOwn part.term.0) → variable_of (names_of script clause) script.terms.nodes part ≡ k.binder
  own_is part k = ap (argument_variable (names_of script clause).auxiliary part.term.0) k.node

  other_is : (part : Part) (k : IsOther part.term.0) → variable_of (names_of script clause) script.terms.nodes part ≡ length clause.vars + k.place
  other_is part k =
      ap (argument_variable (names_of script clause).auxiliary part.term.0) k.there ∙ other_variable (names_of script clause).auxiliary part.term.0 k.node k.other
      ∙ ap (λ (o : Option ℕ). unwrap_or o 0) k.named

  own_name : (part : Part) (k : IsOwn part.term.0) → variable_in (slice_get script.terms.nodes part.term.0) ≡ Some k.binder
  own_name part k = ap variable_in k.node

  other_name : (part : Part) (k : IsOther part.term.0) → variable_in (slice_get script.terms.nodes part.term.0) ≡ None
  other_name part k = ap variable_in k.there ∙ no_number k.node k.other

  argument_low : (part : Part) → Argument part → variable_of (names_of script clause) script.terms.nodes part < length (variable_sorts script clause)
  argument_low part argument =
      let count = count_is script clause.assertion clause arena legal is in
      elim (kind part argument) [
        | inl k ↦ let same = own_is part k in let low = k.low in omega (arith, same, low, count)
        | inr k ↦ let same = other_is part k in let within = k.within in omega (arith, same, within, count)
      ]

  -- two of them are the same where their variables are
  same_variables : (a b : Part) → Argument a → Argument b
      → is_same_argument script.terms.nodes a b ≡ (variable_of (names_of script clause) script.terms.nodes a == variable_of (names_of script clause) script.terms.nodes b)
  same_variables a b first second = by_kinds (kind a first) (kind b second)
    where
      names : (m n : Option ℕ) → variable_in (slice_get script.terms.nodes a.term.0) ≡ m → variable_in (slice_get script.terms.nodes b.term.0) ≡ n
          → is_same_argument script.terms.nodes a b ≡ is_same_name m n (a.term.0 == b.term.0)
      names m n one other =
          ap (λ (o : Option ℕ). is_same_name o (variable_in (slice_get script.terms.nodes b.term.0)) (a.term.0 == b.term.0)) one
          ∙ ap (λ (o : Option ℕ). is_same_name m o (a.term.0 == b.term.0)) other

      by_kinds : IsOwn a.term.0 ⊎ IsOther a.term.0 → IsOwn b.term.0 ⊎ IsOther b.term.0
          → is_same_argument script.terms.nodes a b ≡ (variable_of (names_of script clause) script.terms.nodes a == variable_of (names_of script clause) script.terms.nodes b)
      by_kinds (inl x) (inl y) =
          names (Some x.binder) (Some y.binder) (own_name a x) (own_name b y)
          ∙ ap (λ (k : ℕ). k == y.binder) (sym (own_is a x)) ∙ ap (λ (k : ℕ). variable_of (names_of script clause) script.terms.nodes a == k) (sym (own_is b y))
      by_kinds (inl x) (inr y) =
          let low = x.low in
          names (Some x.binder) None (own_name a x) (other_name b y)
          ∙ sym (ap (λ (k : ℕ). k == variable_of (names_of script clause) script.terms.nodes b) (own_is a x) ∙ ap (λ (k : ℕ). x.binder == k) (other_is b y)
          ∙ unequal x.binder (length clause.vars + y.place) (λ e. absurd (omega (arith, e, low))))
      by_kinds (inr x) (inl y) =
          let low = y.low in
          names None (Some y.binder) (other_name a x) (own_name b y)
          ∙ sym (ap (λ (k : ℕ). k == variable_of (names_of script clause) script.terms.nodes b) (other_is a x) ∙ ap (λ (k : ℕ). (length clause.vars + x.place) == k) (own_is b y)
          ∙ unequal (length clause.vars + x.place) y.binder (λ e. absurd (omega (arith, e, low))))
      by_kinds (inr x) (inr y) =
          names None None (other_name a x) (other_name b y)
          ∙ bool_same (a.term.0 == b.term.0) ((length clause.vars + x.place) == (length clause.vars + y.place))
          (λ e. same_place (eqb-true a.term.0 b.term.0 e))
          (λ e. let v : length clause.vars + x.place ≡ length clause.vars + y.place = eqb-true (length clause.vars + x.place) (length clause.vars + y.place) e in
          ap (λ (k : ℕ). k == b.term.0) (named_once (length clause.vars) (auxiliaries script clause) a.term.0 b.term.0 (length clause.vars + y.place) (x.named ∙ ap (λ (k : ℕ). Some k) v) y.named) ∙ eqb_self b.term.0)
          ∙ sym (ap (λ (k : ℕ). k == variable_of (names_of script clause) script.terms.nodes b) (other_is a x) ∙ ap (λ (k : ℕ). (length clause.vars + x.place) == k) (other_is b y))
        where
          some_same : (m n : ℕ) → Some m ≡ Some n → m ≡ n
          some_same m n e = cc

          same_place : a.term.0 ≡ b.term.0 → ((length clause.vars + x.place) == (length clause.vars + y.place)) ≡ true
          same_place e =
              let v : length clause.vars + x.place ≡ length clause.vars + y.place =
              some_same (length clause.vars + x.place) (length clause.vars + y.place) (sym x.named ∙ ap (names_of script clause).auxiliary e ∙ y.named) in
              ap (λ (k : ℕ). k == (length clause.vars + y.place)) v ∙ eqb_self (length clause.vars + y.place)

  at_variables_one : (atom : AtomUse) → IsApplied script clause.assertion clause arena legal is atom → IsAtVariables script.terms.nodes (names_of script clause) (length (variable_sorts script clause)) atom
  at_variables_one atom applied = record {
    below = all_mapped Argument (λ v. v < length (variable_sorts script clause)) (variable_of (names_of script clause) script.terms.nodes) argument_low atom.args applied.each;
    apart = all_map Argument
        (λ (b : Part). AllByRecursion (λ (a : Part). is_same_argument script.terms.nodes a b ≡ (variable_of (names_of script clause) script.terms.nodes a == variable_of (names_of script clause) script.terms.nodes b)) atom.args)
        atom.args
        (λ b second. all_map Argument
        (λ (a : Part). is_same_argument script.terms.nodes a b ≡ (variable_of (names_of script clause) script.terms.nodes a == variable_of (names_of script clause) script.terms.nodes b)) atom.args
        (λ a first. same_variables a b first second) applied.each) applied.each;
  }

  pub at_variables : AreAtVariables script.terms.nodes (names_of script clause) (length (variable_sorts script clause)) clause
  at_variables =
      let all = parts script clause.assertion clause arena legal is in
      record {
        atoms = all_map (IsApplied script clause.assertion clause arena legal is) (IsAtVariables script.terms.nodes (names_of script clause) (length (variable_sorts script clause))) clause.atoms at_variables_one all.atoms;
        head = head_map (IsApplied script clause.assertion clause arena legal is) (IsAtVariables script.terms.nodes (names_of script clause) (length (variable_sorts script clause))) at_variables_one clause.head all.head;
      }

  -- their definitions
  module _ (defs : List Definition) (defines : DefinesEach 0 script.preds defs) (formed : AreFormulas script.preds defs) where
    defined_for : (atom : AtomUse) → IsApplied script clause.assertion clause arena legal is atom → IsDefinedFor (slice_get defs atom.pred) (length atom.args)
    defined_for atom applied =
        let d = defined_at 0 script.preds defs defines formed atom.pred applied.pred applied.there in
        subst (λ (o : Option Definition). IsDefinedFor o (length atom.args)) (sym d.there)
        (applied.pred.args, sym (sorts_long (sort_of script.preds script.terms.nodes) applied.pred.args atom.args applied.fits), d.formula)

    can_judge_one : (atom : AtomUse) → IsApplied script clause.assertion clause arena legal is atom → CanBeJudged script.terms.nodes defs atom
    can_judge_one atom applied =
        let few = all_got (λ (d : Declared). length d.args ≤ most_arguments) script.preds atom.pred applied.pred legal.few_args applied.there in
        let long = sorts_long (sort_of script.preds script.terms.nodes) applied.pred.args atom.args applied.fits in
        record {
          there = all_map Argument (λ (part : Part). part.term.0 < length script.terms.nodes) atom.args argument_within applied.each;
          few = omega (arith, few, long);
          defined = defined_for atom applied;
        }

    pub can_judge : CanAllBeJudged script.terms.nodes defs clause
    can_judge =
        let all = parts script clause.assertion clause arena legal is in
        record {
          atoms = all_map (IsApplied script clause.assertion clause arena legal is) (CanBeJudged script.terms.nodes defs) clause.atoms can_judge_one all.atoms;
          head = head_map (IsApplied script clause.assertion clause arena legal is) (CanBeJudged script.terms.nodes defs) can_judge_one clause.head all.head;
        }

    -- as they are put
    defined_use : (atom : AtomUse) → IsApplied script clause.assertion clause arena legal is atom
        → IsDefinedFor (definition_at defs (normal_atom (names_of script clause) script.terms.nodes atom)) (length (normal_atom (names_of script clause) script.terms.nodes atom).args)
    defined_use atom applied =
        subst (λ (n : ℕ). IsDefinedFor (slice_get defs atom.pred) n) (sym (length-map atom.args (variable_of (names_of script clause) script.terms.nodes))) (defined_for atom applied)

    uses_defined : (atoms : List AtomUse) (head : Option AtomUse) → AllByRecursion (IsApplied script clause.assertion clause arena legal is) atoms → HeadHas (IsApplied script clause.assertion clause arena legal is) head
        → AllByRecursion (λ (p : Atom × Bool). IsDefinedFor (definition_at defs p.0) (length p.0.args)) (use_list (names_of script clause) script.terms.nodes atoms head)
    uses_defined [] None a h = tt
    uses_defined [] (Some u) a h = (defined_use u h, tt)
    uses_defined (u ∷ atoms) head a h = (defined_use u a.0, uses_defined atoms head a.1 h)

    uses_below : (atoms : List AtomUse) (head : Option AtomUse) → AllByRecursion (IsApplied script clause.assertion clause arena legal is) atoms → HeadHas (IsApplied script clause.assertion clause arena legal is) head
        → AllByRecursion (λ (p : Atom × Bool). AllByRecursion (λ v. v < length (variable_sorts script clause)) p.0.args) (use_list (names_of script clause) script.terms.nodes atoms head)
    uses_below [] None a h = tt
    uses_below [] (Some u) a h = ((at_variables_one u h).below, tt)
    uses_below (u ∷ atoms) head a h = ((at_variables_one u a.0).below, uses_below atoms head a.1 h)

    pub all_defined : AllByRecursion (λ (p : Atom × Bool). IsDefinedFor (definition_at defs p.0) (length p.0.args)) (uses_of (normal_clause script clause))
    all_defined =
        let all = parts script clause.assertion clause arena legal is in
        subst (λ (uses : List (Atom × Bool)). AllByRecursion (λ (p : Atom × Bool). IsDefinedFor (definition_at defs p.0) (length p.0.args)) uses) (sym (uses_listed script clause))
        (uses_defined clause.atoms clause.head all.atoms all.head)

    pub all_below : AllByRecursion (λ (p : Atom × Bool). AllByRecursion (λ v. v < length (variable_sorts script clause)) p.0.args) (uses_of (normal_clause script clause))
    all_below =
        let all = parts script clause.assertion clause arena legal is in
        subst (λ (uses : List (Atom × Bool)). AllByRecursion (λ (p : Atom × Bool). AllByRecursion (λ v. v < length (variable_sorts script clause)) p.0.args) uses) (sym (uses_listed script clause))
        (uses_below clause.atoms clause.head all.atoms all.head)
