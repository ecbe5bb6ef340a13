-- The first terms of variables, and the numbers of places, term by term.
use Rattle.std.proofs.Common.{◌≡◌, ℕ, suc, ◌+◌, ◌<◌, ◌≤◌, List, [], ◌∷◌, ◌++◌, length, get_or, take, Bool, true, false, cond, ◌||◌, ◌==◌, inl, inr, refl, ap, sym, ◌∙◌, subst, arith}
use Rattle.std.proofs.Math.ListN.{get_or-append}
use Rattle.std.proofs.Math.Seq.{get_or-append_seam}
use Rattle.std.specs.Prelude.{slice_get, position, Option, Some, None, option_map}
use Rattle.std.specs.List.{list_any}
use Rattle.std.specs.Ordering.{nat_cmp}
use Rattle.std.specs.BTreeMap.{BTreeMap, get}
use Rattle.std.proofs.lemmas.Bool.{cases_eq}
use Rattle.std.proofs.lemmas.Bool.Decides.{nat_tests}
use Rattle.std.proofs.lemmas.List.{take_more}
use Rattle.std.proofs.lemmas.Option.{slice_get_within}
use Rattle.term_tree.specs.declared.sort.Sort.{Sort}
use Rattle.term_tree.specs.declared.node.Node.{Node}
use Rattle.term_tree.specs.declared.node.Node.TheVariants.{Var}
use Rattle.term_tree.proofs.Public.{eqb_self}
use Rattle.lin_atoms.specs.Algebra.{name_in}
use Rattle.term_widths.specs.machinery.Apart.{AreFirstsBelow, EndsBelow, PutsFirst}
use Rattle.term_widths.proofs.PositionLemmas.{position_on}

-- the same term is the node of the number
same_node : (nodes : List Node) (i id binder : ℕ) (sort : Sort) (node : Node) → slice_get nodes i ≡ Some node → id ≡ i → slice_get nodes id ≡ Some (Var binder sort) → node ≡ Var binder sort
same_node nodes i id binder sort node is same at =
    let both : Some node ≡ Some (Var binder sort) = sym is ∙ ap (slice_get nodes) (sym same) ∙ at in
    cc

pub firsts_more : (nodes : List Node) (own : List ℕ) (i : ℕ) (node : Node) (old new : BTreeMap ℕ ℕ) → slice_get nodes i ≡ Some node → AreFirstsBelow nodes own i old → PutsFirst own node i old new
    → AreFirstsBelow nodes own (i + 1) new
firsts_more nodes own i node old new is are puts = record {
  each = λ id binder sort less at. elim (cases_eq id i) [
    | inl same ↦ puts.here binder sort (same_node nodes i id binder sort node is same at)
    | inr differ ↦ let found = are.each id binder sort (omega (arith, less, differ)) at in (found.0, puts.kept (name_in own binder) found.0 found.1)
  ];
  right = λ class id has. elim (puts.right class id has) [
    | inl before ↦ are.right class id before
    | inr now ↦ record { binder = now.binder; sort = now.sort; is = ap (slice_get nodes) now.is ∙ is ∙ ap (λ (n : Node). Some n) now.node_is; stands = now.stands }
  ];
}

pub ends_more : (nodes : List Node) (i old new next : ℕ) (node : Node) → slice_get nodes i ≡ Some node → EndsBelow nodes i old → ((binder : ℕ) (sort : Sort) → node ≡ Var binder sort → binder < next) → old ≤ new → next ≤ new
    → EndsBelow nodes (i + 1) new
ends_more nodes i old new next node is ends here h k id binder sort less at = elim (cases_eq id i) [
  | inl same ↦ omega (arith, here binder sort (same_node nodes i id binder sort node is same at))
  | inr differ ↦ omega (arith, ends id binder sort (omega (arith, less, differ)) at)
]

-- the variable stands for one of which a term is kept
pub puts_nothing : (own : List ℕ) (binder : ℕ) (sort : Sort) (number : ℕ) (old : BTreeMap ℕ ℕ) (found : ℕ) → get nat_cmp old (name_in own binder) ≡ Some found → PutsFirst own (Var binder sort) number old old
puts_nothing own binder sort number old found is = record {
  kept = λ class first has. has;
  here = λ other kind same. let one : binder ≡ other = cc in (found, ap (λ (k : ℕ). get nat_cmp old (name_in own k)) (sym one) ∙ is);
  right = λ class id has. inl has;
}

pub puts_new : (own : List ℕ) (binder : ℕ) (sort : Sort) (number : ℕ) (old new : BTreeMap ℕ ℕ) → get nat_cmp old (name_in own binder) ≡ None → get nat_cmp new (name_in own binder) ≡ Some number
    → ((q : ℕ) → (name_in own binder ≡ q → ⊥) → get nat_cmp new q ≡ get nat_cmp old q) → PutsFirst own (Var binder sort) number old new
puts_new own binder sort number old new none is others = record {
  kept = λ class first has. elim (cases_eq (name_in own binder) class) [
    | inl same ↦ let both : None ≡ Some first = sym none ∙ ap (get nat_cmp old) same ∙ has in absurd (cc)
    | inr differ ↦ others class differ ∙ has
  ];
  here = λ other kind same. let one : binder ≡ other = cc in (number, ap (λ (k : ℕ). get nat_cmp new (name_in own k)) (sym one) ∙ is);
  right = λ class id has. elim (cases_eq (name_in own binder) class) [
    | inl same ↦
        let both : Some id ≡ Some number = sym has ∙ ap (get nat_cmp new) (sym same) ∙ is in
        let one : id ≡ number = cc in
        inr (record { is = one; binder = binder; sort = sort; node_is = refl; stands = same })
    | inr differ ↦ inl (sym (others class differ) ∙ has)
  ];
}

-- the same of a node that is a variable
pub puts_here : (own : List ℕ) (node : Node) (binder : ℕ) (sort : Sort) (class number : ℕ) (old new : BTreeMap ℕ ℕ) → node ≡ Var binder sort → class ≡ name_in own binder → None ≡ get nat_cmp old class
    → get nat_cmp new class ≡ Some number → ((q : ℕ) → (class ≡ q → ⊥) → get nat_cmp new q ≡ get nat_cmp old q) → PutsFirst own node number old new
puts_here own node binder sort class number old new node_is class_is none is others =
    subst (λ (n : Node). PutsFirst own n number old new) (sym node_is)
    (puts_new own binder sort number old new (ap (get nat_cmp old) (sym class_is) ∙ sym none) (ap (get nat_cmp new) (sym class_is) ∙ is)
    (λ q differ. others q (λ same. differ (sym class_is ∙ same))))

-- of all terms
pub firsts_all : (nodes : List Node) (own : List ℕ) (i n : ℕ) (firsts : BTreeMap ℕ ℕ) → length nodes ≤ i → AreFirstsBelow nodes own i firsts → AreFirstsBelow nodes own n firsts
firsts_all nodes own i n firsts past are = record {
  each = λ id binder sort less at. let within : id < length nodes = slice_get_within nodes id (Var binder sort) at in are.each id binder sort (omega (arith, within, past)) at;
  right = are.right;
}

-- one more name
pub named_more : (f : ℕ → ℕ) (named : List ℕ) (n v : ℕ) → length named ≡ n → ((k : ℕ) → k < n → name_in named k ≡ f k) → v ≡ f n → (k : ℕ) → k < n + 1 → name_in (named ++ v ∷ []) k ≡ f k
named_more f named n v long each is k h = elim (cases_eq k n) [
  | inl same ↦
      let last : k ≡ length named = same ∙ sym long in
      ap (λ (j : ℕ). get_or (named ++ v ∷ []) j k) last ∙ get_or-append_seam named v [] k ∙ is ∙ ap f (sym same)
  | inr differ ↦
      let within : k < length named = omega (arith, h, differ, long) in
      get_or-append named (v ∷ []) k k within ∙ each k (omega (arith, h, differ))
]

after_suc : (q : ℕ) (found : Option ℕ) → option_map (λ (i : ℕ). q) (option_map suc found) ≡ option_map (λ (i : ℕ). q) found
after_suc q None = refl
after_suc q (Some i) = refl

-- something has a position where it is among the list
position_any : (q : ℕ) (test : ℕ → Bool) (xs : List ℕ) → option_map (λ (i : ℕ). q) (position test xs) ≡ cond (list_any test xs) (Some q) None
position_any q test [] = refl
position_any q test (x ∷ xs) = ap (option_map (λ (i : ℕ). q)) (position_on test x xs) ∙ by_test (test x) (position_any q test xs)
  where
    by_test : (b : Bool) → option_map (λ (i : ℕ). q) (position test xs) ≡ cond (list_any test xs) (Some q) None
        → option_map (λ (i : ℕ). q) (cond b (Some 0) (option_map suc (position test xs))) ≡ cond (b || list_any test xs) (Some q) None
    by_test true rest = refl
    by_test false rest = after_suc q (position test xs) ∙ rest

any_last : (test : ℕ → Bool) (xs : List ℕ) (x : ℕ) → list_any test (xs ++ x ∷ []) ≡ (list_any test xs || test x)
any_last test [] x = or_false (test x)
  where
    or_false : (b : Bool) → (b || false) ≡ b
    or_false true = refl
    or_false false = refl
any_last test (y ∷ xs) x = ap (λ (b : Bool). test y || b) (any_last test xs x) ∙ or_assoc (test y) (list_any test xs) (test x)
  where
    or_assoc : (a b c : Bool) → (a || (b || c)) ≡ ((a || b) || c)
    or_assoc true b c = refl
    or_assoc false b c = refl

or_true : (b : Bool) → (b || true) ≡ true
or_true true = refl
or_true false = refl

or_none : (b : Bool) → (b || false) ≡ b
or_none true = refl
or_none false = refl

not_same : (a b : ℕ) → (a ≡ b → ⊥) → (a == b) ≡ false
not_same a b differ = grind (arith, nat_tests)

-- one more place is named by its own number
pub numbers_more : (placed : List ℕ) (i d id : ℕ) (old new : BTreeMap ℕ ℕ) → i < length placed → id ≡ get_or placed i d
    → ((q : ℕ) → get nat_cmp old q ≡ option_map (λ (k : ℕ). q) (position (λ p. p == q) (take i placed)))
    → get nat_cmp new id ≡ Some id → ((q : ℕ) → (id ≡ q → ⊥) → get nat_cmp new q ≡ get nat_cmp old q)
    → (q : ℕ) → get nat_cmp new q ≡ option_map (λ (k : ℕ). q) (position (λ p. p == q) (take (i + 1) placed))
numbers_more placed i d id old new h is before here others q =
    let more : take (i + 1) placed ≡ take i placed ++ id ∷ [] = take_more placed i d h ∙ ap (λ (x : ℕ). take i placed ++ x ∷ []) (sym is) in
    let any : list_any (λ p. p == q) (take (i + 1) placed) ≡ (list_any (λ p. p == q) (take i placed) || (id == q)) = ap (list_any (λ p. p == q)) more ∙ any_last (λ p. p == q) (take i placed) id in
    let now : option_map (λ (k : ℕ). q) (position (λ p. p == q) (take (i + 1) placed)) ≡ cond (list_any (λ p. p == q) (take i placed) || (id == q)) (Some q) None =
    position_any q (λ p. p == q) (take (i + 1) placed) ∙ ap (λ (b : Bool). cond b (Some q) None) any in
    elim (cases_eq id q) [
      | inl same ↦
          ap (get nat_cmp new) (sym same) ∙ here ∙ ap (λ (k : ℕ). Some k) same
          ∙ sym (now ∙ ap (λ (b : Bool). cond (list_any (λ p. p == q) (take i placed) || b) (Some q) None) (ap (λ (k : ℕ). k == q) same ∙ eqb_self q)
          ∙ ap (λ (b : Bool). cond b (Some q) None) (or_true (list_any (λ p. p == q) (take i placed))))
      | inr differ ↦
          others q differ ∙ before q ∙ position_any q (λ p. p == q) (take i placed)
          ∙ sym (now ∙ ap (λ (b : Bool). cond (list_any (λ p. p == q) (take i placed) || b) (Some q) None) (not_same id q differ)
          ∙ ap (λ (b : Bool). cond b (Some q) None) (or_none (list_any (λ p. p == q) (take i placed))))
    ]
