-- What the printed text of a term says as a tree: a term that is alike, with its sort.
use Rattle.std.proofs.Common.{ℕ, suc, ℤ, pos, ◌≡◌, ◌+◌, ◌^◌, ◌<◌, List, [], ◌∷◌, ◌++◌, length, Bool, true, false, cond, ◌&&◌, Option, Some, None, Result, Ok, Err, refl, sym, ap, subst, ◌∙◌, arith, append_assoc, append-nil, codes, decimal, nat_eq, nat_lt, slice_get, bytes_eq}
use Rattle.base.specs.Numeral.{number_of}
use Rattle.sexp_read.specs.declared.tree.LeafKind.TheVariants.{Symbol, Numeral}
use Rattle.sexp_read.specs.declared.tree.Tree.{Tree}
use Rattle.sexp_read.specs.Leaves.{short_number, numeral_value}
use Rattle.sexp_read.specs.Trees.{most_open}
use Rattle.term_tree.specs.declared.sort.Sort.{Sort}
use Rattle.term_tree.specs.declared.sort.Sort.TheVariants.{Int as IntSort, Bool as BoolSort}
use Rattle.term_tree.specs.declared.node.OpKind.{OpKind}
use Rattle.term_tree.specs.declared.node.TermId.{TermId}
use Rattle.term_tree.specs.declared.node.Node.{Node}
use Rattle.term_tree.specs.declared.node.Node.TheVariants.{Num, True, False, Var, Op, Divisible}
use Rattle.term_tree.specs.Arena.{IsArena}
use Rattle.term_tree.proofs.Public.{arena_below}
use Rattle.term_tree.specs.declared.refusal.Kind.TheVariants.{CommandForm, UnknownSymbol, Arity, ZeroDivisor, TooWide}
use Rattle.term_check.specs.declared.head.Head.{Head}
use Rattle.term_check.specs.declared.head.Head.TheVariants.{Operator, Divisibility}
use Rattle.term_check.specs.declared.part.Part.{Part}
use Rattle.term_check.specs.declared.part.Fault.{Fault}
use Rattle.term_check.specs.declared.atom.Atom.{Atom}
use Rattle.term_check.specs.declared.scope.Bound.TheVariants.{Variable}
use Rattle.term_check.specs.declared.scope.Named.{Named}
use Rattle.term_check.specs.Words.{is_word_among, reserved_words}
use Rattle.term_check.specs.Rules.{fault, unless, if_short, number_fault, applied, first_not, divisible_fault, divisibility_fault}
use Rattle.term_check.specs.machinery.Reading.{next_spelled, each_spelled, applied_list, any_list}
use Rattle.term_check.specs.Spelling.{SpellingScope, Spelled, Gathered, ◌>>=◌, is_spelled, is_word, is_symbol, bound_to, bound_symbol, symbol_atom, numeral_if_short, numeral_atom, spelled_atom, leaf_atom, operator_or, spelled_head, head_fault, list_head, with_part, application, spells, number_or_0, the_argument, with_spelled, nothing_yet, spelled, scope_of}
use Rattle.term_check.specs.Term.{operation, divisible, Terms, none, more}
use Rattle.term_check.proofs.Public.{below_is, head_of-List, spelled-List}
use Rattle.answer_text.specs.Names.{after_spaces}
use Rattle.answer_text.specs.Terms.{operator_word, parameter_name, term_text}
use Rattle.answer_text.proofs.DecimalLemmas.{decimal_is}
use Rattle.answer_text.proofs.LikeLemmas.{IsLike, AreLike, like_last}
use Rattle.answer_text.proofs.OperatorLemmas.{Kind, part_at, parts_at, Takes, Counts, shows_operator, operator_is}
use Rattle.answer_text.proofs.PieceLemmas.{ends_word}
use Rattle.answer_text.proofs.ShowLemmas.{Shows, ShowsRow, FirstAnd, Within, IsLeaf, shows_same, row_same, row_none, row_more, row_behind, shows_list}
use Rattle.answer_text.proofs.SpellLemmas.{Only, row_last, row_spaced, shows_symbol, symbol_is, short_number_is, numeral_is, shows_numeral, plain_text, digits_are_symbols}
use Rattle.answer_text.proofs.TermLemmas.{text_at}

-- names that stand for parameters
pub record AreParameters (sorts : List Sort) (names : List Named) : Type 0 where
  pub bound : (i : ℕ) (sort : Sort) → slice_get sorts i ≡ Some sort → bound_to (parameter_name i) names ≡ Some (Variable i sort)
  pub no_true : bound_to (codes "true") names ≡ None
  pub no_false : bound_to (codes "false") names ≡ None

pub word_is : (bytes name text : List ℕ) (tree : Tree) → IsLeaf Symbol bytes text tree → is_word text tree name ≡ bytes_eq bytes name
word_is bytes name text tree leaf = ap (λ (t : Tree). is_word text t name) leaf.2 ∙ ap (λ (b : List ℕ). bytes_eq b name) leaf.3

no_binder : {A : Type 0} (a b c : Bool) (x y z w : A) → a ≡ false → b ≡ false → c ≡ false → cond a x (cond b y (cond c z w)) ≡ w
no_binder false false false x y z w h k l = refl
no_binder true b c x y z w h k l = absurd (cc)
no_binder false true c x y z w h k l = absurd (cc)
no_binder false false true x y z w h k l = absurd (cc)

module _ (nodes : List Node) (arena : IsArena nodes) (sorts : List Sort) (names : List Named) (params : AreParameters sorts names) (next : ℕ) where
  abbrev scope : SpellingScope
  scope = scope_of [] names false

  -- the tree spells the term of that number, of this sort and with this value
  pub record ReadsAs (sort : Sort) (constant : Option ℤ) (id : ℕ) (text : List ℕ) (tree : Tree) : Type 0 where
    pub found : Spelled
    pub is : spelled text scope next tree ≡ Ok found
    pub start : ℕ
    pub part : found.part ≡ part_at start (sort, constant)
    pub next_is : found.next ≡ next
    pub like : IsLike nodes found.term id

  abbrev pub Reads : Sort → Option ℤ → ℕ → ℕ → Type 0
  Reads sort constant depth id = Shows (ReadsAs sort constant id) depth (term_text nodes id)

  by_node : (id : ℕ) (node : Node) → slice_get nodes id ≡ Some node → term_text nodes id ≡ Rattle.answer_text.specs.Terms.node_text (term_text nodes) node
  by_node id node is = text_at nodes id node is (arena_below nodes id node arena is)

  -- Leaves.

  pub numeral_reads : (depth id n : ℕ) → slice_get nodes id ≡ Some (Num (pos n)) → n < 2 ^ 63 → Reads IntSort (Some (pos n)) depth id
  numeral_reads depth id n is fits =
      subst (λ (l : List ℕ). Shows (ReadsAs IntSort (Some (pos n)) id) depth l) (sym (by_node id (Num (pos n)) is ∙ plain_text n))
      (shows_same (IsLeaf Numeral (decimal n)) (ReadsAs IntSort (Some (pos n)) id) depth (decimal n) reads (shows_numeral depth n fits))
    where
      reads : (text : List ℕ) (tree : Tree) → IsLeaf Numeral (decimal n) text tree → ReadsAs IntSort (Some (pos n)) id text tree
      reads text tree leaf =
          let value : numeral_if_short (short_number (number_of (decimal n))) ≡ Some (pos n) =
          ap (λ k. numeral_if_short (short_number k)) (decimal_is n (omega arith)).value ∙ ap numeral_if_short (short_number_is n fits) ∙ ap (λ t. cond t (Some (pos n)) None) (below_is n (2 ^ 63) fits) in
          record {
            found = spelled_atom next leaf.0 (Rattle.term_check.specs.declared.atom.Atom.TheVariants.Number (pos n));
            is = ap (spelled text scope next) leaf.2 ∙ ap (λ (bytes : List ℕ). numeral_atom leaf.0 (numeral_if_short (short_number (number_of bytes))) >>= λ atom. Ok (spelled_atom next leaf.0 atom)) leaf.3
                ∙ ap (λ o. numeral_atom leaf.0 o >>= λ atom. Ok (spelled_atom next leaf.0 atom)) value;
            start = leaf.0;
            part = refl;
            next_is = refl;
            like = is;
          }

  -- a word that is no reserved one
  atom_is : (word text : List ℕ) (tree : Tree) (leaf : IsLeaf Symbol word text tree) (atom : Atom) → is_word_among reserved_words word ≡ false
      → bound_symbol [] leaf.0 word (bound_to word names) ≡ Ok atom → spelled text scope next tree ≡ Ok (spelled_atom next leaf.0 atom)
  atom_is word text tree leaf atom free is =
      ap (spelled text scope next) leaf.2
      ∙ ap (λ (bytes : List ℕ). (cond (is_word_among reserved_words bytes) (Err (fault UnknownSymbol leaf.0)) (symbol_atom [] names leaf.0 bytes)) >>= λ a. Ok (spelled_atom next leaf.0 a)) leaf.3
      ∙ ap (λ t. (cond t (Err (fault UnknownSymbol leaf.0)) (symbol_atom [] names leaf.0 word)) >>= λ a. Ok (spelled_atom next leaf.0 a)) free
      ∙ ap (λ (r : Result Atom Fault). r >>= λ a. Ok (spelled_atom next leaf.0 a)) is

  pub variable_reads : (depth id i : ℕ) (sort : Sort) → slice_get nodes id ≡ Some (Var i sort) → slice_get sorts i ≡ Some sort → i < 2 ^ 64 → Reads sort None depth id
  variable_reads depth id i sort is there small =
      subst (λ (l : List ℕ). Shows (ReadsAs sort None id) depth l) (sym (by_node id (Var i sort) is))
      (shows_same (IsLeaf Symbol (parameter_name i)) (ReadsAs sort None id) depth (parameter_name i) reads
      (shows_symbol depth 120 (decimal i) refl (digits_are_symbols (decimal i) (decimal_is i small).digits)))
    where
      reads : (text : List ℕ) (tree : Tree) → IsLeaf Symbol (parameter_name i) text tree → ReadsAs sort None id text tree
      reads text tree leaf = record {
        found = spelled_atom next leaf.0 (Rattle.term_check.specs.declared.atom.Atom.TheVariants.BoundVariable i sort);
        is = atom_is (parameter_name i) text tree leaf (Rattle.term_check.specs.declared.atom.Atom.TheVariants.BoundVariable i sort) refl (ap (bound_symbol [] leaf.0 (parameter_name i)) (params.bound i sort there));
        start = leaf.0;
        part = refl;
        next_is = refl;
        like = is;
      }

  pub true_reads : (depth id : ℕ) → slice_get nodes id ≡ Some True → Reads BoolSort None depth id
  true_reads depth id is =
      subst (λ (l : List ℕ). Shows (ReadsAs BoolSort None id) depth l) (sym (by_node id True is))
      (shows_same (IsLeaf Symbol (codes "true")) (ReadsAs BoolSort None id) depth (codes "true") reads (shows_symbol depth 116 (codes "rue") refl refl))
    where
      reads : (text : List ℕ) (tree : Tree) → IsLeaf Symbol (codes "true") text tree → ReadsAs BoolSort None id text tree
      reads text tree leaf = record {
        found = spelled_atom next leaf.0 (Rattle.term_check.specs.declared.atom.Atom.TheVariants.Truth true);
        is = atom_is (codes "true") text tree leaf (Rattle.term_check.specs.declared.atom.Atom.TheVariants.Truth true) refl (ap (bound_symbol [] leaf.0 (codes "true")) params.no_true);
        start = leaf.0;
        part = refl;
        next_is = refl;
        like = is;
      }

  pub false_reads : (depth id : ℕ) → slice_get nodes id ≡ Some False → Reads BoolSort None depth id
  false_reads depth id is =
      subst (λ (l : List ℕ). Shows (ReadsAs BoolSort None id) depth l) (sym (by_node id False is))
      (shows_same (IsLeaf Symbol (codes "false")) (ReadsAs BoolSort None id) depth (codes "false") reads (shows_symbol depth 102 (codes "alse") refl refl))
    where
      reads : (text : List ℕ) (tree : Tree) → IsLeaf Symbol (codes "false") text tree → ReadsAs BoolSort None id text tree
      reads text tree leaf = record {
        found = spelled_atom next leaf.0 (Rattle.term_check.specs.declared.atom.Atom.TheVariants.Truth false);
        is = atom_is (codes "false") text tree leaf (Rattle.term_check.specs.declared.atom.Atom.TheVariants.Truth false) refl (ap (bound_symbol [] leaf.0 (codes "false")) params.no_false);
        start = leaf.0;
        part = refl;
        next_is = refl;
        like = is;
      }

  -- Arguments.

  abbrev pub AllRead : ℕ → List Kind → List TermId → Type 0
  AllRead depth [] [] = Unit {0}
  AllRead depth (k ∷ kinds) (id ∷ ids) = Reads k.0 k.1 depth id.0 × AllRead depth kinds ids
  AllRead depth [] (id ∷ ids) = ⊥
  AllRead depth (k ∷ kinds) [] = ⊥

  -- what is gathered behind what came before
  record Gathers (kinds : List Kind) (args : List TermId) (text : List ℕ) (trees : List Tree) (g : Gathered) (ids : List TermId) : Type 0 where
    pub last : Gathered
    pub is : each_spelled text scope g trees ≡ Ok last
    pub next_is : last.next ≡ next
    pub starts : List ℕ
    pub many : length starts ≡ length kinds
    pub parts : last.parts ≡ g.parts ++ parts_at starts kinds
    pub terms : AreLike nodes last.terms (ids ++ args)

  abbrev AreSpelled : List Kind → List TermId → List ℕ → List Tree → Type 0
  AreSpelled kinds args text trees =
      (length trees ≡ length args) × ((g : Gathered) (ids : List TermId) → g.next ≡ next → AreLike nodes g.terms ids → Gathers kinds args text trees g ids)

  none_spelled : (text : List ℕ) → AreSpelled [] [] text []
  none_spelled text = (
    refl,
    λ g ids now like. record {
      last = g;
      is = refl;
      next_is = now;
      starts = [];
      many = refl;
      parts = sym (append-nil g.parts);
      terms = subst (λ (l : List TermId). AreLike nodes g.terms l) (sym (append-nil ids)) like;
    },
  )

  more_spelled : (k : Kind) (kinds : List Kind) (id : TermId) (args : List TermId) (text : List ℕ) (trees : List Tree)
      → FirstAnd (ReadsAs k.0 k.1 id.0) (AreSpelled kinds args) text trees → AreSpelled (k ∷ kinds) (id ∷ args) text trees
  more_spelled k kinds id args text trees (first, others, row, r, (many, all)) = (ap length row ∙ ap suc many, by)
    where
      by : (g : Gathered) (ids : List TermId) → g.next ≡ next → AreLike nodes g.terms ids → Gathers (k ∷ kinds) (id ∷ args) text trees g ids
      by g ids now like =
          let h : Gathered = with_spelled g r.found in
          let rest = all h (ids ++ id ∷ []) r.next_is (like_last nodes g.terms ids r.found.term id like r.like) in
          let one : next_spelled text scope g first ≡ Ok h = ap (λ (n : ℕ). spelled text scope n first >>= λ s. Ok (with_spelled g s)) now ∙ ap (λ (o : Result Spelled Fault). o >>= λ s. Ok (with_spelled g s)) r.is in
          record {
            last = rest.last;
            is = ap (each_spelled text scope g) row ∙ ap (λ (o : Result Gathered Fault). o >>= λ x. each_spelled text scope x others) one ∙ rest.is;
            next_is = rest.next_is;
            starts = r.start ∷ rest.starts;
            many = ap suc rest.many;
            parts = rest.parts ∙ ap (λ (p : Part). (g.parts ++ p ∷ []) ++ parts_at rest.starts kinds) r.part ∙ append_assoc g.parts (part_at r.start k ∷ []) (parts_at rest.starts kinds);
            terms = subst (λ (l : List TermId). AreLike nodes rest.last.terms l) (append_assoc ids (id ∷ []) args) rest.terms;
          }

  abbrev arguments_text : List TermId → List ℕ
  arguments_text args = after_spaces (λ (arg : TermId). term_text nodes arg.0) args

  blank : (args : List TermId) → ends_word (arguments_text args) ≡ true
  blank [] = refl
  blank (a ∷ args) = refl

  arguments_row : (depth : ℕ) (kinds : List Kind) (args : List TermId) → AllRead depth kinds args → ShowsRow (AreSpelled kinds args) depth (arguments_text args)
  arguments_row depth [] [] all = row_none (AreSpelled [] []) depth none_spelled
  arguments_row depth [] (id ∷ ids) all = absurd all
  arguments_row depth (k ∷ kinds) [] all = absurd all
  arguments_row depth (k ∷ kinds) (id ∷ ids) all =
      row_behind (AreSpelled (k ∷ kinds) (id ∷ ids)) depth (codes " ") (term_text nodes id.0 ++ arguments_text ids) refl
      (row_same (FirstAnd (ReadsAs k.0 k.1 id.0) (AreSpelled kinds ids)) (AreSpelled (k ∷ kinds) (id ∷ ids)) depth (term_text nodes id.0 ++ arguments_text ids) (more_spelled k kinds id ids)
      (row_more (ReadsAs k.0 k.1 id.0) (AreSpelled kinds ids) depth (term_text nodes id.0) (arguments_text ids) all.0 (blank ids) (arguments_row depth kinds ids all.1)))

  -- Applications.

  abbrev Parts : OpKind → List Kind → List TermId → List ℕ → List Tree → Type 0
  Parts op kinds args = FirstAnd (IsLeaf Symbol (operator_word op)) (AreSpelled kinds args)

  operation_is : (id : ℕ) (op : OpKind) (args : List TermId) (kinds : List Kind) (kind : Kind) → slice_get nodes id ≡ Some (Op op args) → Counts op (length args) → Takes op kinds kind
      → (text : List ℕ) (tree : Tree) → Within (Parts op kinds args) text tree → ReadsAs kind.0 kind.1 id text tree
  operation_is id op args kinds kind is counts takes text tree (items, start, end, at, (first, others, row, leaf, (many, all))) =
      let word = operator_is op in
      let g = all (nothing_yet next) [] refl tt in
      let head : spelled_head text [] first ≡ Ok (Operator op) =
      ap (spelled_head text []) leaf.2
      ∙ ap (λ (b : List ℕ). cond (is_word_among reserved_words b) (Err (fault UnknownSymbol leaf.0)) (operator_or [] leaf.0 b (Rattle.term_check.specs.Operators.operator_named b))) leaf.3
      ∙ ap (λ t. cond t (Err (fault UnknownSymbol leaf.0)) (operator_or [] leaf.0 (operator_word op) (Rattle.term_check.specs.Operators.operator_named (operator_word op)))) word.3
      ∙ ap (operator_or [] leaf.0 (operator_word op)) word.4 in
      let fits : number_fault op start (length others) ≡ None = ap (number_fault op start) many ∙ counts start in
      let part : applied op start g.last.parts ≡ Ok (part_at start kind) = ap (applied op start) g.parts ∙ takes start g.starts g.many in
      let found : Spelled = record { term = operation start op g.last.terms; part = part_at start kind; next = g.last.next } in
      let list : applied_list text scope next start first others ≡ Ok found =
      ap (λ (r : Result Head Fault). r >>= λ h. unless (head_fault [] h start (length others)) (each_spelled text scope (nothing_yet next) others >>= application [] h start)) head
      ∙ ap (λ o. unless o (each_spelled text scope (nothing_yet next) others >>= application [] (Operator op) start)) fits
      ∙ ap (λ (r : Result Gathered Fault). r >>= application [] (Operator op) start) g.is
      ∙ ap (with_part (operation start op g.last.terms) g.last.next) part in
      record {
        found = found;
        is = ap (spelled text scope next) at ∙ spelled-List text scope next items start end ∙ ap (any_list text scope next start) row
            ∙ no_binder (is_word text first (codes "let")) (is_word text first (codes "forall")) (is_word text first (codes "exists")) _ _ _ _ (word_is (operator_word op) (codes "let") text first leaf ∙ word.0)
            (word_is (operator_word op) (codes "forall") text first leaf ∙ word.1) (word_is (operator_word op) (codes "exists") text first leaf ∙ word.2)
            ∙ list;
        start = start;
        part = refl;
        next_is = g.next_is;
        like = (args, is, g.terms);
      }

  pub operation_reads : (depth id : ℕ) (op : OpKind) (args : List TermId) (kinds : List Kind) (kind : Kind) → depth < most_open → slice_get nodes id ≡ Some (Op op args) → Counts op (length args) → Takes op kinds kind
      → AllRead (depth + 1) kinds args → Reads kind.0 kind.1 depth id
  operation_reads depth id op args kinds kind below is counts takes all =
      let row : List ℕ = operator_word op ++ arguments_text args in
      let whole : term_text nodes id ≡ codes "(" ++ row ++ codes ")" = by_node id (Op op args) is ∙ ap (λ (l : List ℕ). l ++ codes ")") (append_assoc (codes "(") (operator_word op) (arguments_text args)) in
      subst (λ (l : List ℕ). Shows (ReadsAs kind.0 kind.1 id) depth l) (sym whole)
      (shows_same (Within (Parts op kinds args)) (ReadsAs kind.0 kind.1 id) depth (codes "(" ++ row ++ codes ")") (operation_is id op args kinds kind is counts takes)
      (shows_list (Parts op kinds args) depth row below
      (row_more (IsLeaf Symbol (operator_word op)) (AreSpelled kinds args) (depth + 1) (operator_word op) (arguments_text args) (shows_operator (depth + 1) op) (blank args) (arguments_row (depth + 1) kinds args all))))

  -- (_ divisible n) at a sum.

  abbrev Divisor : ℕ → List ℕ → List Tree → Type 0
  Divisor n = FirstAnd (IsLeaf Symbol (codes "_")) (FirstAnd (IsLeaf Symbol (codes "divisible")) (Only (IsLeaf Numeral (decimal n))))

  abbrev Divided : ℕ → List Kind → List TermId → List ℕ → List Tree → Type 0
  Divided n kinds args = FirstAnd (Within (Divisor n)) (AreSpelled kinds args)

  one_like : (ts : Terms) (id : TermId) → AreLike nodes ts (id ∷ []) → IsLike nodes (the_argument ts) id.0
  one_like none id all = absurd all
  one_like (more t ts) id all = all.0

  divisor_is : (n : ℕ) (text : List ℕ) (tree : Tree) → n < 2 ^ 63 → Within (Divisor n) text tree → spelled_head text [] tree ≡ Ok (Divisibility (Some n))
  divisor_is n text tree small (items, start, end, at, (mark, r1, e1, m, (word, r2, e2, w, (number, r3, e3, d, last)))) =
      let row : items ≡ mark ∷ word ∷ number ∷ [] = e1 ∙ ap (λ (l : List Tree). mark ∷ l) (e2 ∙ ap (λ (l : List Tree). word ∷ l) (e3 ∙ ap (λ (l : List Tree). number ∷ l) last)) in
      let numeral : Rattle.term_check.specs.Spelling.is_numeral_leaf number ≡ true = ap Rattle.term_check.specs.Spelling.is_numeral_leaf d.2 in
      ap (spelled_head text []) at ∙ head_of-List text [] items start end ∙ ap (list_head text start) row
      ∙ ap (λ t. cond (t && is_symbol text word (codes "divisible") && Rattle.term_check.specs.Spelling.is_numeral_leaf number) (Ok (Divisibility (numeral_value text number))) (Err (fault CommandForm start))) (word_is (codes "_") (codes "_") text mark m)
      ∙ ap (λ t. cond (t && Rattle.term_check.specs.Spelling.is_numeral_leaf number) (Ok (Divisibility (numeral_value text number))) (Err (fault CommandForm start))) (symbol_is (codes "divisible") (codes "divisible") text word w)
      ∙ ap (λ t. cond t (Ok (Divisibility (numeral_value text number))) (Err (fault CommandForm start))) numeral
      ∙ ap (λ o. Ok (Divisibility o)) (numeral_is n text number small d)

  divisor_fits : (n start : ℕ) → 0 < n → n < 2 ^ 63 → divisibility_fault start (Some n) ≡ None
  divisor_fits n start positive small = ap (λ t. cond t (Some (fault ZeroDivisor start)) (cond (nat_lt n (2 ^ 63)) None (Some (fault TooWide start)))) (not_0 n positive) ∙ ap (λ t. cond t None (Some (fault TooWide start))) (below_is n (2 ^ 63) small)
    where
      not_0 : (n : ℕ) → 0 < n → nat_eq n 0 ≡ false
      not_0 n h = grind arith

  divisible_is : (id n : ℕ) (arg : TermId) (constant : Option ℤ) → slice_get nodes id ≡ Some (Divisible (pos n) arg) → 0 < n → n < 2 ^ 63
      → (text : List ℕ) (tree : Tree) → Within (Divided n ((IntSort, constant) ∷ []) (arg ∷ [])) text tree → ReadsAs BoolSort None id text tree
  divisible_is id n arg constant is positive small text tree (items, start, end, at, (first, others, row, head, (many, all))) =
      let g = all (nothing_yet next) [] refl tt in
      let sorted : first_not IntSort g.last.parts ≡ None = ap (first_not IntSort) g.parts ∙ Rattle.answer_text.proofs.OperatorLemmas.all_of_sort IntSort g.starts ((IntSort, constant) ∷ []) (refl, tt) in
      let fits : divisible_fault (Some n) start g.last.parts ≡ None = ap (λ o. Rattle.term_check.specs.Rules.first_fault o (divisibility_fault start (Some n))) sorted ∙ divisor_fits n start positive small in
      let found : Spelled = record { term = divisible start n (the_argument g.last.terms); part = part_at start (BoolSort, None); next = g.last.next } in
      let list : applied_list text scope next start first others ≡ Ok found =
      ap (λ (r : Result Head Fault). r >>= λ h. unless (head_fault [] h start (length others)) (each_spelled text scope (nothing_yet next) others >>= application [] h start)) (divisor_is n text first small head)
      ∙ ap (λ (k : ℕ). unless (cond (nat_eq k 1) None (Some (fault Arity start))) (each_spelled text scope (nothing_yet next) others >>= application [] (Divisibility (Some n)) start)) many
      ∙ ap (λ (r : Result Gathered Fault). r >>= application [] (Divisibility (Some n)) start) g.is
      ∙ ap (λ o. unless o (spells (divisible start n (the_argument g.last.terms)) start BoolSort None g.last.next)) fits in
      record {
        found = found;
        is = ap (spelled text scope next) at ∙ spelled-List text scope next items start end ∙ ap (any_list text scope next start) row
            ∙ no_binder (is_word text first (codes "let")) (is_word text first (codes "forall")) (is_word text first (codes "exists")) _ _ _ _ (ap (λ (t : Tree). is_word text t (codes "let")) head.3)
            (ap (λ (t : Tree). is_word text t (codes "forall")) head.3) (ap (λ (t : Tree). is_word text t (codes "exists")) head.3)
            ∙ list;
        start = start;
        part = refl;
        next_is = g.next_is;
        like = (arg, is, one_like g.last.terms arg g.terms);
      }

  divided_text : (o m b w n c p : List ℕ) → (o ++ ((o ++ (m ++ (b ++ (w ++ (b ++ n)))) ++ c) ++ (b ++ p)) ++ c) ≡ ((o ++ (o ++ (m ++ (b ++ (w ++ b))))) ++ n ++ (c ++ b)) ++ p ++ c
  divided_text o m b w n c p = simp append_assoc

  pub divisible_reads : (depth id n : ℕ) (arg : TermId) (constant : Option ℤ) → depth + 1 < most_open → slice_get nodes id ≡ Some (Divisible (pos n) arg) → 0 < n → n < 2 ^ 63
      → Reads IntSort constant (depth + 1) arg.0 → Reads BoolSort None depth id
  divisible_reads depth id n arg constant below is positive small reads =
      let inner : List ℕ = codes "_" ++ (codes " " ++ (codes "divisible" ++ (codes " " ++ decimal n))) in
      let head : List ℕ = codes "(" ++ inner ++ codes ")" in
      let rest : List ℕ = arguments_text (arg ∷ []) in
      let same : rest ≡ codes " " ++ term_text nodes arg.0 = append-nil (codes " " ++ term_text nodes arg.0) in
      let whole : term_text nodes id ≡ codes "(" ++ (head ++ rest) ++ codes ")" =
      by_node id (Divisible (pos n) arg) is ∙ ap (λ (l : List ℕ). codes "((_ divisible " ++ l ++ codes ") " ++ term_text nodes arg.0 ++ codes ")") (plain_text n)
      ∙ sym (divided_text (codes "(") (codes "_") (codes " ") (codes "divisible") (decimal n) (codes ")") (term_text nodes arg.0))
      ∙ ap (λ (l : List ℕ). codes "(" ++ (head ++ l) ++ codes ")") (sym same) in
      subst (λ (l : List ℕ). Shows (ReadsAs BoolSort None id) depth l) (sym whole)
      (shows_same (Within (Divided n ((IntSort, constant) ∷ []) (arg ∷ []))) (ReadsAs BoolSort None id) depth (codes "(" ++ (head ++ rest) ++ codes ")") (divisible_is id n arg constant is positive small)
      (shows_list (Divided n ((IntSort, constant) ∷ []) (arg ∷ [])) depth (head ++ rest) (omega (arith, below))
      (row_more (Within (Divisor n)) (AreSpelled ((IntSort, constant) ∷ []) (arg ∷ [])) (depth + 1) head rest
      (shows_list (Divisor n) (depth + 1) inner below
      (row_spaced _ _ (depth + 1 + 1) (codes "_") (codes "divisible" ++ (codes " " ++ decimal n)) (shows_symbol (depth + 1 + 1) 95 [] refl refl)
      (row_spaced _ _ (depth + 1 + 1) (codes "divisible") (decimal n) (shows_symbol (depth + 1 + 1) 100 (codes "ivisible") refl refl)
      (row_last (IsLeaf Numeral (decimal n)) (depth + 1 + 1) (decimal n) (shows_numeral (depth + 1 + 1) n small)))))
      refl (arguments_row (depth + 1) ((IntSort, constant) ∷ []) (arg ∷ []) (reads, tt)))))
