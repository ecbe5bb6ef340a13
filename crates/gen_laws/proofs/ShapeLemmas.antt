-- The terms of a generated script as shapes: their text, and what it says as a tree wherever it stands.
use Rattle.std.proofs.Common.{ℕ, suc, ℤ, pos, ◌≡◌, ◌+◌, ◌^◌, ◌<◌, List, [], ◌∷◌, ◌++◌, length, Bool, true, false, cond, ◌&&◌, Option, Some, None, Result, Ok, Err, refl, sym, ap, subst, ◌∙◌, arith, append_assoc, append-nil, codes, decimal, nat_eq, bytes_eq}
use Rattle.std.specs.List.{list_all}
use Rattle.base.specs.Bytes.{is_digit, is_symbol_byte}
use Rattle.base.specs.Numeral.{number_of}
use Rattle.sexp_read.specs.declared.tree.LeafKind.TheVariants.{Symbol, Numeral}
use Rattle.sexp_read.specs.declared.tree.Tree.{Tree}
use Rattle.sexp_read.specs.Leaves.{short_number}
use Rattle.sexp_read.specs.Trees.{most_open}
use Rattle.term_tree.specs.declared.sort.Sort.{Sort}
use Rattle.term_tree.specs.declared.sort.Sort.TheVariants.{Int as IntSort, Bool as BoolSort}
use Rattle.term_tree.specs.declared.node.OpKind.{OpKind}
use Rattle.term_tree.specs.declared.node.OpKind.TheVariants.{Add, Mul}
use Rattle.term_tree.specs.declared.refusal.Kind.TheVariants.{UnknownSymbol, Arity}
use Rattle.term_check.specs.declared.head.Head.{Head}
use Rattle.term_check.specs.declared.head.Head.TheVariants.{Operator, Declared}
use Rattle.term_check.specs.declared.part.Part.{Part}
use Rattle.term_check.specs.declared.part.Fault.{Fault}
use Rattle.term_check.specs.declared.atom.Atom.{Atom}
use Rattle.term_check.specs.declared.atom.Atom.TheVariants.{Number, BoundVariable}
use Rattle.term_check.specs.declared.scope.Bound.TheVariants.{Variable}
use Rattle.term_check.specs.declared.scope.Named.{Named}
use Rattle.term_check.specs.Words.{is_word_among, reserved_words}
use Rattle.term_check.specs.Operators.{operator_named}
use Rattle.term_check.specs.Rules.{fault, unless, number_fault, applied, declared_fault}
use Rattle.term_check.specs.machinery.Reading.{next_spelled, each_spelled, applied_list, any_list}
use Rattle.term_check.specs.Spelling.{SpellingScope, Spelled, Gathered, ◌>>=◌, is_word, bound_to, bound_symbol, symbol_atom, numeral_if_short, numeral_atom, spelled_atom, operator_or, spelled_head, head_fault, with_part, application, spells, with_spelled, nothing_yet, spelled, scope_of}
use Rattle.term_check.specs.Term.{Term, Terms, numeral, variable, predicate, operation, none, more, with_last}
use Rattle.term_check.proofs.Public.{below_is, spelled-List}
use Rattle.clause_gen.specs.Generated.{generated_preds}
use Rattle.answer_text.specs.Terms.{operator_word}
use Rattle.answer_text.proofs.DecimalLemmas.{decimal_is}
use Rattle.answer_text.proofs.OperatorLemmas.{Kind, part_at, parts_at, Takes, Counts, shows_operator, operator_is}
use Rattle.answer_text.proofs.PieceLemmas.{ends_word}
use Rattle.answer_text.proofs.ShowLemmas.{Shows, ShowsRow, FirstAnd, Within, IsLeaf, shows_same, row_same, row_none, row_more, row_behind, shows_list}
use Rattle.answer_text.proofs.SpellLemmas.{shows_symbol, short_number_is, shows_numeral}
use Rattle.answer_text.proofs.TermShowLemmas.{word_is}

mutual
  -- a numeral, a variable by its number and its letter, an atom of the predicate, an operator at arguments
  pub data Shape : Type 0 where
    amount : ℕ → Shape
    letter : ℕ → ℕ → Shape
    atom : Shapes → Shape
    apply : OpKind → Shapes → Shape

  pub data Shapes : Type 0 where
    no_shape : Shapes
    one_more : Shape → Shapes → Shapes

abbrev pub result_of : OpKind → Sort
result_of Add = IntSort
result_of Mul = IntSort
result_of _ = BoolSort

abbrev pub kind_of : Shape → Kind
kind_of (amount n) = (IntSort, Some (pos n))
kind_of (letter k b) = (IntSort, None)
kind_of (atom args) = (BoolSort, None)
kind_of (apply op args) = (result_of op, None)

abbrev pub kinds_of : Shapes → List Kind
kinds_of no_shape = []
kinds_of (one_more s ss) = kind_of s ∷ kinds_of ss

abbrev pub count : Shapes → ℕ
count no_shape = 0
count (one_more s ss) = suc (count ss)

abbrev mutual
  pub text_of : Shape → List ℕ
  text_of (amount n) = decimal n
  text_of (letter k b) = b ∷ []
  text_of (atom args) = codes "(" ++ (codes "node" ++ args_text args) ++ codes ")"
  text_of (apply op args) = codes "(" ++ (operator_word op ++ args_text args) ++ codes ")"

  pub args_text : Shapes → List ℕ
  args_text no_shape = []
  args_text (one_more s ss) = codes " " ++ (text_of s ++ args_text ss)

-- the term is of this shape, wherever it stands in the text
abbrev mutual
  pub Fits : Shape → Term → Type 0
  Fits (amount n) t = (at : ℕ) × (t ≡ numeral at (pos n))
  Fits (letter k b) t = (at : ℕ) × (t ≡ variable at k IntSort)
  Fits (atom args) t = (at : ℕ) × (ts : Terms) × (t ≡ predicate at 0 ts) × AllFit args ts
  Fits (apply op args) t = (at : ℕ) × (ts : Terms) × (t ≡ operation at op ts) × AllFit args ts

  pub AllFit : Shapes → Terms → Type 0
  AllFit no_shape ts = ts ≡ none
  AllFit (one_more s ss) ts = (u : Term) × (us : Terms) × (ts ≡ more u us) × Fits s u × AllFit ss us

-- one list of terms behind another
abbrev after : Terms → Terms → Terms
after none us = us
after (more t ts) us = more t (after ts us)

after_none : (ts : Terms) → ts ≡ after ts none
after_none none = refl
after_none (more t ts) = ap (more t) (after_none ts)

after_last : (ts us : Terms) (t : Term) → after (with_last ts t) us ≡ after ts (more t us)
after_last none us t = refl
after_last (more u ts) us t = ap (more u) (after_last ts us t)

no_binder : {A : Type 0} (a b c : Bool) (x y z w : A) → a ≡ false → b ≡ false → c ≡ false → cond a x (cond b y (cond c z w)) ≡ w
no_binder false false false x y z w h k l = refl
no_binder true b c x y z w h k l = absurd (cc)
no_binder false true c x y z w h k l = absurd (cc)
no_binder false false true x y z w h k l = absurd (cc)

module _ (names : List Named) (next : ℕ) where
  abbrev scope : SpellingScope
  scope = scope_of generated_preds names true

  -- shapes whose text is read, inside so many open lists
  abbrev mutual
    pub Fine : ℕ → Shape → Type 0
    Fine depth (amount n) = n < 2 ^ 63
    Fine depth (letter k b) = (bound_to (b ∷ []) names ≡ Some (Variable k IntSort)) × (is_digit b ≡ false) × (list_all is_symbol_byte (b ∷ []) ≡ true) × (is_word_among reserved_words (b ∷ []) ≡ false)
    Fine depth (atom args) =
        (depth < most_open) × (count args ≡ 2) × ((starts : List ℕ) → length starts ≡ length (kinds_of args) → declared_fault (IntSort ∷ IntSort ∷ []) (parts_at starts (kinds_of args)) ≡ None)
        × AllFine (depth + 1) args
    Fine depth (apply op args) = (depth < most_open) × Counts op (count args) × Takes op (kinds_of args) (result_of op, None) × AllFine (depth + 1) args

    pub AllFine : ℕ → Shapes → Type 0
    AllFine depth no_shape = Unit {0}
    AllFine depth (one_more s ss) = Fine depth s × AllFine depth ss

  -- the tree spells a term of this shape
  pub record ReadsAs (s : Shape) (text : List ℕ) (tree : Tree) : Type 0 where
    pub found : Spelled
    pub is : spelled text scope next tree ≡ Ok found
    pub start : ℕ
    pub part : found.part ≡ part_at start (kind_of s)
    pub next_is : found.next ≡ next
    pub fits : Fits s found.term

  -- Leaves.

  amount_reads : (depth n : ℕ) → n < 2 ^ 63 → Shows (ReadsAs (amount n)) depth (decimal n)
  amount_reads depth n fits = shows_same (IsLeaf Numeral (decimal n)) (ReadsAs (amount n)) depth (decimal n) reads (shows_numeral depth n fits)
    where
      reads : (text : List ℕ) (tree : Tree) → IsLeaf Numeral (decimal n) text tree → ReadsAs (amount n) text tree
      reads text tree leaf =
          let value : numeral_if_short (short_number (number_of (decimal n))) ≡ Some (pos n) =
          ap (λ k. numeral_if_short (short_number k)) (decimal_is n (omega arith)).value ∙ ap numeral_if_short (short_number_is n fits) ∙ ap (λ t. cond t (Some (pos n)) None) (below_is n (2 ^ 63) fits) in
          record {
            found = spelled_atom next leaf.0 (Number (pos n));
            is = ap (spelled text scope next) leaf.2 ∙ ap (λ (bytes : List ℕ). numeral_atom leaf.0 (numeral_if_short (short_number (number_of bytes))) >>= λ a. Ok (spelled_atom next leaf.0 a)) leaf.3
                ∙ ap (λ o. numeral_atom leaf.0 o >>= λ a. Ok (spelled_atom next leaf.0 a)) value;
            start = leaf.0;
            part = refl;
            next_is = refl;
            fits = (leaf.0, refl);
          }

  letter_reads : (depth k b : ℕ) → Fine depth (letter k b) → Shows (ReadsAs (letter k b)) depth (b ∷ [])
  letter_reads depth k b (bound, sign, symbol, free) = shows_same (IsLeaf Symbol (b ∷ [])) (ReadsAs (letter k b)) depth (b ∷ []) reads (shows_symbol depth b [] sign symbol)
    where
      reads : (text : List ℕ) (tree : Tree) → IsLeaf Symbol (b ∷ []) text tree → ReadsAs (letter k b) text tree
      reads text tree leaf = record {
        found = spelled_atom next leaf.0 (BoundVariable k IntSort);
        is = ap (spelled text scope next) leaf.2
            ∙ ap (λ (bytes : List ℕ). (cond (is_word_among reserved_words bytes) (Err (fault UnknownSymbol leaf.0)) (symbol_atom generated_preds names leaf.0 bytes)) >>= λ a. Ok (spelled_atom next leaf.0 a)) leaf.3
            ∙ ap (λ t. (cond t (Err (fault UnknownSymbol leaf.0)) (symbol_atom generated_preds names leaf.0 (b ∷ []))) >>= λ a. Ok (spelled_atom next leaf.0 a)) free
            ∙ ap (λ o. bound_symbol generated_preds leaf.0 (b ∷ []) o >>= λ a. Ok (spelled_atom next leaf.0 a)) bound;
        start = leaf.0;
        part = refl;
        next_is = refl;
        fits = (leaf.0, refl);
      }

  -- Arguments.

  -- what is gathered behind what came before
  record Gathers (args : Shapes) (text : List ℕ) (trees : List Tree) (g : Gathered) : Type 0 where
    pub last : Gathered
    pub is : each_spelled text scope g trees ≡ Ok last
    pub next_is : last.next ≡ next
    pub starts : List ℕ
    pub many : length starts ≡ length (kinds_of args)
    pub parts : last.parts ≡ g.parts ++ parts_at starts (kinds_of args)
    pub new : Terms
    pub terms : last.terms ≡ after g.terms new
    pub fit : AllFit args new

  abbrev AreSpelled : Shapes → List ℕ → List Tree → Type 0
  AreSpelled args text trees = (length trees ≡ count args) × ((g : Gathered) → g.next ≡ next → Gathers args text trees g)

  none_spelled : (text : List ℕ) → AreSpelled no_shape text []
  none_spelled text = (
    refl,
    λ g now. record {
      last = g;
      is = refl;
      next_is = now;
      starts = [];
      many = refl;
      parts = sym (append-nil g.parts);
      new = none;
      terms = after_none g.terms;
      fit = refl;
    },
  )

  more_spelled : (s : Shape) (args : Shapes) (text : List ℕ) (trees : List Tree) → FirstAnd (ReadsAs s) (AreSpelled args) text trees → AreSpelled (one_more s args) text trees
  more_spelled s args text trees (first, others, row, r, (many, all)) = (ap length row ∙ ap suc many, by)
    where
      by : (g : Gathered) → g.next ≡ next → Gathers (one_more s args) text trees g
      by g now =
          let h : Gathered = with_spelled g r.found in
          let rest = all h r.next_is in
          let one : next_spelled text scope g first ≡ Ok h = ap (λ (n : ℕ). spelled text scope n first >>= λ x. Ok (with_spelled g x)) now ∙ ap (λ (o : Result Spelled Fault). o >>= λ x. Ok (with_spelled g x)) r.is in
          record {
            last = rest.last;
            is = ap (each_spelled text scope g) row ∙ ap (λ (o : Result Gathered Fault). o >>= λ x. each_spelled text scope x others) one ∙ rest.is;
            next_is = rest.next_is;
            starts = r.start ∷ rest.starts;
            many = ap suc rest.many;
            parts = rest.parts ∙ ap (λ (p : Part). (g.parts ++ p ∷ []) ++ parts_at rest.starts (kinds_of args)) r.part ∙ append_assoc g.parts (part_at r.start (kind_of s) ∷ []) (parts_at rest.starts (kinds_of args));
            new = more r.found.term rest.new;
            terms = rest.terms ∙ after_last g.terms rest.new r.found.term;
            fit = (r.found.term, rest.new, refl, r.fits, rest.fit);
          }

  blank : (args : Shapes) → ends_word (args_text args) ≡ true
  blank no_shape = refl
  blank (one_more s ss) = refl

  -- Applications.

  -- a list whose head is no word that binds
  plain_list : (text : List ℕ) (tree : Tree) (word : List ℕ) (items : List Tree) (start end : ℕ) (first : Tree) (others : List Tree) → tree ≡ Rattle.sexp_read.specs.declared.tree.Tree.TheViews.List items start end
      → items ≡ first ∷ others → IsLeaf Symbol word text first → bytes_eq word (codes "let") ≡ false → bytes_eq word (codes "forall") ≡ false → bytes_eq word (codes "exists") ≡ false
      → spelled text scope next tree ≡ applied_list text scope next start first others
  plain_list text tree word items start end first others at row leaf a b c =
      ap (spelled text scope next) at ∙ spelled-List text scope next items start end ∙ ap (any_list text scope next start) row
      ∙ no_binder (is_word text first (codes "let")) (is_word text first (codes "forall")) (is_word text first (codes "exists")) _ _ _ _ (word_is word (codes "let") text first leaf ∙ a)
      (word_is word (codes "forall") text first leaf ∙ b) (word_is word (codes "exists") text first leaf ∙ c)

  operation_is : (op : OpKind) (args : Shapes) → Counts op (count args) → Takes op (kinds_of args) (result_of op, None)
      → (text : List ℕ) (tree : Tree) → Within (FirstAnd (IsLeaf Symbol (operator_word op)) (AreSpelled args)) text tree → ReadsAs (apply op args) text tree
  operation_is op args counts takes text tree (items, start, end, at, (first, others, row, leaf, (many, all))) =
      let word = operator_is op in
      let g = all (nothing_yet next) refl in
      let head : spelled_head text generated_preds first ≡ Ok (Operator op) =
      ap (spelled_head text generated_preds) leaf.2
      ∙ ap (λ (b : List ℕ). cond (is_word_among reserved_words b) (Err (fault UnknownSymbol leaf.0)) (operator_or generated_preds leaf.0 b (operator_named b))) leaf.3
      ∙ ap (λ t. cond t (Err (fault UnknownSymbol leaf.0)) (operator_or generated_preds leaf.0 (operator_word op) (operator_named (operator_word op)))) word.3
      ∙ ap (operator_or generated_preds leaf.0 (operator_word op)) word.4 in
      let fits : number_fault op start (length others) ≡ None = ap (number_fault op start) many ∙ counts start in
      let part : applied op start g.last.parts ≡ Ok (part_at start (result_of op, None)) = ap (applied op start) g.parts ∙ takes start g.starts g.many in
      let found : Spelled = record { term = operation start op g.last.terms; part = part_at start (result_of op, None); next = g.last.next } in
      let list : applied_list text scope next start first others ≡ Ok found =
      ap (λ (r : Result Head Fault). r >>= λ h. unless (head_fault generated_preds h start (length others)) (each_spelled text scope (nothing_yet next) others >>= application generated_preds h start)) head
      ∙ ap (λ o. unless o (each_spelled text scope (nothing_yet next) others >>= application generated_preds (Operator op) start)) fits
      ∙ ap (λ (r : Result Gathered Fault). r >>= application generated_preds (Operator op) start) g.is
      ∙ ap (with_part (operation start op g.last.terms) g.last.next) part in
      record {
        found = found;
        is = plain_list text tree (operator_word op) items start end first others at row leaf word.0 word.1 word.2 ∙ list;
        start = start;
        part = refl;
        next_is = g.next_is;
        fits = (start, g.last.terms, refl, subst (AllFit args) (sym g.terms) g.fit);
      }

  atom_is : (args : Shapes) → count args ≡ 2 → ((starts : List ℕ) → length starts ≡ length (kinds_of args) → declared_fault (IntSort ∷ IntSort ∷ []) (parts_at starts (kinds_of args)) ≡ None)
      → (text : List ℕ) (tree : Tree) → Within (FirstAnd (IsLeaf Symbol (codes "node")) (AreSpelled args)) text tree → ReadsAs (atom args) text tree
  atom_is args two sorted text tree (items, start, end, at, (first, others, row, leaf, (many, all))) =
      let g = all (nothing_yet next) refl in
      let head : spelled_head text generated_preds first ≡ Ok (Declared 0) =
      ap (spelled_head text generated_preds) leaf.2
      ∙ ap (λ (b : List ℕ). cond (is_word_among reserved_words b) (Err (fault UnknownSymbol leaf.0)) (operator_or generated_preds leaf.0 b (operator_named b))) leaf.3 in
      let found : Spelled = record { term = predicate start 0 g.last.terms; part = part_at start (BoolSort, None); next = g.last.next } in
      let list : applied_list text scope next start first others ≡ Ok found =
      ap (λ (r : Result Head Fault). r >>= λ h. unless (head_fault generated_preds h start (length others)) (each_spelled text scope (nothing_yet next) others >>= application generated_preds h start)) head
      ∙ ap (λ (n : ℕ). unless (cond (nat_eq n 2) None (Some (fault Arity start))) (each_spelled text scope (nothing_yet next) others >>= application generated_preds (Declared 0) start)) (many ∙ two)
      ∙ ap (λ (r : Result Gathered Fault). r >>= application generated_preds (Declared 0) start) g.is
      ∙ ap (λ o. unless o (spells (predicate start 0 g.last.terms) start BoolSort None g.last.next)) (ap (declared_fault (IntSort ∷ IntSort ∷ [])) g.parts ∙ sorted g.starts g.many) in
      record {
        found = found;
        is = plain_list text tree (codes "node") items start end first others at row leaf refl refl refl ∙ list;
        start = start;
        part = refl;
        next_is = g.next_is;
        fits = (start, g.last.terms, refl, subst (AllFit args) (sym g.terms) g.fit);
      }

  mutual
    pub reads : (depth : ℕ) (s : Shape) → Fine depth s → Shows (ReadsAs s) depth (text_of s)
    reads depth (amount n) fine = amount_reads depth n fine
    reads depth (letter k b) fine = letter_reads depth k b fine
    reads depth (atom args) (below, two, sorted, all) =
        shows_same (Within (FirstAnd (IsLeaf Symbol (codes "node")) (AreSpelled args))) (ReadsAs (atom args)) depth (codes "(" ++ (codes "node" ++ args_text args) ++ codes ")") (atom_is args two sorted)
        (shows_list (FirstAnd (IsLeaf Symbol (codes "node")) (AreSpelled args)) depth (codes "node" ++ args_text args) below
        (row_more (IsLeaf Symbol (codes "node")) (AreSpelled args) (depth + 1) (codes "node") (args_text args) (shows_symbol (depth + 1) 110 (codes "ode") refl refl) (blank args) (row_reads (depth + 1) args all)))
    reads depth (apply op args) (below, counts, takes, all) =
        shows_same (Within (FirstAnd (IsLeaf Symbol (operator_word op)) (AreSpelled args))) (ReadsAs (apply op args)) depth (codes "(" ++ (operator_word op ++ args_text args) ++ codes ")") (operation_is op args counts takes)
        (shows_list (FirstAnd (IsLeaf Symbol (operator_word op)) (AreSpelled args)) depth (operator_word op ++ args_text args) below
        (row_more (IsLeaf Symbol (operator_word op)) (AreSpelled args) (depth + 1) (operator_word op) (args_text args) (shows_operator (depth + 1) op) (blank args) (row_reads (depth + 1) args all)))

    row_reads : (depth : ℕ) (args : Shapes) → AllFine depth args → ShowsRow (AreSpelled args) depth (args_text args)
    row_reads depth no_shape all = row_none (AreSpelled no_shape) depth none_spelled
    row_reads depth (one_more s args) (fine, all) =
        row_behind (AreSpelled (one_more s args)) depth (codes " ") (text_of s ++ args_text args) refl
        (row_same (FirstAnd (ReadsAs s) (AreSpelled args)) (AreSpelled (one_more s args)) depth (text_of s ++ args_text args) (more_spelled s args)
        (row_more (ReadsAs s) (AreSpelled args) depth (text_of s) (args_text args) (reads depth s fine) (blank args) (row_reads depth args all)))
