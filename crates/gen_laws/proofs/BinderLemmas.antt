-- Terms under `(forall ((d Int) (i Int)) ..)`, and asserted terms.
use Rattle.std.proofs.Common.{ℕ, ◌≡◌, ◌+◌, ◌<◌, List, [], ◌∷◌, ◌++◌, length, Bool, true, false, cond, not, ◌||◌, ◌&&◌, Option, Some, None, Result, Ok, Err, refl, ap, ◌∙◌, arith, codes, nat_eq, bytes_eq}
use Rattle.std.specs.List.{list_all}
use Rattle.sexp_read.specs.declared.tree.LeafKind.TheVariants.{Symbol}
use Rattle.sexp_read.specs.declared.tree.Tree.{Tree, items_hidden-the_row-Tree-0}
use Rattle.sexp_read.specs.Trees.{most_open}
use Rattle.term_tree.specs.declared.sort.Sort.{Sort}
use Rattle.term_tree.specs.declared.sort.Sort.TheVariants.{Int as IntSort, Bool as BoolSort}
use Rattle.term_tree.specs.declared.refusal.Kind.TheVariants.{CommandForm, UnknownSort, Redeclared, SortMismatch}
use Rattle.term_tree.specs.Sorts.{same_sort}
use Rattle.term_check.specs.declared.part.Part.{Part}
use Rattle.term_check.specs.declared.part.Fault.{Fault}
use Rattle.term_check.specs.declared.scope.Bound.TheVariants.{Variable}
use Rattle.term_check.specs.declared.scope.Named.{Named}
use Rattle.term_check.specs.Words.{is_word_among}
use Rattle.term_check.specs.Rules.{fault, unless, first_fault}
use Rattle.term_check.specs.machinery.Reading.{any_list, quantifier_list, under_variables}
use Rattle.term_check.specs.Spelling.{SpellingScope, Spelled, ◌>>=◌, is_some, is_symbol, is_word, items_of, first_name, name_of, name_or_none, name_start, sort_in, sort_named, sort_or_bool, sort_start, read_by, first_in, second_in, start_of, binder_fault, names_fault, variables_fault, sorts_bound, with_read_variables, quantified, quantifier, spelled, scope_of}
use Rattle.term_check.specs.Term.{Term, universal}
use Rattle.term_check.proofs.Public.{spelled-List}
use Rattle.clause_gen.specs.Generated.{generated_preds}
use Rattle.answer_text.proofs.OperatorLemmas.{part_at}
use Rattle.answer_text.proofs.ShowLemmas.{Shows, ShowsRow, FirstAnd, Within, IsLeaf, shows_same, shows_list}
use Rattle.answer_text.proofs.SpellLemmas.{Only, row_last, row_spaced, shows_symbol, IsNamed, shows_bare, named_is}
use Rattle.answer_text.proofs.TermShowLemmas.{word_is}
use Rattle.gen_laws.proofs.ShapeLemmas.{Shape, text_of, kind_of, Fits, Fine, ReadsAs, reads}

-- (d Int)

abbrev Parts : ℕ → List ℕ → List Tree → Type 0
Parts b = FirstAnd (IsNamed (b ∷ [])) (Only (IsNamed (codes "Int")))

-- a variable of that letter, of the sort of integers
record IsVariable (b : ℕ) (text : List ℕ) (item : Tree) : Type 0 where
  pub two : length (items_of item) ≡ 2
  pub name : first_name text item ≡ Some (b ∷ [])
  pub sort : sort_in text item ≡ Some IntSort

variable_is : (b : ℕ) (text : List ℕ) (item : Tree) → Within (Parts b) text item → IsVariable b text item
variable_is b text item (items, start, end, at, (name, others, row, n, (sort, none, only, s, last))) =
    let both : items_of item ≡ name ∷ sort ∷ [] =
    ap items_of at ∙ items_hidden-the_row-Tree-0 items ∙ row ∙ ap (λ (l : List Tree). name ∷ l) (only ∙ ap (λ (l : List Tree). sort ∷ l) last) in
    let int : sort_named text sort ≡ Some IntSort =
    ap (λ t. cond t (Some IntSort) (cond (is_symbol text sort (codes "Bool")) (Some BoolSort) None)) (named_is (codes "Int") (codes "Int") text sort s) in
    record {
      two = ap length both;
      name = ap (λ (l : List Tree). read_by (name_of text) (first_in l)) both ∙ n.4;
      sort = ap (λ (l : List Tree). read_by (sort_named text) (second_in l)) both ∙ int;
    }

shows_d : (depth : ℕ) → depth < most_open → Shows (IsVariable 100) depth (codes "(d Int)")
shows_d depth below =
    shows_same (Within (Parts 100)) (IsVariable 100) depth (codes "(d Int)") (variable_is 100)
    (shows_list (Parts 100) depth (codes "d Int") below
    (row_spaced (IsNamed (codes "d")) (Only (IsNamed (codes "Int"))) (depth + 1) (codes "d") (codes "Int") (shows_bare (depth + 1) (codes "d") refl refl refl)
    (row_last (IsNamed (codes "Int")) (depth + 1) (codes "Int") (shows_bare (depth + 1) (codes "Int") refl refl refl))))

shows_i : (depth : ℕ) → depth < most_open → Shows (IsVariable 105) depth (codes "(i Int)")
shows_i depth below =
    shows_same (Within (Parts 105)) (IsVariable 105) depth (codes "(i Int)") (variable_is 105)
    (shows_list (Parts 105) depth (codes "i Int") below
    (row_spaced (IsNamed (codes "i")) (Only (IsNamed (codes "Int"))) (depth + 1) (codes "i") (codes "Int") (shows_bare (depth + 1) (codes "i") refl refl refl)
    (row_last (IsNamed (codes "Int")) (depth + 1) (codes "Int") (shows_bare (depth + 1) (codes "Int") refl refl refl))))

-- ((d Int) (i Int))

abbrev pub names : List Named
names =
    record { name = record { bytes = codes "d" }; bound = Variable 0 IntSort } ∷ record { name = record { bytes = codes "i" }; bound = Variable 1 IntSort } ∷ []

abbrev outer : SpellingScope
outer = scope_of generated_preds [] true

abbrev inner : SpellingScope
inner = scope_of generated_preds names true

record IsBinder (text : List ℕ) (binder : Tree) : Type 0 where
  pub form : binder_fault text binder ≡ None
  pub free : variables_fault text [] (items_of binder) ≡ None
  pub scope : with_read_variables text outer 0 (items_of binder) ≡ inner
  pub two : length (items_of binder) ≡ 2
  pub sorts : sorts_bound text (items_of binder) ≡ IntSort ∷ IntSort ∷ []

binder_is : (text : List ℕ) (binder : Tree) → Within (FirstAnd (IsVariable 100) (Only (IsVariable 105))) text binder → IsBinder text binder
binder_is text binder (items, start, end, at, (p, others, row, d, (q, none, only, i, last))) =
    let both : items_of binder ≡ p ∷ q ∷ [] =
    ap items_of at ∙ items_hidden-the_row-Tree-0 items ∙ row ∙ ap (λ (l : List Tree). p ∷ l) (only ∙ ap (λ (l : List Tree). q ∷ l) last) in
    let named : (m n : ℕ) → Option (List ℕ) → Option (List ℕ) → Option Fault =
    λ m n o u. cond (not (nat_eq m 2 && (nat_eq n 2 && true))) (Some (fault CommandForm (start_of binder))) (cond (is_some o) (cond (is_some u) None (Some (fault CommandForm (name_start q)))) (Some (fault CommandForm (name_start p)))) in
    let repeats : (seen : List (List ℕ)) → Tree → Option (List ℕ) → Option Fault = λ seen item o. cond (is_word_among seen (name_or_none o)) (Some (fault Redeclared (name_start item))) None in
    let sorted : Tree → Option Sort → Option Fault = λ item o. cond (is_some o) None (Some (fault UnknownSort (sort_start item))) in
    let frees : Option (List ℕ) → Option (List ℕ) → Option Sort → Option Sort → Option Fault =
    λ o u s r. first_fault (repeats [] p o) (first_fault (sorted p s) (first_fault (repeats (name_or_none o ∷ []) q u) (first_fault (sorted q r) None))) in
    let bound : Option (List ℕ) → Option (List ℕ) → Option Sort → Option Sort → SpellingScope =
    λ o u s r. scope_of generated_preds (record { name = record { bytes = name_or_none o }; bound = Variable 0 (sort_or_bool s) } ∷ record { name = record { bytes = name_or_none u }; bound = Variable 1 (sort_or_bool r) } ∷ []) true in
    record {
      form = ap (λ (l : List Tree). cond (nat_eq (length l) 0 || not (list_all (λ item. nat_eq (length (items_of item)) 2) l)) (Some (fault CommandForm (start_of binder))) (names_fault text l)) both
          ∙ ap (λ (m : ℕ). named m (length (items_of q)) (first_name text p) (first_name text q)) d.two ∙ ap (λ (n : ℕ). named 2 n (first_name text p) (first_name text q)) i.two
          ∙ ap (λ o. named 2 2 o (first_name text q)) d.name ∙ ap (named 2 2 (Some (codes "d"))) i.name;
      free = ap (variables_fault text []) both ∙ ap (λ o. frees o (first_name text q) (sort_in text p) (sort_in text q)) d.name ∙ ap (λ o. frees (Some (codes "d")) o (sort_in text p) (sort_in text q)) i.name
          ∙ ap (λ o. frees (Some (codes "d")) (Some (codes "i")) o (sort_in text q)) d.sort ∙ ap (frees (Some (codes "d")) (Some (codes "i")) (Some IntSort)) i.sort;
      scope = ap (with_read_variables text outer 0) both ∙ ap (λ o. bound o (first_name text q) (sort_in text p) (sort_in text q)) d.name ∙ ap (λ o. bound (Some (codes "d")) o (sort_in text p) (sort_in text q)) i.name
          ∙ ap (λ o. bound (Some (codes "d")) (Some (codes "i")) o (sort_in text q)) d.sort ∙ ap (bound (Some (codes "d")) (Some (codes "i")) (Some IntSort)) i.sort;
      two = ap length both;
      sorts = ap (sorts_bound text) both ∙ ap (λ o. sort_or_bool o ∷ sort_or_bool (sort_in text q) ∷ []) d.sort ∙ ap (λ o. IntSort ∷ sort_or_bool o ∷ []) i.sort;
    }

abbrev pub binder_text : List ℕ
binder_text = codes "((d Int) (i Int))"

shows_binder : (depth : ℕ) → depth + 1 < most_open → Shows IsBinder depth binder_text
shows_binder depth below =
    shows_same (Within (FirstAnd (IsVariable 100) (Only (IsVariable 105)))) IsBinder depth binder_text binder_is
    (shows_list (FirstAnd (IsVariable 100) (Only (IsVariable 105))) depth (codes "(d Int) (i Int)") (omega (arith, below))
    (row_spaced (IsVariable 100) (Only (IsVariable 105)) (depth + 1) (codes "(d Int)") (codes "(i Int)") (shows_d (depth + 1) below)
    (row_last (IsVariable 105) (depth + 1) (codes "(i Int)") (shows_i (depth + 1) below))))

-- A whole term.

-- the tree spells a term of the sort of truth values, of which this is so, where no variable is bound
pub record Asserted (P : Term → Type 0) (text : List ℕ) (tree : Tree) : Type 0 where
  pub found : Spelled
  pub is : spelled text outer 0 tree ≡ Ok found
  pub start : ℕ
  pub part : found.part ≡ part_at start (BoolSort, None)
  pub holds : P found.term

-- for all d and i, a term of this shape
abbrev pub ForAll : Shape → Term → Type 0
ForAll body t = (at : ℕ) × (b : Term) × (t ≡ universal at 0 (IntSort ∷ IntSort ∷ []) b) × Fits body b

universal_is : (body : Shape) → kind_of body ≡ (BoolSort, None) → (text : List ℕ) (tree : Tree)
    → Within (FirstAnd (IsLeaf Symbol (codes "forall")) (FirstAnd IsBinder (Only (ReadsAs names 2 body)))) text tree → Asserted (ForAll body) text tree
universal_is body truth text tree (items, start, end, at, (word, r1, row, leaf, (binder, r2, e2, b, (inside, r3, e3, r, last)))) =
    let whole : items ≡ word ∷ binder ∷ inside ∷ [] = row ∙ ap (λ (l : List Tree). word ∷ l) (e2 ∙ ap (λ (l : List Tree). binder ∷ l) (e3 ∙ ap (λ (l : List Tree). inside ∷ l) last)) in
    let found : Spelled = record { term = universal start 0 (IntSort ∷ IntSort ∷ []) r.found.term; part = part_at start (BoolSort, None); next = r.found.next } in
    let part : r.found.part ≡ part_at r.start (BoolSort, None) = r.part ∙ ap (part_at r.start) truth in
    let closes : (s : Spelled) → Result Spelled Fault = λ s. quantified (universal start 0 (IntSort ∷ IntSort ∷ [])) start s in
    let done : closes r.found ≡ Ok found =
    ap (λ (p : Part). cond (same_sort p.sort BoolSort) (Rattle.term_check.specs.Spelling.spells (universal start 0 (IntSort ∷ IntSort ∷ []) r.found.term) start BoolSort None r.found.next) (Err (fault SortMismatch p.start))) part in
    let list : quantifier_list text outer 0 start true (binder ∷ inside ∷ []) ≡ Ok found =
    ap (λ o. unless o (unless (variables_fault text [] (items_of binder)) (under_variables text outer 0 start true (items_of binder) inside))) b.form
    ∙ ap (λ o. unless o (under_variables text outer 0 start true (items_of binder) inside)) b.free
    ∙ ap (λ (s : SpellingScope). spelled text s (0 + length (items_of binder)) inside >>= λ x. quantified (quantifier true start 0 (sorts_bound text (items_of binder))) start x) b.scope
    ∙ ap (λ (n : ℕ). spelled text inner (0 + n) inside >>= λ x. quantified (quantifier true start 0 (sorts_bound text (items_of binder))) start x) b.two
    ∙ ap (λ (l : List Sort). spelled text inner 2 inside >>= λ x. quantified (quantifier true start 0 l) start x) b.sorts
    ∙ ap (λ (o : Result Spelled Fault). o >>= closes) r.is
    ∙ done in
    record {
      found = found;
      is = ap (spelled text outer 0) at ∙ spelled-List text outer 0 items start end ∙ ap (any_list text outer 0 start) whole
          ∙ ap (λ t. cond t (Rattle.term_check.specs.machinery.Reading.let_list text outer 0 start (binder ∷ inside ∷ []))
          (cond (is_word text word (codes "forall")) (quantifier_list text outer 0 start true (binder ∷ inside ∷ []))
          (cond (is_word text word (codes "exists")) (quantifier_list text outer 0 start false (binder ∷ inside ∷ [])) (Rattle.term_check.specs.machinery.Reading.applied_list text outer 0 start word (binder ∷ inside ∷ [])))))
          (word_is (codes "forall") (codes "let") text word leaf)
          ∙ ap (λ t. cond t (quantifier_list text outer 0 start true (binder ∷ inside ∷ []))
          (cond (is_word text word (codes "exists")) (quantifier_list text outer 0 start false (binder ∷ inside ∷ [])) (Rattle.term_check.specs.machinery.Reading.applied_list text outer 0 start word (binder ∷ inside ∷ []))))
          (word_is (codes "forall") (codes "forall") text word leaf)
          ∙ list;
      start = start;
      part = refl;
      holds = (start, r.found.term, refl, r.fits);
    }

abbrev pub universal_text : Shape → List ℕ
universal_text body = codes "(" ++ (codes "forall" ++ (codes " " ++ (binder_text ++ (codes " " ++ text_of body)))) ++ codes ")"

pub shows_universal : (depth : ℕ) (body : Shape) → depth + 2 < most_open → kind_of body ≡ (BoolSort, None) → Fine names 2 (depth + 1) body → Shows (Asserted (ForAll body)) depth (universal_text body)
shows_universal depth body below truth fine =
    shows_same (Within (FirstAnd (IsLeaf Symbol (codes "forall")) (FirstAnd IsBinder (Only (ReadsAs names 2 body))))) (Asserted (ForAll body)) depth (universal_text body) (universal_is body truth)
    (shows_list (FirstAnd (IsLeaf Symbol (codes "forall")) (FirstAnd IsBinder (Only (ReadsAs names 2 body)))) depth (codes "forall" ++ (codes " " ++ (binder_text ++ (codes " " ++ text_of body)))) (omega (arith, below))
    (row_spaced (IsLeaf Symbol (codes "forall")) (FirstAnd IsBinder (Only (ReadsAs names 2 body))) (depth + 1) (codes "forall") (binder_text ++ (codes " " ++ text_of body)) (shows_symbol (depth + 1) 102 (codes "orall") refl refl)
    (row_spaced IsBinder (Only (ReadsAs names 2 body)) (depth + 1) binder_text (text_of body) (shows_binder (depth + 1) (omega (arith, below)))
    (row_last (ReadsAs names 2 body) (depth + 1) (text_of body) (reads names 2 (depth + 1) body fine)))))

-- a term of this shape, without variables
pub shows_closed : (depth : ℕ) (s : Shape) → kind_of s ≡ (BoolSort, None) → Fine [] 0 depth s → Shows (Asserted (Fits s)) depth (text_of s)
shows_closed depth s truth fine =
    shows_same (ReadsAs [] 0 s) (Asserted (Fits s)) depth (text_of s)
    (λ text tree r. record { found = r.found; is = r.is; start = r.start; part = r.part ∙ ap (part_at r.start) truth; holds = r.fits }) (reads [] 0 depth s fine)
