-- Printed parameters are read as x0, x1, .. with their sorts, and these names are told apart.
use Rattle.std.proofs.Common.{ℕ, zero, suc, ◌≡◌, ◌≢◌, ◌+◌, ◌^◌, ◌<◌, ◌≤◌, List, [], ◌∷◌, ◌++◌, length, map, Bool, true, false, cond, not, ◌&&◌, ◌||◌, Option, Some, None, Result, Ok, Err, refl, sym, ap, subst, ◌∙◌, arith, append_assoc, append-nil, codes, decimal, slice_get, bytes_eq}
use Rattle.std.proofs.lemmas.Fmt.{decimal_injective}
use Rattle.std.proofs.lemmas.Slice.Eq.{bytes_eq-Decides}
use Rattle.std.specs.List.{AllByRecursion, enumerate_from}
use Rattle.sexp_read.specs.declared.tree.LeafKind.TheVariants.{Symbol}
use Rattle.sexp_read.specs.declared.tree.Tree.{Tree, items_hidden-the_row-Tree-0}
use Rattle.sexp_read.specs.Trees.{most_open}
use Rattle.term_tree.specs.declared.sort.Sort.{Sort}
use Rattle.term_tree.specs.declared.sort.Sort.TheVariants.{Int as IntSort, Bool as BoolSort}
use Rattle.term_tree.specs.declared.script.Name.{Name}
use Rattle.term_check.specs.declared.scope.Bound.TheVariants.{Variable}
use Rattle.term_check.specs.Formula.{params_from}
use Rattle.term_check.specs.Words.{is_word_among}
use Rattle.term_check.specs.Operators.{first_of}
use Rattle.term_check.specs.Spelling.{bound_to, is_symbol, start_of}
use Rattle.answer_text.specs.Names.{after_spaces}
use Rattle.answer_text.specs.Terms.{parameter_name}
use Rattle.answer_text.specs.AnswerTexts.{sort_text, parameter_text, parameters_text}
use Rattle.answer_text.specs.Reading.{◌>>=◌, provided, said_by, is_sort, names_sort, is_new, parameter_of, parameter, parameters_from, parameters_of, read_parameters}
use Rattle.answer_text.proofs.DecimalLemmas.{decimal_is}
use Rattle.answer_text.proofs.PieceLemmas.{ends_word}
use Rattle.answer_text.proofs.ShowLemmas.{Shows, ShowsRow, FirstAnd, Within, IsLeaf, shows_same, row_same, row_none, row_more, row_behind, shows_list}
use Rattle.answer_text.proofs.SpellLemmas.{Only, row_last, row_spaced, shows_symbol, symbol_is, IsNamed, shows_bare, digits_are_symbols}
use Rattle.answer_text.proofs.StepLemmas.{same_number}
use Rattle.answer_text.proofs.TermShowLemmas.{AreParameters}

-- the printed parameters, from this one on
abbrev pub params_at : ℕ → List Sort → List (Name × Sort)
params_at n [] = []
params_at n (sort ∷ sorts) = (record { bytes = parameter_name n }, sort) ∷ params_at (n + 1) sorts

-- Names.

other_name : (m n : ℕ) → m < 2 ^ 64 → n < 2 ^ 64 → m ≢ n → bytes_eq (parameter_name m) (parameter_name n) ≡ false
other_name m n p q differ = by (bytes_eq (parameter_name m) (parameter_name n)) refl
  where
    tail : List ℕ → List ℕ
    tail [] = []
    tail (x ∷ xs) = xs

    by : (b : Bool) → bytes_eq (parameter_name m) (parameter_name n) ≡ b → bytes_eq (parameter_name m) (parameter_name n) ≡ false
    by false h = h
    by true h =
        let same : parameter_name m ≡ parameter_name n = (bytes_eq-Decides (parameter_name m) (parameter_name n)).0 h in
        let digits : decimal m ≡ decimal n = ap tail same in
        absurd (differ (decimal_injective m n p q digits))

own_name : (name : List ℕ) → bytes_eq name name ≡ true
own_name name = (bytes_eq-Decides name name).1 refl

later_none : (k n : ℕ) (sorts : List Sort) → k < n → n + length sorts < 2 ^ 64 → bound_to (parameter_name k) (params_from n (params_at n sorts)) ≡ None
later_none k n [] less few = refl
later_none k n (sort ∷ sorts) less few =
    let here = other_name n k (omega (arith, few)) (omega (arith, less, few)) (λ e. omega (arith, e, less)) in
    ap (λ o. first_of o (cond (bytes_eq (parameter_name n) (parameter_name k)) (Some (Variable n sort)) None)) (later_none k (n + 1) sorts (omega (arith, less)) (omega (arith, few)))
    ∙ ap (λ t. cond t (Some (Variable n sort)) None) here

bound_from : (n i k : ℕ) (sorts : List Sort) (sort : Sort) → k ≡ n + i → slice_get sorts i ≡ Some sort → n + length sorts < 2 ^ 64 → bound_to (parameter_name k) (params_from n (params_at n sorts)) ≡ Some (Variable k sort)
bound_from n i k [] sort e is few = absurd (cc)
bound_from n zero k (s ∷ sorts) sort e is few =
    let same : s ≡ sort = cc in
    let number : n ≡ k = omega (arith, e) in
    ap (λ o. first_of o (cond (bytes_eq (parameter_name n) (parameter_name k)) (Some (Variable n s)) None)) (later_none k (n + 1) sorts (omega (arith, e)) (omega (arith, few)))
    ∙ ap (λ (m : ℕ). cond (bytes_eq (parameter_name m) (parameter_name k)) (Some (Variable m s)) None) number ∙ ap (λ t. cond t (Some (Variable k s)) None) (own_name (parameter_name k)) ∙ ap (λ (t : Sort). Some (Variable k t)) same
bound_from n (suc i) k (s ∷ sorts) sort e is few =
    ap (λ o. first_of o (cond (bytes_eq (parameter_name n) (parameter_name k)) (Some (Variable n s)) None)) (bound_from (n + 1) i k sorts sort (omega (arith, e)) is (omega (arith, few)))

no_word : (word : List ℕ) → ((ds : List ℕ) → bytes_eq (120 ∷ ds) word ≡ false) → (n : ℕ) (sorts : List Sort) → bound_to word (params_from n (params_at n sorts)) ≡ None
no_word word other n [] = refl
no_word word other n (sort ∷ sorts) =
    ap (λ o. first_of o (cond (bytes_eq (parameter_name n) word) (Some (Variable n sort)) None)) (no_word word other (n + 1) sorts) ∙ ap (λ t. cond t (Some (Variable n sort)) None) (other (decimal n))

pub are_parameters : (sorts : List Sort) → length sorts < 2 ^ 64 → AreParameters sorts (params_from 0 (params_at 0 sorts))
are_parameters sorts few = record {
  bound = λ i sort is. bound_from 0 i i sorts sort (omega arith) is (omega (arith, few));
  no_true = no_word (codes "true") (λ ds. refl) 0 sorts;
  no_false = no_word (codes "false") (λ ds. refl) 0 sorts;
}

pub count_params : (n : ℕ) (sorts : List Sort) → length (params_at n sorts) ≡ length sorts
count_params n [] = refl
count_params n (sort ∷ sorts) = ap suc (count_params (n + 1) sorts)

-- Reading.

-- the names of earlier parameters
abbrev IsOlder : ℕ → Name × Sort → Type 0
IsOlder n p = (k : ℕ) × (k < n) × (p.0.bytes ≡ parameter_name k)

older_more : (n : ℕ) (before : List (Name × Sort)) (sort : Sort) → AllByRecursion (IsOlder n) before → AllByRecursion (IsOlder (n + 1)) (before ++ (record { bytes = parameter_name n }, sort) ∷ [])
older_more n [] sort all = ((n, omega arith, refl), tt)
older_more n (p ∷ before) sort all = let h = all.0.1 in ((all.0.0, omega (arith, h), all.0.2), older_more n before sort all.1)

new_name : (n : ℕ) (before : List (Name × Sort)) → n < 2 ^ 64 → AllByRecursion (IsOlder n) before → is_word_among (map (λ p. p.0.bytes) before) (parameter_name n) ≡ false
new_name n [] small all = refl
new_name n (p ∷ before) small all =
    let less = all.0.1 in
    let other = other_name n all.0.0 small (omega (arith, less, small)) (λ e. omega (arith, e, less)) in
    ap (λ (b : List ℕ). bytes_eq (parameter_name n) b || is_word_among (map (λ p. p.0.bytes) before) (parameter_name n)) all.0.2
    ∙ ap (λ t. t || is_word_among (map (λ p. p.0.bytes) before) (parameter_name n)) other ∙ new_name n before small all.1

sort_is : (sort : Sort) (text : List ℕ) (tree : Tree) → IsLeaf Symbol (sort_text sort) text tree → names_sort text tree sort ≡ true
sort_is IntSort text tree leaf = ap (λ t. is_sort (cond t (Some IntSort) (cond (is_symbol text tree (codes "Bool")) (Some BoolSort) None)) IntSort) (symbol_is (codes "Int") (codes "Int") text tree leaf)
sort_is BoolSort text tree leaf =
    ap (λ t. is_sort (cond t (Some IntSort) (cond (is_symbol text tree (codes "Bool")) (Some BoolSort) None)) BoolSort) (symbol_is (codes "Bool") (codes "Int") text tree leaf)
    ∙ ap (λ t. is_sort (cond t (Some BoolSort) None) BoolSort) (symbol_is (codes "Bool") (codes "Bool") text tree leaf)

pub shows_sort : (depth : ℕ) (sort : Sort) → Shows (λ text tree. names_sort text tree sort ≡ true) depth (sort_text sort)
shows_sort depth IntSort = shows_same (IsLeaf Symbol (codes "Int")) (λ text tree. names_sort text tree IntSort ≡ true) depth (codes "Int") (sort_is IntSort) (shows_symbol depth 73 (codes "nt") refl refl)
shows_sort depth BoolSort = shows_same (IsLeaf Symbol (codes "Bool")) (λ text tree. names_sort text tree BoolSort ≡ true) depth (codes "Bool") (sort_is BoolSort) (shows_symbol depth 66 (codes "ool") refl refl)

abbrev IsParameter : ℕ → Sort → List ℕ → Tree → Type 0
IsParameter n sort text tree = (before : List (Name × Sort)) → AllByRecursion (IsOlder n) before → parameter text before sort tree ≡ Ok (record { bytes = parameter_name n }, sort)

abbrev Item : ℕ → Sort → List ℕ → List Tree → Type 0
Item n sort = FirstAnd (IsNamed (parameter_name n)) (Only (λ text tree. names_sort text tree sort ≡ true))

parameter_is : (n : ℕ) (sort : Sort) (text : List ℕ) (tree : Tree) → n < 2 ^ 64 → Within (Item n sort) text tree → IsParameter n sort text tree
parameter_is n sort text tree small (items, start, end, at, (name, r1, e1, named, (word, r2, e2, sorted, last))) before older =
    let row : items ≡ name ∷ word ∷ [] = e1 ∙ ap (λ (l : List Tree). name ∷ l) (e2 ∙ ap (λ (l : List Tree). word ∷ l) last) in
    ap (parameter text before sort) at ∙ ap (parameter_of text before sort start) (items_hidden-the_row-Tree-0 items ∙ row)
    ∙ ap (λ o. said_by name o >>= λ bytes. provided (is_new before bytes) (start_of name) (provided (names_sort text word sort) (start_of word) (Ok (record { bytes = bytes }, sort)))) named.4
    ∙ ap (λ b. provided (not b) (start_of name) (provided (names_sort text word sort) (start_of word) (Ok (record { bytes = parameter_name n }, sort)))) (new_name n before small older)
    ∙ ap (λ b. provided b (start_of word) (Ok (record { bytes = parameter_name n }, sort))) sorted

parameter_pieces : (o x b s c : List ℕ) → o ++ x ++ b ++ s ++ c ≡ o ++ (x ++ (b ++ s)) ++ c
parameter_pieces o x b s c = simp append_assoc

shows_parameter : (depth n : ℕ) (sort : Sort) → depth < most_open → n < 2 ^ 64 → Shows (IsParameter n sort) depth (parameter_text (n, sort))
shows_parameter depth n sort below small =
    let row : List ℕ = parameter_name n ++ (codes " " ++ sort_text sort) in
    subst (λ (l : List ℕ). Shows (IsParameter n sort) depth l) (sym (parameter_pieces (codes "(") (parameter_name n) (codes " ") (sort_text sort) (codes ")")))
    (shows_same (Within (Item n sort)) (IsParameter n sort) depth (codes "(" ++ row ++ codes ")") (λ text tree w. parameter_is n sort text tree small w)
    (shows_list (Item n sort) depth row below
    (row_spaced (IsNamed (parameter_name n)) (Only (λ text tree. names_sort text tree sort ≡ true)) (depth + 1) (parameter_name n) (sort_text sort)
    (shows_bare (depth + 1) (parameter_name n) refl (digits_are_symbols (decimal n) (decimal_is n small).digits) refl)
    (row_last (λ text tree. names_sort text tree sort ≡ true) (depth + 1) (sort_text sort) (shows_sort (depth + 1) sort)))))

-- the trees are the parameters from this one on
abbrev AreParams : ℕ → List Sort → List ℕ → List Tree → Type 0
AreParams n sorts text trees =
    (length trees ≡ length sorts) × ((before : List (Name × Sort)) → AllByRecursion (IsOlder n) before → parameters_from text before trees sorts ≡ Ok (before ++ params_at n sorts))

no_params : (n : ℕ) (text : List ℕ) → AreParams n [] text []
no_params n text = (refl, λ before older. ap Ok (sym (append-nil before)))

more_params : (n : ℕ) (sort : Sort) (sorts : List Sort) (text : List ℕ) (trees : List Tree) → FirstAnd (IsParameter n sort) (AreParams (n + 1) sorts) text trees → AreParams n (sort ∷ sorts) text trees
more_params n sort sorts text trees (first, others, row, one, (many, all)) = (
  ap length row ∙ ap suc many,
  λ before older. ap (λ (l : List Tree). parameters_from text before l (sort ∷ sorts)) row
      ∙ ap (λ (r : Result (Name × Sort) ℕ). r >>= λ p. parameters_from text (before ++ p ∷ []) others sorts) (one before older)
      ∙ all (before ++ (record { bytes = parameter_name n }, sort) ∷ []) (older_more n before sort older)
      ∙ ap Ok (append_assoc before ((record { bytes = parameter_name n }, sort) ∷ []) (params_at (n + 1) sorts)),
)

blank : (n : ℕ) (sorts : List Sort) → ends_word (after_spaces parameter_text (enumerate_from n sorts)) ≡ true
blank n [] = refl
blank n (sort ∷ sorts) = refl

params_after : (depth n : ℕ) (sorts : List Sort) → depth < most_open → n + length sorts < 2 ^ 64 → ShowsRow (AreParams n sorts) depth (after_spaces parameter_text (enumerate_from n sorts))
params_after depth n [] below few = row_none (AreParams n []) depth (no_params n)
params_after depth n (sort ∷ sorts) below few =
    let piece : List ℕ = parameter_text (n, sort) in
    let rest : List ℕ = after_spaces parameter_text (enumerate_from (n + 1) sorts) in
    row_behind (AreParams n (sort ∷ sorts)) depth (codes " ") (piece ++ rest) refl
    (row_same (FirstAnd (IsParameter n sort) (AreParams (n + 1) sorts)) (AreParams n (sort ∷ sorts)) depth (piece ++ rest) (more_params n sort sorts)
    (row_more (IsParameter n sort) (AreParams (n + 1) sorts) depth piece rest (shows_parameter depth n sort below (omega (arith, few))) (blank (n + 1) sorts) (params_after depth (n + 1) sorts below (omega (arith, few)))))

params_row : (depth : ℕ) (sorts : List Sort) → depth < most_open → length sorts < 2 ^ 64 → ShowsRow (AreParams 0 sorts) depth (parameters_text sorts)
params_row depth [] below few = row_none (AreParams 0 []) depth (no_params 0)
params_row depth (sort ∷ sorts) below few =
    let piece : List ℕ = parameter_text (0, sort) in
    let rest : List ℕ = after_spaces parameter_text (enumerate_from 1 sorts) in
    row_same (FirstAnd (IsParameter 0 sort) (AreParams 1 sorts)) (AreParams 0 (sort ∷ sorts)) depth (piece ++ rest) (more_params 0 sort sorts)
    (row_more (IsParameter 0 sort) (AreParams 1 sorts) depth piece rest (shows_parameter depth 0 sort below (omega arith)) (blank 1 sorts) (params_after depth 1 sorts below (omega (arith, few))))

params_are : (sorts : List Sort) (text : List ℕ) (tree : Tree) → Within (AreParams 0 sorts) text tree → read_parameters text sorts tree ≡ Ok (params_at 0 sorts)
params_are sorts text tree (items, start, end, at, (many, all)) =
    ap (read_parameters text sorts) at ∙ ap (parameters_of text sorts start) (items_hidden-the_row-Tree-0 items)
    ∙ ap (λ (n : ℕ). provided (Rattle.std.proofs.Common.nat_eq n (length sorts)) start (parameters_from text [] items sorts)) many
    ∙ ap (λ b. provided b start (parameters_from text [] items sorts)) (same_number (length sorts)) ∙ all [] tt

pub shows_parameters : (depth : ℕ) (sorts : List Sort) → depth + 1 < most_open → length sorts < 2 ^ 64 → Shows (λ text tree. read_parameters text sorts tree ≡ Ok (params_at 0 sorts)) depth (codes "(" ++ parameters_text sorts ++ codes ")")
shows_parameters depth sorts below few =
    shows_same (Within (AreParams 0 sorts)) (λ text tree. read_parameters text sorts tree ≡ Ok (params_at 0 sorts)) depth (codes "(" ++ parameters_text sorts ++ codes ")") (params_are sorts)
    (shows_list (AreParams 0 sorts) depth (parameters_text sorts) (omega (arith, below)) (params_row (depth + 1) sorts below few))
