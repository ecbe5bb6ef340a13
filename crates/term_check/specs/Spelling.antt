-- Which term a tree spells in a scope, or the first rule that it breaks (SMT-LIB 2.6, section 3.6, "Terms and formulas", with sorts
-- by the theories Core and Ints, and linear terms). The rules come in the order of checking: the form and name of a head, the
-- number of arguments, the arguments from left to right, each in full, and then the rules of the application. At let the
-- bound terms come before the names, and at a quantifier its binder comes first. Words are compared by their bytes.
use Rattle.std.specs.Prelude.{ℕ, ℤ, pos, ◌+◌, List, [], ◌∷◌, ◌++◌, length, map, Bool, true, false, not, ◌&&◌, ◌||◌, nat_eq, Option, None, Some, Result, Ok, Err, if◌then◌else◌, slice_get, codes}
use Rattle.std.specs.List.{list_all}
use Rattle.std.specs.Str.{bytes_eq}
use Rattle.base.specs.Numeral.{number_of}
use Rattle.sexp_read.specs.declared.tree.LeafKind.{LeafKind}
use Rattle.sexp_read.specs.declared.tree.LeafKind.TheVariants.{Symbol, Quoted, Numeral}
use Rattle.sexp_read.specs.declared.tree.Tree.{Tree, Leaf, List', Row_of-Tree, end_of-Tree, more_of-Tree, items-the_row-Tree}
use Rattle.sexp_read.specs.Leaves.{inner, symbol_bytes, word_bytes, numeral_value, short_number}
use Rattle.term_tree.specs.declared.sort.Sort.{Sort}
use Rattle.term_tree.specs.declared.sort.Sort.TheVariants.{Int as IntSort, Bool as BoolSort}
use Rattle.term_tree.specs.declared.node.OpKind.{OpKind}
use Rattle.term_tree.specs.declared.script.Pred.{Pred}
use Rattle.term_tree.specs.declared.refusal.Kind.TheVariants.{CommandForm, UnknownSort, Redeclared, UnknownSymbol, Arity, SortMismatch, TooWide}
use Rattle.term_tree.specs.Sorts.{same_sort}
use Rattle.term_check.specs.declared.part.Part.{Part}
use Rattle.term_check.specs.declared.part.Fault.{Fault}
use Rattle.term_check.specs.declared.scope.Bound.{Bound}
use Rattle.term_check.specs.declared.scope.Bound.TheVariants.{Variable, Let}
use Rattle.term_check.specs.declared.scope.Named.{Named}
use Rattle.term_check.specs.declared.atom.Atom.{Atom}
use Rattle.term_check.specs.declared.atom.Atom.TheVariants.{Number, Truth, BoundVariable, LetName, Predicate}
use Rattle.term_check.specs.declared.head.Head.{Head}
use Rattle.term_check.specs.declared.head.Head.TheVariants.{Operator, Declared, Constant, Divisibility}
use Rattle.term_check.specs.Words.{is_word_among, reserved_words}
use Rattle.term_check.specs.Operators.{first_of, operator_named}
use Rattle.term_check.specs.Rules.{fault, unless, first_fault, if_short, number_fault, applied, divisible_fault, declared_fault}
use Rattle.term_check.specs.Term.{Term, numeral, truth, variable, let_name, predicate, operation, divisible, binding, universal, existential, Terms, none, more, with_last}

-- What a term may use: the declared predicates in their order, the bound names, the innermost last, and whether quantifiers.
pub record SpellingScope : Type 0 where
  pub preds : List Pred
  pub names : List Named
  pub quantifies : Bool

-- the scope with these predicates and bound names, in which quantifiers may stand or may not
abbrev pub scope_of : List Pred → List Named → Bool → SpellingScope
scope_of preds names quantifies = record { preds = preds; names = names; quantifies = quantifies }

-- a term, what it is to the term around it, and the number of the next quantified variable of the text
pub record Spelled : Type 0 where
  pub term : Term
  pub part : Part
  pub next : ℕ

-- the arguments so far
pub record Gathered : Type 0 where
  pub terms : Terms
  pub parts : List Part
  pub next : ℕ

-- What the first part gives goes into the rest, up to the first fault. Readers of answers have their own, whose faults are
-- offsets alone.
infixl 20 ◌>>=◌
abbrev pub ◌>>=◌ : {A B : Type 0} → Result A Fault → (A → Result B Fault) → Result B Fault
Ok a >>= f = f a
Err e >>= f = Err e

-- a term that breaks no rule, by its start, its sort and its value as a constant, with the next quantified variable's number
abbrev pub spells : Term → ℕ → Sort → Option ℤ → ℕ → Result Spelled Fault
spells term start sort constant next = Ok (record { term = term; part = record { start = start; sort = sort; constant = constant }; next = next })

-- Names.

-- what the last of that name stands for
abbrev pub bound_to : List ℕ → List Named → Option Bound
bound_to name [] = None
bound_to name (n ∷ ns) = first_of (bound_to name ns) (if bytes_eq n.name.bytes name then Some n.bound else None)

-- the number of the predicate of that name, where the first of these has this number
abbrev pub pred_from : ℕ → List ℕ → List Pred → Option ℕ
pred_from number name [] = None
pred_from number name (p ∷ ps) = if bytes_eq p.name.bytes name then Some number else pred_from (number + 1) name ps

-- the sorts of the predicate's arguments; no sorts where there is no predicate
abbrev pub sorts_in : Option Pred → List Sort
sorts_in None = []
sorts_in (Some p) = p.args

-- the sorts of the arguments of the predicate of a number
abbrev pub sorts_of : List Pred → ℕ → List Sort
sorts_of preds number = sorts_in (slice_get preds number)

-- a predicate that stands by itself has no arguments
abbrev pub bare_predicate : List Pred → ℕ → Option ℕ → Result Atom Fault
bare_predicate preds start None = Err (fault UnknownSymbol start)
bare_predicate preds start (Some number) = if nat_eq (length (sorts_of preds number)) 0 then Ok (Predicate number) else Err (fault Arity start)

-- what a symbol that is not bound stands for: true, false, or a predicate without arguments; else it is unknown
abbrev pub free_symbol : List Pred → ℕ → List ℕ → Result Atom Fault
free_symbol preds start name =
    if bytes_eq name (codes "true") then Ok (Truth true)
    else if bytes_eq name (codes "false") then Ok (Truth false)
    else bare_predicate preds start (pred_from 0 name preds)

-- the variable or let name to which the symbol is bound; where it is not bound, what it stands for by itself
abbrev pub bound_symbol : List Pred → ℕ → List ℕ → Option Bound → Result Atom Fault
bound_symbol preds start name (Some (Variable number sort)) = Ok (BoundVariable number sort)
bound_symbol preds start name (Some (Let number sort constant)) = Ok (LetName number sort constant)
bound_symbol preds start name None = free_symbol preds start name

-- the innermost bound name, else true, false or a predicate without arguments
abbrev pub symbol_atom : List Pred → List Named → ℕ → List ℕ → Result Atom Fault
symbol_atom preds names start name = bound_symbol preds start name (bound_to name names)

-- the integer that a numeral is, if its value is known and below 2 ^ 63
abbrev pub numeral_if_short : Option ℕ → Option ℤ
numeral_if_short None = None
numeral_if_short (Some n) = if_short (pos n)

-- the numeral of that value; where there is none, the numeral that starts here is too wide
abbrev pub numeral_atom : ℕ → Option ℤ → Result Atom Fault
numeral_atom start None = Err (fault TooWide start)
numeral_atom start (Some k) = Ok (Number k)

-- a reserved word, which only bars make a name, is none that is declared or bound
abbrev pub leaf_atom : List ℕ → List Pred → List Named → LeafKind → ℕ → ℕ → Result Atom Fault
leaf_atom text preds names Numeral start end = numeral_atom start (numeral_if_short (short_number (number_of (inner text Numeral start end))))
leaf_atom text preds names Symbol start end =
    let name = inner text Symbol start end in if is_word_among reserved_words name then Err (fault UnknownSymbol start) else symbol_atom preds names start name
leaf_atom text preds names Quoted start end = symbol_atom preds names start (inner text Quoted start end)
leaf_atom text preds names _ start end = Err (fault CommandForm start)

-- the term that an atom is, which starts here
abbrev pub atom_term : ℕ → Atom → Term
atom_term start (Number k) = numeral start k
atom_term start (Truth value) = truth start value
atom_term start (BoundVariable number sort) = variable start number sort
atom_term start (LetName number sort constant) = let_name start number
atom_term start (Predicate number) = predicate start number none

-- the sort of an atom: Int of a numeral, Bool of a truth value or a predicate, of a bound name that of what it stands for
abbrev pub atom_sort : Atom → Sort
atom_sort (Number k) = IntSort
atom_sort (Truth value) = BoolSort
atom_sort (BoundVariable number sort) = sort
atom_sort (LetName number sort constant) = sort
atom_sort (Predicate number) = BoolSort

-- the value of a numeral, or of a let name that is bound to a constant; other atoms are no constants
abbrev pub atom_constant : Atom → Option ℤ
atom_constant (Number k) = Some k
atom_constant (LetName number sort constant) = constant
atom_constant _ = None

-- what an atom that starts here is to the term around it
abbrev pub atom_part : ℕ → Atom → Part
atom_part start atom = record { start = start; sort = atom_sort atom; constant = atom_constant atom }

-- the term that an atom is, which starts here; the next quantified variable has the same number behind it as before it
abbrev pub spelled_atom : ℕ → ℕ → Atom → Spelled
spelled_atom next start atom = record { term = atom_term start atom; part = atom_part start atom; next = next }

-- the term that a leaf spells: a numeral, truth value, bound name or predicate without arguments; else the rule it breaks
abbrev pub leaf_term : List ℕ → SpellingScope → ℕ → LeafKind → ℕ → ℕ → Result Spelled Fault
leaf_term text scope next kind start end = leaf_atom text scope.preds scope.names kind start end >>= λ atom. Ok (spelled_atom next start atom)

-- Heads of applications. Bound names are none.

-- the declared predicate of that number as a head; where there is none, the symbol is unknown
abbrev pub declared_head : ℕ → Option ℕ → Result Head Fault
declared_head start None = Err (fault UnknownSymbol start)
declared_head start (Some number) = Ok (Declared number)

-- what a symbol that is no operator is as a head: true or false, or a declared predicate; else it is unknown
abbrev pub name_head : List Pred → ℕ → List ℕ → Result Head Fault
name_head preds start name =
    if bytes_eq name (codes "true") || bytes_eq name (codes "false") then Ok Constant else declared_head start (pred_from 0 name preds)

-- the operator as a head; where the name is none, what it is as a head otherwise
abbrev pub operator_or : List Pred → ℕ → List ℕ → Option OpKind → Result Head Fault
operator_or preds start name (Some op) = Ok (Operator op)
operator_or preds start name None = name_head preds start name

-- what a symbol is as a head: an operator, true or false, or a declared predicate; else it is unknown
abbrev pub symbol_head : List Pred → ℕ → List ℕ → Result Head Fault
symbol_head preds start name = operator_or preds start name (operator_named name)

-- the tree is a symbol of these bytes; a word is one without bars
abbrev pub is_spelled : Option (List ℕ) → List ℕ → Bool
is_spelled None name = false
is_spelled (Some bytes) name = bytes_eq bytes name

-- the tree is a symbol of that name without bars
abbrev pub is_word : List ℕ → Tree → List ℕ → Bool
is_word text tree name = is_spelled (word_bytes text tree) name

-- the tree is a symbol of that name, between bars or not
abbrev pub is_symbol : List ℕ → Tree → List ℕ → Bool
is_symbol text tree name = is_spelled (symbol_bytes text tree) name

-- the tree is a numeral, whatever its value
abbrev pub is_numeral_leaf : Tree → Bool
is_numeral_leaf (Leaf Numeral start end) = true
is_numeral_leaf _ = false

-- (_ divisible n), the one head that is no symbol
abbrev pub is_divisible : List ℕ → Tree → Tree → Tree → Bool
is_divisible text a b n = is_word text a (codes "_") && is_symbol text b (codes "divisible") && is_numeral_leaf n

-- what a list of these trees is as a head: (_ divisible n), where n is known if it is below 2 ^ 63; no other form is one
abbrev pub list_head : List ℕ → ℕ → List Tree → Result Head Fault
list_head text start (a ∷ b ∷ n ∷ []) = if is_divisible text a b n then Ok (Divisibility (numeral_value text n)) else Err (fault CommandForm start)
list_head text start _ = Err (fault CommandForm start)

-- what a leaf is as a head: a symbol by its name, unknown where it is a reserved word without bars; no other leaf is one
abbrev pub leaf_head : List ℕ → List Pred → LeafKind → ℕ → ℕ → Result Head Fault
leaf_head text preds Symbol start end =
    let name = inner text Symbol start end in if is_word_among reserved_words name then Err (fault UnknownSymbol start) else symbol_head preds start name
leaf_head text preds Quoted start end = symbol_head preds start (inner text Quoted start end)
leaf_head text preds _ start end = Err (fault CommandForm start)

-- what the tree before the arguments is as a head: a symbol or (_ divisible n), or the rule that it breaks
abbrev pub spelled_head : List ℕ → List Pred → Tree → Result Head Fault
spelled_head text preds (Leaf kind start end) = leaf_head text preds kind start end
spelled_head text preds (List' shape row start end) = list_head text start (items-the_row-Tree _ row)

-- The number of arguments that a head takes. A predicate without arguments, true and false are never applied.

-- the fault of applying what takes no arguments: of the form where none are given, else of their number
abbrev pub unapplied_fault : ℕ → ℕ → Fault
unapplied_fault start n = if nat_eq n 0 then fault CommandForm start else fault Arity start

-- another number of arguments than the predicate was declared with, or any application if that is 0, else none
abbrev pub declared_number_fault : ℕ → ℕ → ℕ → Option Fault
declared_number_fault start declared n =
    if nat_eq declared 0 then Some (unapplied_fault start n) else if nat_eq n declared then None else Some (fault Arity start)

-- a number of arguments that the head does not take, at the start of the application, else none
abbrev pub head_fault : List Pred → Head → ℕ → ℕ → Option Fault
head_fault preds (Operator op) start n = number_fault op start n
head_fault preds (Declared number) start n = declared_number_fault start (length (sorts_of preds number)) n
head_fault preds Constant start n = Some (unapplied_fault start n)
head_fault preds (Divisibility by) start n = if nat_eq n 1 then None else Some (fault Arity start)

-- The application, once its arguments are read.

-- the term with what it is to the term around it, and the next quantified variable's number, or the fault
abbrev pub with_part : Term → ℕ → Result Part Fault → Result Spelled Fault
with_part term next (Ok part) = Ok (record { term = term; part = part; next = next })
with_part term next (Err f) = Err f

-- the first of the arguments, of (_ divisible n) the only one; false where there is none, which was refused before
abbrev pub the_argument : Terms → Term
the_argument (more t ts) = t
the_argument none = truth 0 false

-- the n of (_ divisible n); 0 where it is not known, which is refused before
abbrev pub number_or_0 : Option ℕ → ℕ
number_or_0 (Some n) = n
number_or_0 None = 0

-- the term of a head at its arguments, as many as it takes, or the first rule of sorts, linearity, divisors or width that it breaks
abbrev pub application : List Pred → Head → ℕ → Gathered → Result Spelled Fault
application preds (Operator op) start g = with_part (operation start op g.terms) g.next (applied op start g.parts)
application preds (Declared number) start g =
    unless (declared_fault (sorts_of preds number) g.parts) (spells (predicate start number g.terms) start BoolSort None g.next)
application preds Constant start g = Err (unapplied_fault start (length g.parts))
application preds (Divisibility by) start g =
    unless (divisible_fault by start g.parts) (spells (divisible start (number_or_0 by) (the_argument g.terms)) start BoolSort None g.next)

-- Binders.

-- the trees of a list; of a leaf there are none
abbrev pub items_of : Tree → List Tree
items_of (Leaf kind start end) = []
items_of (List' shape row start end) = items-the_row-Tree _ row

-- the offset at which the tree starts
abbrev pub start_of : Tree → ℕ
start_of (Leaf kind start end) = start
start_of (List' shape row start end) = start

-- a name that may be bound: a symbol that is no reserved word
abbrev pub name_of : List ℕ → Tree → Option (List ℕ)
name_of text (Leaf Symbol start end) = let name = inner text Symbol start end in if is_word_among reserved_words name then None else Some name
name_of text (Leaf Quoted start end) = Some (inner text Quoted start end)
name_of text _ = None

-- the sort, Int or Bool, that a symbol names, between bars or not; other trees name none
abbrev pub sort_named : List ℕ → Tree → Option Sort
sort_named text tree = if is_symbol text tree (codes "Int") then Some IntSort else if is_symbol text tree (codes "Bool") then Some BoolSort else None

-- of a binder's item, a name with a term or a sort
abbrev pub first_in : List Tree → Option Tree
first_in [] = None
first_in (t ∷ ts) = Some t

-- the term or the sort of a binder's item, none where the item has fewer than two trees
abbrev pub second_in : List Tree → Option Tree
second_in (t ∷ u ∷ ts) = Some u
second_in _ = None

-- the offset at which the tree starts; 0 where there is none
abbrev pub offset_of : Option Tree → ℕ
offset_of None = 0
offset_of (Some t) = start_of t

-- what is read of the tree; none where there is no tree
abbrev pub read_by : {A : Type 0} → (Tree → Option A) → Option Tree → Option A
read_by f None = None
read_by f (Some t) = f t

-- the name in a binder's item, if its first tree is a name that may be bound
abbrev pub first_name : List ℕ → Tree → Option (List ℕ)
first_name text item = read_by (name_of text) (first_in (items_of item))

-- the offset at which the name in a binder's item starts; 0 in an item without trees
abbrev pub name_start : Tree → ℕ
name_start item = offset_of (first_in (items_of item))

-- the sort in a binder's item, if its second tree names one
abbrev pub sort_in : List ℕ → Tree → Option Sort
sort_in text item = read_by (sort_named text) (second_in (items_of item))

-- the offset at which the sort in a binder's item starts; 0 in an item of fewer than two trees
abbrev pub sort_start : Tree → ℕ
sort_start item = offset_of (second_in (items_of item))

-- there is one
abbrev pub is_some : {A : Type 0} → Option A → Bool
is_some None = false
is_some (Some a) = true

-- the name, or no bytes where there is none
abbrev pub name_or_none : Option (List ℕ) → List ℕ
name_or_none None = []
name_or_none (Some name) = name

-- the first item whose name is none
abbrev pub names_fault : List ℕ → List Tree → Option Fault
names_fault text [] = None
names_fault text (item ∷ items) = if is_some (first_name text item) then names_fault text items else Some (fault CommandForm (name_start item))

-- one item or more, each of two trees; then the form of the names
abbrev pub binder_fault : List ℕ → Tree → Option Fault
binder_fault text binder =
    let items = items_of binder in
    if nat_eq (length items) 0 || not (list_all (λ item. nat_eq (length (items_of item)) 2) items) then Some (fault CommandForm (start_of binder))
    else names_fault text items

-- a name that stands in the binder before
abbrev pub repeated_fault : List ℕ → List (List ℕ) → Tree → Option Fault
repeated_fault text seen item = if is_word_among seen (name_or_none (first_name text item)) then Some (fault Redeclared (name_start item)) else None

-- the first name of a let's items that is among those before it, else none
abbrev pub let_names_fault : List ℕ → List (List ℕ) → List Tree → Option Fault
let_names_fault text seen [] = None
let_names_fault text seen (item ∷ items) = first_fault (repeated_fault text seen item) (let_names_fault text (seen ++ name_or_none (first_name text item) ∷ []) items)

-- the second tree of a quantifier's item where it names no sort, else none
abbrev pub sort_name_fault : List ℕ → Tree → Option Fault
sort_name_fault text item = if is_some (sort_in text item) then None else Some (fault UnknownSort (sort_start item))

-- from left to right, each name before its sort
abbrev pub variables_fault : List ℕ → List (List ℕ) → List Tree → Option Fault
variables_fault text seen [] = None
variables_fault text seen (item ∷ items) =
    first_fault (repeated_fault text seen item) (first_fault (sort_name_fault text item) (variables_fault text (seen ++ name_or_none (first_name text item) ∷ []) items))

-- the sort; Bool where there is none, which is refused before
abbrev pub sort_or_bool : Option Sort → Sort
sort_or_bool None = BoolSort
sort_or_bool (Some sort) = sort

-- the sorts of the variables that a quantifier's items bind, in order
abbrev pub sorts_bound : List ℕ → List Tree → List Sort
sorts_bound text items = map (λ item. sort_or_bool (sort_in text item)) items

-- the name in a binder's item, which stands for this
abbrev pub naming : List ℕ → Tree → Bound → Named
naming text item bound = record { name = record { bytes = name_or_none (first_name text item) }; bound = bound }

-- the quantified variables, numbered from here on
abbrev pub variables_from : List ℕ → ℕ → List Tree → List Named
variables_from text number [] = []
variables_from text number (item ∷ items) = naming text item (Variable number (sort_or_bool (sort_in text item))) ∷ variables_from text (number + 1) items

-- the names of let, numbered from here on
abbrev pub lets_from : List ℕ → ℕ → List Tree → List Part → List Named
lets_from text number (item ∷ items) (p ∷ ps) = naming text item (Let number p.sort p.constant) ∷ lets_from text (number + 1) items ps
lets_from text number _ _ = []

-- one more for a name that is bound by let; a variable does not count
abbrev pub count_let : Bound → ℕ → ℕ
count_let (Let number sort constant) n = n + 1
count_let (Variable number sort) n = n

-- how many of the names are bound by let
abbrev pub lets_in : List Named → ℕ
lets_in [] = 0
lets_in (n ∷ ns) = count_let n.bound (lets_in ns)

-- the scope of a quantifier's body: its variables are the innermost names, numbered from the next number on
abbrev pub with_read_variables : List ℕ → SpellingScope → ℕ → List Tree → SpellingScope
with_read_variables text scope next items = record scope { names = scope.names ++ variables_from text next items }

-- the scope of a let's body: its names are the innermost, and are numbered behind those of the lets around it
abbrev pub with_lets : List ℕ → SpellingScope → List Tree → List Part → SpellingScope
with_lets text scope items parts = record scope { names = scope.names ++ lets_from text (lets_in scope.names) items parts }

-- Terms.

-- one more argument, behind those so far
abbrev pub with_spelled : Gathered → Spelled → Gathered
with_spelled g s = record { terms = with_last g.terms s.term; parts = g.parts ++ s.part ∷ []; next = s.next }

-- no arguments so far, where the next quantified variable has this number
abbrev pub nothing_yet : ℕ → Gathered
nothing_yet next = record { terms = none; parts = []; next = next }

-- the let of the bound terms around a body, whose sort it has, and whose value if that is a constant
abbrev pub let_spelled : ℕ → Gathered → Spelled → Spelled
let_spelled start g s =
    record { term = binding start g.terms s.term; part = record { start = start; sort = s.part.sort; constant = s.part.constant }; next = s.next }

-- the quantifier around a body that is Bool; a body of another sort is a mismatch at its start
abbrev pub quantified : (Term → Term) → ℕ → Spelled → Result Spelled Fault
quantified quantify start s = if same_sort s.part.sort BoolSort then spells (quantify s.term) start BoolSort None s.next else Err (fault SortMismatch s.part.start)

-- the term of a quantifier around a body
abbrev pub quantifier : Bool → ℕ → ℕ → List Sort → Term → Term
quantifier true start first sorts body = universal start first sorts body
quantifier false start first sorts body = existential start first sorts body

-- a quantifier where there may be none
abbrev pub quantifier_fault : Bool → ℕ → Option Fault
quantifier_fault true start = None
quantifier_fault false start = Some (fault CommandForm start)

-- the words that begin the forms with binders
abbrev pub is_binder : List ℕ → Tree → Bool
is_binder text tree = is_word text tree (codes "let") || is_word text tree (codes "forall") || is_word text tree (codes "exists")

abbrev mutual
  -- the term that the tree spells, its quantified variables numbered from here on, or the first rule that it breaks
  pub spelled : List ℕ → SpellingScope → ℕ → Tree → Result Spelled Fault
  spelled text scope next (Leaf kind start end) = leaf_term text scope next kind start end
  spelled text scope next (List' shape row start end) = list_spelled text scope next start row

  -- the let, quantifier or application that a list of these trees spells; an empty list is none of them
  pub list_spelled : {n : _} → List ℕ → SpellingScope → ℕ → ℕ → Row_of-Tree n → Result Spelled Fault
  list_spelled text scope next start end_of-Tree = Err (fault CommandForm start)
  list_spelled text scope next start (more_of-Tree head rest) =
      if is_word text head (codes "let") then let_spelled_by text scope next start rest
      else if is_word text head (codes "forall") then unless (quantifier_fault scope.quantifies start) (quantifier_spelled text scope next start true rest)
      else if is_word text head (codes "exists") then unless (quantifier_fault scope.quantifies start) (quantifier_spelled text scope next start false rest)
      else spelled_head text scope.preds head >>= λ h. unless (head_fault scope.preds h start (length (items-the_row-Tree _ rest))) (all_spelled text scope (nothing_yet next) rest >>= application scope.preds h start)

  -- the trees, each in full, one after another
  pub all_spelled : {n : _} → List ℕ → SpellingScope → Gathered → Row_of-Tree n → Result Gathered Fault
  all_spelled text scope g end_of-Tree = Ok g
  all_spelled text scope g (more_of-Tree tree rest) = spelled text scope g.next tree >>= λ s. all_spelled text scope (with_spelled g s) rest

  -- the let of a binder and a body, or the first rule that it breaks; other numbers of trees behind the word let are no let
  pub let_spelled_by : {n : _} → List ℕ → SpellingScope → ℕ → ℕ → Row_of-Tree n → Result Spelled Fault
  let_spelled_by text scope next start (more_of-Tree binder (more_of-Tree body end_of-Tree)) =
      unless (binder_fault text binder) (bindings_spelled text scope (nothing_yet next) binder >>= λ g.
      unless (let_names_fault text [] (items_of binder)) (spelled text (with_lets text scope (items_of binder) g.parts) g.next body >>= λ s. Ok (let_spelled start g s)))
  let_spelled_by text scope next start _ = Err (fault CommandForm start)

  -- the bound terms of a let's binder
  pub bindings_spelled : List ℕ → SpellingScope → Gathered → Tree → Result Gathered Fault
  bindings_spelled text scope g (Leaf kind start end) = Ok g
  bindings_spelled text scope g (List' shape row start end) = each_bound text scope g row

  -- the terms of a binder's items, one after another, behind those so far, or the first rule that one breaks
  pub each_bound : {n : _} → List ℕ → SpellingScope → Gathered → Row_of-Tree n → Result Gathered Fault
  each_bound text scope g end_of-Tree = Ok g
  each_bound text scope g (more_of-Tree item rest) = binding_spelled text scope g item >>= λ h. each_bound text scope h rest

  -- the term of one of a binder's items, behind those so far; a leaf, which is refused before, has none
  pub binding_spelled : List ℕ → SpellingScope → Gathered → Tree → Result Gathered Fault
  binding_spelled text scope g (Leaf kind start end) = Ok g
  binding_spelled text scope g (List' shape row start end) = item_spelled text scope g row

  -- the term of an item of two trees, behind those so far; an item of another form, which is refused before, has none
  pub item_spelled : {n : _} → List ℕ → SpellingScope → Gathered → Row_of-Tree n → Result Gathered Fault
  item_spelled text scope g (more_of-Tree name (more_of-Tree term end_of-Tree)) = spelled text scope g.next term >>= λ s. Ok (with_spelled g s)
  item_spelled text scope g _ = Ok g

  -- the quantifier of a binder and a Bool body, or the first rule that it breaks; other numbers of trees are no quantifier
  pub quantifier_spelled : {n : _} → List ℕ → SpellingScope → ℕ → ℕ → Bool → Row_of-Tree n → Result Spelled Fault
  quantifier_spelled text scope next start all (more_of-Tree binder (more_of-Tree body end_of-Tree)) =
      unless (binder_fault text binder) (unless (variables_fault text [] (items_of binder))
      (spelled text (with_read_variables text scope next (items_of binder)) (next + length (items_of binder)) body >>= λ s.
      quantified (quantifier all start next (sorts_bound text (items_of binder))) start s))
  quantifier_spelled text scope next start all _ = Err (fault CommandForm start)
