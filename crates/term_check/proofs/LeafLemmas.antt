-- The names of let among leaves.
use Rattle.std.proofs.Common.{◌≡◌, ℕ, List, [], ◌∷◌, length, Bool, true, false, refl, sym, ap, ◌∙◌}
use Rattle.std.specs.Prelude.{Option, Some, None, Ok, Err, Result, nat_eq, codes, if◌then◌else◌}
use Rattle.std.specs.Str.{bytes_eq}
use Rattle.base.specs.Numeral.{number_of}
use Rattle.sexp_read.specs.declared.tree.LeafKind.{LeafKind}
use Rattle.sexp_read.specs.declared.tree.LeafKind.TheVariants.{Symbol, Quoted, Numeral, Decimal, Text, Keyword}
use Rattle.sexp_read.specs.Leaves.{inner, short_number}
use Rattle.term_tree.specs.declared.script.Pred.{Pred}
use Rattle.term_check.specs.declared.atom.Atom.{Atom}
use Rattle.term_check.specs.declared.part.Fault.{Fault}
use Rattle.term_check.specs.declared.scope.Bound.{Bound}
use Rattle.term_check.specs.declared.scope.Bound.TheVariants.{Variable, Let}
use Rattle.term_check.specs.declared.scope.Named.{Named}
use Rattle.term_check.specs.Words.{is_word_among, reserved_words}
use Rattle.term_check.specs.machinery.Known.{is_let_below, are_lets_below, is_atom_below}
use Rattle.term_check.specs.Operators.{first_of}
use Rattle.term_check.specs.Spelling.{bound_to, leaf_atom, symbol_atom, bound_symbol, free_symbol, bare_predicate, numeral_atom, numeral_if_short, pred_from, sorts_of}
use Rattle.term_check.proofs.ReadingLemmas.{first_of_both, second_of_both}

-- what is said of a result, where it is one
abbrev WhereOk : {A : Type 0} → (A → Bool) → Result A Fault → Type 0
WhereOk f (Ok a) = f a ≡ true
WhereOk f (Err e) = Unit {0}

choose : {A : Type 0} (f : A → Bool) (b : Bool) (x y : Result A Fault) → WhereOk f x → WhereOk f y → WhereOk f (if b then x else y)
choose f true x y h k = h
choose f false x y h k = k

abbrev WhereSome : (Bound → Bool) → Option Bound → Type 0
WhereSome f None = Unit {0}
WhereSome f (Some a) = f a ≡ true

first_some : (f : Bound → Bool) (a b : Option Bound) → WhereSome f a → WhereSome f b → WhereSome f (first_of a b)
first_some f None b h k = k
first_some f (Some x) b h k = h

one_some : (f : Bound → Bool) (b : Bool) (x : Bound) → f x ≡ true → WhereSome f (if b then Some x else None)
one_some f true x h = h
one_some f false x h = tt

bound_below : (n : ℕ) (name : List ℕ) (names : List Named) → are_lets_below n names ≡ true → WhereSome (is_let_below n) (bound_to name names)
bound_below n name [] h = tt
bound_below n name (x ∷ xs) h =
    first_some (is_let_below n) (bound_to name xs) _ (bound_below n name xs (second_of_both _ _ h)) (one_some (is_let_below n) (bytes_eq x.name.bytes name) x.bound (first_of_both _ _ h))

bare_below : (n : ℕ) (preds : List Pred) (start : ℕ) (number : Option ℕ) → WhereOk (is_atom_below n) (bare_predicate preds start number)
bare_below n preds start None = tt
bare_below n preds start (Some number) = choose (is_atom_below n) (nat_eq (length (sorts_of preds number)) 0) _ _ refl tt

free_below : (n : ℕ) (preds : List Pred) (start : ℕ) (name : List ℕ) → WhereOk (is_atom_below n) (free_symbol preds start name)
free_below n preds start name =
    choose (is_atom_below n) (bytes_eq name (codes "true")) _ _ refl (choose (is_atom_below n) (bytes_eq name (codes "false")) _ _ refl (bare_below n preds start (pred_from 0 name preds)))

by_bound : (n : ℕ) (preds : List Pred) (start : ℕ) (name : List ℕ) (bound : Option Bound) → WhereSome (is_let_below n) bound → WhereOk (is_atom_below n) (bound_symbol preds start name bound)
by_bound n preds start name (Some (Variable number sort)) h = refl
by_bound n preds start name (Some (Let number sort constant)) h = h
by_bound n preds start name None h = free_below n preds start name

symbol_below : (n : ℕ) (preds : List Pred) (names : List Named) (start : ℕ) (name : List ℕ) → are_lets_below n names ≡ true → WhereOk (is_atom_below n) (symbol_atom preds names start name)
symbol_below n preds names start name h = by_bound n preds start name (bound_to name names) (bound_below n name names h)

number_below : (n start : ℕ) (k : Option _) → WhereOk (is_atom_below n) (numeral_atom start k)
number_below n start None = tt
number_below n start (Some k) = refl

leaf_below : (n : ℕ) (text : List ℕ) (preds : List Pred) (names : List Named) (kind : LeafKind) (start end : ℕ) → are_lets_below n names ≡ true
    → WhereOk (is_atom_below n) (leaf_atom text preds names kind start end)
leaf_below n text preds names Numeral start end h = number_below n start (numeral_if_short (short_number (number_of (inner text Numeral start end))))
leaf_below n text preds names Symbol start end h =
    choose (is_atom_below n) (is_word_among reserved_words (inner text Symbol start end)) _ _ tt (symbol_below n preds names start (inner text Symbol start end) h)
leaf_below n text preds names Quoted start end h = symbol_below n preds names start (inner text Quoted start end) h
leaf_below n text preds names Decimal start end h = tt
leaf_below n text preds names Text start end h = tt
leaf_below n text preds names Keyword start end h = tt

where_ok : (f : Atom → Bool) (r : Result Atom Fault) (a : Atom) → WhereOk f r → r ≡ Ok a → f a ≡ true
where_ok f (Ok b) a h is = let same : b ≡ a = cc in ap f (sym same) ∙ h
where_ok f (Err e) a h is = absurd (cc)

-- a leaf is no name of let but one of those
pub atom_of_leaf : (n : ℕ) (text : List ℕ) (preds : List Pred) (names : List Named) (kind : LeafKind) (start end : ℕ) (atom : Atom) → are_lets_below n names ≡ true
    → leaf_atom text preds names kind start end ≡ Ok atom → is_atom_below n atom ≡ true
atom_of_leaf n text preds names kind start end atom h is = where_ok (is_atom_below n) (leaf_atom text preds names kind start end) atom (leaf_below n text preds names kind start end h) is
