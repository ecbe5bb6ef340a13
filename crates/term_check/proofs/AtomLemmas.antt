-- What the leaves of trees name.
use Rattle.std.proofs.Common.{◌≡◌, ℕ, ◌+◌, List, [], ◌∷◌, length, Bool, true, false, refl, ap, sym, ◌∙◌, subst, arith, Result, Ok, Err}
use Rattle.std.specs.Prelude.{Option, Some, None, slice_get, ℤ, pos, nat_eq, suc, if◌then◌else◌, codes}
use Rattle.std.specs.Str.{bytes_eq}
use Rattle.base.specs.Numeral.{number_of}
use Rattle.sexp_read.specs.declared.tree.LeafKind.{LeafKind}
use Rattle.sexp_read.specs.declared.tree.LeafKind.TheVariants.{Symbol, Quoted, Numeral, Decimal, Text, Keyword}
use Rattle.sexp_read.specs.Leaves.{inner, short_number}
use Rattle.term_tree.specs.declared.script.Pred.{Pred as Declared}
use Rattle.term_check.specs.declared.part.Fault.{Fault}
use Rattle.term_check.specs.declared.scope.Bound.{Bound}
use Rattle.term_check.specs.declared.scope.Bound.TheVariants.{Variable, Let}
use Rattle.term_check.specs.declared.scope.Named.{Named}
use Rattle.term_check.specs.declared.atom.Atom.{Atom}
use Rattle.term_check.specs.declared.atom.Atom.TheVariants.{Number, Truth, BoundVariable, LetName, Predicate}
use Rattle.term_tree.specs.declared.refusal.Kind.TheVariants.{Arity}
use Rattle.term_check.specs.Rules.{fault, is_short}
use Rattle.term_check.specs.Words.{is_word_among, reserved_words}
use Rattle.term_check.specs.Spelling.{bound_to, pred_from, sorts_in, bare_predicate, bound_symbol, symbol_atom, numeral_if_short, numeral_atom, leaf_atom}
use Rattle.term_check.proofs.OutcomeLemmas.{same_numbers}

-- a number is short, a bound name stands among the names, and a predicate is declared without arguments
abbrev pub IsAtom : List Declared → List Named → Atom → Type 0
IsAtom preds names (Number k) = is_short k ≡ true
IsAtom preds names (Truth value) = Unit {0}
IsAtom preds names (BoundVariable number sort) = (name : List ℕ) × (bound_to name names ≡ Some (Variable number sort))
IsAtom preds names (LetName number sort constant) = (name : List ℕ) × (bound_to name names ≡ Some (Let number sort constant))
IsAtom preds names (Predicate number) = (p : Declared) × (slice_get preds number ≡ Some p) × (length p.args ≡ 0)

found : (preds : List Declared) (names : List Named) (a b : Atom) → IsAtom preds names a → (let r : Result Atom Fault = Ok a in r) ≡ Ok b → IsAtom preds names b
found preds names a b is h = let same : a ≡ b = cc in subst (λ (x : Atom). IsAtom preds names x) same is

numeral_found : (preds : List Declared) (names : List Named) (start : ℕ) (k : ℤ) (b : Bool) (atom : Atom) → is_short k ≡ b → numeral_atom start (if b then Some k else None) ≡ Ok atom
    → IsAtom preds names atom
numeral_found preds names start k true atom e h = found preds names (Number k) atom e h
numeral_found preds names start k false atom e h = absurd (cc)

numeral_is : (preds : List Declared) (names : List Named) (start : ℕ) (o : Option ℕ) (atom : Atom) → numeral_atom start (numeral_if_short o) ≡ Ok atom → IsAtom preds names atom
numeral_is preds names start None atom h = absurd (cc)
numeral_is preds names start (Some n) atom h = numeral_found preds names start (pos n) (is_short (pos n)) atom refl h

-- a predicate's number leads to its declaration
pred_there : (name : List ℕ) (first number : ℕ) (preds : List Declared) → pred_from first name preds ≡ Some number → (i : ℕ) × (p : Declared) × (number ≡ first + i) × (slice_get preds i ≡ Some p)
pred_there name first number [] h = absurd (cc)
pred_there name first number (p ∷ preds) h = by (bytes_eq p.name.bytes name) h (pred_there name (first + 1) number preds)
  where
    here : (k : ℕ) → Some k ≡ Some number → number ≡ k + 0
    here k h = let same : k ≡ number = cc in omega (arith, same)

    by : (b : Bool) → (if b then Some first else pred_from (first + 1) name preds) ≡ Some number
        → (pred_from (first + 1) name preds ≡ Some number → (i : ℕ) × (p : Declared) × (number ≡ first + 1 + i) × (slice_get preds i ≡ Some p))
        → (i : ℕ) × (q : Declared) × (number ≡ first + i) × (slice_get (p ∷ preds) i ≡ Some q)
    by true h later = (0, p, here first h, refl)
    by false h later = let l = later h in (suc l.0, l.1, omega (arith, l.2), l.3)

abbrev bare_by : Bool → ℕ → Fault → Result Atom Fault
bare_by b number f = if b then Ok (Predicate number) else Err f

bare_found : (preds : List Declared) (names : List Named) (start number : ℕ) (p : Declared) (b : Bool) (f : Fault) (atom : Atom) → slice_get preds number ≡ Some p → nat_eq (length p.args) 0 ≡ b
    → bare_by b number f ≡ Ok atom → IsAtom preds names atom
bare_found preds names start number p true f atom there e h = found preds names (Predicate number) atom (p, there, same_numbers (length p.args) 0 e) h
bare_found preds names start number p false f atom there e h = absurd (cc)

bare_is : (preds : List Declared) (names : List Named) (start : ℕ) (name : List ℕ) (o : Option ℕ) (atom : Atom) → pred_from 0 name preds ≡ o → bare_predicate preds start o ≡ Ok atom
    → IsAtom preds names atom
bare_is preds names start name None atom e h = absurd (cc)
bare_is preds names start name (Some number) atom e h =
    let there = pred_there name 0 number preds e in
    let same : there.0 ≡ number = omega (arith, there.2) in
    let is = ap (λ (k : ℕ). slice_get preds k) (sym same) ∙ there.3 in
    bare_found preds names start number there.1 (nat_eq (length there.1.args) 0) (fault Arity start) atom is refl
    (ap (λ (q : Option Declared). bare_by (nat_eq (length (sorts_in q)) 0) number (fault Arity start)) (sym is) ∙ h)

free_found : (preds : List Declared) (names : List Named) (start : ℕ) (name : List ℕ) (a b : Bool) (atom : Atom)
    → (if a then Ok (Truth true) else if b then Ok (Truth false) else bare_predicate preds start (pred_from 0 name preds)) ≡ Ok atom → IsAtom preds names atom
free_found preds names start name true b atom h = found preds names (Truth true) atom tt h
free_found preds names start name false true atom h = found preds names (Truth false) atom tt h
free_found preds names start name false false atom h = bare_is preds names start name (pred_from 0 name preds) atom refl h

symbol_found : (preds : List Declared) (names : List Named) (start : ℕ) (name : List ℕ) (o : Option Bound) (atom : Atom) → bound_to name names ≡ o → bound_symbol preds start name o ≡ Ok atom
    → IsAtom preds names atom
symbol_found preds names start name (Some (Variable number sort)) atom e h = found preds names (BoundVariable number sort) atom (name, e) h
symbol_found preds names start name (Some (Let number sort constant)) atom e h = found preds names (LetName number sort constant) atom (name, e) h
symbol_found preds names start name None atom e h = free_found preds names start name (bytes_eq name (codes "true")) (bytes_eq name (codes "false")) atom h

unreserved : (preds : List Declared) (names : List Named) (start : ℕ) (name : List ℕ) (b : Bool) (f : Fault) (atom : Atom) → (if b then Err f else symbol_atom preds names start name) ≡ Ok atom
    → IsAtom preds names atom
unreserved preds names start name true f atom h = absurd (cc)
unreserved preds names start name false f atom h = symbol_found preds names start name (bound_to name names) atom refl h

pub leaf_is : (text : List ℕ) (preds : List Declared) (names : List Named) (kind : LeafKind) (start end : ℕ) (atom : Atom) → leaf_atom text preds names kind start end ≡ Ok atom
    → IsAtom preds names atom
leaf_is text preds names Numeral start end atom h = numeral_is preds names start (short_number (number_of (inner text Numeral start end))) atom h
leaf_is text preds names Symbol start end atom h =
    unreserved preds names start (inner text Symbol start end) (is_word_among reserved_words (inner text Symbol start end)) _ atom h
leaf_is text preds names Quoted start end atom h =
    symbol_found preds names start (inner text Quoted start end) (bound_to (inner text Quoted start end) names) atom refl h
leaf_is text preds names Decimal start end atom h = absurd (cc)
leaf_is text preds names Text start end atom h = absurd (cc)
leaf_is text preds names Keyword start end atom h = absurd (cc)
