-- Facts of a book over the system of a script as steps of a derivation by the script's clauses: each step is an instance of
-- an assertion, at values of its variables (Robinson, "Automatic deduction with hyper-resolution"; Komuravelli, Gurfinkel
-- and Chaki, "SMT-based model checking for recursive programs", section 2).
use Rattle.std.specs.Prelude.{◌≡◌, ℕ, ◌==◌, List, [], ◌∷◌, ◌++◌, map, take, slice_get, slice_index_or, Option, Some, None, option_map}
use Rattle.std.specs.List.{All, Contains, filter_map, position_or_len}
use Rattle.term_tree.specs.declared.sort.Sort.{Sort}
use Rattle.term_tree.specs.Truth.{as_values}
use Rattle.horn_shape.specs.Derivation.{Step}
use Rattle.horn_shape.specs.Instance.{GroundAtom}
use Rattle.clause_form.specs.System.{Clauses}
use Rattle.clause_form.specs.declared.clause.Clause.{Clause}
use Rattle.clause_laws.specs.Point.{numbers}
use Rattle.book_rules.specs.Instances.{Ground}
use Rattle.book_rules.specs.State.{Fact}

-- values and atoms

-- the tuple by the sorts of its predicate
abbrev pub as_atom : Clauses → Ground → GroundAtom
as_atom sys a = record { pred = a.0; values = as_values (slice_index_or sys.preds a.0 []) a.1 }

-- and the other way: the values as integers
abbrev pub as_tuple : GroundAtom → Ground
as_tuple atom = (atom.pred, numbers atom.values)

-- steps

-- the sorts of the assertion's own variables, which are the first ones of its clause
abbrev pub own_sorts : Option Clause → List Sort
own_sorts None = []
own_sorts (Some clause) = take clause.user clause.sorts

-- the place of a fact among those of these numbers
abbrev pub place_among : List ℕ → ℕ → ℕ
place_among facts n = position_or_len (λ m. m == n) facts

-- a fact as a step, among the facts of these numbers: the assertion that its clause is of, the values of the assertion's own
-- variables at its point, its premises by their places among them, and its conclusion
abbrev pub script_step : Clauses → List ℕ → Fact → Step
script_step sys among f =
    record {
      assertion = f.clause;
      values = as_values (own_sorts (slice_get sys.clauses f.clause)) f.point;
      premises = map (place_among among) f.premises;
      conclusion = option_map (as_atom sys) f.conclusion;
    }

-- the facts of these numbers as steps, in order
abbrev pub script_steps : Clauses → List Fact → List ℕ → List Step
script_steps sys facts among = filter_map (λ n. option_map (script_step sys among) (slice_get facts n)) among

-- numbers of facts in an order of derivation

-- the fact of number n, behind those of these numbers: its premises are among them
pub record IsBehind (facts : List Fact) (before : List ℕ) (n : ℕ) : Type 0 where
  pub fact : Fact
  pub there : slice_get facts n ≡ Some fact
  pub premises : All (Contains before) fact.premises

abbrev pub AreBehind : List Fact → List ℕ → List ℕ → Type 0
AreBehind facts before [] = Unit {0}
AreBehind facts before (n ∷ rest) = IsBehind facts before n × AreBehind facts (before ++ n ∷ []) rest

-- each of these facts stands behind its premises
abbrev pub AreClosed : List Fact → List ℕ → Type 0
AreClosed facts among = AreBehind facts [] among
