-- Steps of facts with short values have short values.
use Rattle.std.proofs.Common.{◌≡◌, ℕ, zero, suc, ◌^◌, List, [], ◌∷◌, true, refl, subst}
use Rattle.std.specs.Prelude.{ℤ, nat_abs, slice_get, slice_index_or, Option, Some, None, option_map}
use Rattle.std.specs.List.{AllByRecursion, cons_option, list_all}
use Rattle.std.proofs.lemmas.Bool.{ltb-true}
use Rattle.base.specs.Widths.{is_short}
use Rattle.term_tree.specs.declared.sort.Sort.{Sort}
use Rattle.term_tree.specs.declared.sort.Sort.TheVariants.{Int as IntSort, Bool as BoolSort}
use Rattle.term_tree.specs.Truth.{as_values}
use Rattle.horn_shape.specs.Derivation.{Step}
use Rattle.horn_shape.specs.Instance.{GroundAtom}
use Rattle.clause_form.specs.System.{Clauses}
use Rattle.book_rules.specs.Instances.{Ground}
use Rattle.book_rules.specs.State.{Fact}
use Rattle.book_rules.specs.Values.{conclusion_is_short, fact_is_short}
use Rattle.book_rules.specs.Walks.{AllOf}
use Rattle.book_rules.proofs.ListLemmas.{both_true}
use Rattle.answer_text.specs.Printable.{IsShortValue}
use Rattle.cert_derivations.specs.Steps.{as_atom, own_sorts, script_step}
use Rattle.cert_derivations.proofs.LookUpLemmas.{some_is}
use Rattle.cert_derivations.specs.machinery.Adding.{steps_left}

pub values-short : (sorts : List Sort) (point : List ℤ) → list_all is_short point ≡ true → AllByRecursion IsShortValue (as_values sorts point)
values-short [] point all = tt
values-short (s ∷ sorts) [] all = tt
values-short (IntSort ∷ sorts) (n ∷ point) all =
    let both = both_true (is_short n) (list_all is_short point) all in
    (ltb-true (nat_abs n) (2 ^ 63) both.0, values-short sorts point both.1)
values-short (BoolSort ∷ sorts) (n ∷ point) all = (tt, values-short sorts point (both_true (is_short n) (list_all is_short point) all).1)

abbrev pub IsShortHead : Option GroundAtom → Type 0
IsShortHead None = Unit {0}
IsShortHead (Some atom) = AllByRecursion IsShortValue atom.values

pub record IsShortStep (s : Step) : Type 0 where
  pub values : AllByRecursion IsShortValue s.values
  pub conclusion : IsShortHead s.conclusion

head-short : (sys : Clauses) (conclusion : Option Ground) → conclusion_is_short conclusion ≡ true → IsShortHead (option_map (as_atom sys) conclusion)
head-short sys None short = tt
head-short sys (Some a) short = values-short (slice_index_or sys.preds a.0 []) a.1 short

step-short : (sys : Clauses) (among : List ℕ) (f : Fact) → fact_is_short f ≡ true → IsShortStep (script_step sys among f)
step-short sys among f short =
    let both = both_true (list_all is_short f.point) (conclusion_is_short f.conclusion) short in
    record { values = values-short (own_sorts (slice_get sys.clauses f.clause)) f.point both.0; conclusion = head-short sys f.conclusion both.1 }

all-at : {X : Type 0} (P : X → Type 0) (xs : List X) (n : ℕ) (x : X) → AllOf P xs → slice_get xs n ≡ Some x → P x
all-at P [] n x all at = absurd (cc)
all-at P (y ∷ xs) zero x all at = subst P (some_is y x at) all.0
all-at P (y ∷ xs) (suc n) x all at = all-at P xs n x all.1 at

pub steps-short : (sys : Clauses) (facts : List Fact) (among left : List ℕ) → AllOf (λ (f : Fact). fact_is_short f ≡ true) facts → AllByRecursion IsShortStep (steps_left sys facts among left)
steps-short sys facts among [] all = tt
steps-short sys facts among (n ∷ left) all = by (slice_get facts n) refl (steps-short sys facts among left all)
  where
    by : (found : Option Fact) → slice_get facts n ≡ found → AllByRecursion IsShortStep (steps_left sys facts among left)
        → AllByRecursion IsShortStep (cons_option (option_map (script_step sys among) found) (steps_left sys facts among left))
    by None there rest = rest
    by (Some f) there rest = (step-short sys among f (all-at (λ (g : Fact). fact_is_short g ≡ true) facts n f all there), rest)
