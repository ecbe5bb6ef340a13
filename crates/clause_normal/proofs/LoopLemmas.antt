-- Steps of loops.
use Rattle.std.proofs.Common.{◌≡◌, ℕ, ◌+◌, ◌<◌, List, [], ◌∷◌, ◌++◌, length, map, drop, take, get_or, true, refl, ap, sym, ◌∙◌, subst, append_assoc}
use Rattle.std.proofs.lemmas.List.{drop_more, map-append, take_more}
use Rattle.std.specs.Prelude.{negsuc}
use Rattle.std.specs.List.{AllByRecursion}
use Rattle.term_tree.specs.declared.sort.Sort.{Sort}
use Rattle.term_tree.specs.declared.sort.Sort.TheVariants.{Int, Bool as Truth}
use Rattle.lin_atoms.specs.Algebra.{negated, plus}
use Rattle.lin_atoms.specs.declared.form.Form.{Form}
use Rattle.linear_terms.specs.Linear.{variable_form}
use Rattle.linear_terms.specs.Formula.{joined, le}
use Rattle.clause_normal.specs.Normal.{bits_from, conjunction}

-- what holds of those to come
pub all_at : {X : Type 0} (P : X → Type 0) (xs : List X) (i : ℕ) (d : X) → i < length xs → AllByRecursion P (drop i xs) → P (get_or xs i d) × AllByRecursion P (drop (i + 1) xs)
all_at {X} P xs i d h all = subst (λ (ys : List X). AllByRecursion P ys) (drop_more xs i d h) all

-- one more behind others
pub pushed : {X Y : Type 0} (f : X → Y) (xs : List X) (i : ℕ) (d : X) (before made new : List Y) (y : Y) → i < length xs → made ≡ before ++ map f (take i xs) → y ≡ f (get_or xs i d) → new ≡ made ++ y ∷ []
    → new ≡ before ++ map f (take (i + 1) xs)
pushed {X} {Y} f xs i d before made new y h so_far is put =
    put ∙ ap (λ (ys : List Y). ys ++ y ∷ []) so_far ∙ append_assoc before (map f (take i xs)) (y ∷ [])
    ∙ ap (λ (ys : List Y). before ++ ys) (ap (λ (z : Y). map f (take i xs) ++ z ∷ []) is ∙ sym (ap (map f) (take_more xs i d h) ∙ map-append f (take i xs) (get_or xs i d ∷ [])))

-- the bits of one more variable
pub integer_more : (out : List Form) (vars : List Sort) (v : ℕ) (d : Sort) (whole : List Form) → v < length vars → get_or vars v d ≡ Int → out ++ bits_from v (drop v vars) ≡ whole
    → out ++ bits_from (v + 1) (drop (v + 1) vars) ≡ whole
integer_more out vars v d whole h is so_far =
    sym (ap (λ (sorts : List Sort). out ++ bits_from v sorts) (drop_more vars v d h ∙ ap (λ (s : Sort). s ∷ drop (v + 1) vars) is)) ∙ so_far

pub truth_more : (out new : List Form) (vars : List Sort) (v : ℕ) (d : Sort) (whole : List Form) → v < length vars → get_or vars v d ≡ Truth
    → new ≡ out ++ (le (negated (variable_form v)) ∷ le (plus (variable_form v) (negsuc 0)) ∷ []) → out ++ bits_from v (drop v vars) ≡ whole → new ++ bits_from (v + 1) (drop (v + 1) vars) ≡ whole
truth_more out new vars v d whole h is put so_far =
    ap (λ (fs : List Form). fs ++ bits_from (v + 1) (drop (v + 1) vars)) put
    ∙ append_assoc out (le (negated (variable_form v)) ∷ le (plus (variable_form v) (negsuc 0)) ∷ []) (bits_from (v + 1) (drop (v + 1) vars))
    ∙ sym (ap (λ (sorts : List Sort). out ++ bits_from v sorts) (drop_more vars v d h ∙ ap (λ (s : Sort). s ∷ drop (v + 1) vars) is)) ∙ so_far

-- a conjunction of some parts
pub conjoined : (parts : List Form) → (parts ≡ [] → ⊥) → joined true parts ≡ conjunction parts
conjoined [] some = absurd (some refl)
conjoined (form ∷ []) some = refl
conjoined (form ∷ next ∷ forms) some = refl
