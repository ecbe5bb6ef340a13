-- What a conjunction gives is what its parts give, one after another.
use Rattle.std.proofs.Common.{◌≡◌, ◌<◌, ◌+◌, ℕ, List, [], ◌∷◌, ◌++◌, map, take, length, get_or, refl, ap, sym, ◌∙◌}
use mathlib.Core.Former.{Count}
use Rattle.std.specs.List.{flat_map}
use Rattle.std.proofs.lemmas.List.{flat_map_more, take_more}
use Rattle.refutation_trees.specs.Flatten.{literals, literals_step, disjunctions, disjunctions_of_row}
use Rattle.lin_atoms.specs.declared.lit.Lit.{Lit}
use Rattle.lin_atoms.specs.declared.form.Form.{Form, And', Or', Row_of-Form, end_of-Form, more_of-Form, items-the_row-Form, items_hidden-the_row-Form-0}
use Rattle.lin_atoms.specs.declared.form.Form.TheViews.{And, Or}
use Rattle.lin_atoms.specs.declared.form.Form.TheVariants.{Lit as Literal, rolls-And}
use Rattle.lin_atoms.specs.declared.form.Form.TheFolds.{fold-roll-Form}

joined_map : {X Y : Type 0} (f : X → List Y) (xs : List X) → flat_map (λ ys. ys) (map f xs) ≡ flat_map f xs
joined_map f [] = refl
joined_map f (x ∷ xs) = ap (λ ys. f x ++ ys) (joined_map f xs)

pub literals-And : (parts : List Form) → literals (And parts) ≡ flat_map literals parts
literals-And parts = ap literals (sym (rolls-And parts)) ∙ fold-roll-Form (List Lit) literals_step _ ∙ joined_map literals parts

of_row : (n : _) (row : Row_of-Form n) → disjunctions_of_row row ≡ flat_map disjunctions (items-the_row-Form n row)
of_row n end_of-Form = refl
of_row n (more_of-Form part rest) = ap (λ ys. disjunctions part ++ ys) (of_row _ rest)

abbrev row_of : Form → (n : Count) × Row_of-Form n
row_of (And' shape row) = (_, row)
row_of (Or' shape row) = (_, row)
row_of _ = (_, end_of-Form)

pub disjunctions-And : (parts : List Form) → disjunctions (And parts) ≡ flat_map disjunctions parts
disjunctions-And parts = let row = row_of (And parts) in of_row row.0 row.1 ∙ ap (flat_map disjunctions) (items_hidden-the_row-Form-0 parts)

pub disjunctions-Or : (parts : List Form) → disjunctions (Or parts) ≡ parts ∷ []
disjunctions-Or parts = let row = row_of (Or parts) in ap (λ ys. ys ∷ []) (items_hidden-the_row-Form-0 parts)

-- two literals have no disjunction
pub both-disjunctions : (l m : Lit) → disjunctions (And (Literal l ∷ Literal m ∷ [])) ≡ []
both-disjunctions l m = disjunctions-And (Literal l ∷ Literal m ∷ [])

-- one part more is put behind
pub part-more : {X Y : Type 0} (f : X → List Y) (parts : List X) (i : ℕ) (part : X) (old now new : List Y) → i < length parts → part ≡ get_or parts i part → now ≡ old ++ flat_map f (take i parts) → new ≡ now ++ f part
    → new ≡ old ++ flat_map f (take (i + 1) parts)
part-more f parts i part old now new less is before put =
    put ∙ ap (λ ys. ys ++ f part) before ∙ flat_map_more f old (take i parts) part
    ∙ ap (λ xs. old ++ flat_map f xs) (ap (λ x. take i parts ++ x ∷ []) is ∙ sym (take_more parts i part less))
