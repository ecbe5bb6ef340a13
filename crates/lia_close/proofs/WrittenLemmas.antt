-- Trees that are written step by step.
use Rattle.std.proofs.Common.{◌≡◌, ℕ, List, [], ◌∷◌, ◌++◌, map, take, drop, reverse, length, refl, ap, ◌∙◌, subst, true, Some}
use Rattle.std.specs.Prelude.{slice_get}
use Rattle.std.specs.List.{list_all}
use Rattle.std.proofs.lemmas.List.{length-map, reverse-append}
use Rattle.lin_atoms.specs.Denial.{lit_fits}
use Rattle.lin_atoms.specs.Linear.{Linear}
use Rattle.lin_atoms.specs.declared.lit.Lit.TheVariants.{Le}
use Rattle.lin_atoms.specs.declared.form.Form.{Form}
use Rattle.refutation_trees.specs.Combination.{one_minus}
use Rattle.refutation_trees.specs.Refutation.{has_quotient, new_variable, quotient_at}
use Rattle.refutation_trees.specs.declared.tree.Refutation.{Refutation}
use Rattle.lia_close.specs.Placed.{AreSoundAt, IsSoundAt, Place, in_part, with_known}
use Rattle.lia_close.specs.Written.{assembled, with_step}
use Rattle.lia_close.specs.declared.written.Step.{Step}
use Rattle.lia_close.specs.declared.written.Step.TheVariants.{Split, Cases, Named, Closed}
use Rattle.lia_close.proofs.PlacedLemmas.{sound-cases, sound-quotient, sound-split}

-- what is written later is below
pub assembled-++ : (steps more : List Step) (trees : List Refutation) → assembled (steps ++ more) trees ≡ assembled steps (assembled more trees)
assembled-++ [] more trees = refl
assembled-++ (step ∷ steps) more trees = ap (with_step step) (assembled-++ steps more trees)

-- one step more
pub assembled-push : (steps news : List Step) (step : Step) (trees : List Refutation) → news ≡ steps ++ step ∷ [] → assembled news trees ≡ assembled steps (with_step step trees)
assembled-push steps news step trees e = ap (λ (ss : List Step). assembled ss trees) e ∙ assembled-++ steps (step ∷ []) trees

-- trees are stacked with the next at the end
pub reverse-push : {X : Type 0} (xs : List X) (x : X) → reverse (xs ++ x ∷ []) ≡ x ∷ reverse xs
reverse-push xs x = reverse-append xs (x ∷ [])

-- the trees of the first places, and of those behind them
pub sound-apart : (end : ℕ) (these those : List Place) (trees : List Refutation) → AreSoundAt end (these ++ those) trees → AreSoundAt end these (take (length these) trees) × AreSoundAt end those (drop (length these) trees)
sound-apart end [] those trees is = (tt, is)
sound-apart end (place ∷ these) those [] is = absurd is
sound-apart end (place ∷ these) those (tree ∷ trees) is = let rest = sound-apart end these those trees is.1 in ((is.0, rest.0), rest.1)

-- each kind of step: trees for what is open behind it are trees for what is open before it
pub sound-closed : (end : ℕ) (place : Place) (places : List Place) (tree : Refutation) (trees : List Refutation) → IsSoundAt end place tree → AreSoundAt end places trees → AreSoundAt end (place ∷ places) (with_step (Closed tree) trees)
sound-closed end place places tree trees is all = (is, all)

pub sound-named : (end : ℕ) (place : Place) (places : List Place) (lit : ℕ) (trees : List Refutation) → has_quotient place.known lit (new_variable end place.known) ≡ true → list_all lit_fits (quotient_at place.known lit (new_variable end place.known)) ≡ true
    → AreSoundAt end (with_known place (quotient_at place.known lit (new_variable end place.known)) ∷ places) trees → AreSoundAt end (place ∷ places) (with_step (Named lit) trees)
sound-named end place places lit [] legal room is = absurd is
sound-named end place places lit (tree ∷ trees) legal room is = (sound-quotient end place lit tree legal room is.0, is.1)

pub sound-sides : (end : ℕ) (place : Place) (places : List Place) (lin : Linear) (trees : List Refutation) → lit_fits (Le lin) ≡ true → lit_fits (Le (one_minus lin)) ≡ true
    → AreSoundAt end (with_known place (Le lin ∷ []) ∷ with_known place (Le (one_minus lin) ∷ []) ∷ places) trees → AreSoundAt end (place ∷ places) (with_step (Split lin) trees)
sound-sides end place places lin [] low high is = absurd is
sound-sides end place places lin (below ∷ []) low high is = absurd is.1
sound-sides end place places lin (below ∷ above ∷ trees) low high is = (sound-split end place lin below above low high is.0 is.1.0, is.1.1)

pub sound-parts : (end : ℕ) (place : Place) (places : List Place) (which : ℕ) (parts : List Form) (trees : List Refutation) → slice_get place.cases which ≡ Some parts
    → AreSoundAt end (map (in_part which place) parts ++ places) trees → AreSoundAt end (place ∷ places) (with_step (Cases which (length parts)) trees)
sound-parts end place places which parts trees there is =
    let both = sound-apart end (map (in_part which place) parts) places trees is in
    let many : length (map (in_part which place) parts) ≡ length parts = length-map parts (in_part which place) in
    let subs : AreSoundAt end (map (in_part which place) parts) (take (length parts) trees) = subst (λ (n : ℕ). AreSoundAt end (map (in_part which place) parts) (take n trees)) many both.0 in
    let rest : AreSoundAt end places (drop (length parts) trees) = subst (λ (n : ℕ). AreSoundAt end places (drop n trees)) many both.1 in
    (sound-cases end place which parts (take (length parts) trees) there subs, rest)

-- one place has one tree
pub one-tree : (end : ℕ) (place : Place) (trees : List Refutation) → AreSoundAt end (place ∷ []) trees → length trees ≡ 1
one-tree end place [] is = absurd is
one-tree end place (tree ∷ []) is = refl
one-tree end place (tree ∷ more ∷ trees) is = absurd is.1

pub root-tree : (end : ℕ) (place : Place) (trees : List Refutation) (tree : Refutation) → trees ≡ tree ∷ [] → AreSoundAt end (place ∷ []) trees → IsSoundAt end place tree
root-tree end place trees tree e is = (subst (λ (ts : List Refutation). AreSoundAt end (place ∷ []) ts) e is).0
