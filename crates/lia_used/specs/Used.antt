-- What is decided of a formula with lemmas where a refutation is of the lemmas that it uses.
use Rattle.std.specs.Prelude.{◌≡◌, ℕ, List, ◌∷◌, true, nat_lt, length, map, slice_index_or}
use Rattle.std.specs.List.{list_all}
use Rattle.lin_atoms.specs.declared.form.Form.{Form}
use Rattle.lin_atoms.specs.declared.form.Form.TheViews.{And}
use Rattle.lin_atoms.specs.declared.form.Form.TheVariants.{True}
use Rattle.int_rows.specs.Basis.{are_rising}
use Rattle.farkas_proof.specs.Kept.{form_of}
use Rattle.farkas_proof.specs.declared.refuted.Refuted.{Refuted as Refutation}
use Rattle.lia_search.specs.Decides.{Decides}
use Rattle.lia_search.specs.declared.decision.Decision.TheVariants.{Model as Decision-Model, GaveUp as Decision-GaveUp}
use Rattle.lia_used.specs.declared.outcome.Outcome.{Outcome}
use Rattle.lia_used.specs.declared.outcome.Outcome.TheVariants.{Model, Refuted, GaveUp}

-- numbers of lemmas, of which there are so many: each of a lemma that is there, and in order, so none twice
pub record AreNumbers (count : ℕ) (numbers : List ℕ) : Type 0 where
  pub rising : are_rising 0 numbers ≡ true
  pub within : list_all (λ n. nat_lt n count) numbers ≡ true

-- the lemma of a number that is there
abbrev pub lemma_at : List Form → ℕ → Form
lemma_at lemmas n = slice_index_or lemmas n True

-- what is kept as refuted is the conjunction of the formula and of the lemmas of these numbers
pub record IsRefutedBy (form : Form) (lemmas : List Form) (used : List ℕ) (refuted : Refutation) : Type 0 where
  pub numbers : AreNumbers (length lemmas) used
  pub whole : form_of refuted ≡ And (form ∷ map (lemma_at lemmas) used)

-- a point or a formula that was given up, as for the conjunction of the formula and of all lemmas; or a refutation by some lemmas. What is kept carries its proof
abbrev pub DecidesUsed : Form → List Form → ℕ → ℕ → Outcome → Type 0
DecidesUsed form lemmas vars nodes (Model point) = Decides (And (form ∷ lemmas)) vars nodes (Decision-Model point)
DecidesUsed form lemmas vars nodes (Refuted proof used) = IsRefutedBy form lemmas used.items proof
DecidesUsed form lemmas vars nodes (GaveUp gave_up) = Decides (And (form ∷ lemmas)) vars nodes (Decision-GaveUp gave_up)
