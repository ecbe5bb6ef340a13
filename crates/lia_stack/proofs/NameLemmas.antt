-- The numbers of literals, and of those that give their bounds, where more is known.
use Rattle.std.proofs.Common.{◌≡◌, ℕ, ◌+◌, List, [], ◌∷◌, ◌++◌, false, Some}
use Rattle.std.specs.Prelude.{slice_get}
use Rattle.lin_atoms.specs.declared.lit.Lit.{Lit}
use Rattle.int_rows.specs.Node.{end_of_quotients, quotients}
use Rattle.int_rows.specs.Ready.{has_no_variable}
use Rattle.lia_close.specs.Said.{AreAt, ArePlaced, AreReasons, said_by}
use Rattle.lia_close.proofs.Public.{get-more}

-- what gives bounds stays where more is known
pub reasons-more : (known more : List Lit) (q : ℕ) (lits : List Lit) (rs : List ℕ) → AreReasons known q lits rs → AreReasons (known ++ more) q lits rs
reasons-more known more q [] [] are = tt
reasons-more known more q [] (r ∷ rs) are = are
reasons-more known more q (lit ∷ lits) [] are = are
reasons-more known more q (lit ∷ lits) (r ∷ rs) are = ((λ some k l e. get-more known more (r + k) l (are.0 some k l e)), reasons-more known more (q + quotients lit) lits rs are.1)

-- and so does each literal's number
pub placed-more : (known more : List Lit) (lits : List Lit) (ps : List ℕ) → ArePlaced known lits ps → ArePlaced (known ++ more) lits ps
placed-more known more [] [] are = tt
placed-more known more [] (p ∷ ps) are = are
placed-more known more (lit ∷ lits) [] are = are
placed-more known more (lit ∷ lits) (p ∷ ps) are = (get-more known more p lit are.0, placed-more known more lits ps are.1)

-- one literal more with its number, or its reason
pub placed-push : (known lits : List Lit) (ps : List ℕ) (lit : Lit) (p : ℕ) → ArePlaced known lits ps → slice_get known p ≡ Some lit → ArePlaced known (lits ++ lit ∷ []) (ps ++ p ∷ [])
placed-push known [] [] lit p are there = (there, tt)
placed-push known [] (r ∷ ps) lit p are there = absurd are
placed-push known (l ∷ lits) [] lit p are there = absurd are
placed-push known (l ∷ lits) (r ∷ ps) lit p are there = (are.0, placed-push known lits ps lit p are.1 there)

pub reasons-push : (known : List Lit) (q : ℕ) (lits : List Lit) (rs : List ℕ) (lit : Lit) (r : ℕ) → AreReasons known q lits rs → (has_no_variable lit ≡ false → AreAt known r (said_by (end_of_quotients q lits) lit)) → AreReasons known q (lits ++ lit ∷ []) (rs ++ r ∷ [])
reasons-push known q [] [] lit r are there = (there, tt)
reasons-push known q [] (s ∷ rs) lit r are there = absurd are
reasons-push known q (l ∷ lits) [] lit r are there = absurd are
reasons-push known q (l ∷ lits) (s ∷ rs) lit r are there = (are.0, reasons-push known (q + quotients l) lits rs lit r are.1 there)
