-- What every book keeps, as its readers say it.
use Rattle.std.proofs.Common.{◌≡◌, ℕ, ◌≤◌, List, [], length, Bool, true, false, subst, sym}
use Rattle.std.specs.Prelude.{Option}
use Rattle.std.specs.Bool.{OnTrue, OnFalse}
use Rattle.obligation_tree.specs.Nodes.{TreeState as Tree}
use Rattle.book_rules.specs.Frames.{AreGood}
use Rattle.book_rules.specs.Instances.{instances}
use Rattle.book_rules.specs.Kept.{AreDerivable, AreInRange, ArePlaced}
use Rattle.book_rules.proofs.FrameLemmas.{good}
use Rattle.book_rules.proofs.OrderedLemmas.{placed}
use Rattle.chc_core.specs.Contents.{Contents}
use Rattle.chc_core.specs.Views.{state_of}
use Rattle.chc_core.specs.machinery.Books.{IsBook}
use Rattle.chc_core.proofs.BookLemmas.{kept-claims, ordered, sound}

pub good-lemmas : (b : Contents) → IsBook b → AreGood (instances b.system) (state_of b).lemmas
good-lemmas b kept = good (instances b.system) (state_of b) (sound b kept)

pub levels-within : (b : Contents) → IsBook b → AreInRange b.level (state_of b).lemmas
levels-within b kept = (ordered b kept).levels

pub derivable-facts : (b : Contents) → IsBook b → AreDerivable (instances b.system) (state_of b).facts
derivable-facts b kept = (sound b kept).derived

pub placed-nodes : (b : Contents) → IsBook b → ArePlaced (state_of b)
placed-nodes b kept = placed (state_of b) (ordered b kept)

-- a claim, whether it is given or not
pub claimed-kept : (b : Contents) (tree : Tree) (claims : List (Option ℕ)) (given : Bool) → OnTrue given (tree ≡ record b.tree { claims = claims }) → OnFalse given (tree ≡ b.tree) → IsBook b → IsBook (record b { tree = tree })
claimed-kept b tree claims true is never kept = subst (λ (t : Tree). IsBook (record b { tree = t })) (sym is) (kept-claims b claims kept)
claimed-kept b tree claims false never is kept = subst (λ (t : Tree). IsBook (record b { tree = t })) (sym is) kept
