-- Lemmas that an area doesn't know are of the frame, on the atom's predicate.
use Rattle.std.proofs.Common.{◌≡◌, ℕ, true, not, ◌&&◌}
use Rattle.std.specs.Prelude.{◌==◌, nat_le}
use Rattle.clause_form.specs.declared.atom.Atom.{Atom}
use Rattle.model_project.specs.Kept.{Kept}
use Rattle.book_rules.specs.Areas.{knows}
use Rattle.book_rules.specs.Frames.{Framed}
use Rattle.cube_rules.specs.machinery.Walks.{is_on}
use Rattle.cube_rules.proofs.Public.{both_true}
use Rattle.step_rules.specs.machinery.Walks.{is_unknown}

pub unknown-on : (k : ℕ) (area : Kept) (atom : Atom) (e : Framed) → is_unknown k area atom e ≡ true → is_on k atom.pred e ≡ true
unknown-on k area atom e h = (both_true (nat_le k e.level && (e.lemma.pred == atom.pred)) (not (knows area atom e.lemma.cube)) h).0
