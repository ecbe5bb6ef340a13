-- The literals that are gathered one after another are an area.
use Rattle.std.proofs.Common.{◌≡◌, ℕ, List, [], ◌∷◌, ◌++◌, true, refl, ap, sym, ◌∙◌}
use Rattle.std.specs.Prelude.{ℤ}
use Rattle.std.specs.List.{list_all}
use Rattle.std.proofs.lemmas.List.{append_assoc}
use Rattle.std.proofs.lemmas.List.Folds.{list_all-append}
use Rattle.lin_atoms.specs.Truth.{lit_truth}
use Rattle.lin_atoms.specs.declared.lit.Lit.{Lit}
use Rattle.clause_form.specs.declared.clause.Clause.{Clause}
use Rattle.cube_forms.specs.Cubes.{cube_at}
use Rattle.book_rules.specs.Areas.{cover, is_among}
use Rattle.book_rules.specs.Frames.{Framed}
use Rattle.book_rules.specs.Queries.{args_of}
use Rattle.cube_rules.proofs.Public.{both_true, from_both}
use Rattle.area_literals.specs.Areas.{IsAreaOf, are_new}
use Rattle.area_literals.specs.machinery.Growing.{AreAdded, AreFramesGathered, IsGathered}
use Rattle.area_literals.proofs.CoverLemmas.{among-more, covers-more}
use Rattle.area_literals.proofs.GrowLemmas.{are_new-append}

all-among : (lits more those : List Lit) → list_all (is_among lits) those ≡ true → list_all (is_among (lits ++ more)) those ≡ true
all-among lits more [] h = refl
all-among lits more (lit ∷ those) h = let both = both_true (is_among lits lit) _ h in from_both (is_among (lits ++ more) lit) _ (among-more lits more lit both.0) (all-among lits more those both.1)

pub area-is : (clause : Clause) (cube : List Lit) (es : List Framed) (k : ℕ) (point : List ℤ) (start a b c : List Lit) → start ≡ [] → IsGathered point clause.guard start a → AreAdded point (cube_at (args_of clause.head) cube) a b → AreFramesGathered point k es clause.atoms b c
    → IsAreaOf clause cube es k point c
area-is clause cube es k point start a b c none guard head frame =
    let first : a ≡ guard.more = guard.is ∙ ap (λ (xs : List Lit). xs ++ guard.more) none in
    let second : b ≡ guard.more ++ head.more = head.is ∙ ap (λ (xs : List Lit). xs ++ head.more) first in
    let whole : c ≡ guard.more ++ (head.more ++ frame.more) = frame.is ∙ ap (λ (xs : List Lit). xs ++ frame.more) second ∙ append_assoc guard.more head.more frame.more in
    record {
      guard_lits = guard.more;
      cube_lits = head.more;
      frame_lits = frame.more;
      is = whole;
      of_guard = guard.stand;
      of_cube = head.stand;
      of_frame = frame.stand;
      hold = ap (list_all (lit_truth point)) whole ∙ list_all-append (lit_truth point) guard.more (head.more ++ frame.more)
          ∙ from_both _ _ guard.hold (list_all-append (lit_truth point) head.more frame.more ∙ from_both _ _ head.hold frame.hold);
      once = ap (are_new []) whole ∙ are_new-append [] guard.more (head.more ++ frame.more)
          ∙ from_both (are_new [] guard.more) _ (ap (λ (xs : List Lit). are_new xs guard.more) (sym none) ∙ guard.once)
          (are_new-append guard.more head.more frame.more ∙ from_both (are_new guard.more head.more) _ (ap (λ (xs : List Lit). are_new xs head.more) (sym first) ∙ head.once) (ap (λ (xs : List Lit). are_new xs frame.more) (sym second) ∙ frame.once));
      guard = ap (λ (xs : List Lit). cover xs clause.guard) frame.is
          ∙ covers-more b frame.more clause.guard (ap (λ (xs : List Lit). cover xs clause.guard) head.is ∙ covers-more a head.more clause.guard guard.now);
      head = ap (λ (xs : List Lit). list_all (is_among xs) (cube_at (args_of clause.head) cube)) frame.is ∙ all-among b frame.more (cube_at (args_of clause.head) cube) head.now;
      known = frame.now;
    }
