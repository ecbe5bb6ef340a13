use Rattle.std.proofs.Common.{◌≡◌, ◌+◌, ◌++◌, ◌∷◌, [], ℤ, pos, neg_ℤ, List, ap, sym, ◌∙◌, drop, get_or, rules}
use Rattle.std.proofs.lemmas.List.{append_assoc, drop_more}
use Rattle.lin_atoms.specs.declared.lit.Lit.{Lit}
use Rattle.lin_atoms.specs.declared.lit.Lit.TheVariants.{Eq}
use Rattle.book_rules.specs.Areas.{point_cube_from}
use Rattle.cube_rules.proofs.places.point_cube.Goals as goal

pub loop-place-preserved : goal.loop-place-preserved
loop-place-preserved c =
    let i = c.loop-place.place in
    let tuple = c.args.tuple.now in
    let lits = c.loop-place.lits.items in
    let one = c.in_ok-equal.field-0 in
    let rest = point_cube_from (i + 1) (drop (i + 1) tuple) in
    let made : one ≡ Eq (record { terms = (i, pos 1) ∷ []; constant = neg_ℤ (get_or tuple i (pos 0)) }) = c.in_ok-equal.ensures ∙ search rules in
    ap (λ (xs : List Lit). xs ++ rest) c.in_ok-push.ensures.items ∙ append_assoc lits (one ∷ []) rest
    ∙ ap (λ (lit : Lit). lits ++ (lit ∷ rest)) made
    ∙ sym (ap (λ (xs : List ℤ). lits ++ point_cube_from i xs) (drop_more tuple i (pos 0) c.loop-place-test.true))
    ∙ c.loop-place.invariant
