-- The bounds of the slacks, row by row.
use Rattle.std.proofs.Common.{◌≡◌, ℕ, List, [], ◌∷◌, ◌++◌, refl, ap, sym, ◌∙◌, ◌<◌, ◌+◌, true, false, Bool, cond, length, map, take, get_or, append_assoc}
use Rattle.std.specs.Prelude.{ℤ, Option}
use Rattle.std.specs.List.{list_all}
use Rattle.std.proofs.lemmas.Bool.{and_from}
use Rattle.std.proofs.lemmas.List.{map-append}
use Rattle.std.proofs.lemmas.List.Elements.{filter_more}
use Rattle.std.proofs.lemmas.List.Folds.{list_all-append}
use Rattle.lin_atoms.proofs.Public.{both_true}
use Rattle.int_rows.specs.Node.{has_row, in_rows}
use Rattle.int_rows.specs.Ready.{bounded_fits}
use Rattle.int_rows.specs.declared.bounds.Bounded.{Bounded}
use Rattle.lia_node.specs.machinery.Columns.{sides_fit, sides_of}

abbrev slacks : List Bounded → List (Option ℤ × Option ℤ)
slacks bs = map sides_of (in_rows bs)

-- one slack more has its bounds
pub slack-more : (front olds news : List (Option ℤ × Option ℤ)) (bs : List Bounded) (i : ℕ) (b : Bounded) → i < length bs → b ≡ get_or bs i b → olds ≡ front ++ slacks (take i bs) → news ≡ olds ++ slacks (b ∷ [])
    → news ≡ front ++ slacks (take (i + 1) bs)
slack-more front olds news bs i b less is made put =
    let one : in_rows (b ∷ []) ≡ in_rows (get_or bs i b ∷ []) = ap (λ (x : Bounded). in_rows (x ∷ [])) is in
    let more : in_rows (take (i + 1) bs) ≡ in_rows (take i bs) ++ in_rows (b ∷ []) = filter_more has_row bs i b less ∙ ap (λ (xs : List Bounded). in_rows (take i bs) ++ xs) (sym one) in
    put ∙ ap (λ (ss : List (Option ℤ × Option ℤ)). ss ++ slacks (b ∷ [])) made ∙ append_assoc front (slacks (take i bs)) (slacks (b ∷ []))
    ∙ ap (λ (ss : List (Option ℤ × Option ℤ)). front ++ ss) (sym (map-append sides_of (in_rows (take i bs)) (in_rows (b ∷ []))) ∙ ap (map sides_of) (sym more))

one-fits : (b : Bounded) (test : Bool) → bounded_fits b ≡ true → list_all sides_fit (map sides_of (cond test (b ∷ []) [])) ≡ true
one-fits b true h = and_from _ _ (both_true _ _ h).1 refl
one-fits b false h = refl

pub slack-fits : (olds news : List (Option ℤ × Option ℤ)) (b : Bounded) → bounded_fits b ≡ true → list_all sides_fit olds ≡ true → news ≡ olds ++ slacks (b ∷ []) → list_all sides_fit news ≡ true
slack-fits olds news b h fit put = ap (list_all sides_fit) put ∙ list_all-append sides_fit olds (slacks (b ∷ [])) ∙ and_from _ _ fit (one-fits b (has_row b) h)
