-- With the values of the constants, what is found is the first term without room.
use Rattle.std.proofs.Common.{◌≡◌, ℕ, ◌+◌, ◌<◌, List, [], ◌∷◌, length, map, true, ◌&&◌, refl, ap, sym, ◌∙◌, arith}
use Rattle.std.specs.Prelude.{slice_get, Option, Some, ℤ, not}
use Rattle.std.specs.List.{list_any}
use Rattle.term_tree.specs.declared.node.TermId.{TermId}
use Rattle.term_tree.specs.declared.node.Node.{Node}
use Rattle.term_tree.specs.declared.node.Node.TheVariants.{Op}
use Rattle.term_tree.specs.Arena.{IsArena, has_parts_below}
use Rattle.term_tree.specs.Constants.{constant_of}
use Rattle.term_tree.specs.Subterms.{IsSubterm, inside, is_among, is_part, itself}
use Rattle.term_tree.proofs.Public.{arena_below, part_below, there_is}
use Rattle.lin_atoms.specs.Linear.{Linear}
use Rattle.linear_terms.specs.Formula.{sides}
use Rattle.linear_terms.specs.Linear.{Naming, is_narrow, less, linear_of}
use Rattle.linear_terms.specs.Width.{first_of_two, first_wide, first_where, is_relation, is_wide_comparison, is_wide_relation, is_wide_term}
use Rattle.linear_terms.proofs.PartLemmas.{first_among, later_among}
use Rattle.term_forms.specs.Found.{form_by, is_wide}
use Rattle.term_forms.proofs.LegalLemmas.{firsts_same, forms_same}
use Rattle.term_widths.specs.Wide.{first_wide_by, has_wide_sides}

-- sides with the same forms
sides_same : (f g : ℕ → Linear) (args : List TermId) → ((part : ℕ) → is_among part args ≡ true → f part ≡ g part) → map (λ (a : TermId). f a.0) args ≡ map (λ (a : TermId). g a.0) args
sides_same f g [] same = refl
sides_same f g (a ∷ args) same =
    ap (λ (l : Linear). l ∷ map (λ (b : TermId). f b.0) args) (same a.0 (first_among a args))
    ∙ ap (λ (ls : List Linear). g a.0 ∷ ls) (sides_same f g args (λ part has. same part (later_among part a args has)))

relation_same : (f g : ℕ → Linear) (node : Node) → ((part : ℕ) → is_part part node ≡ true → f part ≡ g part) → is_wide_relation f (Some node) ≡ is_wide_relation g (Some node)
relation_same f g (Op op args) same =
    ap (λ (ls : List Linear). is_relation op && list_any (λ (p : Linear × Linear). not (is_narrow (less p.0 p.1))) (sides op ls)) (sides_same f g args same)
relation_same f g _ same = refl

pub judged_same : (constant : ℕ → Option ℤ) (naming : Naming) (nodes : List Node) (top : ℕ) → IsArena nodes
    → ((q : ℕ) → IsSubterm nodes top q → q < length nodes → constant q ≡ constant_of nodes q) → top < length nodes → first_wide_by constant naming nodes top ≡ first_wide naming nodes top
judged_same constant naming nodes top arena same within =
    let forms : (k : ℕ) → IsSubterm nodes top k → k < length nodes → form_by constant naming nodes k ≡ linear_of naming nodes k =
    λ k below there. forms_same constant (constant_of nodes) naming nodes top arena same (k + 1) k (omega arith) there below in
    let relations : (k : ℕ) → IsSubterm nodes top k → k < length nodes → has_wide_sides constant naming nodes k ≡ is_wide_comparison naming nodes k =
    λ k below there.
    let found = there_is nodes k there in
    let node : Node = found.0 in
    let is : slice_get nodes k ≡ Some node = found.1 in
    let parts : has_parts_below k node ≡ true = arena_below nodes k node arena is in
    ap (is_wide_relation (form_by constant naming nodes)) is
    ∙ relation_same (form_by constant naming nodes) (linear_of naming nodes) node
    (λ part has. let smaller : part < k = part_below part k node parts has in forms part (inside part node below is has) (omega arith))
    ∙ ap (is_wide_relation (linear_of naming nodes)) (sym is) in
    ap (λ (o : Option ℕ). first_of_two o (first_where (has_wide_sides constant naming nodes) nodes top))
    (firsts_same (is_wide constant naming nodes) (is_wide_term naming nodes) nodes top arena (λ k below there. ap (λ (l : Linear). not (is_narrow l)) (forms k below there)) (top + 1) top (omega arith) within itself)
    ∙ ap (first_of_two (first_where (is_wide_term naming nodes) nodes top))
    (firsts_same (has_wide_sides constant naming nodes) (is_wide_comparison naming nodes) nodes top arena relations (top + 1) top (omega arith) within itself)
