use Rattle.std.proofs.Common.{◌≡◌, ◌∙◌, ◌++◌, ◌∷◌, [], ap, sym, map, List, ℕ, ◌+◌, arith}
use Rattle.std.specs.List.{list_all, range_with_len}
use Rattle.std.specs.Prelude.{Option, ℤ}
use Rattle.std.proofs.lemmas.List.{map-append}
use Rattle.int_rows.proofs.Public.{range-more}
use Rattle.lia_node.specs.machinery.Columns.{sides_fit, sides_on}
use Rattle.lia_node.proofs.MeetLemmas.{none-fit}
use Rattle.lia_node.proofs.columns.without_bounds.Goals as goal

pub loop-preserved : goal.loop-preserved
loop-preserved c =
    let v = c.loop.counter in
    let here : v ≡ 0 + v = omega arith in
    let is : c.push.new.self.items ≡ map (sides_on []) (range_with_len 0 (v + 1)) =
    c.in_ok-push.ensures.items ∙ ap (λ (made : List (Option ℤ × Option ℤ)). made ++ sides_on [] v ∷ []) c.loop.invariant.is
    ∙ sym (map-append (sides_on []) (range_with_len 0 v) (v ∷ [])) ∙ ap (map (sides_on [])) (ap (λ (k : ℕ). range_with_len 0 v ++ k ∷ []) here ∙ sym (range-more 0 v)) in
    record {
      is = is;
      fit = ap (list_all sides_fit) is ∙ none-fit 0 (v + 1);
    }
