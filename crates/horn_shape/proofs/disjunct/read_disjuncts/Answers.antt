use Rattle.std.proofs.Common.{◌≡◌, ◌+◌, ◌<◌, length, rules, ◌∷◌, ◌&&◌, ◌||◌, drop, drop-cons, add-one, get_or, ap, sym, ◌∙◌, subst}
use Rattle.std.specs.Prelude.{Some, true, false, nat_lt}
use Rattle.std.specs.List.{list_all}
use Rattle.term_tree.specs.declared.node.TermId.{TermId}
use Rattle.term_tree.specs.Arena.{is_below}
use Rattle.term_tree.proofs.Public.{both_true}
use Rattle.horn_shape.specs.Shape.{disjunct_reading, disjuncts, is_application}
use Rattle.horn_shape.specs.machinery.Gathering.{onto, place_of}
use Rattle.horn_shape.proofs.GatherLemmas.{disjuncts_more, onto_both}
use Rattle.horn_shape.proofs.disjunct.read_disjuncts.Goals as goal

pub loop-id-preserved : goal.loop-id-preserved
loop-id-preserved c =
    let nodes = c.args.terms.now.nodes in
    let lets = c.args.lets.now in
    let ids = c.args.ids.now in
    let i = c.loop-id.id-index in
    let id : TermId = get_or ids i (record { 0 = 0 }) in
    let node = c.node-node.result.now in
    let headed = c.loop-id.headed in
    let less : i < length ids = search rules in
    let split : drop i ids ≡ id ∷ drop (i + 1) ids = drop-cons ids i (record { 0 = 0 }) less ∙ ap (λ k. id ∷ drop k ids) (sym (add-one i)) in
    let is_head = c.is_application-is_head.ensures in
    let second : (headed && is_application (Some node)) ≡ false = ap (λ b. headed && b) (sym is_head) ∙ sym c.both.ensures ∙ c.if-both.false in
    let next : (headed || is_application (Some node)) ≡ c.either-headed.result = ap (λ b. headed || b) (sym is_head) ∙ sym c.either-headed.ensures in
    let here = disjunct_reading nodes (Some node) (place_of id lets) in
    let after = disjuncts nodes (headed || is_application (Some node)) lets (drop (i + 1) ids) in
    record {
      read =
          c.loop-id.invariant.read
          ∙ ap (λ ts. onto c.loop-id.out (disjuncts nodes headed lets ts)) split
          ∙ ap (onto c.loop-id.out) (disjuncts_more nodes headed lets id (drop (i + 1) ids) node false c.node-node.ensures.is second)
          ∙ onto_both c.loop-id.out c.read_disjunct.new.out here after c.in-Ok.ensures.read
          ∙ ap (λ h. onto c.read_disjunct.new.out (disjuncts nodes h lets (drop (i + 1) ids))) next;
      below =
          (both_true (nat_lt id.0 c.args.above.0) (list_all (is_below c.args.above.0) (drop (i + 1) ids))
          (subst (λ ts. list_all (is_below c.args.above.0) ts ≡ true) split c.loop-id.invariant.below)).1;
    }
