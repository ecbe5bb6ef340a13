use Rattle.std.proofs.Common.{◌≡◌, ◌≤◌, ◌^◌, refl, ap, sym, ◌∙◌, subst, arith, rules}
use Rattle.std.specs.Prelude.{true, false, Ok}
use Rattle.std.specs.List.{list_all}
use Rattle.term_tree.specs.Arena.{is_below, has_parts_below}
use Rattle.term_tree.specs.declared.node.Node.{Node}
use Rattle.horn_shape.specs.Shape.{head_of, disjunct_form}
use Rattle.horn_shape.specs.Flags.{flag_of}
use Rattle.horn_shape.specs.machinery.Gathering.{onto, place_of}
use Rattle.horn_shape.proofs.FlagLemmas.{application_by}
use Rattle.horn_shape.proofs.GatherLemmas.{same_stop}
use Rattle.horn_shape.proofs.disjunct.read_disjunct_form.Goals as goal

pub returns-then-not-are_plain-clause-misfit : goal.returns-then-not-are_plain-clause-misfit
returns-then-not-are_plain-clause-misfit c = λ offset is.
    let nodes = c.args.terms.now.nodes in
    let place = place_of c.args.id c.args.lets.now in
    let args_below : list_all (is_below c.args.id.0) c.in-Pred.args ≡ true = subst (λ (n : Node). has_parts_below c.args.id.0 n ≡ true) c.in-Pred.is c.requires.below in
    let flag : list_all (λ a. flag_of c.args.plain.now a.0) c.in-Pred.args ≡ false = search rules in
    let fits : c.args.id.0 ≤ 2 ^ 32 = omega (arith, c.requires.short) in
    let eq = ap (λ (n : Node). disjunct_form nodes n place) c.in-Pred.is
    ∙ application_by nodes c.args.plain.now c.args.id.0 head_of c.in-Pred.pred c.in-Pred.args place false c.requires.flags fits args_below flag in
    (c.args.id, ap (onto c.args.out.now) eq, c.misfit.ensures offset (same_stop _ _ _ _ refl refl is))

pub returns-in_ok-put_head-in-Pred-clause-read : goal.returns-in_ok-put_head-in-Pred-clause-read
returns-in_ok-put_head-in-Pred-clause-read c =
    let nodes = c.args.terms.now.nodes in
    let place = place_of c.args.id c.args.lets.now in
    let args_below : list_all (is_below c.args.id.0) c.in-Pred.args ≡ true = subst (λ (n : Node). has_parts_below c.args.id.0 n ≡ true) c.in-Pred.is c.requires.below in
    let flag : list_all (λ a. flag_of c.args.plain.now a.0) c.in-Pred.args ≡ true = search rules in
    let fits : c.args.id.0 ≤ 2 ^ 32 = omega (arith, c.requires.short) in
    let eq = ap (λ (n : Node). disjunct_form nodes n place) c.in-Pred.is
    ∙ application_by nodes c.args.plain.now c.args.id.0 head_of c.in-Pred.pred c.in-Pred.args place true c.requires.flags fits args_below flag in
    ap (onto c.args.out.now) eq ∙ ap (λ x. Ok x) (sym (search rules))
