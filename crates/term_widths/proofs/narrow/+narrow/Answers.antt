use Rattle.std.proofs.Common.{◌≡◌, ◌<◌, List, length, map, true, rules, ap, sym, ◌∙◌, subst, arith}
use Rattle.std.specs.Prelude.{slice_get, Some, IsTrue}
use Rattle.std.specs.List.{list_all}
use Rattle.std.proofs.lemmas.Option.{slice_get_within}
use Rattle.term_tree.specs.declared.node.TermId.{TermId}
use Rattle.term_tree.specs.declared.node.Node.{Node}
use Rattle.term_tree.specs.declared.node.Node.TheVariants.{Num, Var, LetVar, Op, Let}
use Rattle.term_tree.specs.Arena.{has_parts_below, is_below}
use Rattle.term_tree.proofs.Public.{arena_below, below_from, both_true}
use Rattle.lin_atoms.specs.Linear.{Linear, of_constant}
use Rattle.linear_terms.specs.Linear.{auxiliary_form, is_narrow, operation_form, told_linear, variable_form, zero_form}
use Rattle.linear_terms.proofs.PartLemmas.{linear_at}
use Rattle.term_tables.specs.machinery.Table.{constant_in}
use Rattle.term_forms.specs.Found.{form_by, naming_in}
use Rattle.term_widths.specs.machinery.Seen.{is_sum}
use Rattle.term_widths.proofs.NarrowLemmas.{body_narrow, if_same, name_narrow, other_is, sum_is, sum_narrow}
use Rattle.term_widths.proofs.SeekLemmas.{parts_narrow}
use Rattle.term_widths.proofs.narrow.+narrow.Goals as goal

pub narrow_form-named_form-requires : goal.narrow_form-named_form-requires
narrow_form-named_form-requires t c =
    let constant = constant_in c.args.constants.now in
    let naming = naming_in c.args.names.now.own.items c.args.names.now.auxiliary in
    let nodes = c.args.terms.now.nodes in
    let id = c.args.id.0 in
    let bound = c.in-LetVar.bound in
    let there : slice_get nodes id ≡ Some (LetVar bound) = c.node-node.ensures.is ∙ ap (λ (n : Node). Some n) c.in-LetVar.is in
    let below : has_parts_below id (LetVar bound) ≡ true = ap (has_parts_below id) (sym c.in-LetVar.is) ∙ c.node-node.ensures.below in
    let less : bound.0 < id = below_from bound.0 id below in
    let within : id < length nodes = c.requires.there in (
      let d = c.decreases in omega (arith, d, less),
      (omega (arith, less, within), (name_narrow constant naming nodes id bound there below c.requires.narrow, c.requires.known)),
    )

pub narrow_form-narrow_form-requires : goal.narrow_form-narrow_form-requires
narrow_form-narrow_form-requires t c =
    let constant = constant_in c.args.constants.now in
    let naming = naming_in c.args.names.now.own.items c.args.names.now.auxiliary in
    let nodes = c.args.terms.now.nodes in
    let id = c.args.id.0 in
    let bound = c.in-Let.bound in
    let body = c.in-Let.body in
    let there : slice_get nodes id ≡ Some (Let bound body) = c.node-node.ensures.is ∙ ap (λ (n : Node). Some n) c.in-Let.is in
    let below : has_parts_below id (Let bound body) ≡ true = ap (has_parts_below id) (sym c.in-Let.is) ∙ c.node-node.ensures.below in
    let less : body.0 < id = below_from body.0 id (both_true (list_all (is_below id) bound) _ below).1 in
    let within : id < length nodes = c.requires.there in (
      let d = c.decreases in omega (arith, d, less),
      (omega (arith, less, within), (body_narrow constant naming nodes id bound body there below c.requires.narrow, c.requires.known)),
    )

pub narrow_form-returns-in-Num-clause-is : goal.narrow_form-returns-in-Num-clause-is
narrow_form-returns-in-Num-clause-is t c =
    let constant = constant_in c.args.constants.now in
    let naming = naming_in c.args.names.now.own.items c.args.names.now.auxiliary in
    let nodes = c.args.terms.now.nodes in
    let id = c.args.id.0 in
    let node = Num c.in-Num.n in
    let there : slice_get nodes id ≡ Some node = c.node-node.ensures.is ∙ ap (λ (n : Node). Some n) c.in-Num.is in
    let below : has_parts_below id node ≡ true = ap (has_parts_below id) (sym c.in-Num.is) ∙ c.node-node.ensures.below in
    let made : c.of_constant.result ≡ of_constant c.in-Num.n = search rules in
    made ∙ sym (linear_at constant naming nodes id id node there below)

pub narrow_form-returns-in-Var-clause-is : goal.narrow_form-returns-in-Var-clause-is
narrow_form-returns-in-Var-clause-is t c =
    let constant = constant_in c.args.constants.now in
    let naming = naming_in c.args.names.now.own.items c.args.names.now.auxiliary in
    let nodes = c.args.terms.now.nodes in
    let id = c.args.id.0 in
    let node = Var c.in-Var.binder c.in-Var.sort in
    let there : slice_get nodes id ≡ Some node = c.node-node.ensures.is ∙ ap (λ (n : Node). Some n) c.in-Var.is in
    let below : has_parts_below id node ≡ true = ap (has_parts_below id) (sym c.in-Var.is) ∙ c.node-node.ensures.below in
    if_same c.variable_form.result (variable_form c.name_of.result) (form_by constant naming nodes id)
    (ap variable_form c.name_of.ensures ∙ sym (linear_at constant naming nodes id id node there below)) c.variable_form.ensures

pub narrow_form-returns-in-LetVar-clause-is : goal.narrow_form-returns-in-LetVar-clause-is
narrow_form-returns-in-LetVar-clause-is t c =
    let constant = constant_in c.args.constants.now in
    let naming = naming_in c.args.names.now.own.items c.args.names.now.auxiliary in
    let nodes = c.args.terms.now.nodes in
    let id = c.args.id.0 in
    let node = LetVar c.in-LetVar.bound in
    let there : slice_get nodes id ≡ Some node = c.node-node.ensures.is ∙ ap (λ (n : Node). Some n) c.in-LetVar.is in
    let below : has_parts_below id node ≡ true = ap (has_parts_below id) (sym c.in-LetVar.is) ∙ c.node-node.ensures.below in
    if_same c.named_form.result (form_by constant naming nodes c.in-LetVar.bound.0) (form_by constant naming nodes id)
    (sym (linear_at constant naming nodes id id node there below)) c.named_form.ensures.is

pub narrow_form-returns-in-Let-clause-is : goal.narrow_form-returns-in-Let-clause-is
narrow_form-returns-in-Let-clause-is t c =
    let constant = constant_in c.args.constants.now in
    let naming = naming_in c.args.names.now.own.items c.args.names.now.auxiliary in
    let nodes = c.args.terms.now.nodes in
    let id = c.args.id.0 in
    let node = Let c.in-Let.bound c.in-Let.body in
    let there : slice_get nodes id ≡ Some node = c.node-node.ensures.is ∙ ap (λ (n : Node). Some n) c.in-Let.is in
    let below : has_parts_below id node ≡ true = ap (has_parts_below id) (sym c.in-Let.is) ∙ c.node-node.ensures.below in
    if_same c.narrow_form.result (form_by constant naming nodes c.in-Let.body.0) (form_by constant naming nodes id)
    (sym (linear_at constant naming nodes id id node there below)) c.narrow_form.ensures.is

pub narrow_form-returns-in_default : goal.narrow_form-returns-in_default
narrow_form-returns-in_default t c =
    let constant = constant_in c.args.constants.now in
    let naming = naming_in c.args.names.now.own.items c.args.names.now.auxiliary in
    let nodes = c.args.terms.now.nodes in
    let id = c.args.id.0 in
    let node = c.node-node.result.now in
    let other = c.in_default in
    record {
      is = c.zero.ensures
          ∙ sym (linear_at constant naming nodes id id node c.node-node.ensures.is c.node-node.ensures.below
          ∙ other_is constant naming (told_linear constant naming nodes) node id other.not-Num other.not-Var other.not-LetVar other.not-Op other.not-Let);
      known = c.requires.known;
    }

pub operation-returns-then-not-is_sum-clause-is : goal.operation-returns-then-not-is_sum-clause-is
operation-returns-then-not-is_sum-clause-is t c =
    let constant = constant_in c.args.constants.now in
    let naming = naming_in c.args.names.now.own.items c.args.names.now.auxiliary in
    let nodes = c.args.terms.now.nodes in
    let id = c.args.id.0 in
    let node = Op c.args.op c.args.args.now in
    let below : has_parts_below id node ≡ true = arena_below nodes id node c.arena_law.ensures.arena c.requires.node in
    let values = map (λ (x : TermId). constant x.0) c.args.args.now in
    let forms = map (λ (x : TermId). form_by constant naming nodes x.0) c.args.args.now in
    if_same c.other_form.result (operation_form c.args.op (auxiliary_form (naming.auxiliary id)) values forms) (form_by constant naming nodes id)
    (sym (linear_at constant naming nodes id id node c.requires.node below)) (c.other_form.ensures values forms)

pub operation-part_forms-requires : goal.operation-part_forms-requires
operation-part_forms-requires t c =
    let constant = constant_in c.args.constants.now in
    let naming = naming_in c.args.names.now.own.items c.args.names.now.auxiliary in
    let nodes = c.args.terms.now.nodes in
    let id = c.args.id.0 in
    let node = Op c.args.op c.args.args.now in
    let below : has_parts_below id node ≡ true = arena_below nodes id node c.arena_law.ensures.arena c.requires.node in (
      let d = c.decreases in omega (arith, d),
      (slice_get_within nodes id node c.requires.node, (below, (parts_narrow constant naming nodes id node c.requires.node below c.requires.narrow, c.requires.known))),
    )

pub operation-sum_of-requires-clause-narrow : goal.operation-sum_of-requires-clause-narrow
operation-sum_of-requires-clause-narrow t c =
    let constant = constant_in c.args.constants.now in
    let naming = naming_in c.args.names.now.own.items c.args.names.now.auxiliary in
    let nodes = c.args.terms.now.nodes in
    let id = c.args.id.0 in
    let node = Op c.args.op c.args.args.now in
    let below : has_parts_below id node ≡ true = arena_below nodes id node c.arena_law.ensures.arena c.requires.node in
    let sum : is_sum c.args.op ≡ true = search rules in
    let made = c.as_slice.ensures.value ∙ c.in_ok-forms.ensures.are in
    subst (λ (forms : List Linear). IsTrue (is_narrow (operation_form c.args.op zero_form (map (λ (x : TermId). constant x.0) c.args.args.now) forms))) (sym made)
    (sum_narrow constant naming nodes id c.args.op c.args.args.now c.requires.node below c.requires.narrow sum)

pub operation-returns-clause-is : goal.operation-returns-clause-is
operation-returns-clause-is t c =
    let constant = constant_in c.args.constants.now in
    let naming = naming_in c.args.names.now.own.items c.args.names.now.auxiliary in
    let nodes = c.args.terms.now.nodes in
    let id = c.args.id.0 in
    let node = Op c.args.op c.args.args.now in
    let below : has_parts_below id node ≡ true = arena_below nodes id node c.arena_law.ensures.arena c.requires.node in
    let sum : is_sum c.args.op ≡ true = search rules in
    let made = c.as_slice.ensures.value ∙ c.in_ok-forms.ensures.are in
    let values = map (λ (x : TermId). constant x.0) c.args.args.now in
    if_same c.sum_of.result (operation_form c.args.op zero_form values c.as_slice.result.now) (form_by constant naming nodes id)
    (ap (operation_form c.args.op zero_form values) made ∙ sym (sum_is constant naming nodes id c.args.op c.args.args.now c.requires.node below sum)) c.sum_of.ensures
