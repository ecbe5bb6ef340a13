use Rattle.std.proofs.Common.{◌≡◌, ◌-◌, length, take, get_or, ◌≤◌, ◌^◌, ◌++◌, [], ◌∷◌, refl, ap, sym, ◌∙◌, subst, arith, rules}
use Rattle.std.specs.Prelude.{true, false, nat_lt, Ok, Err, OnOk}
use Rattle.std.specs.List.{list_all}
use Rattle.term_tree.specs.Arena.{is_below, has_parts_below}
use Rattle.term_tree.specs.declared.node.Node.{Node}
use Rattle.term_tree.specs.declared.node.OpKind.{OpKind}
use Rattle.term_tree.specs.declared.node.Node.TheVariants.{Let, Op}
use Rattle.term_tree.proofs.Public.{both_true}
use Rattle.horn_shape.specs.Shape.{Reading, at, head_of, body_reading, bound_over, clause_form, clause_reading, each}
use Rattle.horn_shape.specs.Flags.{flag_of}
use Rattle.horn_shape.specs.machinery.Gathering.{IsMisfit, onto, place_of, with_vars}
use Rattle.horn_shape.proofs.FlagLemmas.{application_by, bound_flags}
use Rattle.horn_shape.proofs.GatherLemmas.{same_stop, onto_quantified, onto_both, misfit_both, implication_last}
use Rattle.horn_shape.proofs.FlagLemmas.{taken_below}
use Rattle.horn_shape.proofs.ShapeLemmas.{clause_plain, clause_mixed}
use Rattle.horn_shape.proofs.shape.+clause.Goals as goal

pub read_clause-returns-then-is_plain-clause-read : goal.read_clause-returns-then-is_plain-clause-read
read_clause-returns-then-is_plain-clause-read t c =
    let nodes = c.args.terms.now.nodes in
    let flag = sym (c.requires.flags c.args.id.0 c.is_plain.ensures.short) ∙ sym c.is_plain.ensures.flag ∙ c.if-is_plain.true in
    ap (onto c.args.out.now) (clause_plain nodes c.args.id.0 c.node-node.result.now (place_of c.args.id c.args.lets.now) c.node-node.ensures.is c.node-node.ensures.below flag)
    ∙ ap (λ x. Ok x) (sym c.in_ok-put_guard.ensures)

pub read_clause-returns-clause-read : goal.read_clause-returns-clause-read
read_clause-returns-clause-read t c =
    let nodes = c.args.terms.now.nodes in
    let flag = sym (c.requires.flags c.args.id.0 c.is_plain.ensures.short) ∙ sym c.is_plain.ensures.flag ∙ c.if-is_plain.false in
    subst (λ (r : Reading). OnOk c.read_clause_form.result (onto c.args.out.now r ≡ Ok c.read_clause_form.new.out))
    (sym (clause_mixed nodes c.args.id.0 c.node-node.result.now (place_of c.args.id c.args.lets.now) c.node-node.ensures.is c.node-node.ensures.below flag))
    c.read_clause_form.ensures.read

pub read_clause-returns-clause-misfit : goal.read_clause-returns-clause-misfit
read_clause-returns-clause-misfit t c = λ offset is.
    let nodes = c.args.terms.now.nodes in
    let flag = sym (c.requires.flags c.args.id.0 c.is_plain.ensures.short) ∙ sym c.is_plain.ensures.flag ∙ c.if-is_plain.false in
    subst (λ (r : Reading). IsMisfit c.args.terms.now.offsets (onto c.args.out.now r) offset)
    (sym (clause_mixed nodes c.args.id.0 c.node-node.result.now (place_of c.args.id c.args.lets.now) c.node-node.ensures.is c.node-node.ensures.below flag))
    (c.read_clause_form.ensures.misfit offset is)

pub read_clause_form-returns-then-not-are_plain-clause-misfit : goal.read_clause_form-returns-then-not-are_plain-clause-misfit
read_clause_form-returns-then-not-are_plain-clause-misfit t c = λ offset is.
    let nodes = c.args.terms.now.nodes in
    let place = place_of c.args.id c.args.lets.now in
    let args_below : list_all (is_below c.args.id.0) c.in-Pred.args ≡ true = subst (λ (n : Node). has_parts_below c.args.id.0 n ≡ true) c.in-Pred.is c.requires.below in
    let flag : list_all (λ a. flag_of c.args.plain.now a.0) c.in-Pred.args ≡ false = search rules in
    let fits : c.args.id.0 ≤ 2 ^ 32 = omega (arith, c.requires.short) in
    let eq = ap (λ (n : Node). clause_form nodes (clause_reading nodes) n place) c.in-Pred.is
    ∙ application_by nodes c.args.plain.now c.args.id.0 head_of c.in-Pred.pred c.in-Pred.args place false c.requires.flags fits args_below flag in
    (c.args.id, ap (onto c.args.out.now) eq, c.misfit.ensures offset (same_stop _ _ _ _ refl refl is))

pub read_clause_form-returns-in_ok-put_head-in-Pred-clause-read : goal.read_clause_form-returns-in_ok-put_head-in-Pred-clause-read
read_clause_form-returns-in_ok-put_head-in-Pred-clause-read t c =
    let nodes = c.args.terms.now.nodes in
    let place = place_of c.args.id c.args.lets.now in
    let args_below : list_all (is_below c.args.id.0) c.in-Pred.args ≡ true = subst (λ (n : Node). has_parts_below c.args.id.0 n ≡ true) c.in-Pred.is c.requires.below in
    let flag : list_all (λ a. flag_of c.args.plain.now a.0) c.in-Pred.args ≡ true = search rules in
    let fits : c.args.id.0 ≤ 2 ^ 32 = omega (arith, c.requires.short) in
    let eq = ap (λ (n : Node). clause_form nodes (clause_reading nodes) n place) c.in-Pred.is
    ∙ application_by nodes c.args.plain.now c.args.id.0 head_of c.in-Pred.pred c.in-Pred.args place true c.requires.flags fits args_below flag in
    ap (onto c.args.out.now) eq ∙ ap (λ x. Ok x) (sym (search rules))

pub read_clause_form-returns-in-Some-clause-misfit : goal.read_clause_form-returns-in-Some-clause-misfit
read_clause_form-returns-in-Some-clause-misfit t c = λ offset is.
    let nodes = c.args.terms.now.nodes in
    let place = place_of c.args.id c.args.lets.now in
    let parts_below : has_parts_below c.args.id.0 (Let c.in-Let.bound c.in-Let.body) ≡ true = subst (λ (n : Node). has_parts_below c.args.id.0 n ≡ true) c.in-Let.is c.requires.below in
    let bound_below = both_true (list_all (is_below c.args.id.0) c.in-Let.bound) (nat_lt c.in-Let.body.0 c.args.id.0) parts_below in
    let fits : c.args.id.0 ≤ 2 ^ 32 = omega (arith, c.requires.short) in
    let inner : Reading = clause_reading nodes c.in-Let.body.0 (place_of c.in-Let.body (c.args.lets.now ++ c.args.id ∷ [])) in
    let eq = ap (λ (n : Node). clause_form nodes (clause_reading nodes) n place) c.in-Let.is
    ∙ bound_flags nodes c.args.plain.now c.args.id.0 c.in-Let.bound inner c.requires.flags fits bound_below.0
    ∙ ap (λ ids. bound_over (flag_of c.args.plain.now) ids inner) (sym c.as_slice-in-Let.ensures) ∙ c.in-Some.ensures.some inner in
    (c.in-Some.mixed, ap (onto c.args.out.now) eq, c.misfit-in-Some.ensures offset (same_stop _ _ _ _ refl refl is))

pub read_clause_form-returns-in_ok-inner-in-None-clause-read : goal.read_clause_form-returns-in_ok-inner-in-None-clause-read
read_clause_form-returns-in_ok-inner-in-None-clause-read t c =
    let nodes = c.args.terms.now.nodes in
    let place = place_of c.args.id c.args.lets.now in
    let parts_below : has_parts_below c.args.id.0 (Let c.in-Let.bound c.in-Let.body) ≡ true = subst (λ (n : Node). has_parts_below c.args.id.0 n ≡ true) c.in-Let.is c.requires.below in
    let bound_below = both_true (list_all (is_below c.args.id.0) c.in-Let.bound) (nat_lt c.in-Let.body.0 c.args.id.0) parts_below in
    let fits : c.args.id.0 ≤ 2 ^ 32 = omega (arith, c.requires.short) in
    let inner : Reading = clause_reading nodes c.in-Let.body.0 (place_of c.in-Let.body (c.args.lets.now ++ c.args.id ∷ [])) in
    let eq = ap (λ (n : Node). clause_form nodes (clause_reading nodes) n place) c.in-Let.is
    ∙ bound_flags nodes c.args.plain.now c.args.id.0 c.in-Let.bound inner c.requires.flags fits bound_below.0
    ∙ ap (λ ids. bound_over (flag_of c.args.plain.now) ids inner) (sym c.as_slice-in-Let.ensures) ∙ c.in-None.ensures.none inner
    ∙ ap (λ lets. clause_reading nodes c.in-Let.body.0 (place_of c.in-Let.body lets)) (sym c.in_ok-inner-in-None.ensures ∙ sym c.as_slice-in-None.ensures.value) in
    subst (λ (r : Reading). OnOk c.read_clause-in-None.result (onto c.args.out.now r ≡ Ok c.read_clause-in-None.new.out)) (sym eq) c.read_clause-in-None.ensures.read

pub read_clause_form-returns-in_ok-inner-in-None-clause-misfit : goal.read_clause_form-returns-in_ok-inner-in-None-clause-misfit
read_clause_form-returns-in_ok-inner-in-None-clause-misfit t c = λ offset is.
    let nodes = c.args.terms.now.nodes in
    let place = place_of c.args.id c.args.lets.now in
    let parts_below : has_parts_below c.args.id.0 (Let c.in-Let.bound c.in-Let.body) ≡ true = subst (λ (n : Node). has_parts_below c.args.id.0 n ≡ true) c.in-Let.is c.requires.below in
    let bound_below = both_true (list_all (is_below c.args.id.0) c.in-Let.bound) (nat_lt c.in-Let.body.0 c.args.id.0) parts_below in
    let fits : c.args.id.0 ≤ 2 ^ 32 = omega (arith, c.requires.short) in
    let inner : Reading = clause_reading nodes c.in-Let.body.0 (place_of c.in-Let.body (c.args.lets.now ++ c.args.id ∷ [])) in
    let eq = ap (λ (n : Node). clause_form nodes (clause_reading nodes) n place) c.in-Let.is
    ∙ bound_flags nodes c.args.plain.now c.args.id.0 c.in-Let.bound inner c.requires.flags fits bound_below.0
    ∙ ap (λ ids. bound_over (flag_of c.args.plain.now) ids inner) (sym c.as_slice-in-Let.ensures) ∙ c.in-None.ensures.none inner
    ∙ ap (λ lets. clause_reading nodes c.in-Let.body.0 (place_of c.in-Let.body lets)) (sym c.in_ok-inner-in-None.ensures ∙ sym c.as_slice-in-None.ensures.value) in
    subst (λ (r : Reading). IsMisfit c.args.terms.now.offsets (onto c.args.out.now r) offset) (sym eq) (c.read_clause-in-None.ensures.misfit offset is)

pub read_clause_form-returns-in_ok-put_vars-in-Forall-clause-misfit : goal.read_clause_form-returns-in_ok-put_vars-in-Forall-clause-misfit
read_clause_form-returns-in_ok-put_vars-in-Forall-clause-misfit t c = λ offset is.
    let nodes = c.args.terms.now.nodes in
    let place = place_of c.args.id c.args.lets.now in
    let inner : Reading = clause_reading nodes c.in-Forall.body.0 (place_of c.in-Forall.body c.args.lets.now) in
    let eq : onto c.args.out.now (clause_form nodes (clause_reading nodes) c.args.node.now place) ≡ onto c.put_vars.new.out inner =
    ap (λ (n : Node). onto c.args.out.now (clause_form nodes (clause_reading nodes) n place)) c.in-Forall.is ∙ onto_quantified c.args.out.now c.in-Forall.sorts inner
    ∙ ap (λ sorts. onto (with_vars c.args.out.now sorts) inner) (sym c.as_slice-in-Forall.ensures) ∙ ap (λ out. onto out inner) (sym c.in_ok-put_vars-in-Forall.ensures) in
    subst (λ f. IsMisfit c.args.terms.now.offsets f offset) (sym eq) (c.read_clause.ensures.misfit offset is)

pub read_clause_form-returns-in_ok-put_vars-in-Forall-clause-read : goal.read_clause_form-returns-in_ok-put_vars-in-Forall-clause-read
read_clause_form-returns-in_ok-put_vars-in-Forall-clause-read t c =
    let nodes = c.args.terms.now.nodes in
    let place = place_of c.args.id c.args.lets.now in
    let inner : Reading = clause_reading nodes c.in-Forall.body.0 (place_of c.in-Forall.body c.args.lets.now) in
    let eq : onto c.args.out.now (clause_form nodes (clause_reading nodes) c.args.node.now place) ≡ onto c.put_vars.new.out inner =
    ap (λ (n : Node). onto c.args.out.now (clause_form nodes (clause_reading nodes) n place)) c.in-Forall.is ∙ onto_quantified c.args.out.now c.in-Forall.sorts inner
    ∙ ap (λ sorts. onto (with_vars c.args.out.now sorts) inner) (sym c.as_slice-in-Forall.ensures) ∙ ap (λ out. onto out inner) (sym c.in_ok-put_vars-in-Forall.ensures) in
    subst (λ f. OnOk c.read_clause.result (f ≡ Ok c.read_clause.new.out)) (sym eq) c.read_clause.ensures.read

pub read_implication-read_bodies-requires-clause-below : goal.read_implication-read_bodies-requires-clause-below
read_implication-read_bodies-requires-clause-below t c = taken_below c.args.id.0 (length c.args.args.now - 1) c.args.args.now c.requires.below

pub read_implication-returns-in-Err-clause-misfit : goal.read_implication-returns-in-Err-clause-misfit
read_implication-returns-in-Err-clause-misfit t c = λ offset is.
    let nodes = c.args.terms.now.nodes in
    let args = c.args.args.now in
    let place = place_of c.args.id c.args.lets.now in
    let eq = implication_last (body_reading nodes) (clause_reading nodes) place args (record { 0 = 0 }) c.in-len1-up.len_at_least in
    let last = get_or args (length args - 1) (record { 0 = 0 }) in
    subst (λ r. IsMisfit c.args.terms.now.offsets (onto c.args.out.now r) offset) (sym eq)
    (misfit_both c.args.terms.now.offsets c.args.out.now (each (body_reading nodes) c.args.lets.now (take (length args - 1) args)) (at (clause_reading nodes) c.args.lets.now last) offset
    (c.in-Err.ensures.misfit offset (ap (λ e. Err e) (same_stop _ _ _ _ refl refl is))))

pub read_implication-returns-in-Ok-clause-read : goal.read_implication-returns-in-Ok-clause-read
read_implication-returns-in-Ok-clause-read t c =
    let nodes = c.args.terms.now.nodes in
    let args = c.args.args.now in
    let place = place_of c.args.id c.args.lets.now in
    let last = get_or args (length args - 1) (record { 0 = 0 }) in
    let eq = ap (onto c.args.out.now) (implication_last (body_reading nodes) (clause_reading nodes) place args (record { 0 = 0 }) c.in-len1-up.len_at_least)
    ∙ onto_both c.args.out.now c.read_bodies.new.out (each (body_reading nodes) c.args.lets.now (take (length args - 1) args)) (at (clause_reading nodes) c.args.lets.now last) c.in-Ok.ensures.read in
    subst (λ f. OnOk c.read_clause.result (f ≡ Ok c.read_clause.new.out)) (sym eq) c.read_clause.ensures.read

pub read_implication-returns-in-Ok-clause-misfit : goal.read_implication-returns-in-Ok-clause-misfit
read_implication-returns-in-Ok-clause-misfit t c = λ offset is.
    let nodes = c.args.terms.now.nodes in
    let args = c.args.args.now in
    let place = place_of c.args.id c.args.lets.now in
    let last = get_or args (length args - 1) (record { 0 = 0 }) in
    let eq = ap (onto c.args.out.now) (implication_last (body_reading nodes) (clause_reading nodes) place args (record { 0 = 0 }) c.in-len1-up.len_at_least)
    ∙ onto_both c.args.out.now c.read_bodies.new.out (each (body_reading nodes) c.args.lets.now (take (length args - 1) args)) (at (clause_reading nodes) c.args.lets.now last) c.in-Ok.ensures.read in
    subst (λ f. IsMisfit c.args.terms.now.offsets f offset) (sym eq) (c.read_clause.ensures.misfit offset is)

pub read_operation-returns-in-And-clause-misfit : goal.read_operation-returns-in-And-clause-misfit
read_operation-returns-in-And-clause-misfit t c = λ offset is.
    let nodes = c.args.terms.now.nodes in
    let eq = ap (λ (op : OpKind). onto c.args.out.now (clause_form nodes (clause_reading nodes) (Op op c.args.args.now) (place_of c.args.id c.args.lets.now))) c.in-And.is in
    (c.args.id, eq, c.misfit.ensures offset (same_stop _ _ _ _ refl refl is))

pub read_operation-returns-in-Xor-clause-misfit : goal.read_operation-returns-in-Xor-clause-misfit
read_operation-returns-in-Xor-clause-misfit t c = λ offset is.
    let nodes = c.args.terms.now.nodes in
    let eq = ap (λ (op : OpKind). onto c.args.out.now (clause_form nodes (clause_reading nodes) (Op op c.args.args.now) (place_of c.args.id c.args.lets.now))) c.in-Xor.is in
    (c.args.id, eq, c.misfit-in-Xor.ensures offset (same_stop _ _ _ _ refl refl is))

pub read_operation-returns-in-Eq-clause-misfit : goal.read_operation-returns-in-Eq-clause-misfit
read_operation-returns-in-Eq-clause-misfit t c = λ offset is.
    let nodes = c.args.terms.now.nodes in
    let eq = ap (λ (op : OpKind). onto c.args.out.now (clause_form nodes (clause_reading nodes) (Op op c.args.args.now) (place_of c.args.id c.args.lets.now))) c.in-Eq.is in
    (c.args.id, eq, c.misfit-in-Eq.ensures offset (same_stop _ _ _ _ refl refl is))

pub read_operation-returns-in-Distinct-clause-misfit : goal.read_operation-returns-in-Distinct-clause-misfit
read_operation-returns-in-Distinct-clause-misfit t c = λ offset is.
    let nodes = c.args.terms.now.nodes in
    let eq = ap (λ (op : OpKind). onto c.args.out.now (clause_form nodes (clause_reading nodes) (Op op c.args.args.now) (place_of c.args.id c.args.lets.now))) c.in-Distinct.is in
    (c.args.id, eq, c.misfit-in-Distinct.ensures offset (same_stop _ _ _ _ refl refl is))

pub read_operation-returns-in-Ite-clause-misfit : goal.read_operation-returns-in-Ite-clause-misfit
read_operation-returns-in-Ite-clause-misfit t c = λ offset is.
    let nodes = c.args.terms.now.nodes in
    let eq = ap (λ (op : OpKind). onto c.args.out.now (clause_form nodes (clause_reading nodes) (Op op c.args.args.now) (place_of c.args.id c.args.lets.now))) c.in-Ite.is in
    (c.args.id, eq, c.misfit-in-Ite.ensures offset (same_stop _ _ _ _ refl refl is))

pub read_operation-returns-in-Add-clause-misfit : goal.read_operation-returns-in-Add-clause-misfit
read_operation-returns-in-Add-clause-misfit t c = λ offset is.
    let nodes = c.args.terms.now.nodes in
    let eq = ap (λ (op : OpKind). onto c.args.out.now (clause_form nodes (clause_reading nodes) (Op op c.args.args.now) (place_of c.args.id c.args.lets.now))) c.in-Add.is in
    (c.args.id, eq, c.misfit-in-Add.ensures offset (same_stop _ _ _ _ refl refl is))

pub read_operation-returns-in-Mul-clause-misfit : goal.read_operation-returns-in-Mul-clause-misfit
read_operation-returns-in-Mul-clause-misfit t c = λ offset is.
    let nodes = c.args.terms.now.nodes in
    let eq = ap (λ (op : OpKind). onto c.args.out.now (clause_form nodes (clause_reading nodes) (Op op c.args.args.now) (place_of c.args.id c.args.lets.now))) c.in-Mul.is in
    (c.args.id, eq, c.misfit-in-Mul.ensures offset (same_stop _ _ _ _ refl refl is))

pub read_operation-returns-in-Sub-clause-misfit : goal.read_operation-returns-in-Sub-clause-misfit
read_operation-returns-in-Sub-clause-misfit t c = λ offset is.
    let nodes = c.args.terms.now.nodes in
    let eq = ap (λ (op : OpKind). onto c.args.out.now (clause_form nodes (clause_reading nodes) (Op op c.args.args.now) (place_of c.args.id c.args.lets.now))) c.in-Sub.is in
    (c.args.id, eq, c.misfit-in-Sub.ensures offset (same_stop _ _ _ _ refl refl is))

pub read_operation-returns-in-Abs-clause-misfit : goal.read_operation-returns-in-Abs-clause-misfit
read_operation-returns-in-Abs-clause-misfit t c = λ offset is.
    let nodes = c.args.terms.now.nodes in
    let eq = ap (λ (op : OpKind). onto c.args.out.now (clause_form nodes (clause_reading nodes) (Op op c.args.args.now) (place_of c.args.id c.args.lets.now))) c.in-Abs.is in
    (c.args.id, eq, c.misfit-in-Abs.ensures offset (same_stop _ _ _ _ refl refl is))

pub read_operation-returns-in-Div-clause-misfit : goal.read_operation-returns-in-Div-clause-misfit
read_operation-returns-in-Div-clause-misfit t c = λ offset is.
    let nodes = c.args.terms.now.nodes in
    let eq = ap (λ (op : OpKind). onto c.args.out.now (clause_form nodes (clause_reading nodes) (Op op c.args.args.now) (place_of c.args.id c.args.lets.now))) c.in-Div.is in
    (c.args.id, eq, c.misfit-in-Div.ensures offset (same_stop _ _ _ _ refl refl is))

pub read_operation-returns-in-Mod-clause-misfit : goal.read_operation-returns-in-Mod-clause-misfit
read_operation-returns-in-Mod-clause-misfit t c = λ offset is.
    let nodes = c.args.terms.now.nodes in
    let eq = ap (λ (op : OpKind). onto c.args.out.now (clause_form nodes (clause_reading nodes) (Op op c.args.args.now) (place_of c.args.id c.args.lets.now))) c.in-Mod.is in
    (c.args.id, eq, c.misfit-in-Mod.ensures offset (same_stop _ _ _ _ refl refl is))

pub read_operation-returns-in-Le-clause-misfit : goal.read_operation-returns-in-Le-clause-misfit
read_operation-returns-in-Le-clause-misfit t c = λ offset is.
    let nodes = c.args.terms.now.nodes in
    let eq = ap (λ (op : OpKind). onto c.args.out.now (clause_form nodes (clause_reading nodes) (Op op c.args.args.now) (place_of c.args.id c.args.lets.now))) c.in-Le.is in
    (c.args.id, eq, c.misfit-in-Le.ensures offset (same_stop _ _ _ _ refl refl is))

pub read_operation-returns-in-Lt-clause-misfit : goal.read_operation-returns-in-Lt-clause-misfit
read_operation-returns-in-Lt-clause-misfit t c = λ offset is.
    let nodes = c.args.terms.now.nodes in
    let eq = ap (λ (op : OpKind). onto c.args.out.now (clause_form nodes (clause_reading nodes) (Op op c.args.args.now) (place_of c.args.id c.args.lets.now))) c.in-Lt.is in
    (c.args.id, eq, c.misfit-in-Lt.ensures offset (same_stop _ _ _ _ refl refl is))

pub read_operation-returns-in-Ge-clause-misfit : goal.read_operation-returns-in-Ge-clause-misfit
read_operation-returns-in-Ge-clause-misfit t c = λ offset is.
    let nodes = c.args.terms.now.nodes in
    let eq = ap (λ (op : OpKind). onto c.args.out.now (clause_form nodes (clause_reading nodes) (Op op c.args.args.now) (place_of c.args.id c.args.lets.now))) c.in-Ge.is in
    (c.args.id, eq, c.misfit-in-Ge.ensures offset (same_stop _ _ _ _ refl refl is))

pub read_operation-returns-in-Gt-clause-misfit : goal.read_operation-returns-in-Gt-clause-misfit
read_operation-returns-in-Gt-clause-misfit t c = λ offset is.
    let nodes = c.args.terms.now.nodes in
    let eq = ap (λ (op : OpKind). onto c.args.out.now (clause_form nodes (clause_reading nodes) (Op op c.args.args.now) (place_of c.args.id c.args.lets.now))) c.in-Gt.is in
    (c.args.id, eq, c.misfit-in-Gt.ensures offset (same_stop _ _ _ _ refl refl is))
