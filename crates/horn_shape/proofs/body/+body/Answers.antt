use Rattle.std.proofs.Common.{◌≡◌, ◌≤◌, ◌+◌, ◌^◌, drop, get_or, ◌++◌, [], ◌∷◌, refl, ap, sym, ◌∙◌, subst, arith, rules}
use Rattle.std.specs.Prelude.{true, false, nat_lt, Ok, Err, OnOk}
use Rattle.std.specs.List.{list_all}
use Rattle.term_tree.specs.Arena.{is_below, has_parts_below}
use Rattle.term_tree.specs.declared.node.TermId.{TermId}
use Rattle.term_tree.specs.declared.node.Node.{Node}
use Rattle.term_tree.specs.declared.node.Node.TheVariants.{Let}
use Rattle.term_tree.proofs.Public.{both_true}
use Rattle.horn_shape.specs.Plain.{is_plain_term}
use Rattle.horn_shape.specs.Shape.{Reading, at, atom_of, body_form, body_reading, bound_over, each}
use Rattle.horn_shape.specs.Flags.{flag_of}
use Rattle.horn_shape.specs.machinery.Gathering.{IsMisfit, onto, place_of}
use Rattle.horn_shape.proofs.FlagLemmas.{application_by, below_on, bound_flags}
use Rattle.horn_shape.proofs.GatherLemmas.{each_end, each_here, misfit_both, onto_both, same_stop}
use Rattle.horn_shape.proofs.ShapeLemmas.{body_plain, body_mixed}
use Rattle.horn_shape.proofs.body.+body.Goals as goal

pub read_body-returns-then-is_plain-clause-read : goal.read_body-returns-then-is_plain-clause-read
read_body-returns-then-is_plain-clause-read t c =
    let nodes = c.args.terms.now.nodes in
    let flag = sym (c.requires.flags c.args.id.0 c.is_plain.ensures.short) ∙ sym c.is_plain.ensures.flag ∙ c.if-is_plain.true in
    ap (onto c.args.out.now) (body_plain nodes c.args.id.0 c.node-node.result.now (place_of c.args.id c.args.lets.now) c.node-node.ensures.is c.node-node.ensures.below flag)
    ∙ ap (λ x. Ok x) (sym c.in_ok-put_guard.ensures)

pub read_body-returns-clause-read : goal.read_body-returns-clause-read
read_body-returns-clause-read t c =
    let nodes = c.args.terms.now.nodes in
    let flag = sym (c.requires.flags c.args.id.0 c.is_plain.ensures.short) ∙ sym c.is_plain.ensures.flag ∙ c.if-is_plain.false in
    subst (λ (r : Reading). OnOk c.read_body_form.result (onto c.args.out.now r ≡ Ok c.read_body_form.new.out))
    (sym (body_mixed nodes c.args.id.0 c.node-node.result.now (place_of c.args.id c.args.lets.now) c.node-node.ensures.is c.node-node.ensures.below flag))
    c.read_body_form.ensures.read

pub read_body-returns-clause-misfit : goal.read_body-returns-clause-misfit
read_body-returns-clause-misfit t c = λ offset is.
    let nodes = c.args.terms.now.nodes in
    let flag = sym (c.requires.flags c.args.id.0 c.is_plain.ensures.short) ∙ sym c.is_plain.ensures.flag ∙ c.if-is_plain.false in
    subst (λ (r : Reading). IsMisfit c.args.terms.now.offsets (onto c.args.out.now r) offset)
    (sym (body_mixed nodes c.args.id.0 c.node-node.result.now (place_of c.args.id c.args.lets.now) c.node-node.ensures.is c.node-node.ensures.below flag))
    (c.read_body_form.ensures.misfit offset is)

pub read_body_form-returns-then-not-are_plain-clause-misfit : goal.read_body_form-returns-then-not-are_plain-clause-misfit
read_body_form-returns-then-not-are_plain-clause-misfit t c = λ offset is.
    let nodes = c.args.terms.now.nodes in
    let place = place_of c.args.id c.args.lets.now in
    let args_below : list_all (is_below c.args.id.0) c.in-Pred.args ≡ true = subst (λ (n : Node). has_parts_below c.args.id.0 n ≡ true) c.in-Pred.is c.requires.below in
    let flag : list_all (λ a. flag_of c.args.plain.now a.0) c.in-Pred.args ≡ false = search rules in
    let fits : c.args.id.0 ≤ 2 ^ 32 = omega (arith, c.requires.short) in
    let eq = ap (λ (n : Node). body_form (is_plain_term nodes) (body_reading nodes) n place) c.in-Pred.is
    ∙ application_by nodes c.args.plain.now c.args.id.0 atom_of c.in-Pred.pred c.in-Pred.args place false c.requires.flags fits args_below flag in
    (c.args.id, ap (onto c.args.out.now) eq, c.misfit.ensures offset (same_stop _ _ _ _ refl refl is))

pub read_body_form-returns-in_ok-put_atom-in-Pred-clause-read : goal.read_body_form-returns-in_ok-put_atom-in-Pred-clause-read
read_body_form-returns-in_ok-put_atom-in-Pred-clause-read t c =
    let nodes = c.args.terms.now.nodes in
    let place = place_of c.args.id c.args.lets.now in
    let args_below : list_all (is_below c.args.id.0) c.in-Pred.args ≡ true = subst (λ (n : Node). has_parts_below c.args.id.0 n ≡ true) c.in-Pred.is c.requires.below in
    let flag : list_all (λ a. flag_of c.args.plain.now a.0) c.in-Pred.args ≡ true = search rules in
    let fits : c.args.id.0 ≤ 2 ^ 32 = omega (arith, c.requires.short) in
    let eq = ap (λ (n : Node). body_form (is_plain_term nodes) (body_reading nodes) n place) c.in-Pred.is
    ∙ application_by nodes c.args.plain.now c.args.id.0 atom_of c.in-Pred.pred c.in-Pred.args place true c.requires.flags fits args_below flag in
    ap (onto c.args.out.now) eq ∙ ap (λ x. Ok x) (sym (search rules))

pub read_body_form-returns-in-Some-clause-misfit : goal.read_body_form-returns-in-Some-clause-misfit
read_body_form-returns-in-Some-clause-misfit t c = λ offset is.
    let nodes = c.args.terms.now.nodes in
    let place = place_of c.args.id c.args.lets.now in
    let parts_below : has_parts_below c.args.id.0 (Let c.in-Let.bound c.in-Let.body) ≡ true = subst (λ (n : Node). has_parts_below c.args.id.0 n ≡ true) c.in-Let.is c.requires.below in
    let bound_below = both_true (list_all (is_below c.args.id.0) c.in-Let.bound) (nat_lt c.in-Let.body.0 c.args.id.0) parts_below in
    let fits : c.args.id.0 ≤ 2 ^ 32 = omega (arith, c.requires.short) in
    let inner : Reading = body_reading nodes c.in-Let.body.0 (place_of c.in-Let.body (c.args.lets.now ++ c.args.id ∷ [])) in
    let eq = ap (λ (n : Node). body_form (is_plain_term nodes) (body_reading nodes) n place) c.in-Let.is
    ∙ bound_flags nodes c.args.plain.now c.args.id.0 c.in-Let.bound inner c.requires.flags fits bound_below.0
    ∙ ap (λ ids. bound_over (flag_of c.args.plain.now) ids inner) (sym c.as_slice-in-Let.ensures) ∙ c.in-Some.ensures.some inner in
    (c.in-Some.mixed, ap (onto c.args.out.now) eq, c.misfit-in-Some.ensures offset (same_stop _ _ _ _ refl refl is))

pub read_body_form-returns-in_ok-inner-in-None-clause-read : goal.read_body_form-returns-in_ok-inner-in-None-clause-read
read_body_form-returns-in_ok-inner-in-None-clause-read t c =
    let nodes = c.args.terms.now.nodes in
    let place = place_of c.args.id c.args.lets.now in
    let parts_below : has_parts_below c.args.id.0 (Let c.in-Let.bound c.in-Let.body) ≡ true = subst (λ (n : Node). has_parts_below c.args.id.0 n ≡ true) c.in-Let.is c.requires.below in
    let bound_below = both_true (list_all (is_below c.args.id.0) c.in-Let.bound) (nat_lt c.in-Let.body.0 c.args.id.0) parts_below in
    let fits : c.args.id.0 ≤ 2 ^ 32 = omega (arith, c.requires.short) in
    let inner : Reading = body_reading nodes c.in-Let.body.0 (place_of c.in-Let.body (c.args.lets.now ++ c.args.id ∷ [])) in
    let eq = ap (λ (n : Node). body_form (is_plain_term nodes) (body_reading nodes) n place) c.in-Let.is
    ∙ bound_flags nodes c.args.plain.now c.args.id.0 c.in-Let.bound inner c.requires.flags fits bound_below.0
    ∙ ap (λ ids. bound_over (flag_of c.args.plain.now) ids inner) (sym c.as_slice-in-Let.ensures) ∙ c.in-None.ensures.none inner
    ∙ ap (λ lets. body_reading nodes c.in-Let.body.0 (place_of c.in-Let.body lets)) (sym c.in_ok-inner-in-None.ensures ∙ sym c.as_slice-in-None.ensures.value) in
    subst (λ (r : Reading). OnOk c.read_body.result (onto c.args.out.now r ≡ Ok c.read_body.new.out)) (sym eq) c.read_body.ensures.read

pub read_body_form-returns-in_ok-inner-in-None-clause-misfit : goal.read_body_form-returns-in_ok-inner-in-None-clause-misfit
read_body_form-returns-in_ok-inner-in-None-clause-misfit t c = λ offset is.
    let nodes = c.args.terms.now.nodes in
    let place = place_of c.args.id c.args.lets.now in
    let parts_below : has_parts_below c.args.id.0 (Let c.in-Let.bound c.in-Let.body) ≡ true = subst (λ (n : Node). has_parts_below c.args.id.0 n ≡ true) c.in-Let.is c.requires.below in
    let bound_below = both_true (list_all (is_below c.args.id.0) c.in-Let.bound) (nat_lt c.in-Let.body.0 c.args.id.0) parts_below in
    let fits : c.args.id.0 ≤ 2 ^ 32 = omega (arith, c.requires.short) in
    let inner : Reading = body_reading nodes c.in-Let.body.0 (place_of c.in-Let.body (c.args.lets.now ++ c.args.id ∷ [])) in
    let eq = ap (λ (n : Node). body_form (is_plain_term nodes) (body_reading nodes) n place) c.in-Let.is
    ∙ bound_flags nodes c.args.plain.now c.args.id.0 c.in-Let.bound inner c.requires.flags fits bound_below.0
    ∙ ap (λ ids. bound_over (flag_of c.args.plain.now) ids inner) (sym c.as_slice-in-Let.ensures) ∙ c.in-None.ensures.none inner
    ∙ ap (λ lets. body_reading nodes c.in-Let.body.0 (place_of c.in-Let.body lets)) (sym c.in_ok-inner-in-None.ensures ∙ sym c.as_slice-in-None.ensures.value) in
    subst (λ (r : Reading). IsMisfit c.args.terms.now.offsets (onto c.args.out.now r) offset) (sym eq) (c.read_body.ensures.misfit offset is)

pub read_bodies-loop-id-preserved : goal.read_bodies-loop-id-preserved
read_bodies-loop-id-preserved t c =
    let reading = body_reading c.args.terms.now.nodes in
    let lets = c.args.lets.now in
    let ids = c.args.ids.now in
    let i = c.loop-id.id-index in
    let id : TermId = get_or ids i (record { 0 = 0 }) in
    record {
      read = c.loop-id.invariant.read ∙ ap (onto c.loop-id.out) (each_here reading lets ids i (record { 0 = 0 }) c.loop-id-test.true)
          ∙ onto_both c.loop-id.out c.read_body.new.out (at reading lets id) (each reading lets (drop (i + 1) ids)) c.in-Ok.ensures.read;
      below = below_on c.args.above.0 i ids (record { 0 = 0 }) c.loop-id-test.true c.loop-id.invariant.below;
    }

pub read_bodies-returns-in-Err-clause-misfit : goal.read_bodies-returns-in-Err-clause-misfit
read_bodies-returns-in-Err-clause-misfit t c = λ offset is.
    let reading = body_reading c.args.terms.now.nodes in
    let lets = c.args.lets.now in
    let ids = c.args.ids.now in
    let i = c.loop-id.id-index in
    let id : TermId = get_or ids i (record { 0 = 0 }) in
    let eq = c.loop-id.invariant.read ∙ ap (onto c.loop-id.out) (each_here reading lets ids i (record { 0 = 0 }) c.loop-id-test.true) in
    subst (λ f. IsMisfit c.args.terms.now.offsets f offset) (sym eq)
    (misfit_both c.args.terms.now.offsets c.loop-id.out (at reading lets id) (each reading lets (drop (i + 1) ids)) offset
    (c.in-Err.ensures.misfit offset (ap (λ e. Err e) (same_stop _ _ _ _ refl refl is))))

pub read_bodies-returns-clause-read : goal.read_bodies-returns-clause-read
read_bodies-returns-clause-read t c =
    c.loop-id.invariant.read ∙ each_end c.loop-id.out (body_reading c.args.terms.now.nodes) c.args.lets.now c.args.ids.now c.loop-id.id-index c.loop-id-test.false
