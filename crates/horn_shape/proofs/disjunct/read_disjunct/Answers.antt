use Rattle.std.proofs.Common.{◌≡◌, ap, sym, ◌∙◌, subst}
use Rattle.std.specs.Prelude.{Ok, OnOk}
use Rattle.horn_shape.specs.Shape.{Reading}
use Rattle.horn_shape.specs.machinery.Gathering.{IsMisfit, onto, place_of}
use Rattle.horn_shape.proofs.ShapeLemmas.{disjunct_plain, disjunct_mixed}
use Rattle.horn_shape.proofs.disjunct.read_disjunct.Goals as goal

pub returns-then-is_plain-clause-read : goal.returns-then-is_plain-clause-read
returns-then-is_plain-clause-read c =
    let flag = sym (c.requires.flags c.args.id.0 c.is_plain.ensures.short) ∙ sym c.is_plain.ensures.flag ∙ c.if-is_plain.true in
    ap (onto c.args.out.now) (disjunct_plain c.args.terms.now.nodes c.args.id.0 c.args.node.now (place_of c.args.id c.args.lets.now) c.requires.node c.requires.below flag)
    ∙ ap (λ x. Ok x) (sym c.in_ok-put_guard.ensures)

pub returns-clause-read : goal.returns-clause-read
returns-clause-read c =
    let flag = sym (c.requires.flags c.args.id.0 c.is_plain.ensures.short) ∙ sym c.is_plain.ensures.flag ∙ c.if-is_plain.false in
    subst (λ (r : Reading). OnOk c.read_disjunct_form.result (onto c.args.out.now r ≡ Ok c.read_disjunct_form.new.out))
    (sym (disjunct_mixed c.args.terms.now.nodes c.args.id.0 c.args.node.now (place_of c.args.id c.args.lets.now) c.requires.node c.requires.below flag))
    c.read_disjunct_form.ensures.read

pub returns-clause-misfit : goal.returns-clause-misfit
returns-clause-misfit c = λ offset is.
    let flag = sym (c.requires.flags c.args.id.0 c.is_plain.ensures.short) ∙ sym c.is_plain.ensures.flag ∙ c.if-is_plain.false in
    subst (λ (r : Reading). IsMisfit c.args.terms.now.offsets (onto c.args.out.now r) offset)
    (sym (disjunct_mixed c.args.terms.now.nodes c.args.id.0 c.args.node.now (place_of c.args.id c.args.lets.now) c.requires.node c.requires.below flag))
    (c.read_disjunct_form.ensures.misfit offset is)
