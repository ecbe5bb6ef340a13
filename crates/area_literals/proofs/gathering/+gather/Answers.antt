use Rattle.std.proofs.Common.{List, ◌≤◌, ◌+◌, length, drop, ap, sym, ◌∙◌, subst, arith}
use Rattle.std.specs.List.{list_all, list_any}
use Rattle.std.proofs.lemmas.Result.{on_ok_weaker}
use Rattle.lin_atoms.specs.Truth.{truth}
use Rattle.lin_atoms.specs.declared.form.Form.{Form}
use Rattle.lin_atoms.specs.declared.lit.Lit.{Lit}
use Rattle.lin_atoms.proofs.Public.{truth-And, truth-Or}
use Rattle.book_rules.specs.Areas.{cover, stands_in}
use Rattle.area_literals.specs.machinery.Growing.{AreGathered, AreGatheredSome, IsGathered}
use Rattle.area_literals.proofs.CoverLemmas.{covers-more}
use Rattle.area_literals.proofs.GrowLemmas.{gathered-and, gathered-or, some-at}
use Rattle.area_literals.proofs.LoopLemmas.{all-get, at-end, rest-end, rest-is, under-way}
use Rattle.area_literals.proofs.WeightLemmas.{weighs-less, weight-And, weight-Or}
use Rattle.area_literals.proofs.gathering.+gather.Goals as goal

pub gather-gather_all-requires : goal.gather-gather_all-requires
gather-gather_all-requires t c = (
  let d = c.decreases in let heavier = weight-And c.args.form.now c.in-And.parts c.as_slice.result.now c.in-And.is c.as_slice.ensures in omega (arith, d, heavier),
  ap (list_all (truth c.args.point.now)) c.as_slice.ensures ∙ sym (truth-And c.args.point.now c.in-And.parts) ∙ ap (truth c.args.point.now) (sym c.in-And.is) ∙ c.requires,
)

pub gather-gather_first-requires : goal.gather-gather_first-requires
gather-gather_first-requires t c = (
  let d = c.decreases in let heavier = weight-Or c.args.form.now c.in-Or.parts c.as_slice-in-Or-2.result.now c.in-Or.is c.as_slice-in-Or-2.ensures in omega (arith, d, heavier),
  ap (list_any (truth c.args.point.now)) c.as_slice-in-Or-2.ensures ∙ sym (truth-Or c.args.point.now c.in-Or.parts) ∙ ap (truth c.args.point.now) (sym c.in-Or.is) ∙ c.requires,
)

pub gather-returns-in-And : goal.gather-returns-in-And
gather-returns-in-And t c =
    on_ok_weaker c.gather_all.result
    (λ all. subst (λ (form : Form). IsGathered c.args.point.now form c.args.lits.now.items c.gather_all.new.lits.items) (sym c.in-And.is)
    (gathered-and c.args.point.now c.in-And.parts c.args.lits.now.items c.gather_all.new.lits.items (subst (λ (forms : List Form). AreGathered c.args.point.now forms c.args.lits.now.items c.gather_all.new.lits.items) c.as_slice.ensures all)))
    c.gather_all.ensures

pub gather-returns-else-cover : goal.gather-returns-else-cover
gather-returns-else-cover t c =
    on_ok_weaker c.gather_first.result
    (λ some. subst (λ (form : Form). IsGathered c.args.point.now form c.args.lits.now.items c.gather_first.new.lits.items) (sym c.in-Or.is)
    (gathered-or c.args.point.now c.in-Or.parts c.args.lits.now.items c.gather_first.new.lits.items (subst (λ (forms : List Form). AreGatheredSome c.args.point.now forms c.args.lits.now.items c.gather_first.new.lits.items) c.as_slice-in-Or-2.ensures some)))
    c.gather_first.ensures

pub gather_all-gather-requires : goal.gather_all-gather-requires
gather_all-gather-requires t c = (
  let d = c.decreases in let lighter = weighs-less c.args.forms.now c.loop-form.form-index c.form-item.result c.loop-form-test.true c.form-item.is in omega (arith, d, lighter),
  all-get (truth c.args.point.now) c.args.forms.now c.loop-form.form-index c.form-item.result c.loop-form-test.true c.form-item.is c.requires,
)

pub gather_first-gather-requires : goal.gather_first-gather-requires
gather_first-gather-requires t c = (
  let d = c.decreases in let lighter = weighs-less c.args.forms.now c.loop-form.form-index c.form-item.result c.loop-form-test.true c.form-item.is in omega (arith, d, lighter),
  sym c.holds.ensures ∙ c.if-holds.true,
)

pub gather_all-loop-form-preserved : goal.gather_all-loop-form-preserved
gather_all-loop-form-preserved t c =
    let forms = c.args.forms.now in
    let i = c.loop-form.form-index in
    let form = c.form-item.result in
    under-way c.args.point.now (λ form lit. stands_in lit form) (λ form lits. cover lits form) forms _ (drop i forms) c.loop-form.lits.items form (drop (i + 1) forms) c.gather.new.lits.items
    (λ lits more. covers-more lits more form) (rest-is forms i form c.loop-form-test.true c.form-item.is) c.in_ok-gather.ensures c.loop-form.invariant

pub gather_all-returns : goal.gather_all-returns
gather_all-returns t c =
    let forms = c.args.forms.now in
    let i = c.loop-form.form-index in
    let over = c.loop-form-test.false in
    let past : length forms ≤ i = omega arith in
    at-end c.args.point.now (λ form lit. stands_in lit form) (λ form lits. cover lits form) forms _ (drop i forms) c.loop-form.lits.items (rest-end forms i past) c.loop-form.invariant

pub gather_first-returns-then-holds : goal.gather_first-returns-then-holds
gather_first-returns-then-holds t c =
    on_ok_weaker c.gather.result
    (λ one. subst (λ (old : List Lit). AreGatheredSome c.args.point.now c.args.forms.now old c.gather.new.lits.items) c.loop-form.invariant.same
    (some-at c.args.point.now c.args.forms.now c.loop-form.form-index c.form-item.result c.loop-form.lits.items c.gather.new.lits.items c.loop-form-test.true c.form-item.is one))
    c.gather.ensures
