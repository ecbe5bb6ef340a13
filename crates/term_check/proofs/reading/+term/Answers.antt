use Rattle.std.proofs.Common.{◌≡◌, ◌≤◌, ◌+◌, ◌-◌, [], ◌∷◌, length, take, drop, length-append, refl, sym, ap, ◌∙◌, subst, arith, true, false, List}
use Rattle.std.proofs.lemmas.List.{drop_all}
use Rattle.std.specs.Prelude.{None, Some, Ok, Err, Result, codes}
use Rattle.sexp_read.specs.declared.tree.Tree.{Tree}
use Rattle.sexp_read.specs.Leaves.{word_bytes}
use Rattle.term_tree.specs.declared.node.TermId.{TermId}
use Rattle.term_check.specs.declared.found.Found.{Found}
use Rattle.term_check.specs.declared.part.Fault.{Fault}
use Rattle.term_check.specs.declared.part.Part.{Part}
use Rattle.term_check.specs.machinery.Known.{Known, IsReady, below_let}
use Rattle.term_check.specs.machinery.Reading.{Tells, TellsMore, IsGathered, each_spelled, all_bound, next_spelled, item_bound, under_variables, any_list}
use Rattle.term_check.specs.Spelling.{Gathered, Spelled, nothing_yet, items_of, spelled, binder_fault, variables_fault, let_names_fault, sorts_bound, is_word}
use Rattle.term_check.specs.Weight.{weight, weights}
use Rattle.term_check.proofs.CycleLemmas.{if_ok_then, rest_of, two_of, second_weighs, weigh_drop, weigh_next, none_gathered, next_told, turned, stopped, let_told, word_test, any_let, any_forall, any_exists, ready_below_let, ready_below_quantifier, under_lets_told, under_variables_told, quantifier_told, under_lets_stop, under_variables_stop, quantifier_repeated}
use Rattle.term_check.proofs.ReadingLemmas.{keeps_all, keeps_then, ready_then, all_below, within, keeps_length, below_more}
use Rattle.term_check.proofs.SpellingLemmas.{spelled-List, weight-List, weight_of_items, weighs, weigh_all}
use Rattle.term_check.proofs.reading.+term.Goals as goal

pub read_application-apply-made-requires-clause-below : goal.read_application-apply-made-requires-clause-below
read_application-apply-made-requires-clause-below t c =
    let told = c.in-Ok-read_arguments.ensures.told in
    all_below c.read_arguments.new.terms c.args.context.now.lets told.0.terms c.in-Ok-read_arguments.all.ids.items told.2.terms

pub read_application-read_arguments-requires : goal.read_application-read_arguments-requires
read_application-read_arguments-requires t c = (let d = c.decreases in omega (arith, d), c.requires.ready)

pub read_application-returns-in_err-give_back-in-Ok-read_arguments-clause-keeps : goal.read_application-returns-in_err-give_back-in-Ok-read_arguments-clause-keeps
read_application-returns-in_err-give_back-in-Ok-read_arguments-clause-keeps t c =
    keeps_then c.args.terms.now c.read_arguments.new.terms c.apply-made.new.terms c.in-Ok-read_arguments.ensures.keeps c.apply-made.ensures.keeps

pub read_application-returns-in_ok-give_back-in-Ok-read_arguments-clause-keeps : goal.read_application-returns-in_ok-give_back-in-Ok-read_arguments-clause-keeps
read_application-returns-in_ok-give_back-in-Ok-read_arguments-clause-keeps t c =
    keeps_then c.args.terms.now c.read_arguments.new.terms c.apply-made.new.terms c.in-Ok-read_arguments.ensures.keeps c.apply-made.ensures.keeps

pub read_arguments-loop-arg-init : goal.read_arguments-loop-arg-init
read_arguments-loop-arg-init t c = record {
  told = (nothing_yet c.args.next, none_gathered c.args.context.now.lets c.args.terms.now c.in_ok-all.all.ids.items c.in_ok-all.all.parts.items c.args.next c.in_ok-all.all.next c.in_ok-all.ensures.ids c.in_ok-all.ensures.parts c.in_ok-all.ensures.next, refl);
  keeps = keeps_all c.args.terms.now;
  kept = c.in_ok-none.ensures.same;
  room = let n = c.in_ok-all.ensures.next in omega (arith, n);
  count = ap (λ (xs : List TermId). length xs) c.in_ok-all.ensures.ids;
}

pub read_arguments-loop-arg-preserved : goal.read_arguments-loop-arg-preserved
read_arguments-loop-arg-preserved t c =
    let inv = c.loop-arg.invariant in
    let weigh = weigh_next c.args.args.now c.loop-arg.arg-index c.arg-item.result c.loop-arg-test.true c.arg-item.is in
    record {
      told = turned (λ k g tree. next_spelled k.text k.scope g tree) (λ k g trees. each_spelled k.text k.scope g trees) (λ k g tree trees. refl) c.args.context.now c.loop-arg.context c.loop-arg.terms c.read_next.new.terms
          c.loop-arg.all.ids.items c.read_next.new.all.ids.items c.loop-arg.all.parts.items c.read_next.new.all.parts.items c.loop-arg.all.next c.read_next.new.all.next c.args.args.now c.loop-arg.arg-index c.arg-item.result _ inv.kept c.loop-arg-test.true c.arg-item.is inv.told c.in-Ok.ensures.told;
      keeps = keeps_then c.args.terms.now c.loop-arg.terms c.read_next.new.terms inv.keeps c.in-Ok.ensures.keeps;
      kept = c.in-Ok.ensures.kept ∙ inv.kept;
      room = let room = inv.room in let next = c.in-Ok.ensures.next in omega (arith, room, next, weigh);
      count = let count = inv.count in let more = c.in-Ok.ensures.count in omega (arith, count, more);
    }

pub read_arguments-returns-in-Err-clause-keeps : goal.read_arguments-returns-in-Err-clause-keeps
read_arguments-returns-in-Err-clause-keeps t c = keeps_then c.args.terms.now c.loop-arg.terms c.read_next.new.terms c.loop-arg.invariant.keeps c.in-Err.ensures.keeps

pub read_arguments-returns-clause-told : goal.read_arguments-returns-clause-told
read_arguments-returns-clause-told t c =
    let told = c.loop-arg.invariant.told in
    (told.0, sym told.2 ∙ ap (each_spelled c.args.context.now.text c.args.context.now.scope told.0) (drop_all c.loop-arg.arg-index c.args.args.now c.loop-arg-test.false), told.1)

pub read_arguments-returns-in-Err-clause-told : goal.read_arguments-returns-in-Err-clause-told
read_arguments-returns-in-Err-clause-told t c =
    let inv = c.loop-arg.invariant in
    stopped (λ k g tree. next_spelled k.text k.scope g tree) (λ k g trees. each_spelled k.text k.scope g trees) (λ k g tree trees. refl) c.args.context.now c.loop-arg.context c.loop-arg.terms c.read_next.new.terms
    c.loop-arg.all.ids.items c.loop-arg.all.parts.items c.loop-arg.all.next c.args.args.now c.loop-arg.arg-index c.arg-item.result _ c.read_next.new.all c.in-Err.stop inv.kept c.loop-arg-test.true c.arg-item.is inv.told c.in-Err.ensures.told

pub read_arguments-read_next-requires : goal.read_arguments-read_next-requires
read_arguments-read_next-requires t c =
    let inv = c.loop-arg.invariant in
    let weigh = weigh_next c.args.args.now c.loop-arg.arg-index c.arg-item.result c.loop-arg-test.true c.arg-item.is in
    let rest = weigh_drop c.args.args.now c.loop-arg.arg-index in
    let room = inv.room in (
      let d = c.decreases in omega (arith, d, weigh, rest),
      subst (λ (k : Known). IsReady k c.loop-arg.terms c.loop-arg.all.next (weight c.arg-item.result)) (sym inv.kept)
          (ready_then c.args.context.now c.args.terms.now c.loop-arg.terms c.args.next (weights c.args.args.now) c.loop-arg.all.next (weight c.arg-item.result) c.requires.ready inv.keeps (omega (arith, room, weigh)) (omega (arith, weigh, rest))),
    )

pub read_bound-loop-item-init : goal.read_bound-loop-item-init
read_bound-loop-item-init t c = record {
  told = (nothing_yet c.args.next, none_gathered c.args.context.now.lets c.args.terms.now c.in_ok-all.all.ids.items c.in_ok-all.all.parts.items c.args.next c.in_ok-all.all.next c.in_ok-all.ensures.ids c.in_ok-all.ensures.parts c.in_ok-all.ensures.next, refl);
  keeps = keeps_all c.args.terms.now;
  kept = c.in_ok-none.ensures.same;
  room = let n = c.in_ok-all.ensures.next in omega (arith, n);
  count = let none = ap (λ (xs : List TermId). length xs) c.in_ok-all.ensures.ids in omega (arith, none);
}

pub read_bound-loop-item-preserved : goal.read_bound-loop-item-preserved
read_bound-loop-item-preserved t c =
    let inv = c.loop-item.invariant in
    let weigh = weigh_next c.args.items.now c.loop-item.item-index c.item-item.result c.loop-item-test.true c.item-item.is in
    let inner = weight_of_items c.item-item.result in
    let same = ap weights c.items_of.ensures in
    record {
      told = turned (λ k g tree. item_bound k.text k.scope g (items_of tree)) (λ k g trees. all_bound k.text k.scope g trees) (λ k g tree trees. refl) c.args.context.now c.loop-item.context c.loop-item.terms c.read_item.new.terms
          c.loop-item.all.ids.items c.read_item.new.all.ids.items c.loop-item.all.parts.items c.read_item.new.all.parts.items c.loop-item.all.next c.read_item.new.all.next c.args.items.now c.loop-item.item-index c.item-item.result _ inv.kept c.loop-item-test.true c.item-item.is inv.told
          (subst (λ (xs : List Tree). (g : Gathered) → IsGathered c.loop-item.context.lets c.loop-item.terms g c.loop-item.all.ids.items c.loop-item.all.parts.items c.loop-item.all.next
          → (h : Gathered) × (item_bound c.loop-item.context.text c.loop-item.context.scope g xs ≡ Ok h) × IsGathered c.loop-item.context.lets c.read_item.new.terms h c.read_item.new.all.ids.items c.read_item.new.all.parts.items c.read_item.new.all.next) c.items_of.ensures c.in-Ok.ensures.told);
      keeps = keeps_then c.args.terms.now c.loop-item.terms c.read_item.new.terms inv.keeps c.in-Ok.ensures.keeps;
      kept = c.in-Ok.ensures.kept ∙ inv.kept;
      room = let room = inv.room in let next = c.in-Ok.ensures.next in omega (arith, room, next, weigh, inner, same);
      count = let count = inv.count in let more = c.in-Ok.ensures.count in omega (arith, count, more);
    }

pub read_bound-returns-in-Err-clause-keeps : goal.read_bound-returns-in-Err-clause-keeps
read_bound-returns-in-Err-clause-keeps t c = keeps_then c.args.terms.now c.loop-item.terms c.read_item.new.terms c.loop-item.invariant.keeps c.in-Err.ensures.keeps

pub read_bound-returns-clause-told : goal.read_bound-returns-clause-told
read_bound-returns-clause-told t c =
    let told = c.loop-item.invariant.told in
    (told.0, sym told.2 ∙ ap (all_bound c.args.context.now.text c.args.context.now.scope told.0) (drop_all c.loop-item.item-index c.args.items.now c.loop-item-test.false), told.1)

pub read_bound-returns-in-Err-clause-told : goal.read_bound-returns-in-Err-clause-told
read_bound-returns-in-Err-clause-told t c =
    let inv = c.loop-item.invariant in
    stopped (λ k g tree. item_bound k.text k.scope g (items_of tree)) (λ k g trees. all_bound k.text k.scope g trees) (λ k g tree trees. refl) c.args.context.now c.loop-item.context c.loop-item.terms c.read_item.new.terms
    c.loop-item.all.ids.items c.loop-item.all.parts.items c.loop-item.all.next c.args.items.now c.loop-item.item-index c.item-item.result _ c.read_item.new.all c.in-Err.stop inv.kept c.loop-item-test.true c.item-item.is inv.told
    (subst (λ (xs : List Tree). (g : Gathered) → IsGathered c.loop-item.context.lets c.loop-item.terms g c.loop-item.all.ids.items c.loop-item.all.parts.items c.loop-item.all.next
    → TellsMore c.loop-item.context.lets (item_bound c.loop-item.context.text c.loop-item.context.scope g xs) c.read_item.new.terms c.read_item.new.all (Err c.in-Err.stop)) c.items_of.ensures c.in-Err.ensures.told)

pub read_bound-read_item-requires : goal.read_bound-read_item-requires
read_bound-read_item-requires t c =
    let inv = c.loop-item.invariant in
    let weigh = weigh_next c.args.items.now c.loop-item.item-index c.item-item.result c.loop-item-test.true c.item-item.is in
    let rest = weigh_drop c.args.items.now c.loop-item.item-index in
    let inner = weight_of_items c.item-item.result in
    let same = ap weights c.items_of.ensures in
    let room = inv.room in (
      let d = c.decreases in omega (arith, d, weigh, rest, inner, same),
      subst (λ (k : Known). IsReady k c.loop-item.terms c.loop-item.all.next (weights c.items_of.result.now)) (sym inv.kept)
          (ready_then c.args.context.now c.args.terms.now c.loop-item.terms c.args.next (weights c.args.items.now) c.loop-item.all.next (weights c.items_of.result.now) c.requires.ready inv.keeps (omega (arith, room, weigh, inner, same)) (omega (arith, weigh, rest, inner, same))),
    )

pub read_item-read_next-requires : goal.read_item-read_next-requires
read_item-read_next-requires t c =
    let one = second_weighs c.args.item.now c.term-item.result c.in-len2.len_at_least c.term-item.is in (
      let d = c.decreases in omega (arith, d, one),
      ready_then c.args.context.now c.args.terms.now c.args.terms.now c.args.all.now.next (weights c.args.item.now) c.args.all.now.next (weight c.term-item.result) c.requires.ready (keeps_all c.args.terms.now) (omega (arith, one)) one,
    )

pub read_let-read_bound-requires : goal.read_let-read_bound-requires
read_let-read_bound-requires t c =
    let two = ap weights (two_of c.args.rest.now c.binder-item.result c.body-item.result c.in-len2.len_at_least c.in-len2.len_below c.binder-item.is c.body-item.is) in
    let inner = weight_of_items c.binder-item.result in
    let same = ap weights c.items_of-items.ensures in (
      let d = c.decreases in omega (arith, d, two, inner, same),
      ready_then c.args.context.now c.args.terms.now c.args.terms.now c.args.next (weights c.args.rest.now) c.args.next (weights c.items_of-items.result.now) c.requires.ready (keeps_all c.args.terms.now) (omega (arith, two, inner, same)) (omega (arith, two, inner, same)),
    )

pub read_let-read_under_lets-requires : goal.read_let-read_under_lets-requires
read_let-read_under_lets-requires t c =
    let two = ap weights (two_of c.args.rest.now c.binder-item.result c.body-item.result c.in-len2.len_at_least c.in-len2.len_below c.binder-item.is c.body-item.is) in
    let inner = weight_of_items c.binder-item.result in
    let same = ap weights c.items_of-items.ensures in
    let many = weigh_all c.items_of-items.result.now in
    let next = c.in-Ok.ensures.next in
    let told = c.in-Ok.ensures.told in (
      let d = c.decreases in omega (arith, d, two, inner, same),
      (
        subst (λ (k : Known). IsReady k c.read_bound.new.terms c.in-Ok.all.next (weight c.body-item.result)) (sym c.in-Ok.ensures.kept)
            (ready_then c.args.context.now c.args.terms.now c.read_bound.new.terms c.args.next (weights c.args.rest.now) c.in-Ok.all.next (weight c.body-item.result) c.requires.ready c.in-Ok.ensures.keeps (omega (arith, two, inner, same, next)) (omega (arith, two))),
        (
          let lets = ap (λ (k : Known). length k.lets) c.in-Ok.ensures.kept in let fits = c.requires.ready.terms in omega (arith, lets, fits, two, inner, same, many),
          (
            c.in-Ok.ensures.count,
            (told.0, subst (λ (k : Known). IsGathered k.lets c.read_bound.new.terms told.0 c.in-Ok.all.ids.items c.in-Ok.all.parts.items c.in-Ok.all.next) (sym c.in-Ok.ensures.kept) told.2),
          ),
        ),
      ),
    )

pub read_let-returns-in-Ok-clause-told : goal.read_let-returns-in-Ok-clause-told
read_let-returns-in-Ok-clause-told t c =
    let context = c.args.context.now in
    let two = two_of c.args.rest.now c.binder-item.result c.body-item.result c.in-len2.len_at_least c.in-len2.len_below c.binder-item.is c.body-item.is in
    let none : binder_fault context.text c.binder-item.result ≡ None = ap (λ x. binder_fault x c.binder-item.result) (sym c.text.ensures) ∙ sym c.binder_fault.ensures ∙ c.in_default-binder_fault.is in
    let told = c.in-Ok.ensures.told in
    let_told context c.read_bound.new.context c.args.next c.args.start c.binder-item.result c.body-item.result c.args.rest.now c.items_of-items.result.now told.0 c.read_under_lets.new.terms c.read_under_lets.result
    two none c.items_of-items.ensures told.1 c.in-Ok.ensures.kept
    (c.read_under_lets.ensures.told told.0 (subst (λ (k : Known). IsGathered k.lets c.read_bound.new.terms told.0 c.in-Ok.all.ids.items c.in-Ok.all.parts.items c.in-Ok.all.next) (sym c.in-Ok.ensures.kept) told.2))

pub read_let-returns-in-Ok-clause-keeps : goal.read_let-returns-in-Ok-clause-keeps
read_let-returns-in-Ok-clause-keeps t c = keeps_then c.args.terms.now c.read_bound.new.terms c.read_under_lets.new.terms c.in-Ok.ensures.keeps c.read_under_lets.ensures.keeps

pub read_let-returns-in-Ok-clause-next : goal.read_let-returns-in-Ok-clause-next
read_let-returns-in-Ok-clause-next t c =
    let two = ap weights (two_of c.args.rest.now c.binder-item.result c.body-item.result c.in-len2.len_at_least c.in-len2.len_below c.binder-item.is c.body-item.is) in
    let inner = weight_of_items c.binder-item.result in
    let same = ap weights c.items_of-items.ensures in
    let next = c.in-Ok.ensures.next in
    if_ok_then (λ (found : Found). found.next ≤ c.in-Ok.all.next + weight c.body-item.result) (λ (found : Found). found.next ≤ c.args.next + weights c.args.rest.now) c.read_under_lets.result
    (λ found h. omega (arith, two, inner, same, next, h)) c.read_under_lets.ensures.next

pub read_list-read_application-requires : goal.read_list-read_application-requires
read_list-read_application-requires t c =
    let all = ap weights (rest_of c.args.items.now c.head-item.result c.in-len1-up.len_at_least c.head-item.is) in
    let some = weighs c.head-item.result in (
      let d = c.decreases in omega (arith, d, all, some),
      ready_then c.args.context.now c.args.terms.now c.args.terms.now c.args.next (weights c.args.items.now) c.args.next _ c.requires.ready (keeps_all c.args.terms.now) (omega (arith, all)) (omega (arith, all)),
    )

pub read_list-read_let-requires : goal.read_list-read_let-requires
read_list-read_let-requires t c =
    let all = ap weights (rest_of c.args.items.now c.head-item.result c.in-len1-up.len_at_least c.head-item.is) in
    let some = weighs c.head-item.result in (
      let d = c.decreases in omega (arith, d, all, some),
      ready_then c.args.context.now c.args.terms.now c.args.terms.now c.args.next (weights c.args.items.now) c.args.next _ c.requires.ready (keeps_all c.args.terms.now) (omega (arith, all)) (omega (arith, all)),
    )

pub read_list-read_quantifier-requires : goal.read_list-read_quantifier-requires
read_list-read_quantifier-requires t c =
    let all = ap weights (rest_of c.args.items.now c.head-item.result c.in-len1-up.len_at_least c.head-item.is) in
    let some = weighs c.head-item.result in (
      let d = c.decreases in omega (arith, d, all, some),
      ready_then c.args.context.now c.args.terms.now c.args.terms.now c.args.next (weights c.args.items.now) c.args.next _ c.requires.ready (keeps_all c.args.terms.now) (omega (arith, all)) (omega (arith, all)),
    )

pub read_list-read_quantifier-requires-in-Some-3 : goal.read_list-read_quantifier-requires-in-Some-3
read_list-read_quantifier-requires-in-Some-3 t c =
    let all = ap weights (rest_of c.args.items.now c.head-item.result c.in-len1-up.len_at_least c.head-item.is) in
    let some = weighs c.head-item.result in (
      let d = c.decreases in omega (arith, d, all, some),
      ready_then c.args.context.now c.args.terms.now c.args.terms.now c.args.next (weights c.args.items.now) c.args.next _ c.requires.ready (keeps_all c.args.terms.now) (omega (arith, all)) (omega (arith, all)),
    )

pub read_list-returns-in-Some-clause-told : goal.read_list-returns-in-Some-clause-told
read_list-returns-in-Some-clause-told t c =
    let context = c.args.context.now in
    let rest = rest_of c.args.items.now c.head-item.result c.in-len1-up.len_at_least c.head-item.is in
    let copied = c.word_bytes.ensures ∙ ap (λ x. word_bytes x c.head-item.result) c.text.ensures in
    let is_let : is_word context.text c.head-item.result (codes "let") ≡ true = word_test context.text c.head-item.result c.word_bytes.result c.in-Some.word (codes "let") true copied c.in-Some.is c.if-are_same.ensures in
    subst (λ (r : Result Spelled Fault). Tells context.lets r c.read_let.new.terms c.read_let.result) (sym (any_let context.text context.scope c.args.next c.args.start c.args.items.now c.head-item.result _ rest is_let)) c.read_let.ensures.told

pub read_list-returns-in-Some-2-clause-told : goal.read_list-returns-in-Some-2-clause-told
read_list-returns-in-Some-2-clause-told t c =
    let context = c.args.context.now in
    let rest = rest_of c.args.items.now c.head-item.result c.in-len1-up.len_at_least c.head-item.is in
    let copied = c.word_bytes.ensures ∙ ap (λ x. word_bytes x c.head-item.result) c.text.ensures in
    let is_let : is_word context.text c.head-item.result (codes "let") ≡ false = word_test context.text c.head-item.result c.word_bytes.result c.in-Some.word (codes "let") false copied c.in-Some.is c.if-are_same.ensures in
    let is_forall : is_word context.text c.head-item.result (codes "forall") ≡ true = word_test context.text c.head-item.result c.word_bytes.result c.in-Some.word (codes "forall") true copied c.in-Some.is c.if-are_same-2.ensures in
    subst (λ (r : Result Spelled Fault). Tells context.lets r c.read_quantifier.new.terms c.read_quantifier.result) (sym (any_forall context.text context.scope c.args.next c.args.start c.args.items.now c.head-item.result _ rest is_let is_forall)) c.read_quantifier.ensures.told

pub read_list-returns-in-Some-3-clause-told : goal.read_list-returns-in-Some-3-clause-told
read_list-returns-in-Some-3-clause-told t c =
    let context = c.args.context.now in
    let rest = rest_of c.args.items.now c.head-item.result c.in-len1-up.len_at_least c.head-item.is in
    let copied = c.word_bytes.ensures ∙ ap (λ x. word_bytes x c.head-item.result) c.text.ensures in
    let is_let : is_word context.text c.head-item.result (codes "let") ≡ false = word_test context.text c.head-item.result c.word_bytes.result c.in-Some.word (codes "let") false copied c.in-Some.is c.if-are_same.ensures in
    let is_forall : is_word context.text c.head-item.result (codes "forall") ≡ false = word_test context.text c.head-item.result c.word_bytes.result c.in-Some.word (codes "forall") false copied c.in-Some.is c.if-are_same-2.ensures in
    let is_exists : is_word context.text c.head-item.result (codes "exists") ≡ true = word_test context.text c.head-item.result c.word_bytes.result c.in-Some.word (codes "exists") true copied c.in-Some.is c.if-are_same-3.ensures in
    subst (λ (r : Result Spelled Fault). Tells context.lets r c.read_quantifier-in-Some-3.new.terms c.read_quantifier-in-Some-3.result) (sym (any_exists context.text context.scope c.args.next c.args.start c.args.items.now c.head-item.result _ rest is_let is_forall is_exists)) c.read_quantifier-in-Some-3.ensures.told

pub read_under_lets-add_binding-requires-clause-aligned : goal.read_under_lets-add_binding-requires-clause-aligned
read_under_lets-add_binding-requires-clause-aligned t c = c.in-Ok.ensures.keeps.aligned c.requires.ready.aligned

pub read_under_variables-add_quantifier-requires-clause-aligned : goal.read_under_variables-add_quantifier-requires-clause-aligned
read_under_variables-add_quantifier-requires-clause-aligned t c = c.in-Ok.ensures.keeps.aligned c.requires.ready.aligned

pub read_application-apply-made-requires-clause-aligned : goal.read_application-apply-made-requires-clause-aligned
read_application-apply-made-requires-clause-aligned t c = c.in-Ok-read_arguments.ensures.keeps.aligned c.requires.ready.aligned

pub read_list-returns-in-Some-clause-next : goal.read_list-returns-in-Some-clause-next
read_list-returns-in-Some-clause-next t c =
    let all = ap weights (rest_of c.args.items.now c.head-item.result c.in-len1-up.len_at_least c.head-item.is) in
    if_ok_then (λ (found : Found). found.next ≤ c.args.next + weights (take (length c.args.items.now - 1) (drop 1 c.args.items.now))) (λ (found : Found). found.next ≤ c.args.next + weights c.args.items.now) c.read_let.result (λ found h. omega (arith, all, h)) c.read_let.ensures.next

pub read_list-returns-in-Some-2-clause-next : goal.read_list-returns-in-Some-2-clause-next
read_list-returns-in-Some-2-clause-next t c =
    let all = ap weights (rest_of c.args.items.now c.head-item.result c.in-len1-up.len_at_least c.head-item.is) in
    if_ok_then (λ (found : Found). found.next ≤ c.args.next + weights (take (length c.args.items.now - 1) (drop 1 c.args.items.now))) (λ (found : Found). found.next ≤ c.args.next + weights c.args.items.now) c.read_quantifier.result (λ found h. omega (arith, all, h)) c.read_quantifier.ensures.next

pub read_list-returns-in-Some-3-clause-next : goal.read_list-returns-in-Some-3-clause-next
read_list-returns-in-Some-3-clause-next t c =
    let all = ap weights (rest_of c.args.items.now c.head-item.result c.in-len1-up.len_at_least c.head-item.is) in
    if_ok_then (λ (found : Found). found.next ≤ c.args.next + weights (take (length c.args.items.now - 1) (drop 1 c.args.items.now))) (λ (found : Found). found.next ≤ c.args.next + weights c.args.items.now) c.read_quantifier-in-Some-3.result (λ found h. omega (arith, all, h)) c.read_quantifier-in-Some-3.ensures.next

pub read_list-returns-in_default-clause-next : goal.read_list-returns-in_default-clause-next
read_list-returns-in_default-clause-next t c =
    let all = ap weights (rest_of c.args.items.now c.head-item.result c.in-len1-up.len_at_least c.head-item.is) in
    if_ok_then (λ (found : Found). found.next ≤ c.args.next + weights (take (length c.args.items.now - 1) (drop 1 c.args.items.now))) (λ (found : Found). found.next ≤ c.args.next + weights c.args.items.now) c.read_application.result (λ found h. omega (arith, all, h)) c.read_application.ensures.next

pub read_under_lets-returns-in-Ok-clause-next : goal.read_under_lets-returns-in-Ok-clause-next
read_under_lets-returns-in-Ok-clause-next t c =
    let next = c.in-Ok.ensures.next in
    if_ok_then (λ (made : Found). made.next ≡ c.in-Ok.found.next) (λ (made : Found). made.next ≤ c.args.all.next + weight c.args.body.now) c.add_binding.result (λ made h. omega (arith, next, h)) c.add_binding.ensures.next

pub read_under_variables-returns-in-Ok-clause-next : goal.read_under_variables-returns-in-Ok-clause-next
read_under_variables-returns-in-Ok-clause-next t c =
    let next = c.in-Ok.ensures.next in
    if_ok_then (λ (made : Found). made.next ≡ c.in-Ok.found.next) (λ (made : Found). made.next ≤ c.args.next + length c.args.items.now + weight c.args.body.now) c.add_quantifier.result (λ made h. omega (arith, next, h)) c.add_quantifier.ensures.next

pub read_application-returns-in_ok-give_back-in-Ok-read_arguments-clause-next : goal.read_application-returns-in_ok-give_back-in-Ok-read_arguments-clause-next
read_application-returns-in_ok-give_back-in-Ok-read_arguments-clause-next t c =
    let next = c.in-Ok-read_arguments.ensures.next in
    if_ok_then (λ (made : Found). made.next ≡ c.in-Ok-read_arguments.all.next) (λ (made : Found). made.next ≤ c.args.next + weights c.args.args.now) c.apply-made.result (λ made h. omega (arith, next, h)) c.apply-made.ensures.next

pub read_under_lets-returns-in-Err-clause-told : goal.read_under_lets-returns-in-Err-clause-told
read_under_lets-returns-in-Err-clause-told t c =
    let context = c.args.context.now in
    let none : let_names_fault context.text [] c.args.items.now ≡ None = ap (λ x. let_names_fault x [] c.args.items.now) (sym c.text.ensures) ∙ sym c.in_ok-fault.ensures ∙ c.in_default.is in
    under_lets_stop context c.bind_lets.new.self c.args.start c.args.all.next c.args.items.now c.args.body.now c.args.all.ids.items c.deref-2.result.now c.args.all.parts.items c.deref.result.now c.args.terms.now c.read_term.new.terms c.in-Err.stop
    c.in_ok-bind_lets.ensures c.deref.ensures.value c.deref-2.ensures.value c.requires.ready.numbered none c.in-Err.ensures.told

pub read_under_variables-returns-in-Err-clause-told : goal.read_under_variables-returns-in-Err-clause-told
read_under_variables-returns-in-Err-clause-told t c =
    under_variables_stop c.args.context.now c.bind_variables.new.self c.args.start c.args.next c.args.is_universal c.args.items.now c.args.body.now c.read_term.new.terms c.in-Err.stop c.in_ok-bind_variables.ensures c.in-Err.ensures.told

pub read_quantifier-returns-in-Some-2-clause-told : goal.read_quantifier-returns-in-Some-2-clause-told
read_quantifier-returns-in-Some-2-clause-told t c =
    let context = c.args.context.now in
    let two = two_of c.args.rest.now c.binder-item.result c.body-item.result c.in-len2.len_at_least c.in-len2.len_below c.binder-item.is c.body-item.is in
    let quantifies : context.scope.quantifies ≡ true = sym c.if-not-quantifies.ensures in
    let none : binder_fault context.text c.binder-item.result ≡ None = ap (λ x. binder_fault x c.binder-item.result) (sym c.text.ensures) ∙ sym c.binder_fault.ensures ∙ c.in_default-binder_fault.is in
    let repeated : variables_fault context.text [] (items_of c.binder-item.result) ≡ Some c.in-Some-2.fault =
    ap (λ x. variables_fault x [] (items_of c.binder-item.result)) (sym c.text-in-len2.ensures) ∙ ap (λ (xs : List Tree). variables_fault c.text-in-len2.result.now [] xs) (sym c.items_of-items.ensures) ∙ sym c.in_ok-fault-in-len2.ensures ∙ c.in-Some-2.is in
    quantifier_repeated context.text context.scope c.args.next c.args.start c.args.is_universal c.binder-item.result c.body-item.result c.args.rest.now c.in-Some-2.fault quantifies two none repeated

pub read_next-read_term-requires : goal.read_next-read_term-requires
read_next-read_term-requires t c = (let d = c.decreases in omega (arith, d), c.requires.ready)

pub read_next-returns-in_ok-add-in-Ok-clause-count : goal.read_next-returns-in_ok-add-in-Ok-clause-count
read_next-returns-in_ok-add-in-Ok-clause-count t c =
    let more = ap (λ (xs : List TermId). length xs) c.in_ok-add-in-Ok.ensures.ids in
    let long = length-append c.args.all.now.ids.items (c.in-Ok.found.id ∷ []) in
    omega (arith, more, long)

pub read_next-returns-in_ok-add-in-Ok-clause-told : goal.read_next-returns-in_ok-add-in-Ok-clause-told
read_next-returns-in_ok-add-in-Ok-clause-told t c =
    let more = c.in_ok-add-in-Ok.ensures in
    next_told c.args.context.now.lets c.args.context.now.text c.args.context.now.scope c.args.all.now.next c.args.tree.now c.args.terms.now c.read_term.new.terms c.in-Ok.found c.args.all.now.ids.items _ c.args.all.now.parts.items _ _
    c.in-Ok.ensures.told c.in-Ok.ensures.keeps more.ids more.parts more.next

pub read_quantifier-read_under_variables-requires : goal.read_quantifier-read_under_variables-requires
read_quantifier-read_under_variables-requires t c =
    let two = ap weights (two_of c.args.rest.now c.binder-item.result c.body-item.result c.in-len2.len_at_least c.in-len2.len_below c.binder-item.is c.body-item.is) in
    let inner = weight_of_items c.binder-item.result in
    let same = ap weights c.items_of-items.ensures in
    let many = weigh_all c.items_of-items.result.now in (
      let d = c.decreases in omega (arith, d, two, inner),
      ready_then c.args.context.now c.args.terms.now c.args.terms.now c.args.next (weights c.args.rest.now) c.args.next (length c.items_of-items.result.now + weight c.body-item.result) c.requires.ready (keeps_all c.args.terms.now) (omega (arith, two, inner, same, many)) (omega (arith, two, inner, same, many)),
    )

pub read_quantifier-returns-in_default-2-clause-next : goal.read_quantifier-returns-in_default-2-clause-next
read_quantifier-returns-in_default-2-clause-next t c =
    let two = ap weights (two_of c.args.rest.now c.binder-item.result c.body-item.result c.in-len2.len_at_least c.in-len2.len_below c.binder-item.is c.body-item.is) in
    let inner = weight_of_items c.binder-item.result in
    let same = ap weights c.items_of-items.ensures in
    let many = weigh_all c.items_of-items.result.now in
    if_ok_then (λ (found : Found). found.next ≤ c.args.next + length c.items_of-items.result.now + weight c.body-item.result) (λ (found : Found). found.next ≤ c.args.next + weights c.args.rest.now) c.read_under_variables.result
    (λ found h. omega (arith, two, inner, same, many, h)) c.read_under_variables.ensures.next

pub read_quantifier-returns-in_default-2-clause-told : goal.read_quantifier-returns-in_default-2-clause-told
read_quantifier-returns-in_default-2-clause-told t c =
    let context = c.args.context.now in
    let two = two_of c.args.rest.now c.binder-item.result c.body-item.result c.in-len2.len_at_least c.in-len2.len_below c.binder-item.is c.body-item.is in
    let quantifies : context.scope.quantifies ≡ true = sym c.if-not-quantifies.ensures in
    let none : binder_fault context.text c.binder-item.result ≡ None = ap (λ x. binder_fault x c.binder-item.result) (sym c.text.ensures) ∙ sym c.binder_fault.ensures ∙ c.in_default-binder_fault.is in
    let unrepeated : variables_fault context.text [] (items_of c.binder-item.result) ≡ None =
    ap (λ x. variables_fault x [] (items_of c.binder-item.result)) (sym c.text-in-len2.ensures) ∙ ap (λ (xs : List Tree). variables_fault c.text-in-len2.result.now [] xs) (sym c.items_of-items.ensures) ∙ sym c.in_ok-fault-in-len2.ensures ∙ c.in_default-2.is in
    let told = subst (λ (xs : List Tree). Tells context.lets (under_variables context.text context.scope c.args.next c.args.start c.args.is_universal xs c.body-item.result) c.read_under_variables.new.terms c.read_under_variables.result) c.items_of-items.ensures c.read_under_variables.ensures.told in
    subst (λ (r : Result Spelled Fault). Tells context.lets r c.read_under_variables.new.terms c.read_under_variables.result) (sym (quantifier_told context.text context.scope c.args.next c.args.start c.args.is_universal c.binder-item.result c.body-item.result c.args.rest.now quantifies two none unrepeated)) told

pub read_term-read_list-requires : goal.read_term-read_list-requires
read_term-read_list-requires t c =
    let all = ap weight c.in-List.is ∙ weight-List c.in-List.items c.in-List.start c.in-List.end in
    let same = ap weights c.as_slice.ensures in (
      let d = c.decreases in omega (arith, d, all, same),
      ready_then c.args.context.now c.args.terms.now c.args.terms.now c.args.next (weight c.args.tree.now) c.args.next (weights c.as_slice.result.now) c.requires.ready (keeps_all c.args.terms.now) (omega (arith, all, same)) (omega (arith, all, same)),
    )

pub read_term-returns-in-List-clause-next : goal.read_term-returns-in-List-clause-next
read_term-returns-in-List-clause-next t c =
    let all = ap weight c.in-List.is ∙ weight-List c.in-List.items c.in-List.start c.in-List.end in
    let same = ap weights c.as_slice.ensures in
    if_ok_then (λ (found : Found). found.next ≤ c.args.next + weights c.as_slice.result.now) (λ (found : Found). found.next ≤ c.args.next + weight c.args.tree.now) c.read_list.result
    (λ found h. omega (arith, all, same, h)) c.read_list.ensures.next

pub read_term-returns-in-List-clause-told : goal.read_term-returns-in-List-clause-told
read_term-returns-in-List-clause-told t c =
    let context = c.args.context.now in
    let is = ap (spelled context.text context.scope c.args.next) c.in-List.is ∙ spelled-List context.text context.scope c.args.next c.in-List.items c.in-List.start c.in-List.end ∙ ap (any_list context.text context.scope c.args.next c.in-List.start) (sym c.as_slice.ensures) in
    subst (λ (r : Result Spelled Fault). Tells context.lets r c.read_list.new.terms c.read_list.result) (sym is) c.read_list.ensures.told

pub read_under_lets-add_binding-requires-clause-body : goal.read_under_lets-add_binding-requires-clause-body
read_under_lets-add_binding-requires-clause-body t c =
    let told = c.in-Ok.ensures.told in within c.read_term.new.terms _ told.0.term c.in-Ok.found.id.0 told.2

pub read_under_lets-add_binding-requires-clause-bound : goal.read_under_lets-add_binding-requires-clause-bound
read_under_lets-add_binding-requires-clause-bound t c =
    let told = c.requires.gathered in
    below_more (length c.args.terms.now.nodes) (length c.read_term.new.terms.nodes) c.args.all.ids.items (keeps_length c.args.terms.now c.read_term.new.terms c.in-Ok.ensures.keeps)
    (all_below c.args.terms.now c.args.context.now.lets told.0.terms c.args.all.ids.items told.1.terms)

pub read_under_lets-read_term-requires : goal.read_under_lets-read_term-requires
read_under_lets-read_term-requires t c =
    let told = c.requires.gathered in
    let is : c.bind_lets.new.self ≡ below_let c.args.context.now c.args.items.now c.args.all.parts.items c.args.all.ids.items =
    c.in_ok-bind_lets.ensures ∙ ap (λ (ps : List Part). below_let c.args.context.now c.args.items.now ps c.deref-2.result.now) c.deref.ensures.value ∙ ap (λ (xs : List TermId). below_let c.args.context.now c.args.items.now c.args.all.parts.items xs) c.deref-2.ensures.value in (
      let d = c.decreases in omega (arith, d),
      subst (λ (k : Known). IsReady k c.args.terms.now c.args.all.next (weight c.args.body.now)) (sym is)
          (ready_below_let c.args.context.now c.args.terms.now c.args.all.next c.args.items.now (weight c.args.body.now) c.args.all.ids.items c.args.all.parts.items told.0 c.args.all.next c.requires.ready c.requires.room told.1 c.requires.count),
    )

pub read_under_lets-returns-in-Ok-clause-keeps : goal.read_under_lets-returns-in-Ok-clause-keeps
read_under_lets-returns-in-Ok-clause-keeps t c = keeps_then c.args.terms.now c.read_term.new.terms c.add_binding.new.terms c.in-Ok.ensures.keeps c.add_binding.ensures.keeps

pub read_under_lets-returns-in-Ok-clause-told : goal.read_under_lets-returns-in-Ok-clause-told
read_under_lets-returns-in-Ok-clause-told t c =
    let context = c.args.context.now in
    let none : let_names_fault context.text [] c.args.items.now ≡ None = ap (λ x. let_names_fault x [] c.args.items.now) (sym c.text.ensures) ∙ sym c.in_ok-fault.ensures ∙ c.in_default.is in
    under_lets_told context c.bind_lets.new.self c.args.start c.args.all.next c.args.items.now c.args.body.now c.args.all.ids.items c.deref-2.result.now c.args.all.parts.items c.deref.result.now c.in-Ok.found c.args.terms.now c.read_term.new.terms c.add_binding.new.terms c.add_binding.result
    c.in_ok-bind_lets.ensures c.deref.ensures.value c.deref-2.ensures.value c.requires.ready.numbered none c.in-Ok.ensures.told c.in-Ok.ensures.keeps c.add_binding.ensures.told

pub read_under_variables-add_quantifier-requires-clause-body : goal.read_under_variables-add_quantifier-requires-clause-body
read_under_variables-add_quantifier-requires-clause-body t c =
    let told = c.in-Ok.ensures.told in within c.read_term.new.terms _ told.0.term c.in-Ok.found.id.0 told.2

pub read_under_variables-read_term-requires : goal.read_under_variables-read_term-requires
read_under_variables-read_term-requires t c = (
  let d = c.decreases in omega (arith, d),
  subst (λ (k : Known). IsReady k c.args.terms.now (c.args.next + length c.args.items.now) (weight c.args.body.now)) (sym c.in_ok-bind_variables.ensures)
      (ready_below_quantifier c.args.context.now c.args.terms.now c.args.next c.args.next c.args.items.now (weight c.args.body.now) c.requires.ready),
)

pub read_under_variables-returns-in-Ok-clause-keeps : goal.read_under_variables-returns-in-Ok-clause-keeps
read_under_variables-returns-in-Ok-clause-keeps t c = keeps_then c.args.terms.now c.read_term.new.terms c.add_quantifier.new.terms c.in-Ok.ensures.keeps c.add_quantifier.ensures.keeps

pub read_under_variables-returns-in-Ok-clause-told : goal.read_under_variables-returns-in-Ok-clause-told
read_under_variables-returns-in-Ok-clause-told t c =
    under_variables_told c.args.context.now c.bind_variables.new.self c.args.start c.args.next (c.args.next + length c.args.items.now) c.args.is_universal c.args.items.now c.args.body.now c.in_ok-sorts.sorts c.in-Ok.found c.read_term.new.terms c.add_quantifier.new.terms c.add_quantifier.result
    c.in_ok-bind_variables.ensures (c.in_ok-sorts.ensures ∙ ap (λ x. sorts_bound x c.args.items.now) c.text.ensures) refl c.in-Ok.ensures.told c.add_quantifier.ensures.told
