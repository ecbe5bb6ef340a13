use Rattle.std.proofs.Common.{◌≡◌, ℕ, Bool, Some, true, false, ap, sym, ◌∙◌, subst}
use Rattle.std.specs.Prelude.{Option, if◌then◌else◌}
use Rattle.obligation_tree.specs.Claims.{is_held_by_another}
use Rattle.book_rules.proofs.ListLemmas.{not_true}
use Rattle.shared_book.specs.machinery.Choices.{IsChosen}
use Rattle.shared_book.proofs.ChoiceLemmas.{chosen-held, chosen-next, denied, on_false, on_true}
use Rattle.shared_book.proofs.claiming.claim_open.Goals as goal

pub returns-then-is_free-clause-chosen : goal.returns-then-is_free-clause-chosen
returns-then-is_free-clause-chosen c =
    let free : is_held_by_another c.args.id c.args.worker c.args.book.now.tree.claims ≡ false = not_true _ (sym c.claim-is_free.ensures.answer ∙ c.if-is_free.true) in
    chosen-next c.args.snapshot.now c.args.worker c.args.best c.args.book.now c.claim-is_free.new.self c.args.id c.requires.chosen c.requires.leaf free (on_true _ c.if-is_free.true c.claim-is_free.ensures.claimed)

pub returns-else-is_free-clause-chosen : goal.returns-else-is_free-clause-chosen
returns-else-is_free-clause-chosen c =
    subst (IsChosen c.args.snapshot.now c.args.worker c.args.best) (sym (on_false _ c.if-is_free.false c.claim-is_free.ensures.unchanged)) c.requires.chosen

pub returns-then-is_free-clause-is : goal.returns-then-is_free-clause-is
returns-then-is_free-clause-is c =
    let b = c.args.snapshot.now in
    let free : is_held_by_another c.args.id c.args.worker c.args.book.now.tree.claims ≡ false = not_true _ (sym c.claim-is_free.ensures.answer ∙ c.if-is_free.true) in
    let kept = sym (chosen-held b c.args.worker c.args.best c.args.book.now c.args.id c.requires.chosen) ∙ free in
    ap (λ (held : Bool). let o : Option ℕ = if held then c.args.best else Some c.args.id in o) (sym kept)

pub returns-else-is_free-clause-is : goal.returns-else-is_free-clause-is
returns-else-is_free-clause-is c =
    let b = c.args.snapshot.now in
    let held : is_held_by_another c.args.id c.args.worker c.args.book.now.tree.claims ≡ true = denied _ (sym c.claim-is_free.ensures.answer ∙ c.if-is_free.false) in
    let kept = sym (chosen-held b c.args.worker c.args.best c.args.book.now c.args.id c.requires.chosen) ∙ held in
    ap (λ (taken : Bool). let o : Option ℕ = if taken then c.args.best else Some c.args.id in o) (sym kept)
