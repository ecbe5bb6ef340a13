use Rattle.std.proofs.Common.{rules, ◌≡◌, ◌*◌, ◌∙◌, List, length, ap, sym, subst, true, arith, FitsSigned}
use Rattle.std.specs.Int.{w128}
use Rattle.std.proofs.lemmas.Int.{ints, to_z-of_z}
use Rattle.std.specs.Prelude.{ℤ, pos}
use Rattle.std.specs.List.{list_all}
use Rattle.term_tree.specs.declared.node.TermId.{TermId}
use Rattle.term_tree.specs.Arena.{is_below}
use Rattle.answer_text.specs.Lemmas.{IsNumber, IsProduct}
use Rattle.interpretations.specs.Terms.{Each}
use Rattle.interpretations.specs.machinery.Added.{IsAdded}
use Rattle.interpretations.proofs.AddedLemmas.{are-there-then, below-push, grown-most}
use Rattle.interpretations.proofs.FullLemmas.{full-of}
use Rattle.interpretations.proofs.MakingLemmas.{plain-added, products-as, shifted-added}
use Rattle.interpretations.proofs.sums.shifted.Goals as goal

pub sum-requires-2 : goal.sum-requires-2
sum-requires-2 c =
    let later = c.number.new.terms.nodes in
    let there =
    are-there-then (λ nodes ids. Each (IsProduct nodes c.args.sorts.now) c.terms.result.now ids) (7 * length c.terms.result.now) 2 c.args.terms.now.nodes c.products.new.terms.nodes later
    c.in_ok-items.items.items c.in_ok-items.ensures.added c.in_ok-last.ensures.added.grown in
    subst (λ (ids : List TermId). list_all (is_below (length later)) ids ≡ true) (sym c.in_ok-push.ensures)
    (below-push (length later) c.in_ok-items.items.items c.in_ok-last.last there c.in_ok-last.ensures.added.there)

pub returns-clause-added : goal.returns-clause-added
returns-clause-added c =
    let items = c.in_ok-items.items.items in
    let last = c.in_ok-last.last in
    let other : c.constant-constant.result ≡ pos 0 → ⊥ = search rules in
    let fits : FitsSigned w128 c.constant-constant.result = omega (arith, ints, c.constant-constant.ensures.is, c.constant-constant.ensures.long) in
    let number = simp to_z-of_z at c.in_ok-last.ensures.added in
    shifted-added c.args.sorts.now c.args.lin.now c.terms.ensures.legal c.args.terms.now.nodes c.products.new.terms.nodes c.number.new.terms.nodes c.sum-2.new.terms.nodes items c.push.new.items.items
    last c.in_ok-id-2.id c.requires.short (λ is. other (c.constant-constant.ensures.is ∙ is)) c.in_ok-push.ensures
    (products-as c.args.sorts.now c.terms.result.now c.args.lin.now.terms c.args.terms.now.nodes c.products.new.terms.nodes items c.terms.ensures.is c.in_ok-items.ensures.added)
    (subst (λ (z : ℤ). IsAdded (λ nodes k. IsNumber nodes z k) 2 c.products.new.terms.nodes c.number.new.terms.nodes last) c.constant-constant.ensures.is number) c.in_ok-id-2.ensures.added

pub returns-then-constant-eq0-clause-added : goal.returns-then-constant-eq0-clause-added
returns-then-constant-eq0-clause-added c =
    let items = c.in_ok-items.items.items in
    let nought : c.constant-constant.result ≡ pos 0 = search rules in
    plain-added c.args.sorts.now c.args.lin.now c.terms.ensures.legal c.args.terms.now.nodes c.products.new.terms.nodes c.sum.new.terms.nodes items c.in_ok-id.id c.requires.short
    (sym c.constant-constant.ensures.is ∙ nought)
    (products-as c.args.sorts.now c.terms.result.now c.args.lin.now.terms c.args.terms.now.nodes c.products.new.terms.nodes items c.terms.ensures.is c.in_ok-items.ensures.added)
    c.in_ok-id.ensures.added

pub returns-in_err-id-clause-full : goal.returns-in_err-id-clause-full
returns-in_err-id-clause-full c = λ h.
    let made = grown-most (7 * length c.terms.result.now) c.args.terms.now.nodes c.products.new.terms.nodes c.in_ok-items.ensures.added.grown in
    let full = full-of {A = TermId} c.from_residual-in_err-id.result c.in_err-id.field-0.0 _ c.from_residual-in_err-id.ensures.1 h c.in_err-id.ensures.full in
    omega (arith, made, full, ap length c.terms.ensures.is)

pub returns-in_err-last-clause-full : goal.returns-in_err-last-clause-full
returns-in_err-last-clause-full c = λ h.
    let made = grown-most (7 * length c.terms.result.now) c.args.terms.now.nodes c.products.new.terms.nodes c.in_ok-items.ensures.added.grown in
    let full = full-of {A = TermId} c.from_residual-in_err-last.result c.in_err-last.field-0.0 _ c.from_residual-in_err-last.ensures.1 h c.in_err-last.ensures.full in
    omega (arith, made, full, ap length c.terms.ensures.is)

pub returns-in_err-id-2-clause-full : goal.returns-in_err-id-2-clause-full
returns-in_err-id-2-clause-full c = λ h.
    let made = grown-most (7 * length c.terms.result.now) c.args.terms.now.nodes c.products.new.terms.nodes c.in_ok-items.ensures.added.grown in
    let more = grown-most 2 c.products.new.terms.nodes c.number.new.terms.nodes c.in_ok-last.ensures.added.grown in
    let full = full-of {A = TermId} c.from_residual-in_err-id-2.result c.in_err-id-2.field-0.0 _ c.from_residual-in_err-id-2.ensures.1 h c.in_err-id-2.ensures.full in
    omega (arith, made, more, full, ap length c.terms.ensures.is)
