use Rattle.std.proofs.Common.{◌≡◌, None, ap, refl, subst, sym, ◌∙◌}
use Rattle.book_rules.specs.Legal.{end}
use Rattle.chc_core.specs.Contents.{Contents}
use Rattle.chc_core.specs.Views.{standing_of, state_of}
use Rattle.obligation_turn.specs.Turns.{IsThin}
use Rattle.search_strategy.specs.Jobs.{IsFirst}
use Rattle.shared_book.specs.Jobs.{AreHeld, Asked, IsFree}
use Rattle.shared_book.specs.Locks.{claimed_by, with_claims}
use Rattle.shared_book.proofs.claiming.job_of.Goals as goal

pub new-requires : goal.new-requires
new-requires g c =
    let snap = c.in_ok-snapshot.ensures in
    record {
      system = ap (λ (b : Contents). b.system) snap ∙ c.requires.system;
      few = c.requires.few;
      goes_on = subst (λ (b : Contents). end (state_of b) ≡ None) (sym snap) c.requires.goes_on;
      thin = subst (λ (b : Contents). IsThin (standing_of b)) (sym snap) c.requires.thin;
      leaf = c.in-Some.ensures.chosen.0.leaf;
    }

pub returns-in-Some-clause-first : goal.returns-in-Some-clause-first
returns-in-Some-clause-first g c =
    subst (λ (a : Asked). IsFirst c.args.book.now.tree.nodes (IsFree c.args.book.now c.args.worker) a.obligation) (sym c.new.ensures)
    (subst (λ (b : Contents). IsFirst b.tree.nodes (IsFree b c.args.worker) c.in-Some.obligation) c.in_ok-snapshot.ensures c.in-Some.ensures.first)

pub returns-in-Some-clause-snapshot : goal.returns-in-Some-clause-snapshot
returns-in-Some-clause-snapshot g c = ap (λ (a : Asked). a.snapshot) c.new.ensures ∙ c.in_ok-snapshot.ensures

pub returns-in-Some-clause-claimed : goal.returns-in-Some-clause-claimed
returns-in-Some-clause-claimed g c =
    subst (λ (a : Asked). c.claim_best.new.book ≡ claimed_by a.obligation c.args.worker c.args.book.now) (sym c.new.ensures)
    (c.in-Some.ensures.chosen.1 ∙ ap (λ (b : Contents). claimed_by c.in-Some.obligation c.args.worker b) c.in_ok-snapshot.ensures)

pub returns-in-Some-clause-kept : goal.returns-in-Some-clause-kept
returns-in-Some-clause-kept g c =
    let is = c.in-Some.ensures.chosen.1 ∙ ap (λ (b : Contents). claimed_by c.in-Some.obligation c.args.worker b) c.in_ok-snapshot.ensures in
    is ∙ ap (λ (b : Contents). with_claims b.tree.claims c.args.book.now) (sym is)

pub returns-in-None-clause-none : goal.returns-in-None-clause-none
returns-in-None-clause-none g c = λ isnt. subst (λ (b : Contents). AreHeld b c.args.worker) c.in_ok-snapshot.ensures (c.in-None.ensures.none refl)

pub returns-in-None-clause-unclaimed : goal.returns-in-None-clause-unclaimed
returns-in-None-clause-unclaimed g c = λ isnt. c.in-None.ensures.chosen ∙ c.in_ok-snapshot.ensures

pub returns-in-None-clause-kept : goal.returns-in-None-clause-kept
returns-in-None-clause-kept g c =
    let is = c.in-None.ensures.chosen ∙ c.in_ok-snapshot.ensures in
    is ∙ ap (λ (b : Contents). with_claims b.tree.claims c.args.book.now) (sym is)
