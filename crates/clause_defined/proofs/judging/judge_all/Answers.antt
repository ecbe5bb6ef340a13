use Rattle.std.proofs.Common.{◌≡◌, ◌<◌, ◌≤◌, ◌+◌, ℕ, List, [], ◌∷◌, length, drop, get_or, true, false, ap, ◌∙◌, subst, rules}
use Rattle.std.proofs.lemmas.List.{drop_all, drop_more}
use Rattle.std.specs.Prelude.{Option, Some, IsErrOf}
use Rattle.std.specs.List.{AllByRecursion}
use Rattle.horn_shape.specs.declared.clause.AtomUse.{AtomUse}
use Rattle.clause_normal.specs.declared.stop.NormalStop.TheVariants.{TooWide}
use Rattle.clause_defined.specs.machinery.Uses.{IsAtVariables, IsJudged, OnHead, use_list}
use Rattle.clause_defined.proofs.judging.judge_all.Goals as goal

pub returns-in_err-count-clause-wide : goal.returns-in_err-count-clause-wide
returns-in_err-count-clause-wide c = λ naming offset at is.
    let nodes = c.args.terms.now.nodes in
    let defs = c.args.defs.now in
    let clause = c.args.clause.now in
    let first = length clause.vars + c.args.auxiliary in
    let i : ℕ = c.loop-atom.atom-index in
    let atom : AtomUse = c.atom-item.result in
    let less : i < length clause.atoms = search rules in
    let same : get_or clause.atoms i atom ≡ atom = search rules in
    let front : drop i clause.atoms ≡ atom ∷ drop (i + 1) clause.atoms = drop_more clause.atoms i atom less ∙ ap (λ (u : AtomUse). u ∷ drop (i + 1) clause.atoms) same in
    let whole = use_list naming nodes clause.atoms clause.head in
    let stand = subst (λ (atoms : List AtomUse). AllByRecursion (IsAtVariables nodes naming first) atoms) front (c.loop-atom.invariant.stand naming at) in
    let state = subst (λ (atoms : List AtomUse). IsJudged defs (use_list naming nodes atoms clause.head) whole first c.loop-atom.count) front (c.loop-atom.invariant.judged naming at) in
    let told : IsErrOf c.judge_next.result (TooWide offset) = search rules in
    c.judge_next.ensures.wide naming true (use_list naming nodes (drop (i + 1) clause.atoms) clause.head) whole first offset stand.0 state told

pub returns-in-Some-clause-wide : goal.returns-in-Some-clause-wide
returns-in-Some-clause-wide c = λ naming offset at is.
    let nodes = c.args.terms.now.nodes in
    let defs = c.args.defs.now in
    let clause = c.args.clause.now in
    let first = length clause.vars + c.args.auxiliary in
    let i : ℕ = c.loop-atom.atom-index in
    let past : length clause.atoms ≤ i = search rules in
    let none : drop i clause.atoms ≡ [] = drop_all i clause.atoms past in
    let here : clause.head ≡ Some c.in-Some.head = search rules in
    let whole = use_list naming nodes clause.atoms clause.head in
    let left = subst (λ (atoms : List AtomUse). IsJudged defs (use_list naming nodes atoms clause.head) whole first c.loop-atom.count) none (c.loop-atom.invariant.judged naming at) in
    let state = subst (λ (head : Option AtomUse). IsJudged defs (use_list naming nodes [] head) whole first c.loop-atom.count) here left in
    let stand = subst (λ (head : Option AtomUse). OnHead (IsAtVariables nodes naming first) head) here at.head in
    c.judge_next-in-Some.ensures.wide naming false [] whole first offset stand state is
