use Rattle.std.proofs.Common.{◌≡◌, ℕ, ℤ, ◌+◌, ◌-◌, ◌^◌, ◌<◌, List, [], ◌∷◌, ◌++◌, length, Some, refl, ap, ap₂, sym, ◌∙◌, subst, arith}
use Rattle.std.specs.Prelude.{slice_get}
use Rattle.std.specs.List.{All}
use Rattle.derivations.specs.Facts.{Concludes}
use Rattle.derivations.specs.declared.fact.Fact.{Fact as KeptFact}
use Rattle.obligation_tree.specs.Closing.{after_fact}
use Rattle.obligation_tree.specs.Nodes.{TreeState as Tree}
use Rattle.book_rules.specs.FactRules.{concluded}
use Rattle.step_rules.specs.Tokens.{seen_of}
use Rattle.step_rules.specs.Views.{ground_conclusion}
use Rattle.chc_core.specs.Contents.{Contents}
use Rattle.chc_core.proofs.AskLemmas.{clause-room, clause-there, concluded-is, fact-clause-within}
use Rattle.chc_core.proofs.MadeLemmas.{facts-room, made-fact, not-recorded, spent-room}
use Rattle.chc_core.proofs.MakingLemmas.{can_record}
use Rattle.chc_core.proofs.making.recorded.Goals as goal

pub clause-clause-requires : goal.clause-clause-requires
clause-clause-requires c =
    let b = c.args.parts.now in
    let seen = seen_of c.args.seen.now in
    let premises = c.args.premises.now in
    clause-room b c.get.result.now c.clause.result seen.clause (c.get.ensures ∙ ap (λ (x : Contents). x.system) c.parts.view_is) c.clause.ensures (fact-clause-within b seen premises c.requires)

pub add-requires : goal.add-requires
add-requires c =
    let b = c.args.parts.now in
    let seen = seen_of c.args.seen.now in
    let premises = c.args.premises.now in
    let pred = c.in_ok-pred.pred in
    let tuple = c.in_ok-pred.tuple in
    let facts : c.in_ok-facts.facts ≡ b.facts = c.in_ok-facts.ensures ∙ ap (λ (x : Contents). x.facts) c.parts.view_is in
    let copied : c.in_ok-copy.field-0 ≡ premises = c.in_ok-copy.ensures in
    let clause = c.clause-clause.result.now in
    let there : slice_get b.system.clauses seen.clause ≡ Some clause =
    clause-there b c.get.result.now c.clause.result seen.clause clause (c.get.ensures ∙ ap (λ (x : Contents). x.system) c.parts.view_is) c.clause.ensures c.clause-clause.ensures.is in
    let head : ground_conclusion pred tuple ≡ concluded b.system seen = concluded-is b seen clause (ground_conclusion pred tuple) there c.in_ok-pred.ensures.head in
    record {
      there = subst (λ (fs : List KeptFact). All (λ p. p < length fs) c.in_ok-copy.field-0) (sym facts) (subst (λ (ps : List ℕ). All (λ p. p < length b.facts) ps) (sym copied) (can_record b seen premises c.requires));
      fresh = subst (λ (fs : List KeptFact). (n : ℕ) → Concludes fs n pred tuple → ⊥) (sym facts) (not-recorded b seen premises pred tuple c.requires head);
      bare = c.in_ok-pred.ensures.bare;
      room = subst (λ (fs : List KeptFact). length fs < 2 ^ 32 - 1) (sym facts) (facts-room b c.requires.kept);
    }

pub overflow_add-result : goal.overflow_add-result
overflow_add-result c =
    let room = spent-room c.args.parts.now c.parts.inside.spent c.requires.kept (ap (λ (x : Contents). x.spent) c.parts.view_is) in
    omega (arith, room)

pub returns : goal.returns
returns c =
    let b = c.args.parts.now in
    let seen = seen_of c.args.seen.now in
    let premises = c.args.premises.now in
    let pred = c.in_ok-pred.pred in
    let tuple = c.in_ok-pred.tuple in
    let clause = c.clause-clause.result.now in
    let there : slice_get b.system.clauses seen.clause ≡ Some clause =
    clause-there b c.get.result.now c.clause.result seen.clause clause (c.get.ensures ∙ ap (λ (x : Contents). x.system) c.parts.view_is) c.clause.ensures c.clause-clause.ensures.is in
    let head : ground_conclusion pred tuple ≡ concluded b.system seen = concluded-is b seen clause (ground_conclusion pred tuple) there c.in_ok-pred.ensures.head in
    let facts : c.in_ok-facts.facts ≡ b.facts = c.in_ok-facts.ensures ∙ ap (λ (x : Contents). x.facts) c.parts.view_is in
    let point : c.in_ok-from_slice.field-0 ≡ seen.point = c.in_ok-from_slice.ensures ∙ c.point.ensures in
    let copied : c.in_ok-copy.field-0 ≡ premises = c.in_ok-copy.ensures in
    let one : ℕ → List ℤ → List ℕ → KeptFact = λ n at names. record { clause = n; point = at; premises = names; pred = pred; tuple = tuple } in
    let number : c.next_number.result ≡ length b.journal + 1 = c.next_number.ensures in
    let tree : c.in_ok-tree.tree ≡ b.tree = c.in_ok-tree.ensures ∙ ap (λ (x : Contents). x.tree) c.parts.view_is in
    made-fact b seen premises _ pred tuple c.requires head (record {
      frames_are = refl;
      facts_are = c.in_ok-add.ensures.ok
          ∙ ap₂ (λ (fs : List KeptFact) (n : ℕ). fs ++ one n c.in_ok-from_slice.field-0 c.in_ok-copy.field-0 ∷ []) facts c.clause-2.ensures
          ∙ ap₂ (λ (at : List ℤ) (names : List ℕ). b.facts ++ one seen.clause at names ∷ []) point copied;
      tree_is = c.in_ok-close_by.ensures.ok
          ∙ ap₂ (λ (n : ℕ) (t : Tree). record t { nodes = after_fact pred c.as_slice.result.now n t.nodes }) number tree
          ∙ ap (λ (xs : List ℤ). record b.tree { nodes = after_fact pred xs (length b.journal + 1) b.tree.nodes }) c.as_slice.ensures;
    }) (ap (λ (x : Contents). x.level) c.parts.view_is) (ap (λ (x : Contents). x.spent + 1) c.parts.view_is)
