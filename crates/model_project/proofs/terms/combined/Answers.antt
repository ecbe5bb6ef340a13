use Rattle.std.proofs.Common.{◌≡◌, ap, sym, ◌∙◌, arith, append_assoc, drop, ◌++◌, inl, inr, rules, ℕ, List, [], to_z, of_z, FitsSigned}
use Rattle.std.specs.Prelude.{ℤ}
use Rattle.std.specs.Int.{w64, w128}
use Rattle.std.proofs.lemmas.Int.{to_z-of_z}
use Rattle.lin_atoms.specs.Algebra.{collected, scaled_terms, term_on}
use Rattle.lin_atoms.specs.Linear.{are_ordered}
use Rattle.lin_atoms.proofs.Public.{collected-ordered}
use Rattle.lin_atoms.proofs.MergeLemmas.{push-term}
use Rattle.model_project.proofs.TermLemmas.{ended-both}
use Rattle.model_project.proofs.terms.combined.Goals as goal
use Rattle.model_project.proofs.terms.combined.Goals.{then-loop-i-test+else-j-theirs, else-loop-i-test}

pub returns-clause-made : goal.returns-clause-made
returns-clause-made c =
    let k_fits : FitsSigned w64 c.args.k = c.ranges.k in
    let m_fits : FitsSigned w64 c.args.m = c.ranges.m in
    let k = c.args.k in
    let m = c.args.m in
    let ours = c.args.ours.now in
    let theirs = c.args.theirs.now in
    let i = c.loop-i.i in
    let j = c.loop-i.j in
    let A = scaled_terms k ours in
    let B = scaled_terms m theirs in
    let ended : collected (drop i A ++ drop j B) ≡ drop i A ++ drop j B =
    elim c.loop-i-test.branch [
      | then-loop-i-test+else-j-theirs w ↦ ended-both k m ours theirs i j c.requires.k_some c.requires.m_some c.requires.ours c.requires.theirs (inr (omega (arith, w.if-j-theirs.false)))
      | else-loop-i-test w ↦ ended-both k m ours theirs i j c.requires.k_some c.requires.m_some c.requires.ours c.requires.theirs (inl (omega (arith, w.loop-i-test.false)))
    ] in
    let second = simp to_z-of_z at c.in_ok-push_rest-2.ensures in
    let first = simp to_z-of_z at c.in_ok-push_rest.ensures in
    let told = simp to_z-of_z at c.loop-i.invariant.told in
    (second ∙ ap (λ xs. xs ++ drop j B) first ∙ append_assoc c.loop-i.made.items (drop i A) (drop j B)
    ∙ ap (λ xs. c.loop-i.made.items ++ xs) (sym ended) ∙ told)

pub returns-clause-ordered : goal.returns-clause-ordered
returns-clause-ordered c =
    let k_fits : FitsSigned w64 c.args.k = c.ranges.k in
    let m_fits : FitsSigned w64 c.args.m = c.ranges.m in
    ap (are_ordered 0) (returns-clause-made c) ∙ collected-ordered (scaled_terms c.args.k c.args.ours.now ++ scaled_terms c.args.m c.args.theirs.now)

pub loop-i-preserved : goal.loop-i-preserved
loop-i-preserved c =
    let made = c.loop-i.made.items in
    let r = c.first-variable.result in
    let fits : FitsSigned w128 r.1 = search rules in
    let rest = collected (drop r.2 (scaled_terms (to_z w64 (of_z w64 c.args.k)) c.args.ours.now) ++ drop r.3 (scaled_terms (to_z w64 (of_z w64 c.args.m)) c.args.theirs.now)) in
    record {
      told = push-term made rest c.push_term.new.terms.items r.0 r.1 (c.in_ok-push_term.ensures ∙ ap (λ (z : ℤ). made ++ term_on r.0 z []) (to_z-of_z _ _ fits)) ∙ ap (λ (ts : List (ℕ × ℤ)). made ++ ts) (sym c.first-variable.ensures.sum) ∙ c.loop-i.invariant.told;
      i = c.first-variable.ensures.i;
      j = c.first-variable.ensures.j;
    }
