use Rattle.std.proofs.Common.{◌≡◌, ◌++◌, List, ℕ, ap, sym, ◌∙◌, arith, append_assoc, drop, rules, FitsSigned}
use Rattle.std.specs.Prelude.{ℤ}
use Rattle.std.specs.Int.{w64, w128}
use Rattle.std.proofs.lemmas.List.{take_rest}
use Rattle.std.proofs.lemmas.Int.{to_z-of_z}
use Rattle.lin_atoms.specs.Algebra.{collected, scaled_terms}
use Rattle.lin_atoms.proofs.Public.{push-term}
use Rattle.farkas_proof.proofs.NarrowLemmas.{ours-over, theirs-over}
use Rattle.farkas_proof.proofs.narrow.merge.Goals as goal
use Rattle.farkas_proof.proofs.narrow.merge.Goals.{then-loop-i-test+else-j-theirs, else-loop-i-test}

pub returns : goal.returns
returns c = λ done.
    let k_fits : FitsSigned w64 c.args.k = c.ranges.k in
    let k = c.args.k in
    let ours = c.args.ours.now in
    let theirs = c.args.theirs.now in
    let i = c.loop-i.i in
    let j = c.loop-i.j in
    let made = c.loop-i.made.items in
    let ended : collected (scaled_terms k (drop i ours) ++ drop j theirs) ≡ scaled_terms k (drop i ours) ++ drop j theirs =
    elim c.loop-i-test.branch [
      | then-loop-i-test+else-j-theirs w ↦ theirs-over k ours theirs i j (omega (arith, w.if-j-theirs.false)) c.requires.ours
      | else-loop-i-test w ↦ ours-over k ours theirs i j (omega (arith, w.loop-i-test.false)) c.requires.theirs
    ] in
    let extended = c.push_rest.ensures done in
    let pushed = rw (take_rest ours i) at (simp to_z-of_z at (c.push_multiples.ensures c.if-not-push_multiples.false)) in
    let told = simp to_z-of_z at c.loop-i.invariant.told in
    extended ∙ ap (λ (xs : List (ℕ × ℤ)). xs ++ drop j theirs) pushed ∙ append_assoc made (scaled_terms k (drop i ours)) (drop j theirs)
    ∙ ap (λ (xs : List (ℕ × ℤ)). made ++ xs) (sym ended) ∙ told

pub loop-i-preserved : goal.loop-i-preserved
loop-i-preserved c =
    let k_fits : FitsSigned w64 c.args.k = c.ranges.k in
    let k = c.args.k in
    let r = c.first-variable.result in
    let made = c.loop-i.made.items in
    let rest = collected (scaled_terms k (drop r.2 c.args.ours.now) ++ drop r.3 c.args.theirs.now) in
    let r_fits : FitsSigned w128 r.1 = search rules in
    let pushed = simp to_z-of_z at (c.push_term.ensures c.if-not-push_term.false) in
    let sum = simp to_z-of_z at c.first-variable.ensures.sum in
    let told = simp to_z-of_z at c.loop-i.invariant.told in
    simp to_z-of_z (record {
      told = push-term made rest c.push_term.new.terms.items r.0 r.1 pushed ∙ ap (λ (us : List (ℕ × ℤ)). made ++ us) (sym sum) ∙ told;
      i = c.first-variable.ensures.i;
      j = c.first-variable.ensures.j;
    })
