use Rattle.std.proofs.Common.{◌≡◌, ◌<◌, ℕ, List, take, length, get_or, ap, sym, ◌∙◌, arith, rules}
use Rattle.std.specs.Prelude.{max}
use Rattle.lin_atoms.specs.Denial.{linear_of}
use Rattle.lin_atoms.specs.declared.lit.Lit.{Lit}
use Rattle.refutation_trees.specs.Combination.{lits_end, terms_end}
use Rattle.farkas_proof.specs.machinery.Ends.{ends_from}
use Rattle.farkas_proof.proofs.KnownLemmas.{kept-more}
use Rattle.farkas_proof.proofs.known.complete.Goals as goal

pub loop-ends-preserved : goal.loop-ends-preserved
loop-ends-preserved c =
    let lits = c.args.lits.now in
    let ends = c.loop-ends.ends.items in
    let n = length ends in
    let d = c.index-lits-len.result in
    let long : c.len.result ≡ n = search rules in
    let at : c.len-in-loop-ends.result ≡ n = search rules in
    let more : n < length lits = omega (arith, long, c.loop-ends-test.true) in
    let greater : c.max-end.result ≡ max c.last_of.result c.lit_end.result = search rules in
    let last : c.last_of.result ≡ lits_end (take n lits) = c.last_of.ensures (take n lits) (c.as_slice.ensures.value ∙ c.loop-ends.invariant) in
    let lit : c.lit_end.result ≡ terms_end (linear_of (get_or lits n d)).terms =
    c.lit_end.ensures.is ∙ ap (λ (l : Lit). terms_end (linear_of l).terms) (c.index-lits-len.is ∙ ap (λ (k : ℕ). get_or lits k d) at) in
    let end = greater ∙ ap (λ (e : ℕ). max e c.lit_end.result) last ∙ ap (λ (e : ℕ). max (lits_end (take n lits)) e) lit in
    c.in_ok-push.ensures.items ∙ kept-more ends lits c.max-end.result d c.loop-ends.invariant more end ∙ ap (λ (ns : List ℕ). ends_from 0 (take (length ns) lits)) (sym c.in_ok-push.ensures.items)
