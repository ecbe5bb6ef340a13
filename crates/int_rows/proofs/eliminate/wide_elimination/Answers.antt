use Rattle.std.proofs.Common.{◌≡◌, ◌≤◌, ◌^◌, ap, ◌∙◌, rules, subst, of_z, FitsSigned, List, nat_abs}
use Rattle.std.specs.Prelude.{ℤ, pos, IfSome}
use Rattle.std.specs.List.{Contains}
use Rattle.std.specs.Int.{w64, w128}
use Rattle.std.proofs.lemmas.Int.{to_z-of_z}
use Rattle.int_rows.specs.Rows.{content, entry}
use Rattle.int_rows.specs.Pivot.{combined, turned}
use Rattle.int_rows.proofs.CombineLemmas.{eliminated-some}
use Rattle.int_rows.proofs.eliminate.wide_elimination.Goals as goal

pub returns-clause-some : goal.returns-clause-some
returns-clause-some c =
    let row : List ℤ = c.args.row.now in
    let other : List ℤ = c.args.other.now in
    let column = c.args.column in
    let p = c.magnitude-p.result in
    let q = c.turned-q.result in
    let g = c.signed-divisor.result in
    let a_fits : FitsSigned w64 c.entry-a.result = search rules in
    let b_fits : FitsSigned w64 c.entry-b.result = search rules in
    let p_fits : FitsSigned w64 p = search rules in
    let q_fits : FitsSigned w64 q = search rules in
    let g_fits : FitsSigned w128 g = search rules in
    let a_is : c.entry-a.result ≡ entry other column = c.entry-a.ensures.is in
    let b_is : c.entry-b.result ≡ entry row column = c.entry-b.ensures.is in
    let p_is = simp to_z-of_z at c.magnitude-p.ensures.is in
    let q_is = simp to_z-of_z at c.turned-q.ensures.is in
    let content_is = simp to_z-of_z at c.combined_content.ensures.is in
    let g_is : g ≡ pos (content (combined p q row other)) = c.signed-divisor.ensures ∙ ap pos content_is in
    let told = simp to_z-of_z at c.wide_entry.ensures.some in
    let some : entry row column ≡ pos 0 → ⊥ = λ e. c.if-b-eq0.false (ap (of_z w64) (b_is ∙ e)) in
    let whole = eliminated-some column other row p q g some (p_is ∙ ap (λ z. pos (nat_abs z)) a_is) (q_is ∙ ap (λ z. turned z c.entry-b.result) a_is ∙ ap (turned (entry other column)) b_is) g_is in
    subst (λ (rest : List ℤ). IfSome c.wide_entry.result (λ wide. Contains rest wide × (2 ^ 63 ≤ nat_abs wide))) whole told
