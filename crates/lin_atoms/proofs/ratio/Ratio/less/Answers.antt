use Rattle.std.proofs.Common.{ap, sym, ◌∙◌, rules, FitsSigned}
use Rattle.std.specs.Prelude.{◌*ℤ◌, int_lt}
use Rattle.std.specs.Int.{w128}
use Rattle.std.proofs.lemmas.Int.{to_z-of_z}
use Rattle.lin_atoms.specs.Ratio.{Fraction}
use Rattle.lin_atoms.proofs.RatioLemmas.{less-both, less-first, less-neither, less-second}
use Rattle.lin_atoms.proofs.ratio.Ratio.less.Goals as goal

pub returns-then-other-ge0 : goal.returns-then-other-ge0
returns-then-other-ge0 c =
    let s = c.self.inside in
    let o = c.other.inside in
    let n_fits : FitsSigned w128 s.num = search rules in
    let d_fits : FitsSigned w128 s.den = search rules in
    let m_fits : FitsSigned w128 o.num = search rules in
    let e_fits : FitsSigned w128 o.den = search rules in
    let num = simp to_z-of_z at c.unsigned_abs-num.ensures.value in
    let den = simp to_z-of_z at c.unsigned_abs-den.ensures.value in
    let other_num = simp to_z-of_z at c.unsigned_abs-other_num.ensures.value in
    let other_den = simp to_z-of_z at c.unsigned_abs-other_den.ensures.value in
    let told = rw (num, den, other_num, other_den) at c.is_product_below.ensures in
    let own = simp to_z-of_z at c.if-self-ge0.true in
    let others = simp to_z-of_z at c.if-other-ge0.true in
    told ∙ less-both s.num s.den o.num o.den own others c.self.invariant.1.positive c.other.invariant.1.positive
    ∙ ap (λ (q : Fraction). int_lt (q.num *ℤ o.den) (o.num *ℤ q.den)) c.self.view_is
    ∙ ap (λ (q : Fraction). int_lt (c.args.self.now.num *ℤ q.den) (q.num *ℤ c.args.self.now.den)) c.other.view_is

pub returns-else-other-ge0-2 : goal.returns-else-other-ge0-2
returns-else-other-ge0-2 c =
    let s = c.self.inside in
    let o = c.other.inside in
    let n_fits : FitsSigned w128 s.num = search rules in
    let d_fits : FitsSigned w128 s.den = search rules in
    let m_fits : FitsSigned w128 o.num = search rules in
    let e_fits : FitsSigned w128 o.den = search rules in
    let num = simp to_z-of_z at c.unsigned_abs-num.ensures.value in
    let den = simp to_z-of_z at c.unsigned_abs-den.ensures.value in
    let other_num = simp to_z-of_z at c.unsigned_abs-other_num.ensures.value in
    let other_den = simp to_z-of_z at c.unsigned_abs-other_den.ensures.value in
    let told = rw (num, den, other_num, other_den) at c.is_product_below-else-other-ge0-2.ensures in
    let own = simp to_z-of_z at c.if-self-ge0.false in
    let others = simp to_z-of_z at c.if-other-ge0-2.false in
    told ∙ less-neither s.num s.den o.num o.den own others c.self.invariant.1.positive c.other.invariant.1.positive
    ∙ ap (λ (q : Fraction). int_lt (q.num *ℤ o.den) (o.num *ℤ q.den)) c.self.view_is
    ∙ ap (λ (q : Fraction). int_lt (c.args.self.now.num *ℤ q.den) (q.num *ℤ c.args.self.now.den)) c.other.view_is

pub returns-then-other-ge0-2 : goal.returns-then-other-ge0-2
returns-then-other-ge0-2 c =
    let s = c.self.inside in
    let o = c.other.inside in
    let n_fits : FitsSigned w128 s.num = search rules in
    let m_fits : FitsSigned w128 o.num = search rules in
    let own = simp to_z-of_z at c.if-self-ge0.false in
    let others = simp to_z-of_z at c.if-other-ge0-2.true in
    c.if-other-ge0-2.true ∙ sym (less-second s.num s.den o.num o.den own others c.self.invariant.1.positive c.other.invariant.1.positive)
    ∙ ap (λ (q : Fraction). int_lt (q.num *ℤ o.den) (o.num *ℤ q.den)) c.self.view_is
    ∙ ap (λ (q : Fraction). int_lt (c.args.self.now.num *ℤ q.den) (q.num *ℤ c.args.self.now.den)) c.other.view_is

pub returns-else-other-ge0 : goal.returns-else-other-ge0
returns-else-other-ge0 c =
    let s = c.self.inside in
    let o = c.other.inside in
    let n_fits : FitsSigned w128 s.num = search rules in
    let m_fits : FitsSigned w128 o.num = search rules in
    let own = simp to_z-of_z at c.if-self-ge0.true in
    let others = simp to_z-of_z at c.if-other-ge0.false in
    c.if-other-ge0.false ∙ sym (less-first s.num s.den o.num o.den own others c.self.invariant.1.positive c.other.invariant.1.positive)
    ∙ ap (λ (q : Fraction). int_lt (q.num *ℤ o.den) (o.num *ℤ q.den)) c.self.view_is
    ∙ ap (λ (q : Fraction). int_lt (c.args.self.now.num *ℤ q.den) (q.num *ℤ c.args.self.now.den)) c.other.view_is
