use Rattle.std.proofs.Common.{◌≡◌, ◌&&◌, ℕ, Bool, ap, sym, ◌∙◌, subst, true, rules, FitsSigned}
use Rattle.std.specs.Prelude.{pos, int_le, Result}
use Rattle.std.specs.Int.{w64}
use Rattle.std.proofs.lemmas.Int.{to_z-of_z}
use Rattle.lin_atoms.specs.Linear.{Linear}
use Rattle.lin_atoms.specs.declared.lit.Lit.{Lit}
use Rattle.lin_atoms.specs.declared.lit.Lit.TheVariants.{Le}
use Rattle.refutation_trees.specs.Combination.{are_multipliers, combined, is_divided_by}
use Rattle.farkas_proof.specs.Derived.{Derives}
use Rattle.int_rows.specs.Ready.{rounded}
use Rattle.farkas_proof.specs.machinery.Sum.{standing}
use Rattle.farkas_proof.specs.declared.stop.CheckStop.{CheckStop}
use Rattle.farkas_proof.proofs.nodes.wide_round.Goals as goal

-- what a sum derives, the node derives whose multipliers and divisor are legal
derives : (m p q r : Bool) (x y : Lit) (at : ℕ) (result : Result Lit CheckStop) → m ≡ true → p ≡ true → q ≡ r → x ≡ y → Derives r y at result → Derives (m && (p && q)) x at result
derives m p q r x y at result a b e f h =
    let same : r ≡ (m && (p && q)) = sym e ∙ ap (λ t. t && q) (sym b) ∙ ap (λ t. t && (p && q)) (sym a) in
    subst (λ t. Derives t x at result) same (subst (λ l. Derives r l at result) (sym f) h)

pub returns-then-divisor-ge1 : goal.returns-then-divisor-ge1
returns-then-divisor-ge1 c =
    let d_fits : FitsSigned w64 c.args.divisor = c.ranges.divisor in
    let legal : are_multipliers c.args.lits.now c.args.multipliers.now ≡ true = search rules in
    let some : int_le (pos 1) c.args.divisor ≡ true = search rules in
    let s = standing c.combine.new.sum.terms.items c.combine.new.sum.negated in
    let value : combined c.args.lits.now c.args.multipliers.now ≡ s = search rules in
    let d = c.args.divisor in
    derives (are_multipliers c.args.lits.now c.args.multipliers.now) (int_le (pos 1) d) (is_divided_by d (combined c.args.lits.now c.args.multipliers.now)) (is_divided_by d s) (Le (rounded d (combined c.args.lits.now c.args.multipliers.now))) (Le (rounded d s)) c.args.at c.divided.result legal some (ap (is_divided_by d) value) (ap (λ (l : Linear). Le (rounded d l)) value) (simp to_z-of_z at c.divided.ensures)
