use Rattle.std.proofs.Common.{List, subst}
use Rattle.std.specs.Prelude.{ℤ}
use Rattle.clause_normal.specs.Normal.{normal_clause}
use Rattle.clause_laws.specs.Point.{IsBreakingPointOver}
use Rattle.clause_laws.proofs.BreakingLemmas.{broken_extends, one_breaking, point_breaks}
use Rattle.clause_laws.proofs.laws.breaking_points_are_breaking_instances.Goals as goal

pub returns : goal.returns
returns c = record {
  instances = λ script index clause defs own arena legal is defines formed. (
    (λ at.
        let over = broken_extends script index clause arena legal is defs defines formed at.0 at.2 in
        (over.0, subst (λ (xs : List ℤ). IsBreakingPointOver defs (normal_clause script clause) xs over.0) at.1 over.1)),
    (λ over. point_breaks script index clause arena legal is defs defines formed own over.0 over.1),
  );
  one_way = λ script index clause defs own p q arena legal is defines formed x y. one_breaking script index clause arena legal is defs defines formed own p q x y;
}
