use Rattle.std.proofs.Common.{List, subst}
use Rattle.std.specs.Prelude.{ℤ}
use Rattle.clause_normal.specs.Normal.{normal_clause}
use Rattle.clause_laws.specs.Point.{IsPointOver}
use Rattle.clause_laws.proofs.PointLemmas.{instance_extends, one_extension, point_is_instance, point_of, same_atoms, same_head}
use Rattle.clause_laws.proofs.laws.guards_have_instances.Goals as goal

pub returns : goal.returns
returns c = record {
  instances = λ script index clause own arena legal is. (
    (λ at. (
      point_of script index clause arena legal is at.values,
      subst (λ (xs : List ℤ). IsPointOver (normal_clause script clause) xs (point_of script index clause arena legal is at.values)) at.same
          (instance_extends script index clause arena legal is at.values at.instance),
    )),
    (λ over. point_is_instance script index clause arena legal is own over.0 over.1),
  );
  one_way = λ script index clause own p q arena legal is x y. one_extension script index clause arena legal is own p q x y;
  atoms = λ script index clause values point arena legal is instance over. same_atoms script index clause arena legal is values instance point over;
  head = λ script index clause values point arena legal is instance over. same_head script index clause arena legal is values instance point over;
}
