use Rattle.std.proofs.Common.{◌<◌, ◌∙◌, List, None, Ok, Err, ap, get_or, length, rules, subst, sym}
use Rattle.std.specs.Prelude.{IsSome, OnOk, Option, Result}
use Rattle.lin_atoms.specs.Linear.{Linear}
use Rattle.guess_hulls.specs.declared.hull.Known.{Known}
use Rattle.guess_hulls.proofs.HullLemmas.{others, put}
use Rattle.guess_hulls.proofs.settling.Hulls.take.Goals as goal

on-ok : {X E : Type 0} (A B : Type 0) (r : Result X E) → (A → B) → OnOk r A → OnOk r B
on-ok A B (Ok x) f a = f a
on-ok A B (Err e) f a = a

pub returns-clause-met : goal.returns-clause-met
returns-clause-met c =
    let known : List Known = c.self.inside.known.items in
    let test = c.if-at-len.false in
    let less : c.args.pred < length known = search rules in
    on-ok _ _ c.take.result (λ some. λ within. subst (λ (o : Option (List Linear)). IsSome o) (sym (put known c.args.pred c.take.new.self less)) some) c.take.ensures

pub returns-clause-others : goal.returns-clause-others
returns-clause-others c = λ n. λ other.
    others c.self.inside.known.items c.args.pred c.take.new.self n other ∙ ap (λ (xs : List (Option (List Linear))). get_or xs n None) c.self.view_is
