-- Tries, one after another.
use Rattle.std.proofs.Common.{◌≡◌, ℕ, List, Bool, true, false, refl, sym, ◌∙◌, subst}
use Rattle.cube_forms.specs.Cubes.{cube_holds}
use Rattle.lin_atoms.specs.declared.lit.Lit.{Lit}
use Rattle.step_rules.specs.Standing.{Standing}
use Rattle.step_rules.specs.declared.lemma_step.part.LemmaPart.{LemmaPart}
use Rattle.lemma_general.specs.Generals.{IsForSame}
use Rattle.lemma_general.specs.Tries.{IsTried, IsTrying, part_of, IsWiderCube}
use Rattle.lemma_general.specs.declared.trying.Tries.{Tries}
use Rattle.search_learn.specs.Candidates.{IsWidened}
use Rattle.search_learn.specs.machinery.Tried.{IsTriedOn, IsWidenedOn}

self-same : (part : LemmaPart) → IsForSame part part
self-same part = record { target = refl; pred = refl; level = refl }

same-then : (first mid last : LemmaPart) → IsForSame first mid → IsForSame mid last → IsForSame first last
same-then first mid last f g = record { target = g.target ∙ f.target; pred = g.pred ∙ f.pred; level = g.level ∙ f.level }

tried-same : (b : Standing) (nodes : ℕ) (cube : List Lit) (old new : LemmaPart) (taken : Bool) → IsTried b nodes cube old new taken → IsForSame old new
tried-same b nodes cube old new true t = t.1
tried-same b nodes cube old new false t = subst (IsForSame old) (sym t.0) (self-same old)

tried-wider : (b : Standing) (nodes : ℕ) (cube : List Lit) (old new : LemmaPart) (taken : Bool) → IsWiderCube old.lemma cube → IsTried b nodes cube old new taken → IsWiderCube old.lemma new.lemma
tried-wider b nodes cube old new true wider t = subst (IsWiderCube old.lemma) (sym t.2) wider
tried-wider b nodes cube old new false wider t = subst (λ (p : LemmaPart). IsWiderCube old.lemma p.lemma) (sym t.0) (λ tuple h. h)

pub tried-then : (b : Standing) (first old new : Tries) → IsTriedOn b first old → IsTriedOn b old new → IsTriedOn b first new
tried-then b first old new f g = record { trying = g.trying; same = same-then (part_of first) (part_of old) (part_of new) f.same g.same }

pub widened-by : (b : Standing) (nodes : ℕ) (cube : List Lit) (old new : Tries) (taken : Bool) → IsWiderCube (part_of old).lemma cube → IsTrying b new → IsTried b nodes cube (part_of old) (part_of new) taken → IsWidenedOn b old new
widened-by b nodes cube old new taken wider trying tried = record {
  trying = trying;
  same = tried-same b nodes cube (part_of old) (part_of new) taken tried;
  wider = tried-wider b nodes cube (part_of old) (part_of new) taken wider tried;
}

pub widened-then : (b : Standing) (first old new : Tries) → IsWidenedOn b first old → IsWidenedOn b old new → IsWidenedOn b first new
widened-then b first old new f g = record {
  trying = g.trying;
  same = same-then (part_of first) (part_of old) (part_of new) f.same g.same;
  wider = λ tuple h. g.wider tuple (f.wider tuple h);
}

-- what is handed on in the end

pub in-place-wider : (b : Standing) (given made : LemmaPart) (first last : Tries) → part_of first ≡ given → IsWidenedOn b first last → made ≡ part_of last → IsWidened b given made
in-place-wider b given made first last begun on ended =
    let is : IsWidened b (part_of first) (part_of last) = record { learnt = (on.trying).learnt; same = on.same; wider = on.wider } in
    subst (IsWidened b given) (sym ended) (subst (λ (p : LemmaPart). IsWidened b p (part_of last)) begun is)
