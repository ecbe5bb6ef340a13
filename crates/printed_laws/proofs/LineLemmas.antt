-- Lines of a derivation are right, wrong or wide by one script that bytes spell where they are by another.
use Rattle.std.proofs.Common.{◌≡◌, ℕ, zero, suc, ◌<◌, List, [], ◌∷◌, map, length, refl, ap, ◌∙◌, subst, ◌⊎◌, inl, inr, ⊎_elim, arith}
use Rattle.std.specs.Prelude.{Option, Some, None, option_map, slice_index_or}
use Rattle.std.specs.List.{Contains}
use Rattle.term_tree.specs.declared.script.Script.{Script}
use Rattle.term_tree.specs.declared.sort.Sort.{Sort}
use Rattle.term_tree.specs.Truth.{HaveSorts}
use Rattle.term_tree.specs.Value.{environment_of}
use Rattle.horn_shape.specs.declared.clause.AtomUse.{AtomUse}
use Rattle.horn_shape.specs.declared.clause.HornClause.{HornClause}
use Rattle.horn_shape.specs.declared.clause.Part.{Part}
use Rattle.horn_shape.specs.Instance.{GroundAtom}
use Rattle.answer_text.specs.declared.answer.Line.{Line}
use Rattle.cert_derivations.specs.Claims.{IsLine}
use Rattle.cert_derivations.specs.Lines.{line_head}
use Rattle.check_derivation.specs.Findings.{AreRightBefore, IsLineReached, IsPartOf, IsWideAt, IsWrongAt}
use Rattle.clause_readings.proofs.AssertionLemmas.{atoms_length}
use Rattle.clause_readings.proofs.InstanceLemmas.{HasPartner, instance_passes, partner}
use Rattle.clause_readings.proofs.MeetingLemmas.{IsMet}
use Rattle.clause_readings.proofs.ShapeLemmas.{AreAtomsMatched, AreHeadsMatched, ArePartsMatched}
use Rattle.clause_readings.proofs.SubtermLemmas.{wide_passes}
use Rattle.clause_readings.proofs.TwinLemmas.{AreTwins}

module _ (matched : ℕ → ℕ → Type 0) where
  one_part : (ps qs : List Part) (k : ℕ) (part : Part) → ArePartsMatched matched ps qs → k < length ps → slice_index_or ps k part ≡ part → (q : Part) × Contains qs q × matched part.term.0 q.term.0
  one_part [] qs k part h within is = absurd (omega (arith, within))
  one_part (p ∷ ps) [] k part h within is = absurd h
  one_part (p ∷ ps) (q ∷ qs) zero part h within is = (q, (zero, omega arith, refl), subst (λ (x : Part). matched x.term.0 q.term.0) is h.0)
  one_part (p ∷ ps) (q ∷ qs) (suc k) part h within is =
      let one = one_part ps qs k part h.2 (omega (arith, within)) is in (one.0, (suc one.1.0, omega (arith, one.1.1), one.1.2), one.2)

  one_atom : (xs ys : List AtomUse) (k : ℕ) (atom : AtomUse) → AreAtomsMatched matched xs ys → k < length xs → slice_index_or xs k atom ≡ atom
      → (other : AtomUse) × Contains ys other × ArePartsMatched matched atom.args other.args
  one_atom [] ys k atom h within is = absurd (omega (arith, within))
  one_atom (x ∷ xs) [] k atom h within is = absurd h
  one_atom (x ∷ xs) (y ∷ ys) zero atom h within is = (y, (zero, omega arith, refl), subst (λ (a : AtomUse). ArePartsMatched matched a.args y.args) is h.1)
  one_atom (x ∷ xs) (y ∷ ys) (suc k) atom h within is =
      let one = one_atom xs ys k atom h.2 (omega (arith, within)) is in (one.0, (suc one.1.0, omega (arith, one.1.1), one.1.2), one.2)

  the_head : (x y : Option AtomUse) (atom : AtomUse) → AreHeadsMatched matched x y → x ≡ Some atom → (other : AtomUse) × (y ≡ Some other) × ArePartsMatched matched atom.args other.args
  the_head None y atom h is = absurd (cc)
  the_head (Some x) None atom h is = absurd h
  the_head (Some x) (Some y) atom h is = let same : x ≡ atom = cc in (y, refl, subst (λ (a : AtomUse). ArePartsMatched matched a.args y.args) same h.1)

module _ (s t : Script) (twins : AreTwins s t 0 s.asserts t.asserts) where
  line_passes : (lines : List Line) (place : ℕ) (line : Line) → IsLine s lines place line → IsLine t lines place line
  line_passes lines place line x =
      let p = partner s t twins x.assertion x.clause x.clause_is in
      let env = environment_of line.values in
      record {
        number = x.number;
        assertion = x.assertion;
        names = x.names;
        clause = p.other;
        clause_is = p.is;
        instance = instance_passes s t twins x.assertion x.clause line.values p x.instance;
        earlier = x.earlier;
        premises = x.premises ∙ ap (map (λ (atom : GroundAtom). Some (Some (line_head atom)))) (p.atoms env);
        conclusion = x.conclusion ∙ ap (option_map line_head) (p.head env);
      }

  right_passes : (lines : List Line) (place : ℕ) → AreRightBefore s lines place → AreRightBefore t lines place
  right_passes lines place right i line less is = line_passes lines i line (right i line less is)

  reached_passes : (lines : List Line) (number : ℕ) (line : Line) → IsLineReached s lines number line → IsLineReached t lines number line
  reached_passes lines number line x = record { place = x.place; numbered = x.numbered; there = x.there; before = right_passes lines x.place x.before }

  -- a part of the clause has one of the other
  part_passes : (index : ℕ) (clause : HornClause) (p : HasPartner s t index clause) (part : Part) → IsPartOf clause part
      → (q : Part) × IsPartOf p.other q × IsMet s.terms t.terms p.twin.tree p.first.term.0 p.second.term.0 part.term.0 q.term.0
  part_passes index clause p part =
      let Met : ℕ → ℕ → Type 0 = IsMet s.terms t.terms p.twin.tree p.first.term.0 p.second.term.0 in
      ⊎_elim
      (λ guard. let one = one_part Met clause.guards p.other.guards guard.0 part p.contents.guards guard.1 guard.2 in (one.0, inl one.1, one.2))
      (λ found.
      let other : (a : AtomUse) × (Contains p.other.atoms a ⊎ (p.other.head ≡ Some a)) × ArePartsMatched Met found.0.args a.args =
      ⊎_elim
      (λ body. let one = one_atom Met clause.atoms p.other.atoms body.0 found.0 p.contents.atoms body.1 body.2 in (one.0, inl one.1, one.2))
      (λ head. let one = the_head Met clause.head p.other.head found.0 p.contents.head head in (one.0, inr one.1, one.2))
      found.1 in
      let one = one_part Met found.0.args other.0.args found.2.0 part other.2 found.2.1 found.2.2 in (one.0, inr (other.0, other.1, one.1), one.2))

  pub wide_at_passes : (lines : List Line) (number term : ℕ) → IsWideAt s lines number term → (other : ℕ) × IsWideAt t lines number other
  unfolding reached_passes
  wide_at_passes lines number term x =
      let p = partner s t twins x.assertion x.clause x.clause_is in
      let Met : ℕ → ℕ → Type 0 = IsMet s.terms t.terms p.twin.tree p.first.term.0 p.second.term.0 in
      let scripts = p.twin.scripts in
      let part = part_passes x.assertion x.clause p x.part x.of_clause in
      let wide = wide_passes s.terms.nodes t.terms.nodes Met scripts.arena scripts.other_arena scripts.like (environment_of x.line.values) x.part.term.0 part.0.term.0 term part.2 x.wide.0 x.wide.1 in (
        wide.0,
        record {
          line = x.line;
          reached = reached_passes lines number x.line x.reached;
          assertion = x.assertion;
          names = x.names;
          clause = p.other;
          clause_is = p.is;
          place_is = x.place_is;
          counted = x.counted ∙ atoms_length Met x.clause.atoms p.other.atoms p.contents.atoms;
          earlier = x.earlier;
          sorts = subst (λ (vars : List Sort). HaveSorts vars x.line.values) p.vars x.sorts;
          part = part.0;
          of_clause = part.1;
          wide = (wide.1, wide.2);
        },
      )

module _ (s t : Script) (twins : AreTwins s t 0 s.asserts t.asserts) (back : AreTwins t s 0 t.asserts s.asserts) where
  pub wrong_passes : (lines : List Line) (number : ℕ) → IsWrongAt s lines number → IsWrongAt t lines number
  unfolding reached_passes
  wrong_passes lines number =
      ⊎_elim
      (λ first. inl (record {
        line = first.line;
        reached = reached_passes s t twins lines number first.line first.reached;
        wrong = λ right. first.wrong (line_passes t s back lines first.reached.place first.line right);
      }))
      (λ ends. inr (record { counted = ends.counted; right = right_passes s t twins lines (length lines) ends.right; not_false = ends.not_false }))
