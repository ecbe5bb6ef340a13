-- What is derivable over the system of a script is derivable by the script, within the same height.
use Rattle.std.proofs.Common.{◌≡◌, ℕ, zero, suc, ◌+◌, ◌≤◌, max, List, [], ◌∷◌, ◌++◌, length, map, fold, refl, ap, sym, ◌∙◌, subst, append_assoc, append-nil, arith}
use Rattle.std.specs.Prelude.{slice_get, slice_index_or, Option, Some, option_map}
use Rattle.std.proofs.lemmas.List.{length-append}
use Rattle.std.proofs.lemmas.Option.{get_or_from_slice_get}
use Rattle.term_tree.specs.declared.script.Script.{Script}
use Rattle.term_tree.specs.Arena.{IsArena}
use Rattle.term_tree.specs.Truth.{as_values}
use Rattle.horn_shape.specs.Clause.{IsLegalScript}
use Rattle.horn_shape.specs.Derivation.{IsDerivableWithin, IsDerivation, IsDerivationAfter, IsStep, Step, concluded, height_over, heights_after, heights_of}
use Rattle.horn_shape.specs.Instance.{GroundAtom}
use Rattle.clause_form.specs.System.{Clauses}
use Rattle.book_rules.specs.Walks.{AllOf}
use Rattle.book_rules.specs.Instances.{Ground, InstanceOf, IsDerivable, instances}
use Rattle.book_rules.specs.State.{Fact}
use Rattle.cert_derivations.specs.Steps.{as_atom, own_sorts}
use Rattle.cert_derivations.proofs.LookUpLemmas.{get_end, get_more}
use Rattle.cert_derivations.proofs.StepLemmas.{of_script}
use Rattle.cert_derivations.proofs.SystemLemmas.{IsMadeOf}

-- derivations and their heights, one step longer
one_longer : (script : Script) (earlier steps : List Step) (s : Step) → IsDerivationAfter script earlier steps → IsStep script (earlier ++ steps) s → IsDerivationAfter script earlier (steps ++ s ∷ [])
one_longer script earlier [] s all is = (subst (λ (ss : List Step). IsStep script ss s) (append-nil earlier) is, tt)
one_longer script earlier (t ∷ steps) s all is =
    (all.0, one_longer script (earlier ++ t ∷ []) steps s all.1 (subst (λ (ss : List Step). IsStep script ss s) (sym (append_assoc earlier (t ∷ []) steps)) is))

heights_more : (heights : List ℕ) (steps more : List Step) → heights_after heights (steps ++ more) ≡ heights_after (heights_after heights steps) more
heights_more heights [] more = refl
heights_more heights (s ∷ steps) more = heights_more (heights ++ height_over heights s ∷ []) steps more

heights_long : (heights : List ℕ) (steps : List Step) → length (heights_after heights steps) ≡ length heights + length steps
heights_long heights [] = none (length heights)
  where
    none : (k : ℕ) → k ≡ k + 0
    none k = omega arith
heights_long heights (s ∷ steps) =
    let rest = heights_long (heights ++ height_over heights s ∷ []) steps in
    let front = length-append heights (height_over heights s ∷ []) in
    omega (arith, rest, front)

-- heights that are there stay
kept_heights : (heights : List ℕ) (steps : List Step) (k n : ℕ) → slice_get heights k ≡ Some n → slice_get (heights_after heights steps) k ≡ Some n
kept_heights heights [] k n at = at
kept_heights heights (s ∷ steps) k n at = kept_heights (heights ++ height_over heights s ∷ []) steps k n (get_more heights (height_over heights s ∷ []) k n at)

-- among these steps, that of a number concludes this, with a height of at most h
record IsReachedAt (steps : List Step) (h : ℕ) (atom : GroundAtom) (k : ℕ) : Type 0 where
  conclusion : concluded steps k ≡ Some (Some atom)
  height : ℕ
  is : slice_get (heights_of steps) k ≡ Some height
  within : height ≤ h

concluded_more : (steps more : List Step) (k : ℕ) (c : Option GroundAtom) → concluded steps k ≡ Some c → concluded (steps ++ more) k ≡ Some c
concluded_more [] more k c at = absurd (cc)
concluded_more (s ∷ steps) more zero c at = at
concluded_more (s ∷ steps) more (suc k) c at = concluded_more steps more k c at

reached_more : (steps more : List Step) (h : ℕ) (atom : GroundAtom) (k : ℕ) → IsReachedAt steps h atom k → IsReachedAt (steps ++ more) h atom k
reached_more steps more h atom k at = record {
  conclusion = concluded_more steps more k (Some atom) at.conclusion;
  height = at.height;
  is = subst (λ (hs : List ℕ). slice_get hs k ≡ Some at.height) (sym (heights_more [] steps more)) (kept_heights (heights_of steps) more k at.height at.is);
  within = at.within;
}

-- these numbers, in order, are of steps that conclude these atoms
abbrev AreReached : List Step → ℕ → List ℕ → List GroundAtom → Type 0
AreReached steps h [] [] = Unit {0}
AreReached steps h [] (atom ∷ atoms) = ⊥
AreReached steps h (k ∷ numbers) [] = ⊥
AreReached steps h (k ∷ numbers) (atom ∷ atoms) = IsReachedAt steps h atom k × AreReached steps h numbers atoms

all_concluded : (steps : List Step) (h : ℕ) (numbers : List ℕ) (atoms : List GroundAtom) → AreReached steps h numbers atoms → map (concluded steps) numbers ≡ map (λ atom. Some (Some atom)) atoms
all_concluded steps h [] [] all = refl
all_concluded steps h [] (atom ∷ atoms) all = absurd all
all_concluded steps h (k ∷ numbers) [] all = absurd all
all_concluded steps h (k ∷ numbers) (atom ∷ atoms) all =
    ap (λ (x : Option (Option GroundAtom)). x ∷ map (concluded steps) numbers) all.0.conclusion ∙ ap (λ (xs : List (Option (Option GroundAtom))). Some (Some atom) ∷ xs) (all_concluded steps h numbers atoms all.1)

all_within : (steps : List Step) (h most : ℕ) (numbers : List ℕ) (atoms : List GroundAtom) → most ≤ h → AreReached steps h numbers atoms
    → fold max most (map (λ k. slice_index_or (heights_of steps) k 0) numbers) ≤ h
all_within steps h most [] [] low all = low
all_within steps h most [] (atom ∷ atoms) low all = absurd all
all_within steps h most (k ∷ numbers) [] low all = absurd all
all_within steps h most (k ∷ numbers) (atom ∷ atoms) low all =
    let here = get_or_from_slice_get (heights_of steps) k all.0.height 0 all.0.is in
    let within = all.0.within in
    all_within steps h (max most (slice_index_or (heights_of steps) k 0)) numbers atoms (omega (arith, low, here, within)) all.1

-- more steps behind these, that of a number among all of which concludes the atom; and numbers for several
record Reaches (script : Script) (steps : List Step) (h : ℕ) (atom : GroundAtom) : Type 0 where
  more : List Step
  derivation : IsDerivation script (steps ++ more)
  number : ℕ
  reached : IsReachedAt (steps ++ more) h atom number

record ReachesAll (script : Script) (steps : List Step) (h : ℕ) (atoms : List GroundAtom) : Type 0 where
  more : List Step
  derivation : IsDerivation script (steps ++ more)
  numbers : List ℕ
  reached : AreReached (steps ++ more) h numbers atoms

-- one step behind these, of this conclusion and height
record HasStep (script : Script) (steps : List Step) (h : ℕ) (conclusion : Option GroundAtom) : Type 0 where
  step : Step
  is : IsStep script steps step
  concludes : step.conclusion ≡ conclusion
  within : height_over (heights_of steps) step ≤ h

module _ (script : Script) (sys : Clauses) (made : IsMadeOf script sys) (arena : IsArena script.terms.nodes) (legal : IsLegalScript script) where
  instance_step : (steps : List Step) (h number : ℕ) (body : List Ground) (head : Option Ground) → InstanceOf sys number body head → (numbers : List ℕ) → AreReached steps h numbers (map (as_atom sys) body)
      → HasStep script steps (suc h) (option_map (as_atom sys) head)
  instance_step steps h number body head instance numbers reached =
      let f : Fact = record { conclusion = head; clause = number; point = instance.point; premises = numbers; height = 0 } in
      let of = of_script script sys made arena legal f instance.clause instance.there instance.instance instance.has_head in
      let low = all_within steps h 0 numbers (map (as_atom sys) body) (omega arith) reached in
      record {
        step = record { assertion = number; values = as_values (own_sorts (slice_get sys.clauses number)) instance.point; premises = numbers; conclusion = option_map (as_atom sys) head };
        is = record {
          clause = of.horn;
          clause_is = of.is;
          instance = of.instance;
          premises = all_concluded steps h numbers (map (as_atom sys) body) reached
              ∙ ap (map (λ (atom : GroundAtom). Some (Some atom))) (ap (map (as_atom sys)) (sym instance.has_body) ∙ of.premises);
          conclusion = of.conclusion;
        };
        concludes = refl;
        within = omega (arith, low);
      }

  -- the step behind the others
  with_step : (steps : List Step) (h : ℕ) (atom : GroundAtom) (more : List Step) → IsDerivation script (steps ++ more) → HasStep script (steps ++ more) h (Some atom) → Reaches script steps h atom
  with_step steps h atom more all has =
      let whole : List Step = steps ++ more in
      let longer : IsDerivation script (whole ++ has.step ∷ []) = one_longer script [] whole has.step all has.is in
      let regroup : whole ++ has.step ∷ [] ≡ steps ++ (more ++ has.step ∷ []) = append_assoc steps more (has.step ∷ []) in
      record {
        more = more ++ has.step ∷ [];
        derivation = subst (IsDerivation script) regroup longer;
        number = length whole;
        reached = subst (λ (ss : List Step). IsReachedAt ss h atom (length whole)) regroup (record {
          conclusion = ap (option_map (λ (s : Step). s.conclusion)) (get_end whole has.step (length whole) refl) ∙ ap (λ (c : Option GroundAtom). Some c) has.concludes;
          height = height_over (heights_of whole) has.step;
          is = ap (λ (hs : List ℕ). slice_get hs (length whole)) (heights_more [] whole (has.step ∷ [])) ∙ get_end (heights_of whole) (height_over (heights_of whole) has.step) (length whole) (sym (heights_long [] whole ∙ from_none (length whole)));
          within = has.within;
        });
      }
    where
      from_none : (k : ℕ) → 0 + k ≡ k
      from_none k = omega arith

  -- one atom after another
  reach_all : (h : ℕ) → ((a : Ground) → IsDerivable (instances sys) h (Some a) → (steps : List Step) → IsDerivation script steps → Reaches script steps h (as_atom sys a))
      → (body : List Ground) → AllOf (λ a. IsDerivable (instances sys) h (Some a)) body → (steps : List Step) → IsDerivation script steps → ReachesAll script steps h (map (as_atom sys) body)
  reach_all h one [] all steps derivation = record { more = []; derivation = subst (IsDerivation script) (sym (append-nil steps)) derivation; numbers = []; reached = tt }
  reach_all h one (a ∷ body) all steps derivation =
      let here = one a all.0 steps derivation in
      let rest = reach_all h one body all.1 (steps ++ here.more) here.derivation in
      let regroup : (steps ++ here.more) ++ rest.more ≡ steps ++ (here.more ++ rest.more) = append_assoc steps here.more rest.more in
      record {
        more = here.more ++ rest.more;
        derivation = subst (IsDerivation script) regroup rest.derivation;
        numbers = here.number ∷ rest.numbers;
        reached = subst (λ (ss : List Step). AreReached ss h (here.number ∷ rest.numbers) (map (as_atom sys) (a ∷ body))) regroup
            (reached_more (steps ++ here.more) rest.more h (as_atom sys a) here.number here.reached, rest.reached);
      }

  reach : (h : ℕ) (a : Ground) → IsDerivable (instances sys) h (Some a) → (steps : List Step) → IsDerivation script steps → Reaches script steps h (as_atom sys a)
  reach zero a d steps derivation = absurd d
  reach (suc h) a (number, body, instance, all) steps derivation =
      let bodies = reach_all h (reach h) body all steps derivation in
      with_step steps (suc h) (as_atom sys a) bodies.more bodies.derivation (instance_step (steps ++ bodies.more) h number body (Some a) instance bodies.numbers bodies.reached)

  pub derivable_by_script : (h : ℕ) (head : Option Ground) → IsDerivable (instances sys) h head → IsDerivableWithin script h (option_map (as_atom sys) head)
  derivable_by_script zero head d = absurd d
  derivable_by_script (suc h) head (number, body, instance, all) =
      let bodies = reach_all h (reach h) body all [] tt in
      let has = instance_step bodies.more h number body head instance bodies.numbers bodies.reached in
      record {
        steps = bodies.more;
        last = has.step;
        derivation = one_longer script [] bodies.more has.step bodies.derivation has.is;
        concludes = has.concludes;
        within = has.within;
      }
