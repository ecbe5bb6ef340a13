-- The lines of facts may be printed.
use Rattle.std.proofs.Common.{◌≡◌, ℕ, suc, ◌+◌, ◌<◌, ◌≤◌, ◌^◌, List, [], ◌∷◌, ◌++◌, map, length, refl, ap, sym, ◌∙◌, subst, arith}
use Rattle.std.specs.Prelude.{Option, Some, None, option_map}
use Rattle.std.specs.List.{AllByRecursion}
use Rattle.std.proofs.lemmas.List.{length_push}
use Rattle.std.proofs.lemmas.Option.{slice_get_within}
use Rattle.term_tree.specs.declared.refusal.Checked.{Checked}
use Rattle.term_tree.specs.declared.scalar.Value.{Value}
use Rattle.term_tree.specs.declared.script.Pred.{Pred as Declared}
use Rattle.term_tree.specs.declared.script.Script.{Script}
use Rattle.term_tree.specs.declared.sort.Sort.{Sort}
use Rattle.term_tree.specs.Arena.{IsArena}
use Rattle.term_tree.specs.Truth.{HaveSorts}
use Rattle.term_check.specs.Spelling.{sorts_in}
use Rattle.horn_shape.specs.Clause.{IsLegalScript}
use Rattle.horn_shape.specs.Derivation.{IsDerivationAfter, IsStep as IsScriptStep, Step, concluded}
use Rattle.horn_shape.specs.Instance.{GroundAtom, premises_of}
use Rattle.clause_form.specs.System.{Clauses}
use Rattle.book_rules.specs.State.{Fact}
use Rattle.answer_text.specs.declared.answer.Answer.TheVariants.{Unsat}
use Rattle.answer_text.specs.AnswerTexts.{answer_text}
use Rattle.answer_text.specs.Printable.{IsAnswerText, IsConclusion, IsShort, IsPrintableStep}
use Rattle.cert_derivations.specs.Steps.{script_steps}
use Rattle.cert_derivations.proofs.AtomLemmas.{IsSortedHead, conclusion_sorted}
use Rattle.cert_derivations.proofs.StepLemmas.{all_steps, facts_derive}
use Rattle.cert_derivations.proofs.SystemLemmas.{system_made}
use Rattle.cert_derivations.specs.Claims.{AreFactsOf, EndInFalse}
use Rattle.cert_derivations.specs.Lines.{fact_lines, line_head, line_of, lines_from}
use Rattle.cert_derivations.proofs.LineLemmas.{concluded-at}
use Rattle.cert_derivations.proofs.ShortLemmas.{IsShortHead, IsShortStep, steps-short}

-- the numbers of premises are those of earlier lines
pub heads_split : (x y : Option (Option GroundAtom)) (xs ys : List (Option (Option GroundAtom))) → x ∷ xs ≡ y ∷ ys → (x ≡ y) × (xs ≡ ys)
heads_split x y xs ys e = (cc, cc)

premises-short : (earlier : List Step) (premises : List ℕ) (atoms : List GroundAtom) → length earlier < 2 ^ 63 → map (concluded earlier) premises ≡ map (λ atom. Some (Some atom)) atoms
    → AllByRecursion IsShort (map (λ p. suc p) premises)
premises-short earlier [] atoms few h = tt
premises-short earlier (p ∷ premises) [] few h = absurd (cc)
premises-short earlier (p ∷ premises) (a ∷ atoms) few h =
    let both = heads_split (concluded earlier p) (Some (Some a)) (map (concluded earlier) premises) (map (λ atom. Some (Some atom)) atoms) h in
    let at = concluded-at earlier p (Some a) both.0 in
    let less : p < length earlier = slice_get_within earlier p at.0 at.1 in
    (omega (arith, less, few), premises-short earlier premises atoms few both.1)

-- the conclusion is over the predicates
have-length : (sorts : List Sort) (values : List Value) → HaveSorts sorts values → length values ≡ length sorts
have-length [] [] have = refl
have-length [] (v ∷ values) have = absurd have
have-length (s ∷ sorts) [] have = absurd have
have-length (s ∷ sorts) (v ∷ values) have = ap suc (have-length sorts values have.1)

conclusion-short : (script : Script) (conclusion : Option GroundAtom) → IsSortedHead script conclusion → IsShortHead conclusion → IsConclusion script.preds (option_map line_head conclusion)
conclusion-short script None sorted short = tt
conclusion-short script (Some atom) sorted short = (
  slice_get_within script.preds atom.pred sorted.declared sorted.there,
  have-length sorted.declared.args atom.values sorted.sorted ∙ ap (λ (found : Option Declared). length (sorts_in found)) (sym sorted.there),
  short,
)

module _ (script : Script) (arena : IsArena script.terms.nodes) (legal : IsLegalScript script) where
  line-printed : (earlier : List Step) (s : Step) (number : ℕ) → number ≡ suc (length earlier) → number < 2 ^ 63 → IsScriptStep script earlier s → IsShortStep s → IsPrintableStep script.preds (line_of number s)
  line-printed earlier s number is small step short =
      let within : s.assertion < length script.asserts = slice_get_within script.asserts s.assertion step.clause_is.assertion step.clause_is.there in
      let few : length script.asserts ≤ 65536 = legal.few_asserts in
      record {
        number = small;
        assertion = omega (arith, within, few);
        values = short.values;
        premises = premises-short earlier s.premises (premises_of script step.clause s.values) (omega (arith, is, small)) step.premises;
        conclusion = conclusion-short script s.conclusion
            (subst (IsSortedHead script) (sym step.conclusion) (conclusion_sorted script s.assertion step.clause arena legal step.clause_is s.values step.instance.sorts)) short.conclusion;
      }

  lines-printed : (earlier steps : List Step) (number : ℕ) → number ≡ suc (length earlier) → length earlier + length steps < 2 ^ 63 → IsDerivationAfter script earlier steps → AllByRecursion IsShortStep steps
      → AllByRecursion (IsPrintableStep script.preds) (lines_from number steps)
  lines-printed earlier [] number is few are short = tt
  lines-printed earlier (s ∷ steps) number is few are short =
      let long : length (earlier ++ s ∷ []) ≡ length earlier + 1 = length_push earlier s in (
        line-printed earlier s number is (omega (arith, is, few)) are.0 short.0,
        lines-printed (earlier ++ s ∷ []) steps (suc number) (omega (arith, is, long)) (omega (arith, few, long)) are.1 short.1,
      )

pub facts_printed : (checked : Checked) (sys : Clauses) (facts : List Fact) (among : List ℕ) → AreFactsOf checked sys facts → EndInFalse facts among → length among < 2 ^ 63
    → IsAnswerText checked.script.preds (Unsat (fact_lines sys facts among)) (answer_text checked.script.preds (Unsat (fact_lines sys facts among)))
facts_printed checked sys facts among given ends few =
    let long : length (script_steps sys facts among) ≡ length among = (all_steps sys facts among ends.closed).long in
    record {
      printable = lines-printed checked.script given.arena given.legal [] (script_steps sys facts among) 1 refl (omega (arith, few, long))
          (facts_derive checked.script sys (system_made checked sys given.system) given.arena given.legal facts given.recorded among ends.closed)
          (steps-short sys facts among among given.short);
      spelled = refl;
    }

pub text_printed : (checked : Checked) (sys : Clauses) (facts : List Fact) (among text : List ℕ) → AreFactsOf checked sys facts → EndInFalse facts among → length among < 2 ^ 63
    → text ≡ answer_text checked.script.preds (Unsat (fact_lines sys facts among)) → IsAnswerText checked.script.preds (Unsat (fact_lines sys facts among)) text
text_printed checked sys facts among text given ends few is = record { printable = (facts_printed checked sys facts among given ends few).printable; spelled = is }
