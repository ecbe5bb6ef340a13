-- A verdict on an input is one on each script that it spells, and what is told to be valid is so under each reading.
use Rattle.std.proofs.Common.{ℕ, List, sym, subst, ⊎_elim}
use Rattle.std.specs.Prelude.{take, drop}
use Rattle.term_tree.specs.declared.refusal.Checked.{Checked}
use Rattle.term_tree.specs.declared.script.Script.{Script}
use Rattle.sort_check.specs.Checked.{IsCheckedText}
use Rattle.answer_text.specs.declared.answer.Answer.{Answer}
use Rattle.answer_text.specs.declared.answer.Answer.TheVariants.{Sat, Unsat, Unknown}
use Rattle.answer_text.specs.Read.{Spells}
use Rattle.answer_text.specs.ReadBack.{IsSameModel}
use Rattle.answer_text.proofs.Public.{alone_law}
use Rattle.answer_laws.proofs.OneModelLemmas.{one_model_law}
use Rattle.chc_checker.specs.declared.verdict.Verdict.{Verdict}
use Rattle.chc_checker.specs.declared.verdict.Verdict.TheVariants.{Valid}
use Rattle.chc_checker.specs.Verdicts.{IsValid, Judges}
use Rattle.check_input.specs.Inputs.{IsReadAs, JudgesInput}
use Rattle.check_input.proofs.PartLemmas.{one_answer, one_script}
use Rattle.printed_laws.proofs.ReadingLemmas.{spelled_by, valid_passes}
use Rattle.printed_laws.proofs.VerdictLemmas.{SolvedLaw}

-- whatever script the input is read as, the verdict is on a reading of the same bytes, and on the same answer
pub record IsJudgedBeside (nodes : ℕ) (input : List ℕ) (verdict : Verdict) (script answer : ℕ) (judged checked : Checked) : Type 0 where
  pub ours : IsCheckedText (take script input) judged
  pub theirs : IsCheckedText (take script input) checked
  pub judges : Judges nodes judged.script (drop answer input) verdict

pub judged_beside : (nodes : ℕ) (input text : List ℕ) (verdict : Verdict) (script answer : ℕ) (checked : Checked) → (judged : JudgesInput nodes input verdict text)
    → IsReadAs input script answer checked → IsJudgedBeside nodes input verdict script answer judged.checked checked
judged_beside nodes input text verdict script answer checked judged read =
    let same = one_script input judged.script script judged.answer answer judged.read_as.parted read.parted in
    let last = one_answer input judged.script script judged.answer answer judged.read_as.parted read.parted in
    record {
      ours = subst (λ (n : ℕ). IsCheckedText (take n input) judged.checked) same judged.read_as.read;
      theirs = read.read;
      judges = subst (λ (n : ℕ). Judges nodes judged.checked.script (drop n input) verdict) last judged.judges;
    }

module _ (solved : SolvedLaw) where
  -- whatever a text spells is valid, where something that it spells is
  all_valid : (script : Script) (text : List ℕ) (told claim : Answer) → Spells script.preds text told → IsValid script told → Spells script.preds text claim → IsValid script claim
  all_valid script text (Sat definitions) claim spells valid reads = by claim reads (one_model_law script.preds text definitions claim spells reads)
    where
      by : (a : Answer) → Spells script.preds text a → IsSameModel definitions a → IsValid script a
      by (Sat others) reads same = solved script text definitions others valid spells reads
      by (Unsat lines) reads same = absurd same
      by (Unknown level cause) reads same = absurd same
  all_valid script text (Unsat lines) claim spells valid reads = subst (IsValid script) (sym (alone_law script.preds text lines claim spells reads)) valid
  all_valid script text (Unknown level cause) claim spells valid reads = absurd valid

  judged_valid : (nodes : ℕ) (script : Script) (text : List ℕ) (claim : Answer) → Judges nodes script text Valid → Spells script.preds text claim → IsValid script claim
  judged_valid nodes script text claim judges reads =
      ⊎_elim
      (λ told. all_valid script text told.0 claim told.1 told.3 reads)
      (λ bad. let e = bad.2 in absurd (cc))
      judges

  pub valid_holds : (nodes : ℕ) (input text : List ℕ) (script answer : ℕ) (checked : Checked) (claim : Answer) → JudgesInput nodes input Valid text → IsReadAs input script answer checked
      → Spells checked.script.preds (drop answer input) claim → IsValid checked.script claim
  valid_holds nodes input text script answer checked claim judged read spells =
      let beside = judged_beside nodes input text Valid script answer checked judged read in
      let bytes = take script input in
      valid_passes bytes judged.checked checked beside.ours beside.theirs claim
      (judged_valid nodes judged.checked.script (drop answer input) claim beside.judges (spelled_by bytes judged.checked checked beside.ours beside.theirs (drop answer input) claim spells))
