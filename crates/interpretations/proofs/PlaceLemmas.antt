-- In a book whose cubes are over their predicates each lemma names only places that its predicate has.
use Rattle.std.proofs.Common.{◌≡◌, ℕ, zero, suc, ◌<◌, List, [], ◌∷◌, length, true, ap, sym, ◌∙◌, subst, arith}
use Rattle.std.specs.Prelude.{slice_get, Option, Some, Ok, option_map}
use Rattle.std.proofs.lemmas.Option.{slice_get-map}
use Rattle.term_tree.specs.declared.refusal.Checked.{Checked}
use Rattle.term_tree.specs.declared.script.Pred.{Pred}
use Rattle.term_tree.specs.declared.sort.Sort.{Sort}
use Rattle.clause_form.specs.System.{Clauses}
use Rattle.clause_normal.specs.Reading.{system_reading}
use Rattle.cube_forms.specs.Cubes.{cube_is_below}
use Rattle.lemma_frames.specs.Frames.{lemma_of, pred_of}
use Rattle.lemma_frames.specs.declared.framed.Framed.{Framed as KeptLemma}
use Rattle.book_rules.specs.Frames.{Framed}
use Rattle.book_rules.specs.Places.{AreOver, is_over}
use Rattle.book_rules.specs.State.{State}
use Rattle.book_rules.specs.Walks.{AllOf, has}
use Rattle.cube_rules.specs.Views.{lemmas_of}
use Rattle.cert_derivations.proofs.SystemLemmas.{system_made}
use Rattle.interpretations.specs.Definitions.{HavePlaces}

over-at : (sorts : List (List Sort)) (lemmas : List KeptLemma) → AllOf (λ (e : Framed). is_over sorts e.lemma.pred e.lemma.cube ≡ true) (lemmas_of lemmas) → (n : ℕ) → n < length lemmas
    → is_over sorts (pred_of lemmas n) (lemma_of lemmas n) ≡ true
over-at sorts [] all n within = absurd (omega (arith, within))
over-at sorts (f ∷ lemmas) all zero within = all.0
over-at sorts (f ∷ lemmas) all (suc n) within = over-at sorts lemmas all.1 n (omega (arith, within))

pub places-kept : (checked : Checked) (sys : Clauses) (s : State) (lemmas : List KeptLemma) → system_reading checked ≡ Ok sys → s.lemmas ≡ lemmas_of lemmas → AreOver sys s → HavePlaces checked.script.preds lemmas
places-kept checked sys s lemmas read are over n p within there =
    let made = system_made checked sys read in
    let found : slice_get sys.preds (pred_of lemmas n) ≡ Some p.args =
    ap (λ (ps : List (List Sort)). slice_get ps (pred_of lemmas n)) (sym made.preds) ∙ slice_get-map (λ (q : Pred). q.args) checked.script.preds (pred_of lemmas n) ∙ ap (option_map (λ (q : Pred). q.args)) there in
    let all = subst (λ (es : List Framed). AllOf (λ (e : Framed). is_over sys.preds e.lemma.pred e.lemma.cube ≡ true) es) are over.lemmas in
    ap (λ (o : Option (List Sort)). has (option_map (λ (sorts : List Sort). length sorts) o) (λ (k : ℕ). cube_is_below k (lemma_of lemmas n))) (sym found) ∙ over-at sys.preds lemmas all n within
