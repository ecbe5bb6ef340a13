-- A text has one reading, and so claims one thing or has one first fault.
use Rattle.std.proofs.Common.{◌≡◌, ℕ, List, [], Bool, true, false, refl, sym, ap, subst, ◌∙◌, inl, inr}
use Rattle.std.specs.Prelude.{Option, Result, Ok, Err}
use Rattle.sexp_read.specs.declared.tree.Tree.{Tree}
use Rattle.sexp_read.specs.declared.tree.TextStop.{TextStop}
use Rattle.sexp_read.specs.Trees.{IsReading}
use Rattle.sexp_read.proofs.Public.{has_reading, one_reading}
use Rattle.term_tree.specs.declared.script.Pred.{Pred}
use Rattle.answer_text.specs.declared.answer.Line.{Line}
use Rattle.answer_text.specs.declared.answer.Answer.{Answer}
use Rattle.answer_text.specs.declared.answer.Answer.TheVariants.{Sat, Unsat, Unknown}
use Rattle.answer_text.specs.Reading.{Reply, reply}
use Rattle.answer_text.specs.Reading.Reply.{model, refutation}
use Rattle.answer_text.specs.Read.{IsReply, Spells, IsBad, ClaimsOrIsBad}

pub same_reply : (preds : List Pred) (text : List ℕ) (trees others : List Tree) (stop other : Option TextStop) → IsReading text trees stop → IsReading text others other → reply text stop preds trees ≡ reply text other preds others
same_reply preds text trees others stop other h k =
    let same = one_reading text trees others stop other h k in
    ap (λ (s : Option TextStop). reply text s preds trees) same.1 ∙ ap (λ (ts : List Tree). reply text other preds ts) same.0

abbrev claims : Result Reply ℕ → Bool
claims (Ok r) = true
claims (Err offset) = false

abbrev offset_of : Result Reply ℕ → ℕ
offset_of (Ok r) = 0
offset_of (Err offset) = offset

abbrev lines_of : Result Reply ℕ → List Line
lines_of (Ok (model ds)) = []
lines_of (Ok (refutation lines)) = lines
lines_of (Err offset) = []

pub either_law : (preds : List Pred) (text : List ℕ) → ClaimsOrIsBad preds text
either_law preds text = let r = has_reading text in by r.0 r.1 r.2 (reply text r.1 preds r.0) refl
  where
    by : (trees : List Tree) (stop : Option TextStop) → IsReading text trees stop → (outcome : Result Reply ℕ) → reply text stop preds trees ≡ outcome → ClaimsOrIsBad preds text
    by trees stop reading (Ok r) is = inl (r, trees, stop, reading, is)
    by trees stop reading (Err offset) is = inr (offset, record { trees = trees; stop = stop; reading = reading; broken = is })

pub both_law : (preds : List Pred) (text : List ℕ) (answer : Answer) (offset : ℕ) → Spells preds text answer → IsBad preds text offset → ⊥
both_law preds text answer offset s b =
    let e : true ≡ false = ap claims (sym s.spelled ∙ same_reply preds text s.trees b.trees s.stop b.stop s.reading b.reading ∙ b.broken) in cc

pub fault_law : (preds : List Pred) (text : List ℕ) (offset other : ℕ) → IsBad preds text offset → IsBad preds text other → offset ≡ other
fault_law preds text offset other a b = ap offset_of (sym a.broken ∙ same_reply preds text a.trees b.trees a.stop b.stop a.reading b.reading ∙ b.broken)

lines_are : (r : Reply) (lines : List Line) → IsReply r (Unsat lines) → lines ≡ lines_of (Ok r)
lines_are (model ds) lines h = absurd h
lines_are (refutation steps) lines h = h

pub derivation_law : (preds : List Pred) (text : List ℕ) (lines others : List Line) → Spells preds text (Unsat lines) → Spells preds text (Unsat others) → lines ≡ others
derivation_law preds text lines others s t =
    lines_are s.claimed lines s.is ∙ ap lines_of (sym s.spelled ∙ same_reply preds text s.trees t.trees s.stop t.stop s.reading t.reading ∙ t.spelled) ∙ sym (lines_are t.claimed others t.is)

abbrev found_in : Result Reply ℕ → Reply
found_in (Ok r) = r
found_in (Err offset) = refutation []

answer_is : (lines : List Line) (answer : Answer) → IsReply (refutation lines) answer → answer ≡ Unsat lines
answer_is lines (Sat definitions) h = absurd h
answer_is lines (Unsat steps) h = ap Unsat h
answer_is lines (Unknown level cause) h = absurd h

-- a text that spells a derivation spells no other answer
pub alone_law : (preds : List Pred) (text : List ℕ) (lines : List Line) (answer : Answer) → Spells preds text (Unsat lines) → Spells preds text answer → answer ≡ Unsat lines
alone_law preds text lines answer s t =
    let same : s.claimed ≡ t.claimed = ap found_in (sym s.spelled ∙ same_reply preds text s.trees t.trees s.stop t.stop s.reading t.reading ∙ t.spelled) in
    by s.claimed (subst (λ (r : Reply). IsReply r answer) (sym same) t.is) s.is
  where
    by : (r : Reply) → IsReply r answer → IsReply r (Unsat lines) → answer ≡ Unsat lines
    by (model ds) h k = absurd k
    by (refutation steps) h k = answer_is steps answer h ∙ ap Unsat (sym k)
