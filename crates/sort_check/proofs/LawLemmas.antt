-- Every text has one outcome.
use Rattle.std.proofs.Common.{◌≡◌, ℕ, ◌≤◌, ◌^◌, List, [], length, Bool, true, false, refl, sym, ap, ◌∙◌, arith, Some, None, Option, inl, inr}
use Rattle.std.specs.Prelude.{nat_lt}
use Rattle.std.proofs.lemmas.Bool.{ltb-true, ltb-false}
use Rattle.sexp_read.specs.declared.tree.Tree.{Tree}
use Rattle.sexp_read.specs.declared.tree.TextStop.{TextStop}
use Rattle.sexp_read.specs.Trees.{IsReading}
use Rattle.sexp_read.proofs.Public.{has_reading, one_reading}
use Rattle.term_tree.specs.declared.refusal.Refusal.{Refusal}
use Rattle.sort_check.specs.Commands.{Command}
use Rattle.sort_check.specs.Properties.{IsScriptOrRefused}
use Rattle.sort_check.specs.Scripts.{Outcome, outcome, IsScript, IsRefused}
use Rattle.sort_check.specs.Scripts.IsRefused.{too_long, illegal}

-- a text has one reading, and so one outcome
same_outcome : (text : List ℕ) (trees others : List Tree) (stop other : Option TextStop) → IsReading text trees stop → IsReading text others other → outcome text stop [] trees ≡ outcome text other [] others
same_outcome text trees others stop other h k =
    let same = one_reading text trees others stop other h k in
    ap (λ (s : Option TextStop). outcome text s [] trees) same.1 ∙ ap (λ (ts : List Tree). outcome text other [] ts) same.0

by_refusal : (text : List ℕ) (trees : List Tree) (stop : Option TextStop) (refusal : Option Refusal) → length text ≤ 2 ^ 24 → IsReading text trees stop → (outcome text stop [] trees).refusal ≡ refusal → IsScriptOrRefused text
by_refusal text trees stop None short reading is =
    inl ((outcome text stop [] trees).commands, record { short = short; trees = trees; stop = stop; reading = reading; legal = ap (λ (r : Option Refusal). record { commands = (outcome text stop [] trees).commands; refusal = r }) is })
by_refusal text trees stop (Some refusal) short reading is =
    inr (refusal, illegal (outcome text stop [] trees).commands trees stop short reading (ap (λ (r : Option Refusal). record { commands = (outcome text stop [] trees).commands; refusal = r }) is))

by_length : (text : List ℕ) (b : Bool) → nat_lt (2 ^ 24) (length text) ≡ b → IsScriptOrRefused text
by_length text true h = inr (_, too_long (ltb-true (2 ^ 24) (length text) h) refl)
by_length text false h = let r = has_reading text in by_refusal text r.0 r.1 _ (ltb-false (2 ^ 24) (length text) h) r.2 refl

pub either_law : (text : List ℕ) → IsScriptOrRefused text
either_law text = by_length text (nat_lt (2 ^ 24) (length text)) refl

pub both_law : (text : List ℕ) (commands : List Command) (refusal : Refusal) → IsScript text commands → IsRefused text refusal → ⊥
both_law text commands refusal s (too_long long is) = let short = s.short in omega (arith, short, long)
both_law text commands refusal s (illegal before trees stop short reading is) =
    let e : None ≡ Some refusal = ap (λ (o : Outcome). o.refusal) (sym s.legal ∙ same_outcome text s.trees trees s.stop stop s.reading reading ∙ is) in cc

pub script_law : (text : List ℕ) (commands others : List Command) → IsScript text commands → IsScript text others → commands ≡ others
script_law text commands others s t = ap (λ (o : Outcome). o.commands) (sym s.legal ∙ same_outcome text s.trees t.trees s.stop t.stop s.reading t.reading ∙ t.legal)

pub refusal_law : (text : List ℕ) (refusal other : Refusal) → IsRefused text refusal → IsRefused text other → refusal ≡ other
refusal_law text refusal other (too_long long is) (too_long long' is') = is ∙ sym is'
refusal_law text refusal other (too_long long is) (illegal before trees stop short reading is') = absurd (omega (arith, short, long))
refusal_law text refusal other (illegal before trees stop short reading is) (too_long long is') = absurd (omega (arith, short, long))
refusal_law text refusal other (illegal before trees stop short reading is) (illegal before' trees' stop' short' reading' is') =
    let e : Some refusal ≡ Some other = ap (λ (o : Outcome). o.refusal) (sym is ∙ same_outcome text trees trees' stop stop' reading reading' ∙ is') in cc
