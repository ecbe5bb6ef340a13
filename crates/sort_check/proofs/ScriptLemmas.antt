-- One tree more of a script.
use Rattle.std.proofs.Common.{◌≡◌, ℕ, ◌+◌, ◌<◌, ◌≤◌, List, [], ◌∷◌, ◌++◌, length, drop, get_or, Bool, true, false, ◌||◌, refl, sym, ap, ◌∙◌, arith}
use Rattle.std.specs.Prelude.{Option, None, Some, Result, Ok, Err, if◌then◌else◌}
use Rattle.std.specs.List.{list_any}
use Rattle.std.proofs.lemmas.List.{drop_more, drop_all}
use Rattle.std.proofs.lemmas.List.Folds.{list_any-append}
use Rattle.sexp_read.specs.declared.tree.Tree.{Tree}
use Rattle.sexp_read.specs.declared.tree.TextStop.{TextStop}
use Rattle.term_tree.specs.declared.refusal.Checked.{Checked}
use Rattle.term_tree.specs.declared.refusal.Refusal.{Refusal}
use Rattle.term_check.specs.declared.part.Fault.{Fault}
use Rattle.sort_check.specs.Commands.{Command, command, is_exit}
use Rattle.sort_check.specs.Checked.{IsChecked}
use Rattle.sort_check.specs.Scripts.{outcome, stops, end_fault, stop_fault, after, refusal_of_fault, IsScriptOf}
use Rattle.sort_check.specs.State.{IsState, Took}
use Rattle.sort_check.specs.machinery.Progress.{IsSoFar}
use Rattle.sort_check.specs.declared.state.State.{State}

refused_by : (before : List Command) (r : Result Command Fault) (f : Fault) (new : State) → Took before r (Some f) new → (r ≡ Err f) × IsState before new
refused_by before (Ok c) f new h = absurd h
refused_by before (Err g) f new h = (ap (λ (e : Fault). Err e) h.0, h.1)

pub taken_by : (before : List Command) (r : Result Command Fault) (new : State) → Took before r None new → (c : Command) × (r ≡ Ok c) × IsState (before ++ c ∷ []) new
taken_by before (Ok c) new h = (c, refl, h)
taken_by before (Err g) new h = absurd h

-- what was found, of commands that the state holds
pub checked : (text : List ℕ) (stop : Option TextStop) (trees : List Tree) (before : List Command) (fault : Option Fault) (found : Checked) → outcome text stop [] trees ≡ stops before fault → IsScriptOf before found.script → found.stop ≡ refusal_of_fault before fault
    → IsChecked text trees stop found
checked text stop trees before fault found is script same = record {
  commands = before;
  outcome_is = is ∙ ap (λ (r : Option Refusal). record { commands = before; refusal = r }) (sym same);
  script = script;
}

-- the trees that are left, as a list that begins with the next one
pub left : (trees : List Tree) (i : ℕ) (tree : Tree) → i < length trees → tree ≡ get_or trees i tree → drop i trees ≡ tree ∷ drop (i + 1) trees
left trees i tree at is = drop_more trees i tree at ∙ ap (λ (t : Tree). t ∷ drop (i + 1) trees) (sym is)

module _ (text : List ℕ) (stop : Option TextStop) (trees now : List Tree) (count : ℕ) (tree : Tree) (rest : List Tree) (state : State) (so : IsSoFar text stop trees now count state) (here : now ≡ tree ∷ rest) where
  decided : outcome text stop [] trees ≡ outcome text stop so.before (tree ∷ rest)
  decided = sym so.outcome_is ∙ ap (outcome text stop so.before) here

  by_result : (r : Result Command Fault) → command text so.before tree ≡ r
      → outcome text stop so.before (tree ∷ rest) ≡ after r (λ f. stops so.before (Some f)) (λ c. if is_exit c then stops (so.before ++ c ∷ []) (end_fault text (so.before ++ c ∷ [])) else outcome text stop (so.before ++ c ∷ []) rest)
  by_result r h =
      ap (λ (x : Result Command Fault). after x (λ f. stops so.before (Some f)) (λ c. if is_exit c then stops (so.before ++ c ∷ []) (end_fault text (so.before ++ c ∷ [])) else outcome text stop (so.before ++ c ∷ []) rest)) h

  pub refused : (f : Fault) (new : State) → Took so.before (command text so.before tree) (Some f) new → (outcome text stop [] trees ≡ stops so.before (Some f)) × IsState so.before new
  refused f new h = let r = refused_by so.before (command text so.before tree) f new h in (decided ∙ by_result (Err f) r.0, r.1)

  -- the command was exit exactly where the state is over
  pub over : (c : Command) (new : State) → IsState (so.before ++ c ∷ []) new → new.is_over ≡ is_exit c
  over c new h =
      let none : list_any is_exit so.before ≡ false = sym so.state_is.over ∙ so.running in
      h.over ∙ list_any-append is_exit so.before (c ∷ []) ∙ ap (λ (b : Bool). b || list_any is_exit (c ∷ [])) none ∙ or_nothing (is_exit c)
    where
      or_nothing : (b : Bool) → (false || (b || false)) ≡ b
      or_nothing true = refl
      or_nothing false = refl

  pub ended : (new : State) → Took so.before (command text so.before tree) None new → new.is_over ≡ true → (commands : List Command) × IsState commands new × (outcome text stop [] trees ≡ stops commands (end_fault text commands))
  ended new h done =
      let t = taken_by so.before (command text so.before tree) new h in
      let exits : is_exit t.0 ≡ true = sym (over t.0 new t.2) ∙ done in
      (so.before ++ t.0 ∷ [], t.2, decided ∙ by_result (Ok t.0) t.1 ∙ ap (λ (b : Bool). if b then stops (so.before ++ t.0 ∷ []) (end_fault text (so.before ++ t.0 ∷ [])) else outcome text stop (so.before ++ t.0 ∷ []) rest) exits)

  -- behind a command that isn't exit the rest decide
  pub passes : (c : Command) → command text so.before tree ≡ Ok c → is_exit c ≡ false → outcome text stop [] trees ≡ outcome text stop (so.before ++ c ∷ []) rest
  passes c h stays =
      decided ∙ by_result (Ok c) h ∙ ap (λ (b : Bool). if b then stops (so.before ++ c ∷ []) (end_fault text (so.before ++ c ∷ [])) else outcome text stop (so.before ++ c ∷ []) rest) stays

  pub one_more : (c : Command) (new : State) → IsState (so.before ++ c ∷ []) new → new.commands ≡ count + 1
  one_more c new h = h.commands ∙ length_last so.before c ∙ ap (λ (n : ℕ). n + 1) (sym so.state_is.commands ∙ so.counted)
    where
      length_last : (cs : List Command) (c : Command) → length (cs ++ c ∷ []) ≡ length cs + 1
      length_last [] c = refl
      length_last (x ∷ cs) c = let l = length_last cs c in omega (arith, l)

  pub goes_on : (new : State) → Took so.before (command text so.before tree) None new → new.is_over ≡ false → IsSoFar text stop trees rest (count + 1) new
  goes_on new h running =
      let t : (c : Command) × (command text so.before tree ≡ Ok c) × IsState (so.before ++ c ∷ []) new = taken_by so.before (command text so.before tree) new h in
      record {
        before = so.before ++ t.0 ∷ [];
        state_is = t.2;
        outcome_is = sym (passes t.0 t.1 (sym (over t.0 new t.2) ∙ running));
        counted = one_more t.0 new t.2;
        running = running;
      }

-- all trees were commands
pub all_taken : (text : List ℕ) (stop : Option TextStop) (trees : List Tree) (i : ℕ) (state : State) (so : IsSoFar text stop trees (drop i trees) i state) → length trees ≤ i → outcome text stop [] trees ≡ stops so.before (stop_fault text stop so.before)
all_taken text stop trees i state so done = sym so.outcome_is ∙ ap (outcome text stop so.before) (drop_all i trees done)
