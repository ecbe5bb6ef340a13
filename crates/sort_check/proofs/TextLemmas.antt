-- One tree more of a text that is read as it is checked.
use Rattle.std.proofs.Common.{◌≡◌, ℕ, ◌+◌, ◌<◌, List, [], ◌∷◌, ◌++◌, length, true, false, refl, sym, ap, ◌∙◌, ◌^◌, arith, append_assoc, length-append}
use Rattle.std.specs.Prelude.{Option, None, Some, Ok}
use Rattle.std.proofs.lemmas.List.{append-nil}
use Rattle.sexp_read.specs.declared.tree.Tree.{Tree}
use Rattle.sexp_read.specs.declared.tree.TextStop.{TextStop}
use Rattle.sexp_read.specs.Trees.{IsTree, Stops, IsReading, none, more}
use Rattle.sexp_read.proofs.Public.{has_rest, joined, one_more as one_more_tree, tree_ahead}
use Rattle.term_tree.specs.declared.refusal.Checked.{Checked}
use Rattle.term_check.specs.declared.part.Fault.{Fault}
use Rattle.term_check.specs.Weight.{weight}
use Rattle.term_check.proofs.Public.{tree_light, trees_light, weigh_all}
use Rattle.sort_check.specs.Commands.{Command, command, is_exit}
use Rattle.sort_check.specs.Checked.{IsCheckedText}
use Rattle.sort_check.specs.Scripts.{outcome, stops, end_fault, stop_fault, refusal_of_fault, IsScriptOf}
use Rattle.sort_check.specs.State.{IsState, Took}
use Rattle.sort_check.specs.machinery.Progress.{IsSoFar, IsReadSoFar}
use Rattle.sort_check.specs.declared.state.State.{State}
use Rattle.sort_check.proofs.ScriptLemmas.{checked, refused, ended, passes, one_more, taken_by, over as is_over_by}

pub nothing_read : (text : List ℕ) (state : State) → IsState [] state → IsReadSoFar text 0 state
nothing_read text state is = record {
  trees = [];
  read = none 0 0;
  before = [];
  state_is = is;
  outcome_is = λ stop rest. refl;
  counted = is.commands;
  running = is.over;
}

module _ (text : List ℕ) (at : ℕ) (state : State) (so : IsReadSoFar text at state) where
  abbrev so_far : (stop : Option TextStop) (rest : List Tree) → IsSoFar text stop (so.trees ++ rest) rest (length so.trees) state
  so_far stop rest = record { before = so.before; state_is = so.state_is; outcome_is = so.outcome_is stop rest; counted = so.counted; running = so.running }

  -- all trees were commands
  pub stopped : (stop : Option TextStop) → Stops text [] at stop → (fault : Option Fault) (found : Checked) → fault ≡ stop_fault text stop so.before
      → IsScriptOf so.before found.script → found.stop ≡ refusal_of_fault so.before fault → IsCheckedText text found
  stopped stop h fault found e script same =
      let all : outcome text stop [] so.trees ≡ stops so.before fault =
      ap (outcome text stop []) (sym (append-nil so.trees)) ∙ sym (so.outcome_is stop []) ∙ ap (stops so.before) (sym e) in
      (so.trees, stop, (at, so.read, h), checked text stop so.trees so.before fault found all script same)

  module _ (tree : Tree) (end : ℕ) (t_is : IsTree text 0 at tree end) where
    -- the commands are fewer than the bytes, and so are the nodes of a tree
    pub few : length text < 2 ^ 32 → state.commands + 1 < 2 ^ 32
    few short =
        let ahead = tree_ahead text 0 at tree end t_is in
        let w = trees_light text 0 0 so.trees at so.read in
        omega (arith, ahead.0, ahead.1, w.0, weigh_all so.trees, so.counted, short)

    pub light : length text < 2 ^ 32 → weight tree < 2 ^ 32
    light short = let w = tree_light text 0 at tree end t_is in omega (arith, w.0, w.1, short)

    -- what the text goes on with behind the tree, and its reading
    abbrev trees : List Tree
    trees = so.trees ++ tree ∷ (has_rest text end).0

    abbrev stop : Option TextStop
    stop = (has_rest text end).1

    reading : IsReading text trees stop
    reading =
        let r = has_rest text end in
        (r.2.0, joined text 0 0 so.trees at (tree ∷ r.0) r.2.0 so.read (more 0 at tree end r.0 r.2.0 t_is r.2.1), r.2.2)

    pub broken : (new : State) (fault : Fault) (found : Checked) → Took so.before (command text so.before tree) (Some fault) new
        → (IsState so.before new → IsScriptOf so.before found.script) → (IsState so.before new → found.stop ≡ refusal_of_fault so.before (Some fault)) → IsCheckedText text found
    broken new fault found h script same =
        let r = refused text stop trees (tree ∷ (has_rest text end).0) (length so.trees) tree (has_rest text end).0 state (so_far stop (tree ∷ (has_rest text end).0)) refl fault new h in
        (trees, stop, reading, checked text stop trees so.before (Some fault) found r.0 (script r.1) (same r.1))

    -- the commands up to an exit
    abbrev Ended : State → Type 0
    Ended new = (commands : List Command) × IsState commands new × ((found : Checked) (fault : Option Fault) → fault ≡ end_fault text commands
        → IsScriptOf commands found.script → found.stop ≡ refusal_of_fault commands fault → IsCheckedText text found)

    pub over : (new : State) → Took so.before (command text so.before tree) None new → new.is_over ≡ true → Ended new
    over new h done =
        let e = ended text stop trees (tree ∷ (has_rest text end).0) (length so.trees) tree (has_rest text end).0 state (so_far stop (tree ∷ (has_rest text end).0)) refl new h done in
        (e.0, e.1, λ found fault is script same. (trees, stop, reading, checked text stop trees e.0 fault found (e.2 ∙ ap (stops e.0) (sym is)) script same))

    pub read_on : (new : State) → Took so.before (command text so.before tree) None new → new.is_over ≡ false → IsReadSoFar text end new
    read_on new h running =
        let t : (c : Command) × (command text so.before tree ≡ Ok c) × IsState (so.before ++ c ∷ []) new = taken_by so.before (command text so.before tree) new h in
        let stays : is_exit t.0 ≡ false = sym (over_by t.0 new t.2) ∙ running in
        record {
          trees = so.trees ++ tree ∷ [];
          read = one_more_tree text 0 0 so.trees at tree end so.read t_is;
          before = so.before ++ t.0 ∷ [];
          state_is = t.2;
          outcome_is = λ s rest. sym (passes text s (so.trees ++ tree ∷ rest) (tree ∷ rest) (length so.trees) tree rest state (so_far s (tree ∷ rest)) refl t.0 t.1 stays)
              ∙ ap (outcome text s []) (sym (append_assoc so.trees (tree ∷ []) rest));
          counted = one_more text None (so.trees ++ tree ∷ []) (tree ∷ []) (length so.trees) tree [] state (so_far None (tree ∷ [])) refl t.0 new t.2 ∙ sym (length-append so.trees (tree ∷ []));
          running = running;
        }
      where
        over_by : (c : Command) (new : State) → IsState (so.before ++ c ∷ []) new → new.is_over ≡ is_exit c
        over_by = is_over_by text None (so.trees ++ tree ∷ []) (tree ∷ []) (length so.trees) tree [] state (so_far None (tree ∷ [])) refl
