-- What a book keeps over steps of its own.
use Rattle.std.proofs.Common.{◌≡◌, ℕ, ◌+◌, ◌<◌, ◌≤◌, List, [], ◌∷◌, ◌++◌, length, take, refl, ap, sym, ◌∙◌, subst, arith}
use Rattle.std.proofs.lemmas.List.{length_push, take-append-le, take-take, take_all}
use Rattle.book_rules.specs.Effects.{after}
use Rattle.book_rules.specs.Walks.{AllOf}
use Rattle.book_rules.proofs.ListLemmas.{all_of-push}
use Rattle.step_rules.specs.Taken.{step_of}
use Rattle.step_rules.specs.declared.step.Step.{Step}
use Rattle.chc_core.specs.Contents.{Contents}
use Rattle.chc_core.specs.Views.{state_of}
use Rattle.chc_core.specs.declared.entry.Entry.{Entry}
use Rattle.obligation_turn.specs.Counts.{StepCounts}
use Rattle.obligation_turn.specs.Turns.{StepIsThin}
use Rattle.search_strategy.proofs.ThinLemmas.{thin-after}
use Rattle.book_loop.specs.Runs.{IsOwn}
use Rattle.book_loop.specs.machinery.Steps.{IsFurther}

-- a list begins with itself, with what it was before it grew, and with what that began with

itself : (xs : List Entry) → take (length xs) xs ≡ xs
itself xs = take_all (length xs) xs (omega arith)

begun : (xs ys more : List Entry) → ys ≡ xs ++ more → take (length xs) ys ≡ xs
begun xs ys more is = ap (take (length xs)) is ∙ take-append-le (length xs) xs more (omega arith) ∙ itself xs

begun-then : (xs ys zs : List Entry) → length xs ≤ length ys → take (length xs) ys ≡ xs → take (length ys) zs ≡ ys → take (length xs) zs ≡ xs
begun-then xs ys zs long first second = sym (take-take (length xs) (length ys) zs long) ∙ ap (take (length xs)) second ∙ first

pub further-none : (nodes : ℕ) (b : Contents) → IsFurther nodes b b
further-none nodes b = record { system = refl; given = refl; thin = λ h. h; own = λ h. h; longer = omega arith; begins = itself b.journal }

pub further-then : (nodes : ℕ) (b c d : Contents) → IsFurther nodes b c → IsFurther nodes c d → IsFurther nodes b d
further-then nodes b c d first second =
    let one = first.longer in
    let two = second.longer in
    record {
      system = second.system ∙ first.system;
      given = second.given ∙ first.given;
      thin = λ h. second.thin (first.thin h);
      own = λ h. second.own (first.own h);
      longer = omega (arith, one, two);
      begins = begun-then b.journal c.journal d.journal one first.begins second.begins;
    }

pub grown : (b c : Contents) (entry : Entry) → c.journal ≡ b.journal ++ entry ∷ [] → length b.journal < length c.journal
grown b c entry is =
    let more : length c.journal ≡ length b.journal + 1 = ap (λ (j : List Entry). length j) is ∙ length_push b.journal entry in
    omega (arith, more)

pub further-step : (nodes : ℕ) (b c : Contents) (step : Step) → state_of c ≡ after b.system (state_of b) (step_of step) → c.system ≡ b.system → c.given ≡ b.given
    → c.journal ≡ b.journal ++ (record { worker = 1; step = step }) ∷ [] → StepCounts nodes step → StepIsThin step → IsFurther nodes b c
further-step nodes b c step is system given journal counts thin =
    let entry : Entry = record { worker = 1; step = step } in
    let more = grown b c entry journal in
    record {
      system = system;
      given = given;
      thin = λ h. thin-after b c step is h thin;
      own = λ h. subst (AllOf (IsOwn nodes)) (sym journal) (all_of-push (IsOwn nodes) b.journal entry h (record { worker = refl; counts = counts }));
      longer = omega (arith, more);
      begins = begun b.journal c.journal (entry ∷ []) journal;
    }
