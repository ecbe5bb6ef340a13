use Rattle.std.proofs.Common.{◌∙◌, ◌++◌, ℕ, List, [], ◌∷◌, get_or, map, ap, sym, subst}
use Rattle.std.specs.Prelude.{if◌then◌else◌}
use Rattle.std.specs.List.{list_any}
use Rattle.lin_atoms.specs.declared.lit.Lit.{Lit}
use Rattle.lemma_frames.specs.Frames.{IsFrame, lemma_of}
use Rattle.book_rules.specs.Same.{same_cube}
use Rattle.interpretations.specs.Kept.{first_ones}
use Rattle.interpretations.specs.machinery.Cubes.{cubes_of}
use Rattle.interpretations.proofs.KeptLemmas.{kept-end, kept-step, numbers-there}
use Rattle.interpretations.proofs.LoopLemmas.{item-same}
use Rattle.interpretations.proofs.kept.kept_lemmas.Goals as goal

pub lemma-requires : goal.lemma-requires
lemma-requires c =
    let numbers = c.deref-number-items.result.now in
    let i = c.loop-number.number-index in
    numbers-there c.args.frames.now.lemmas c.args.pred c.args.level numbers i (get_or numbers i 0) c.loop-number-test.true (item-same numbers i 0 c.loop-number-test.true)
    (subst (λ (ns : List ℕ). IsFrame c.args.frames.now.lemmas c.args.pred c.args.level ns) (sym c.deref-number-items.ensures.value) c.in_ok-numbers.ensures)

pub loop-number-preserved : goal.loop-number-preserved
loop-number-preserved c =
    let lemmas = c.args.frames.now.lemmas in
    let numbers = c.deref-number-items.result.now in
    let i = c.loop-number.number-index in
    let old = cubes_of c.loop-number.kept.items in
    let noted = c.in_ok-note.ensures ∙ ap (λ (cube : List Lit). if list_any (same_cube cube) old then old else (old ++ cube ∷ [])) c.lemma.ensures in
    kept-step lemmas numbers i (get_or numbers i 0) old (cubes_of c.note.new.kept.items) (first_ones [] (map (lemma_of lemmas) numbers)) c.loop-number-test.true
    (item-same numbers i 0 c.loop-number-test.true) noted c.loop-number.invariant

pub returns : goal.returns
returns c =
    let numbers = c.deref-number-items.result.now in
    kept-end c.args.frames.now.lemmas c.args.pred c.args.level numbers c.loop-number.number-index (cubes_of c.loop-number.kept.items) c.loop-number-test.false
    (subst (λ (ns : List ℕ). IsFrame c.args.frames.now.lemmas c.args.pred c.args.level ns) (sym c.deref-number-items.ensures.value) c.in_ok-numbers.ensures) c.loop-number.invariant
