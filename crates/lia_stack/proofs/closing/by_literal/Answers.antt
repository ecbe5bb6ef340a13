use Rattle.std.proofs.Common.{◌≡◌, List, ℕ, Some, get_or, ap, sym, ◌∙◌}
use Rattle.std.specs.Prelude.{slice_get, slice_index_or}
use Rattle.std.proofs.lemmas.List.{get_or_read}
use Rattle.lin_atoms.specs.declared.lit.Lit.{Lit}
use Rattle.lia_stack.specs.machinery.Opened.{no_lit}
use Rattle.lia_stack.proofs.closing.by_literal.Goals as goal

pub returns : goal.returns
returns c =
    let at = c.args.at in
    let x = c.index-as_slice-at.result in
    let lit : x ≡ slice_index_or c.args.waiting.now.lits at no_lit = get_or_read c.args.waiting.now.lits at x c.requires.there (c.index-as_slice-at.is ∙ ap (λ (ls : List Lit). get_or ls at x) c.as_slice-2.ensures) no_lit in
    λ end place known there room. c.in_ok-tree.ensures end place known (ap (λ (ns : List ℕ). slice_get place.known (slice_index_or ns at 0)) c.as_slice.ensures ∙ there ∙ ap Some (sym lit)) room
