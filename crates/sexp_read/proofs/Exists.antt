-- Each text has a reading.
use Rattle.std.proofs.lemmas.Bool.{cases_lt}
use Rattle.std.proofs.Common.{ℕ, zero, suc, ◌≡◌, ◌+◌, ◌<◌, ◌≤◌, ◌⊎◌, inl, inr, length, List, [], ◌∷◌, Option, None, Some, refl, subst, arith}
use Rattle.sexp_read.specs.declared.tree.Tree.{Tree}
use Rattle.sexp_read.specs.declared.tree.Tree.TheViews.{List as ListTree}
use Rattle.sexp_read.specs.declared.tree.Tree.TheVariants.{Leaf as LeafTree}
use Rattle.sexp_read.specs.declared.tree.TextStop.{TextStop}
use Rattle.sexp_read.specs.declared.tree.TextStop.TheVariants.{BadByte, Unclosed, Deep}
use Rattle.sexp_read.specs.declared.token.Token.{Token}
use Rattle.sexp_read.specs.declared.token.Token.TheVariants as token
use Rattle.sexp_read.specs.Lexicon.{next_token}
use Rattle.sexp_read.specs.Trees.{most_open, IsTree, AreTrees, Stops, outermost, IsReading, leaf, list, none, more, ended, ended_inside, ended_in_token, no_token, closes_nothing, too_deep, inside}
use Rattle.sexp_read.proofs.Progress.{IsAhead, next_ahead}

-- the trees up to where a list closes or the text stops
abbrev Goes : List ℕ → List ℕ → ℕ → Type 0
Goes text opened mid = ((close : ℕ) × (next_token text mid ≡ token.Close close)) ⊎ ((stop : Option TextStop) × Stops text opened mid stop)

abbrev Found : List ℕ → List ℕ → ℕ → Type 0
Found text opened at = (trees : List Tree) × (mid : ℕ) × (at ≤ mid) × AreTrees text (length opened) at trees mid × Goes text opened mid

at_stop : (text opened : List ℕ) (at : ℕ) → Goes text opened at → Found text opened at
at_stop text opened at g = ([], at, omega arith, none (length opened) at, g)

behind : (text opened : List ℕ) (at : ℕ) (tree : Tree) (after : ℕ) → at < after → IsTree text (length opened) at tree after → Found text opened after → Found text opened at
behind text opened at tree after h t f = (tree ∷ f.0, f.1, omega (arith, f.2), more (length opened) at tree after f.0 f.1 t f.3, f.4)

at_end : (text opened : List ℕ) (at : ℕ) → next_token text at ≡ token.End → Found text opened at
at_end text [] at h = at_stop text [] at (inr (None, ended at h))
at_end text (inner ∷ opened) at h = at_stop text (inner ∷ opened) at (inr (Some (Unclosed (outermost opened inner)), ended_inside inner opened at h))

-- what is found from any later offset, inside any open lists
abbrev Later : List ℕ → ℕ → Type 0
Later text at = (opened : List ℕ) (after : ℕ) → at < after → after ≤ length text → Found text opened after

close_ahead : (text : List ℕ) (mid close : ℕ) (t : Token) → next_token text mid ≡ t → t ≡ token.Close close → IsAhead text mid t → (mid ≤ close) × (close < length text)
close_ahead text mid close token.End h e a = absurd (cc)
close_ahead text mid close (token.Open start) h e a = absurd (cc)
close_ahead text mid close (token.Close start) h e a = let same : start ≡ close = cc in (omega (arith, a.0), omega (arith, a.1))
close_ahead text mid close (token.Leaf kind start end) h e a = absurd (cc)
close_ahead text mid close (token.BadByte offset) h e a = absurd (cc)
close_ahead text mid close (token.Unclosed start) h e a = absurd (cc)

open_list : (text opened : List ℕ) (at start : ℕ) → next_token text at ≡ token.Open start → length opened < most_open → at ≤ start → Later text at → Found text (start ∷ opened) (start + 1) → Found text opened at
open_list text opened at start h below ahead later (trees, mid, past, within, inl (close, h')) =
    let c = close_ahead text mid close (next_token text mid) refl h' (next_ahead text mid) in
    let deep : length (start ∷ opened) ≡ length opened + 1 = omega arith in
    behind text opened at (ListTree trees start (close + 1)) (close + 1) (omega (arith, c.0))
    (list (length opened) at start trees mid close h below (subst (λ d. AreTrees text d (start + 1) trees mid) deep within) h')
    (later opened (close + 1) (omega (arith, c.0)) (omega (arith, c.1)))
open_list text opened at start h below ahead later (trees, mid, past, within, inr (stop, s)) =
    let deep : length (start ∷ opened) ≡ length opened + 1 = omega arith in
    at_stop text opened at (inr (stop, inside opened at start trees mid stop h below (subst (λ d. AreTrees text d (start + 1) trees mid) deep within) s))

at_open : (text opened : List ℕ) (at start : ℕ) → next_token text at ≡ token.Open start → (at ≤ start) × (start < length text) → Later text at → (length opened < most_open) ⊎ (most_open ≤ length opened) → Found text opened at
at_open text opened at start h ahead later (inl below) = open_list text opened at start h below ahead.0 later (later (start ∷ opened) (start + 1) (omega (arith, ahead.0)) (omega (arith, ahead.1)))
at_open text opened at start h ahead later (inr many) = at_stop text opened at (inr (Some (Deep start), too_deep opened at start h many))

at_token : (text opened : List ℕ) (at : ℕ) (t : Token) → next_token text at ≡ t → IsAhead text at t → Later text at → Found text opened at
at_token text opened at token.End h a later = at_end text opened at h
at_token text opened at (token.Open start) h a later = at_open text opened at start h a later (cases_lt (length opened) most_open)
at_token text opened at (token.Close start) h a later = at_stop text opened at (inl (start, h))
at_token text opened at (token.Leaf kind start end) h a later =
    behind text opened at (LeafTree kind start end) end (omega (arith, a.0, a.1)) (leaf (length opened) at kind start end h) (later opened end (omega (arith, a.0, a.1)) a.2)
at_token text opened at (token.BadByte offset) h a later = at_stop text opened at (inr (Some (BadByte offset), no_token opened at offset h))
at_token text opened at (token.Unclosed start) h a later = at_stop text opened at (inr (Some (Unclosed (outermost opened start)), ended_in_token opened at start h))

found : (text : List ℕ) (n : ℕ) (opened : List ℕ) (at : ℕ) → length text ≤ at + n → Found text opened at
found text zero opened at h = at_token text opened at (next_token text at) refl (next_ahead text at) (λ o after below past. absurd (omega arith))
found text (suc n) opened at h = at_token text opened at (next_token text at) refl (next_ahead text at) (λ o after below past. found text n o after (omega arith))

-- from an offset outside of all lists, the trees up to the text's first fault, and that fault
abbrev pub HasRest : List ℕ → ℕ → Type 0
HasRest text at = (trees : List Tree) × (stop : Option TextStop) × ((mid : ℕ) × AreTrees text 0 at trees mid × Stops text [] mid stop)

whole : (text : List ℕ) (at : ℕ) → Found text [] at → HasRest text at
whole text at (trees, mid, past, within, inl (close, h)) = (trees, Some (BadByte close), (mid, within, closes_nothing mid close h))
whole text at (trees, mid, past, within, inr (stop, s)) = (trees, stop, (mid, within, s))

pub has_rest : (text : List ℕ) (at : ℕ) → HasRest text at
has_rest text at = whole text at (found text (length text) [] at (omega arith))

pub has_reading : (text : List ℕ) → (trees : List Tree) × (stop : Option TextStop) × IsReading text trees stop
has_reading text = has_rest text 0
