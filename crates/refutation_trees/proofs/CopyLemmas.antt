-- What a copy in the making keeps.
use Rattle.std.proofs.Common.{◌≡◌, ◌<◌, ◌≤◌, ◌+◌, ℕ, zero, suc, List, [], ◌∷◌, ◌++◌, map, drop, length, get_or, append_assoc, refl, ap, sym, ◌∙◌, arith, Bor, Some, None}
use Rattle.std.specs.Prelude.{ℤ, slice_get}
use Rattle.lin_atoms.specs.Linear.{Linear}
use Rattle.std.proofs.lemmas.List.{drop_all, drop_more, length-append}
use Rattle.std.proofs.lemmas.List.Sums.{sum_by_push}
use Rattle.refutation_trees.specs.machinery.Copying.{pending, pending_of, plug, plug_all}
use Rattle.refutation_trees.specs.machinery.Sizes.{size, size_step, sizes}
use Rattle.refutation_trees.specs.declared.copying.Frame.{Frame}
use Rattle.refutation_trees.specs.declared.copying.Frame.TheVariants as frame
use Rattle.refutation_trees.specs.declared.tree.Refutation.{Refutation}
use Rattle.refutation_trees.specs.declared.tree.Refutation.TheViews.{Cases, Quotient, Round, Split}
use Rattle.refutation_trees.specs.declared.tree.Refutation.TheVariants.{rolls-Cases, rolls-Quotient, rolls-Round, rolls-Split}
use Rattle.refutation_trees.specs.declared.tree.Refutation.TheFolds.{fold-roll-Refutation}

pub plug_all_push : (fs : List Frame) (f : Frame) (t : Refutation) → plug_all (fs ++ f ∷ []) t ≡ plug_all fs (plug f t)
plug_all_push [] f t = refl
plug_all_push (g ∷ fs) f t = ap (plug g) (plug_all_push fs f t)

pub plug_all_pushed : (fs us : List Frame) (f : Frame) (t : Refutation) → us ≡ fs ++ f ∷ [] → plug_all us t ≡ plug_all fs (plug f t)
plug_all_pushed fs us f t h = ap (λ (xs : List Frame). plug_all xs t) h ∙ plug_all_push fs f t

pub pending_push : (fs us : List Frame) (f : Frame) → us ≡ fs ++ f ∷ [] → pending us ≡ pending fs + pending_of f
pending_push fs us f h = ap pending h ∙ sum_by_push pending_of fs f

-- down from a node to a sub
pub went-down : (fs us : List Frame) (f : Frame) (here sub got whole : Refutation) → us ≡ fs ++ f ∷ [] → here ≡ plug f sub → got ≡ sub → plug_all fs here ≡ whole → plug_all us got ≡ whole
went-down fs us f here sub got whole u h g w = ap (plug_all us) g ∙ plug_all_pushed fs us f sub u ∙ ap (plug_all fs) (sym h) ∙ w

pub went-less : (fs us : List Frame) (f : Frame) (here sub got : Refutation) (total : ℕ) → us ≡ fs ++ f ∷ [] → pending_of f + size sub ≤ size here → got ≡ sub → pending fs + size here ≤ total → pending us + size got ≤ total
went-less fs us f here sub got total u h g w =
    let pushed = pending_push fs us f u in
    let same : size got ≡ size sub = ap size g in
    omega (arith, pushed, same, h, w)

pub size-Round : (ms : List (ℕ × ℤ)) (d : ℤ) (sub here : Refutation) → here ≡ Round ms d sub → 1 + size sub ≤ size here
size-Round ms d sub here h = let node : size here ≡ size sub + 3 = ap size (h ∙ sym (rolls-Round ms d sub)) ∙ fold-roll-Refutation ℕ size_step _ in omega (arith, node)

pub size-Split : (lin : Linear) (b a here : Refutation) → here ≡ Split lin b a → (size a + 2) + size b ≤ size here
size-Split lin b a here h = let node : size here ≡ size b + size a + 3 = ap size (h ∙ sym (rolls-Split lin b a)) ∙ fold-roll-Refutation ℕ size_step _ in omega (arith, node)

pub size-Quotient : (lit : ℕ) (sub here : Refutation) → here ≡ Quotient lit sub → 1 + size sub ≤ size here
size-Quotient lit sub here h = let node : size here ≡ size sub + 2 = ap size (h ∙ sym (rolls-Quotient lit sub)) ∙ fold-roll-Refutation ℕ size_step _ in omega (arith, node)

-- what `get` answers
pub at-some : (xs : List Refutation) (n : ℕ) (x : Refutation) → slice_get xs n ≡ Some x → x ≡ get_or xs n x
at-some [] n x h = absurd (cc)
at-some (y ∷ xs) zero x h = cc
at-some (y ∷ xs) (suc n) x h = at-some xs n x h

pub at-none : (xs : List Refutation) (n : ℕ) → slice_get xs n ≡ None → length xs ≤ n
at-none [] n h = omega arith
at-none (y ∷ xs) zero h = absurd (cc)
at-none (y ∷ xs) (suc n) h = let more : length xs ≤ n = at-none xs n h in omega arith

-- the subs from one on
pub drop-at : (xs : List Refutation) (n : ℕ) (x : Refutation) → slice_get xs n ≡ Some x → n < length xs → drop n xs ≡ x ∷ drop (n + 1) xs
drop-at xs n x h lt = drop_more xs n x lt ∙ ap (λ (y : Refutation). y ∷ drop (n + 1) xs) (sym (at-some xs n x h))

counted : (made more : List Refutation) (t : Refutation) (n : ℕ) → more ≡ made ++ t ∷ [] → n ≡ length more → length made + 1 ≡ n
counted made more t n m l = let sum = length-append made (t ∷ []) in let is : length more ≡ length (made ++ t ∷ []) = ap length m in omega (arith, sum, is)

size-Cases : (which : ℕ) (subs : List Refutation) → size (Cases which subs) ≡ sizes (map size subs) + 2
size-Cases which subs = ap size (sym (rolls-Cases which subs)) ∙ fold-roll-Refutation ℕ size_step _

pub cases-more : (which : ℕ) (fs us : List Frame) (subs : Bor (List Refutation)) (made more : List Refutation) (t s : Refutation) (n : ℕ)
    → us ≡ fs ++ frame.Cases which subs more ∷ [] → more ≡ made ++ t ∷ [] → n ≡ length more → slice_get subs.now n ≡ Some s → n < length subs.now
    → plug_all us s ≡ plug_all fs (Cases which (made ++ t ∷ drop (length made + 1) subs.now))
cases-more which fs us subs made more t s n u m l h lt =
    let rest : s ∷ drop (length more + 1) subs.now ≡ drop (length made + 1) subs.now =
    ap (λ (k : ℕ). s ∷ drop (k + 1) subs.now) (sym l) ∙ sym (drop-at subs.now n s h lt) ∙ ap (λ (k : ℕ). drop k subs.now) (sym (counted made more t n m l)) in
    plug_all_pushed fs us (frame.Cases which subs more) s u
    ∙ ap (λ (xs : List Refutation). plug_all fs (Cases which (xs ++ s ∷ drop (length more + 1) subs.now))) m
    ∙ ap (λ (xs : List Refutation). plug_all fs (Cases which xs)) (append_assoc made (t ∷ []) (s ∷ drop (length more + 1) subs.now))
    ∙ ap (λ (xs : List Refutation). plug_all fs (Cases which (made ++ t ∷ xs))) rest

pub cases-done : (which : ℕ) (fs : List Frame) (subs made more : List Refutation) (t : Refutation) (n : ℕ)
    → more ≡ made ++ t ∷ [] → n ≡ length more → slice_get subs n ≡ None
    → plug_all fs (Cases which more) ≡ plug_all fs (Cases which (made ++ t ∷ drop (length made + 1) subs))
cases-done which fs subs made more t n m l h =
    let few : length subs ≤ length made + 1 = let c = counted made more t n m l in let s = at-none subs n h in omega (arith, c, s) in
    ap (λ (xs : List Refutation). plug_all fs (Cases which xs)) (m ∙ ap (λ (xs : List Refutation). made ++ t ∷ xs) (sym (drop_all (length made + 1) subs few)))

pub cases-pending : (which : ℕ) (fs us : List Frame) (subs : Bor (List Refutation)) (made more : List Refutation) (t s : Refutation) (n : ℕ)
    → us ≡ fs ++ frame.Cases which subs more ∷ [] → more ≡ made ++ t ∷ [] → n ≡ length more → slice_get subs.now n ≡ Some s → n < length subs.now
    → pending us + size s < pending fs + (sizes (map size (drop (length made + 1) subs.now)) + 1)
cases-pending which fs us subs made more t s n u m l h lt =
    let pushed = pending_push fs us (frame.Cases which subs more) u in
    let here : sizes (map size (drop (length made + 1) subs.now)) ≡ size s + 1 + sizes (map size (drop (n + 1) subs.now)) =
    ap (λ (k : ℕ). sizes (map size (drop k subs.now))) (counted made more t n m l) ∙ ap (λ (xs : List Refutation). sizes (map size xs)) (drop-at subs.now n s h lt) in
    let same : sizes (map size (drop (length more + 1) subs.now)) ≡ sizes (map size (drop (n + 1) subs.now)) = ap (λ (k : ℕ). sizes (map size (drop (k + 1) subs.now))) (sym l) in
    omega (arith, pushed, here, same)

pub cases-first : (which : ℕ) (fs us : List Frame) (subs : Bor (List Refutation)) (made : List Refutation) (s : Refutation)
    → us ≡ fs ++ frame.Cases which subs made ∷ [] → made ≡ [] → slice_get subs.now 0 ≡ Some s → 0 < length subs.now → plug_all us s ≡ plug_all fs (Cases which subs.now)
cases-first which fs us subs made s u m h lt =
    plug_all_pushed fs us (frame.Cases which subs made) s u
    ∙ ap (λ (xs : List Refutation). plug_all fs (Cases which (xs ++ s ∷ drop (length xs + 1) subs.now))) m
    ∙ ap (λ (xs : List Refutation). plug_all fs (Cases which xs)) (sym (drop-at subs.now 0 s h lt))

pub first-pending : (which : ℕ) (fs us : List Frame) (subs : Bor (List Refutation)) (made : List Refutation) (s : Refutation)
    → us ≡ fs ++ frame.Cases which subs made ∷ [] → made ≡ [] → slice_get subs.now 0 ≡ Some s → 0 < length subs.now → pending us + size s ≤ pending fs + size (Cases which subs.now)
first-pending which fs us subs made s u m h lt =
    let pushed = pending_push fs us (frame.Cases which subs made) u in
    let node : size (Cases which subs.now) ≡ sizes (map size subs.now) + 2 = size-Cases which subs.now in
    let here : sizes (map size subs.now) ≡ size s + 1 + sizes (map size (drop (0 + 1) subs.now)) = ap (λ (xs : List Refutation). sizes (map size xs)) (drop-at subs.now 0 s h lt) in
    let same : sizes (map size (drop (length made + 1) subs.now)) ≡ sizes (map size (drop (0 + 1) subs.now)) = ap (λ (xs : List Refutation). sizes (map size (drop (length xs + 1) subs.now))) m in
    omega (arith, pushed, node, here, same)

pub first-smaller : (which : ℕ) (subs : List Refutation) (s : Refutation) → slice_get subs 0 ≡ Some s → 0 < length subs → size s < size (Cases which subs)
first-smaller which subs s h lt =
    let node : size (Cases which subs) ≡ sizes (map size subs) + 2 = size-Cases which subs in
    let here : sizes (map size subs) ≡ size s + 1 + sizes (map size (drop (0 + 1) subs)) = ap (λ (xs : List Refutation). sizes (map size xs)) (drop-at subs 0 s h lt) in
    omega (arith, node, here)

pub cases-none : (which : ℕ) (fs : List Frame) (subs made : List Refutation) → made ≡ [] → slice_get subs 0 ≡ None → plug_all fs (Cases which made) ≡ plug_all fs (Cases which subs)
cases-none which fs subs made m h = ap (λ (xs : List Refutation). plug_all fs (Cases which xs)) (m ∙ sym (drop_all 0 subs (at-none subs 0 h)))
