-- What is found in what waits in a walk.
use Rattle.std.proofs.Common.{◌≡◌, ◌<◌, ◌≤◌, ◌+◌, ◌-◌, min, append_assoc, Err, Some, ℕ, zero, suc, List, [], ◌∷◌, ◌++◌, map, take, drop, length, get_or, refl, ap, sym, ◌∙◌, arith, true, Bool, Bor, Vec, Global, append-nil}
use Rattle.std.proofs.Math.Seq.{take-append_seam, take-length}
use Rattle.std.proofs.lemmas.List.{drop_min, drop_more, length-drop, length-map, take-append-le, take_min}
use Rattle.std.specs.Prelude.{slice_get, slice_index_or}
use Rattle.std.proofs.lemmas.List.Sums.{sum_by_push}
use Rattle.lin_atoms.specs.Denial.{lit_fits}
use Rattle.lin_atoms.specs.Linear.{Linear}
use Rattle.lin_atoms.specs.declared.lit.Lit.{Lit}
use Rattle.lin_atoms.specs.declared.lit.Lit.TheVariants.{Le}
use Rattle.lin_atoms.specs.declared.form.Form.{Form}
use Rattle.refutation_trees.specs.Combination.{one_minus}
use Rattle.refutation_trees.specs.Flatten.{disjunctions, literals}
use Rattle.refutation_trees.specs.Refutation.{Finding, Sound, Illegal, Wide, Judge, checked, each_part, followed_by, form_end, has_parts, judge_step, judged, judged_at}
use Rattle.farkas_proof.specs.machinery.Tells.{Tells}
use Rattle.farkas_proof.specs.declared.stop.CheckStop.{CheckStop}
use Rattle.farkas_proof.specs.declared.stop.CheckStop.TheVariants.{Memory as OutOfMemory, NoProof, SumWide}
use Rattle.refutation_trees.specs.machinery.Sizes.{size, sizes}
use Rattle.farkas_proof.specs.machinery.Walk.{Leads, left_over, left_to, nothing_left, opened, replaced, weights, weight_of, work_step}
use Rattle.refutation_trees.specs.declared.tree.Refutation.{Refutation}
use Rattle.refutation_trees.specs.declared.tree.Refutation.TheFolds.{fold-roll-Refutation}
use Rattle.refutation_trees.specs.declared.tree.Refutation.TheOpen.{Refutation-F}
use Rattle.refutation_trees.specs.declared.tree.Refutation.TheVariants.{Cases, rolls-Cases}
use Rattle.farkas_proof.specs.declared.walk.Work.{Work}
use Rattle.farkas_proof.specs.declared.walk.Work.TheVariants.{Tree, Part, Forget}

pub opened-push : (cases : List (Bor (List Form))) (parts : Bor (List Form)) → opened (cases ++ parts ∷ []) ≡ opened cases ++ parts.now ∷ []
opened-push [] parts = refl
opened-push (c ∷ cases) parts = ap (λ cs. c.now ∷ cs) (opened-push cases parts)

pub left_over-push : (end : ℕ) (rest : Judge) (ws : List Work) (w : Work) → left_over end rest (ws ++ w ∷ []) ≡ work_step end w (left_over end rest ws)
left_over-push end rest [] w = refl
left_over-push end rest (v ∷ ws) w = left_over-push end (work_step end v rest) ws w

-- what is found where something more waits
pub left_to-push : (end : ℕ) (ws us : List Work) (w : Work) (lits : List Lit) (cases : List (List Form)) (next : ℕ) → us ≡ ws ++ w ∷ [] → left_to end us lits cases next ≡ work_step end w (left_to end ws) lits cases next
left_to-push end ws us w lits cases next h = ap (λ (vs : List Work). left_to end vs lits cases next) h ∙ ap (λ (j : Judge). j lits cases next) (left_over-push end nothing_left ws w)

pub followed-sound : (found : Finding) → followed_by found (λ n. Sound n) ≡ found
followed-sound (Sound n) = refl
followed-sound (Illegal n) = refl
followed-sound (Wide n) = refl

pub followed-same : (found : Finding) (f g : ℕ → Finding) → ((n : ℕ) → f n ≡ g n) → followed_by found f ≡ followed_by found g
followed-same (Sound n) f g h = h n
followed-same (Illegal n) f g h = refl
followed-same (Wide n) f g h = refl

-- a tree, the next, and then the rest
pub followed-twice : (found : Finding) (f g h : ℕ → Finding) → ((n : ℕ) → g n ≡ followed_by (f n) h) → followed_by (followed_by found f) h ≡ followed_by found g
followed-twice (Sound n) f g h e = sym (e n)
followed-twice (Illegal n) f g h e = refl
followed-twice (Wide n) f g h e = refl

pub same_judged : (tree : Refutation) (e f : ℕ) (l m : List Lit) (c d : List (List Form)) (a b : ℕ) → e ≡ f → l ≡ m → c ≡ d → a ≡ b → judged_at lit_fits e tree l c a ≡ judged_at lit_fits f tree m d b
same_judged tree e f l m c d a b p q r s =
    ap (λ (x : ℕ). judged_at lit_fits x tree l c a) p ∙ ap (λ (x : List Lit). judged_at lit_fits f tree x c a) q ∙ ap (λ (x : List (List Form)). judged_at lit_fits f tree m x a) r ∙ ap (λ (x : ℕ). judged_at lit_fits f tree m d x) s

-- literals that come now are forgotten, where at most `depth` are known again
pub forgets : (end : ℕ) (ws us : List Work) (lits more : List Lit) (cases : List (List Form)) (next depth : ℕ)
    → us ≡ ws ++ Forget depth ∷ [] → length lits ≡ depth → left_to end us (lits ++ more) cases next ≡ left_to end ws lits cases next
forgets end ws us lits more cases next depth u d =
    let taken : take depth (lits ++ more) ≡ lits = ap (λ (k : ℕ). take k (lits ++ more)) (sym d) ∙ take-append_seam lits more in
    left_to-push end ws us (Forget depth) (lits ++ more) cases next u ∙ ap (λ (xs : List Lit). left_to end ws xs cases next) taken

last-is : (ws : List Work) (w : Work) (n : ℕ) → n ≡ length ws - 1 → Some w ≡ slice_get ws n → ws ≡ take n ws ++ w ∷ []
last-is [] w n h is = absurd (cc)
last-is (v ∷ []) w zero h is = let same : w ≡ v = cc in ap (λ (x : Work). x ∷ []) (sym same)
last-is (v ∷ []) w (suc n) h is = absurd (omega arith)
last-is (v ∷ u ∷ ws) w zero h is = absurd (omega arith)
last-is (v ∷ u ∷ ws) w (suc n) h is = ap (λ (xs : List Work). v ∷ xs) (last-is (u ∷ ws) w n (omega arith) is)

-- they are forgotten too, where what waits first forgets those before them
pub forgets-already : (end : ℕ) (ws : List Work) (lits more : List Lit) (cases : List (List Form)) (next depth least : ℕ)
    → Some (Forget least) ≡ slice_get ws (length ws - 1) → least ≤ depth → length lits ≡ depth → left_to end ws (lits ++ more) cases next ≡ left_to end ws lits cases next
forgets-already end ws lits more cases next depth least is le d =
    let before = take (length ws - 1) ws in
    let split = last-is ws (Forget least) (length ws - 1) refl is in
    let within : least ≤ length lits = omega arith in
    left_to-push end before ws (Forget least) (lits ++ more) cases next split
    ∙ ap (λ (xs : List Lit). left_to end before xs cases next) (take-append-le least lits more within)
    ∙ sym (left_to-push end before ws (Forget least) lits cases next split)

-- more literals, which are forgotten later
pub with-more : (end : ℕ) (tree : Refutation) (ws us : List Work) (lits more ls : List Lit) (cases : List (List Form)) (at : ℕ)
    → ((n : ℕ) → left_to end us (lits ++ more) cases n ≡ left_to end ws lits cases n) → ls ≡ lits ++ more
    → followed_by (judged_at lit_fits end tree ls cases at) (left_to end us ls cases) ≡ followed_by (judged_at lit_fits end tree (lits ++ more) cases at) (left_to end ws lits cases)
with-more end tree ws us lits more ls cases at rest l =
    ap (λ (xs : List Lit). followed_by (judged_at lit_fits end tree xs cases at) (left_to end us xs cases)) l
    ∙ followed-same (judged_at lit_fits end tree (lits ++ more) cases at) (left_to end us (lits ++ more) cases) (left_to end ws lits cases) rest

-- a part, whose disjunctions are put away later
pub with-part : (end which : ℕ) (tree : Refutation) (part : Form) (ws us : List Work) (w : Work) (lits more : List Lit) (cases cs : List (List Form)) (at : ℕ)
    → us ≡ ws ++ w ∷ [] → ((n : ℕ) → work_step end w (left_to end ws) lits cs n ≡ left_to end ws lits cases n) → more ≡ literals part → cs ≡ replaced cases which part
    → followed_by (judged_at lit_fits end tree (lits ++ more) cs at) (left_to end us lits cs) ≡ followed_by (judged_at lit_fits end tree (lits ++ literals part) (replaced cases which part) at) (left_to end ws lits cases)
with-part end which tree part ws us w lits more cases cs at u o m c =
    followed-same (judged_at lit_fits end tree (lits ++ more) cs at) (left_to end us lits cs) (left_to end ws lits cases) (λ n. left_to-push end ws us w lits cs n u ∙ o n)
    ∙ ap (λ (f : Finding). followed_by f (left_to end ws lits cases)) (same_judged tree end end (lits ++ more) (lits ++ literals part) cs (replaced cases which part) at at refl (ap (λ (xs : List Lit). lits ++ xs) m) c refl)

-- both sides of a split
pub split-leads : (end e : ℕ) (low high : Refutation) (lin : Linear) (lits l : List Lit) (ls hs : Lit) (cases c : List (List Form)) (at a : ℕ) (rest middle : ℕ → Finding) (room : Bool)
    → room ≡ true → ls ≡ Le lin → hs ≡ Le (one_minus lin) → e ≡ end → l ≡ lits → c ≡ cases → a ≡ at
    → ((next : ℕ) → middle next ≡ followed_by (judged_at lit_fits end high (lits ++ hs ∷ []) cases next) rest)
    → followed_by (checked true room at (followed_by (judged_at lit_fits end low (lits ++ Le lin ∷ []) cases (at + 1)) (judged_at lit_fits end high (lits ++ Le (one_minus lin) ∷ []) cases))) rest
    ≡ followed_by (judged_at lit_fits e low (l ++ ls ∷ []) c (a + 1)) middle
split-leads end e low high lin lits l ls hs cases c at a rest middle room r is ish p q s t m =
    let above : ℕ → Finding = judged_at lit_fits end high (lits ++ Le (one_minus lin) ∷ []) cases in
    let below : Finding = judged_at lit_fits end low (lits ++ Le lin ∷ []) cases (at + 1) in
    ap (λ b. followed_by (checked true b at (followed_by below above)) rest) r
    ∙ followed-twice below above middle rest (λ n. m n ∙ ap (λ (x : Lit). followed_by (judged_at lit_fits end high (lits ++ x ∷ []) cases n) rest) ish)
    ∙ ap (λ (f : Finding). followed_by f middle) (same_judged low end e (lits ++ Le lin ∷ []) (l ++ ls ∷ []) cases c (at + 1) (a + 1) (sym p) (ap (λ (x : Lit). lits ++ x ∷ []) (sym is) ∙ ap (λ (xs : List Lit). xs ++ ls ∷ []) (sym q)) (sym s) (ap (λ (n : ℕ). n + 1) (sym t)))

-- one part and its tree, before the others
part-step : (end which : ℕ) (subs : List Refutation) (parts : List Form) (lits : List Lit) (cases : List (List Form)) (at i : ℕ) (sub : Refutation) (part : Form) → i < length subs → i < length parts → sub ≡ get_or subs i sub → part ≡ get_or parts i part
    → each_part (map (judged_at lit_fits end) (drop i subs)) (drop i parts) which lits cases at
    ≡ followed_by (judged_at lit_fits end sub (lits ++ literals part) (take which cases ++ (disjunctions part ++ drop (which + 1) cases)) at) (each_part (map (judged_at lit_fits end) (drop (i + 1) subs)) (drop (i + 1) parts) which lits cases)
part-step end which subs parts lits cases at i sub part h g is ip =
    let first : drop i subs ≡ sub ∷ drop (i + 1) subs = drop_more subs i sub h ∙ ap (λ (s : Refutation). s ∷ drop (i + 1) subs) (sym is) in
    let second : drop i parts ≡ part ∷ drop (i + 1) parts = drop_more parts i part g ∙ ap (λ (p : Form). p ∷ drop (i + 1) parts) (sym ip) in
    ap (λ (ss : List Refutation). each_part (map (judged_at lit_fits end) ss) (drop i parts) which lits cases at) first
    ∙ ap (λ (ps : List Form). each_part (map (judged_at lit_fits end) (sub ∷ drop (i + 1) subs)) ps which lits cases at) second

-- one part more waits, before those behind it
pub part-waits : (end which : ℕ) (subs : List Refutation) (parts : List Form) (vs ws us : List Work) (i left : ℕ) (tree : Bor Refutation) (part : Bor Form) (lits : List Lit) (cases : List (List Form)) (next : ℕ)
    → us ≡ ws ++ Part tree part which ∷ [] → i + 1 ≡ left → i < length subs → i < length parts → tree.now ≡ get_or subs i tree.now → part.now ≡ get_or parts i part.now
    → ((n : ℕ) → left_to end ws lits cases n ≡ followed_by (each_part (map (judged_at lit_fits end) (drop left subs)) (drop left parts) which lits cases n) (left_to end vs lits cases))
    → left_to end us lits cases next ≡ followed_by (each_part (map (judged_at lit_fits end) (drop i subs)) (drop i parts) which lits cases next) (left_to end vs lits cases)
part-waits end which subs parts vs ws us i left tree part lits cases next u l h g is ip known =
    let there : Finding = judged_at lit_fits end tree.now (lits ++ literals part.now) (replaced cases which part.now) next in
    let rest : ℕ → ℕ → Finding = λ k. each_part (map (judged_at lit_fits end) (drop k subs)) (drop k parts) which lits cases in
    left_to-push end ws us (Part tree part which) lits cases next u
    ∙ sym (followed-twice there (rest left) (left_to end ws lits cases) (left_to end vs lits cases) known)
    ∙ ap (λ (k : ℕ). followed_by (followed_by there (rest k)) (left_to end vs lits cases)) (sym l)
    ∙ ap (λ (f : Finding). followed_by f (left_to end vs lits cases)) (sym (part-step end which subs parts lits cases next i tree.now part.now h g is ip))

pub weights-push : (ws : List Work) (w : Work) → weights (ws ++ w ∷ []) ≡ weights ws + weight_of w
weights-push ws w = sum_by_push weight_of ws w

-- the turns of the parts from one on
pub part-weighs : (subs : List Refutation) (vs ws us : List Work) (i left which : ℕ) (tree : Bor Refutation) (part : Bor Form)
    → us ≡ ws ++ Part tree part which ∷ [] → i + 1 ≡ left → i < length subs → tree.now ≡ get_or subs i tree.now
    → weights ws ≡ weights vs + sizes (map size (drop left subs)) → weights us ≡ weights vs + sizes (map size (drop i subs))
part-weighs subs vs ws us i left which tree part u l h is known =
    let first : sizes (map size (drop i subs)) ≡ size tree.now + 1 + sizes (map size (drop (i + 1) subs)) = ap (λ (ss : List Refutation). sizes (map size ss)) (drop_more subs i tree.now h ∙ ap (λ (s : Refutation). s ∷ drop (i + 1) subs) (sym is)) in
    let here : sizes (map size (drop (i + 1) subs)) ≡ sizes (map size (drop left subs)) = ap (λ (k : ℕ). sizes (map size (drop k subs))) l in
    let pushed : weights us ≡ weights ws + (size tree.now + 1) = ap weights u ∙ weights-push ws (Part tree part which) in
    omega arith

pub leads-err : (before now : Finding) (stop : CheckStop) → Leads before now (Err stop) → Tells before (Err stop)
leads-err before now OutOfMemory h = tt
leads-err before now (NoProof n) h = h
leads-err before now (SumWide n) h = h

opened-append : (bs cs : List (Bor (List Form))) → opened (bs ++ cs) ≡ opened bs ++ opened cs
opened-append [] cs = refl
opened-append (b ∷ bs) cs = ap (λ xs. b.now ∷ xs) (opened-append bs cs)

opened-take : (n : ℕ) (cs : List (Bor (List Form))) → opened (take n cs) ≡ take n (opened cs)
opened-take zero cs = refl
opened-take (suc n) [] = refl
opened-take (suc n) (c ∷ cs) = ap (λ xs. c.now ∷ xs) (opened-take n cs)

opened-drop : (n : ℕ) (cs : List (Bor (List Form))) → opened (drop n cs) ≡ drop n (opened cs)
opened-drop zero cs = refl
opened-drop (suc n) [] = refl
opened-drop (suc n) (c ∷ cs) = opened-drop n cs

pub replaced-is : (cs ms ns fs : List (Bor (List Form))) (which before behind : ℕ) (part : Form)
    → ms ≡ take before cs → before ≡ min which (length cs) → opened ns ≡ opened ms ++ disjunctions part → fs ≡ ns ++ take (length cs - behind) (drop behind cs) → behind ≡ min (which + 1) (length cs)
    → opened fs ≡ replaced (opened cs) which part
replaced-is cs ms ns fs which before behind part m b n f d =
    let front : opened ms ≡ take which (opened cs) = ap opened (m ∙ ap (λ (k : ℕ). take k cs) b ∙ take_min which cs) ∙ opened-take which cs in
    let back : opened (drop behind cs) ≡ drop (which + 1) (opened cs) = ap opened (ap (λ (k : ℕ). drop k cs) d ∙ drop_min (which + 1) cs) ∙ opened-drop (which + 1) cs in
    let all : take (length cs - behind) (drop behind cs) ≡ drop behind cs = ap (λ (k : ℕ). take k (drop behind cs)) (sym (length-drop behind cs)) ∙ take-length (drop behind cs) in
    ap opened (f ∙ ap (λ (xs : List (Bor (List Form))). ns ++ xs) all) ∙ opened-append ns (drop behind cs) ∙ ap (λ (xs : List (List Form)). xs ++ opened (drop behind cs)) n ∙ append_assoc (opened ms) (disjunctions part) (opened (drop behind cs))
    ∙ ap (λ (xs : List (List Form)). xs ++ (disjunctions part ++ opened (drop behind cs))) front ∙ ap (λ (xs : List (List Form)). take which (opened cs) ++ (disjunctions part ++ xs)) back

-- a walk that begins finds what is found in its tree
pub begins : (end : ℕ) (form : Form) (tree : Bor Refutation) (derived : Vec Lit Global) (ws us : List Work) (flat first none lits : List Lit) (cs cases : List (Bor (List Form)))
    → end ≡ form_end form → derived.items ≡ [] → ws ≡ [] → us ≡ ws ++ Tree tree derived ∷ [] → first ≡ [] → flat ≡ first ++ literals form → none ≡ [] → lits ≡ none ++ flat → cs ≡ [] → opened cases ≡ opened cs ++ disjunctions form
    → left_to end us lits (opened cases) 0 ≡ judged lit_fits form tree.now
begins end form tree derived ws us flat first none lits cs cases e d w u o f n l p q =
    left_to-push end ws us (Tree tree derived) lits (opened cases) 0 u
    ∙ ap (λ (vs : List Work). work_step end (Tree tree derived) (left_to end vs) lits (opened cases) 0) w
    ∙ followed-sound (judged_at lit_fits end tree.now (lits ++ derived.items) (opened cases) 0)
    ∙ same_judged tree.now end (form_end form) (lits ++ derived.items) (literals form) (opened cases) (disjunctions form) 0 0 e
    (ap (λ (ls : List Lit). lits ++ ls) d ∙ append-nil lits ∙ l ∙ ap (λ (ls : List Lit). ls ++ flat) n ∙ f ∙ ap (λ (ls : List Lit). ls ++ literals form) o)
    (q ∙ ap (λ (xs : List (Bor (List Form))). opened xs ++ disjunctions form) p) refl

-- a tree on one more literal, which the literals derive
pub round-leads : (end : ℕ) (tree : Refutation) (lits ls : List Lit) (cases : List (List Form)) (at : ℕ) (rest : ℕ → Finding) (legal : List Lit → Bool) (derived : List Lit → Lit) (lit : Lit)
    → ls ≡ lits → legal ls ≡ true → lit_fits (derived ls) ≡ true → lit ≡ derived ls
    → followed_by (checked (legal lits) (lit_fits (derived lits)) at (judged_at lit_fits end tree (lits ++ derived lits ∷ []) cases (at + 1))) rest ≡ followed_by (judged_at lit_fits end tree (lits ++ lit ∷ []) cases (at + 1)) rest
round-leads end tree lits ls cases at rest legal derived lit same h f is =
    let below : Finding = judged_at lit_fits end tree (lits ++ derived lits ∷ []) cases (at + 1) in
    ap (λ b. followed_by (checked b (lit_fits (derived lits)) at below) rest) (ap legal (sym same) ∙ h)
    ∙ ap (λ b. followed_by (checked true b at below) rest) (ap (λ (l : List Lit). lit_fits (derived l)) (sym same) ∙ f)
    ∙ ap (λ (x : Lit). followed_by (judged_at lit_fits end tree (lits ++ x ∷ []) cases (at + 1)) rest) (ap derived (sym same) ∙ sym is)

-- a node that splits a disjunction
pub judged-Cases : (end which : ℕ) (subs : List Refutation) (lits : List Lit) (cases : List (List Form)) (at : ℕ)
    → judged_at lit_fits end (Cases which subs) lits cases at ≡ checked (has_parts cases which (length subs)) true at (each_part (map (judged_at lit_fits end) subs) (slice_index_or cases which []) which lits cases (at + 1))
judged-Cases end which subs lits cases at =
    let found : List Judge = map (judged_at lit_fits end) subs in
    ap (λ (t : Refutation). judged_at lit_fits end t lits cases at) (sym (rolls-Cases which subs))
    ∙ ap (λ (j : Judge). j lits cases at) (fold-roll-Refutation Judge (judge_step lit_fits end) (Refutation-F.Cases which subs))
    ∙ ap (λ (n : ℕ). checked (has_parts cases which n) true at (each_part found (slice_index_or cases which []) which lits cases (at + 1))) (length-map subs (judged_at lit_fits end))
