-- What is gathered behind what was gathered before.
use Rattle.std.proofs.Common.{◌≡◌, ℕ, ◌+◌, ◌-◌, ◌≤◌, ◌<◌, length, take, drop, get_or, arith, Bool, ◌&&◌, ◌||◌, List, [], ◌∷◌, ◌++◌, refl, ap, sym, ◌∙◌, append_assoc}
use Rattle.std.specs.Prelude.{Option, Some, None, Result, Ok, Err, slice_get, if◌then◌else◌}
use Rattle.std.proofs.lemmas.List.{append-nil, drop_all, drop_more, take_all, take_more}
use Rattle.term_tree.specs.declared.node.Node.{Node}
use Rattle.horn_shape.specs.Clause.{content_of}
use Rattle.term_tree.specs.declared.sort.Sort.{Sort}
use Rattle.term_tree.specs.declared.node.TermId.{TermId}
use Rattle.horn_shape.specs.declared.clause.AtomUse.{AtomUse}
use Rattle.horn_shape.specs.declared.clause.HornClause.{HornClause}
use Rattle.horn_shape.specs.declared.clause.Part.{Part}
use Rattle.horn_shape.specs.declared.stop.HornStop.{HornStop}
use Rattle.horn_shape.specs.Shape.{Content, Reading, Place, nothing, beside, both, quantified_reading, either_head, at, each, implication, disjuncts, disjunct_reading, is_application}
use Rattle.horn_shape.specs.machinery.Gathering.{gained, with_vars, onto, IsMisfit}

heads_assoc : (a b c : Option AtomUse) → either_head a (either_head b c) ≡ either_head (either_head a b) c
heads_assoc a b None = refl
heads_assoc a b (Some c) = refl

head_none : (a : Option AtomUse) → either_head None a ≡ a
head_none None = refl
head_none (Some a) = refl

abbrev clause_with : ℕ → List Sort → List AtomUse → List Part → Option AtomUse → HornClause
clause_with n vars atoms guards head = record { assertion = n; vars = vars; atoms = atoms; guards = guards; head = head }

abbrev content_with : List Sort → List AtomUse → List Part → Option AtomUse → Content
content_with vars atoms guards head = record { vars = vars; atoms = atoms; guards = guards; head = head }

same_clause : (n : ℕ) (v v' : List Sort) (a a' : List AtomUse) (g g' : List Part) (h h' : Option AtomUse) → v ≡ v' → a ≡ a' → g ≡ g' → h ≡ h'
    → clause_with n v a g h ≡ clause_with n v' a' g' h'
same_clause n v v' a a' g g' h h' ev ea eg eh =
    ap (λ x. clause_with n x a g h) ev ∙ ap (λ x. clause_with n v' x g h) ea ∙ ap (λ x. clause_with n v' a' x h) eg ∙ ap (λ x. clause_with n v' a' g' x) eh

same_content : (v v' : List Sort) (a a' : List AtomUse) (g g' : List Part) (h h' : Option AtomUse) → v ≡ v' → a ≡ a' → g ≡ g' → h ≡ h'
    → content_with v a g h ≡ content_with v' a' g' h'
same_content v v' a a' g g' h h' ev ea eg eh =
    ap (λ x. content_with x a g h) ev ∙ ap (λ x. content_with v' x g h) ea ∙ ap (λ x. content_with v' a' x h) eg ∙ ap (λ x. content_with v' a' g' x) eh

pub gained_beside : (c : HornClause) (x y : Content) → gained c (beside x y) ≡ gained (gained c x) y
gained_beside c x y = same_clause c.assertion _ _ _ _ _ _ _ _
    (sym (append_assoc c.vars x.vars y.vars)) (sym (append_assoc c.atoms x.atoms y.atoms)) (sym (append_assoc c.guards x.guards y.guards)) (heads_assoc c.head x.head y.head)

pub beside_assoc : (x y z : Content) → beside (beside x y) z ≡ beside x (beside y z)
beside_assoc x y z = same_content _ _ _ _ _ _ _ _
    (append_assoc x.vars y.vars z.vars) (append_assoc x.atoms y.atoms z.atoms) (append_assoc x.guards y.guards z.guards) (sym (heads_assoc x.head y.head z.head))

pub nothing_beside : (x : Content) → beside nothing x ≡ x
nothing_beside x = ap (λ h. content_with x.vars x.atoms x.guards h) (head_none x.head)

pub both_nothing : (r : Reading) → both (Ok nothing) r ≡ r
both_nothing (Err e) = refl
both_nothing (Ok x) = ap (λ y. Ok y) (nothing_beside x)

pub both_assoc : (a b c : Reading) → both (both a b) c ≡ both a (both b c)
both_assoc (Err e) b c = refl
both_assoc (Ok x) (Err e) c = refl
both_assoc (Ok x) (Ok y) (Err e) = refl
both_assoc (Ok x) (Ok y) (Ok z) = ap (λ w. Ok w) (beside_assoc x y z)

pub onto_both : (c d : HornClause) (a b : Reading) → onto c a ≡ Ok d → onto c (both a b) ≡ onto d b
onto_both c d (Err e) b h = absurd (cc)
onto_both c d (Ok x) (Err e) h = refl
onto_both c d (Ok x) (Ok y) h =
    let same : gained c x ≡ d = cc in
    ap (λ z. Ok z) (gained_beside c x y) ∙ ap (λ z. Ok (gained z y)) same

pub misfit_both : (offsets : List ℕ) (c : HornClause) (a b : Reading) (offset : ℕ) → IsMisfit offsets (onto c a) offset → IsMisfit offsets (onto c (both a b)) offset
misfit_both offsets c (Err e) b offset h = h
misfit_both offsets c (Ok x) b offset h = absurd (absurd_ok h.1)
  where
    absurd_ok : Ok (gained c x) ≡ Err h.0 → ⊥
    absurd_ok e = absurd (cc)

gained_nothing : (c : HornClause) → gained c nothing ≡ c
gained_nothing c = same_clause c.assertion _ _ _ _ _ _ _ _ (append-nil c.vars) (append-nil c.atoms) (append-nil c.guards) refl

-- parts one after the other
pub each_here : (read : ℕ → Place → Reading) (lets ids : List TermId) (i : ℕ) (d : TermId) → i < length ids
    → each read lets (drop i ids) ≡ both (at read lets (get_or ids i d)) (each read lets (drop (i + 1) ids))
each_here read lets ids i d less = ap (each read lets) (drop_more ids i d less)

pub each_end : (c : HornClause) (read : ℕ → Place → Reading) (lets ids : List TermId) (i : ℕ) → length ids ≤ i → onto c (each read lets (drop i ids)) ≡ Ok c
each_end c read lets ids i over = ap (λ xs. onto c (each read lets xs)) (drop_all i ids over) ∙ ap (λ z. Ok z) (gained_nothing c)

pub onto_quantified : (c : HornClause) (sorts : List Sort) (r : Reading) → onto c (quantified_reading sorts r) ≡ onto (with_vars c sorts) r
onto_quantified c sorts (Err e) = refl
onto_quantified c sorts (Ok x) = ap (λ v. Ok (clause_with c.assertion v (c.atoms ++ x.atoms) (c.guards ++ x.guards) (either_head c.head x.head))) (sym (append_assoc c.vars sorts x.vars))

-- an implication is its first parts as bodies, and its last one as a clause
pub implication_split : (body clause : ℕ → Place → Reading) (place : Place) (bodies : List TermId) (last : TermId)
    → implication body clause place (bodies ++ last ∷ []) ≡ both (each body place.lets bodies) (at clause place.lets last)
implication_split body clause place [] last = sym (both_nothing (at clause place.lets last))
implication_split body clause place (id ∷ []) last =
    ap (both (at body place.lets id)) (sym (both_nothing (at clause place.lets last))) ∙ sym (both_assoc (at body place.lets id) (Ok nothing) (at clause place.lets last))
implication_split body clause place (id ∷ next ∷ bodies) last =
    ap (both (at body place.lets id)) (implication_split body clause place (next ∷ bodies) last)
    ∙ sym (both_assoc (at body place.lets id) (each body place.lets (next ∷ bodies)) (at clause place.lets last))

pub same_stop : {T : Type 0} (x y : HornStop) (a b : Result T HornStop) → a ≡ Err x → b ≡ Err y → a ≡ b → x ≡ y
same_stop x y a b h k e = cc

pub implication_last : (body clause : ℕ → Place → Reading) (place : Place) (args : List TermId) (d : TermId) → 1 ≤ length args
    → implication body clause place args ≡ both (each body place.lets (take (length args - 1) args)) (at clause place.lets (get_or args (length args - 1) d))
implication_last body clause place args d some =
    let n : ℕ = length args - 1 in
    let one_more : n + 1 ≡ length args = omega arith in
    let whole : args ≡ take n args ++ get_or args n d ∷ [] = sym (take_all (n + 1) args (omega arith)) ∙ take_more args n d (omega arith) in
    ap (implication body clause place) whole ∙ implication_split body clause place (take n args) (get_or args n d)

abbrev start_with : ℕ → List Sort → List AtomUse → List Part → HornClause
start_with n vars atoms guards = clause_with n vars atoms guards None

-- what is gathered behind nothing is the clause
pub onto_start : (n : ℕ) (vars : List Sort) (atoms : List AtomUse) (guards : List Part) (r : Reading) (c : HornClause) → vars ≡ [] → atoms ≡ [] → guards ≡ []
    → onto (start_with n vars atoms guards) r ≡ Ok c → (r ≡ Ok (content_of c)) × (c.assertion ≡ n)
onto_start n vars atoms guards r c ev ea eg h = empty r (sym (ap (λ v. onto (start_with n v atoms guards) r) ev ∙ ap (λ a. onto (start_with n [] a guards) r) ea ∙ ap (λ g. onto (start_with n [] [] g) r) eg) ∙ h)
  where
    empty : (s : Reading) → onto (start_with n [] [] []) s ≡ Ok c → (s ≡ Ok (content_of c)) × (c.assertion ≡ n)
    empty (Err e) k = absurd (cc)
    empty (Ok x) k =
        let same : gained (start_with n [] [] []) x ≡ c = cc in
        (ap (λ h. Ok (content_with x.vars x.atoms x.guards h)) (sym (head_none x.head)) ∙ ap (λ d. Ok (content_of d)) same, ap (λ d. d.assertion) (sym same))

pub onto_fails : (c : HornClause) (r : Reading) (misfit : TermId) → onto c r ≡ Err misfit → r ≡ Err misfit
onto_fails c (Err e) misfit h = cc
onto_fails c (Ok x) misfit h = absurd (cc)

pub disjuncts_more : (nodes : List Node) (headed : Bool) (lets : List TermId) (id : TermId) (ids : List TermId) (node : Node) (b : Bool) → slice_get nodes id.0 ≡ Some node
    → (headed && is_application (Some node)) ≡ b
    → disjuncts nodes headed lets (id ∷ ids)
    ≡ (if b then Err id else both (disjunct_reading nodes (Some node) (record { term = id; lets = lets })) (disjuncts nodes (headed || is_application (Some node)) lets ids))
disjuncts_more nodes headed lets id ids node b is second =
    ap (λ n. if headed && is_application n then Err id else both (disjunct_reading nodes n (record { term = id; lets = lets })) (disjuncts nodes (headed || is_application n) lets ids)) is
    ∙ ap (λ (c : Bool). if c then Err id else both (disjunct_reading nodes (Some node) (record { term = id; lets = lets })) (disjuncts nodes (headed || is_application (Some node)) lets ids)) second
