-- In an arena a term has the text of its node over the texts of its parts.
use Rattle.std.proofs.Common.{◌≡◌, ℕ, zero, suc, ◌+◌, ◌<◌, ◌≤◌, List, [], ◌∷◌, ◌++◌, length, get_or, true, refl, ap, sym, ◌∙◌, subst, arith, length-append, codes}
use Rattle.std.proofs.lemmas.List.{get_or_append_left, get_or_push}
use Rattle.std.proofs.lemmas.Option.{get_or_from_slice_get, slice_get_within}
use Rattle.std.specs.Prelude.{slice_get, Some, nat_lt}
use Rattle.std.specs.List.{list_all}
use Rattle.term_tree.specs.declared.node.TermId.{TermId}
use Rattle.term_tree.specs.declared.node.Node.{Node}
use Rattle.term_tree.specs.declared.node.Node.TheVariants.{Num, True, False, Var, LetVar, Pred, Op, Divisible, Let, Forall, Exists}
use Rattle.term_tree.specs.Arena.{is_below, has_parts_below}
use Rattle.term_tree.proofs.Public.{below_from, both_true}
use Rattle.answer_text.specs.Names.{after_spaces}
use Rattle.answer_text.specs.Terms.{operator_word, divisible_text, node_text, text_in, texts_from, term_text}

same_arguments : (p q : ℕ → List ℕ) (n : ℕ) (args : List TermId) → ((c : ℕ) → c < n → p c ≡ q c) → list_all (is_below n) args ≡ true
    → after_spaces (λ arg. p arg.0) args ≡ after_spaces (λ arg. q arg.0) args
same_arguments p q n [] same h = refl
same_arguments p q n (arg ∷ args) same h =
    let both = both_true (nat_lt arg.0 n) (list_all (is_below n) args) h in
    ap (λ t. (codes " " ++ t) ++ after_spaces (λ a. p a.0) args) (same arg.0 (below_from arg.0 n both.0))
    ∙ ap (λ t. (codes " " ++ q arg.0) ++ t) (same_arguments p q n args same both.1)

-- the text of a node rests on its parts alone
same_parts : (p q : ℕ → List ℕ) (n : ℕ) (node : Node) → ((c : ℕ) → c < n → p c ≡ q c) → has_parts_below n node ≡ true → node_text p node ≡ node_text q node
same_parts p q n (Num k) same h = refl
same_parts p q n True same h = refl
same_parts p q n False same h = refl
same_parts p q n (Var binder sort) same h = refl
same_parts p q n (LetVar bound) same h = refl
same_parts p q n (Pred pred args) same h = refl
same_parts p q n (Op op args) same h = ap (λ t. codes "(" ++ operator_word op ++ t ++ codes ")") (same_arguments p q n args same h)
same_parts p q n (Divisible by arg) same h =
    ap (λ t. divisible_text by ++ t ++ codes ")") (same arg.0 (below_from arg.0 n h))
same_parts p q n (Let bound body) same h = refl
same_parts p q n (Forall first sorts body) same h = refl
same_parts p q n (Exists first sorts body) same h = refl

-- what stands earlier stays
keeps : (earlier : List (List ℕ)) (nodes : List Node) (k : ℕ) → k < length earlier → text_in (texts_from earlier nodes) k ≡ text_in earlier k
keeps earlier [] k h = refl
keeps earlier (node ∷ nodes) k h =
    let x : List ℕ = node_text (text_in earlier) node in
    let longer : k < length (earlier ++ x ∷ []) = omega (arith, length-append earlier (x ∷ [])) in
    keeps (earlier ++ x ∷ []) nodes k longer ∙ get_or_append_left earlier (x ∷ []) [] k h

unfolded_from : (earlier : List (List ℕ)) (nodes : List Node) (i n : ℕ) (d : Node) → n ≡ length earlier + i → i < length nodes → has_parts_below n (get_or nodes i d) ≡ true
    → text_in (texts_from earlier nodes) n ≡ node_text (text_in (texts_from earlier nodes)) (get_or nodes i d)
unfolded_from earlier [] i n d e h below = absurd (omega arith)
unfolded_from earlier (node ∷ nodes) zero n d e h below =
    let x : List ℕ = node_text (text_in earlier) node in
    let here : n ≡ length earlier = omega arith in
    let within : n < length (earlier ++ x ∷ []) = omega (arith, length-append earlier (x ∷ [])) in
    let last : text_in (earlier ++ x ∷ []) n ≡ x = ap (text_in (earlier ++ x ∷ [])) here ∙ get_or_push earlier x [] (length earlier) refl in
    keeps (earlier ++ x ∷ []) nodes n within ∙ last
    ∙ same_parts (text_in earlier) (text_in (texts_from earlier (node ∷ nodes))) n node (λ c lt. sym (keeps earlier (node ∷ nodes) c (omega arith))) below
unfolded_from earlier (node ∷ nodes) (suc i) n d e h below =
    let x : List ℕ = node_text (text_in earlier) node in
    unfolded_from (earlier ++ x ∷ []) nodes i n d (omega (arith, length-append earlier (x ∷ []))) (omega arith) below

-- the text of a term by its node
pub text_at : (nodes : List Node) (id : ℕ) (node : Node) → slice_get nodes id ≡ Some node → has_parts_below id node ≡ true
    → term_text nodes id ≡ node_text (term_text nodes) node
text_at nodes id node is below =
    let same : get_or nodes id node ≡ node = get_or_from_slice_get nodes id node node is in
    unfolded_from [] nodes id id node (omega arith) (slice_get_within nodes id node is) (subst (λ (m : Node). has_parts_below id m ≡ true) (sym same) below)
    ∙ ap (node_text (term_text nodes)) same

length-texts : (earlier : List (List ℕ)) (nodes : List Node) → length (texts_from earlier nodes) ≡ length earlier + length nodes
length-texts earlier [] = omega arith
length-texts earlier (node ∷ nodes) =
    let x : List ℕ = node_text (text_in earlier) node in omega (arith, length-texts (earlier ++ x ∷ []) nodes, length-append earlier (x ∷ []))

past : (texts : List (List ℕ)) (k : ℕ) → length texts ≤ k → text_in texts k ≡ []
past [] k h = refl
past (t ∷ texts) zero h = absurd (omega arith)
past (t ∷ texts) (suc k) h = past texts k (omega arith)

-- past the nodes there is no term
pub text_past : (nodes : List Node) (id : ℕ) → length nodes ≤ id → term_text nodes id ≡ []
text_past nodes id h = past (texts_from [] nodes) id (omega (arith, length-texts [] nodes))
