-- Texts that grow by one piece after the other.
use Rattle.std.proofs.Common.{◌≡◌, ℕ, ◌+◌, ◌-◌, ◌<◌, ◌≤◌, List, [], ◌∷◌, ◌++◌, length, map, take, drop, get_or, codes, refl, ap, sym, ◌∙◌, append_assoc, append-nil, true, arith}
use Rattle.std.specs.List.{flat_map, list_all, enumerate_from}
use Rattle.std.specs.Prelude.{nat_lt}
use Rattle.std.proofs.lemmas.List.{take_more, take_all, drop_more, drop_all, map-append, flat_map_more}
use Rattle.term_tree.specs.declared.sort.Sort.{Sort}
use Rattle.term_tree.specs.declared.script.Name.{Name}
use Rattle.term_tree.specs.declared.scalar.Value.{Value}
use Rattle.term_tree.specs.declared.node.TermId.{TermId}
use Rattle.term_tree.specs.Arena.{is_below}
use Rattle.term_tree.proofs.Public.{below_from, both_true}
use Rattle.answer_text.specs.Names.{value_text, after_spaces}
use Rattle.answer_text.specs.AnswerTexts.{parameter_text, parameters_text, atom_text}

-- one more piece
pub behind : (old one two text piece : List ℕ) → one ≡ old ++ text → two ≡ one ++ piece → two ≡ old ++ (text ++ piece)
behind old one two text piece e f = f ∙ ap (λ t. t ++ piece) e ∙ append_assoc old text piece

-- the text of one more item
pub one_more_text : {X : Type 0} (f : X → List ℕ) (xs : List X) (i : ℕ) (x d : X) (before : List ℕ) → i < length xs → x ≡ get_or xs i d
    → (before ++ flat_map f (take i xs)) ++ f x ≡ before ++ flat_map f (take (i + 1) xs)
one_more_text {X} f xs i x d before h is =
    flat_map_more f before (take i xs) x ∙ ap (λ (ys : List X). before ++ flat_map f ys) (ap (λ (y : X). take i xs ++ y ∷ []) is ∙ sym (take_more xs i d h))

-- the text of one more item behind a space
pub one_more_spaced : {X : Type 0} (text : X → List ℕ) (xs : List X) (i : ℕ) (x d : X) (before old space now : List ℕ) → i < length xs → x ≡ get_or xs i d
    → old ≡ before ++ after_spaces text (take i xs) → space ≡ old ++ codes " " → now ≡ space ++ text x → now ≡ before ++ after_spaces text (take (i + 1) xs)
one_more_spaced text xs i x d before old space now h is e f g =
    behind old space now (codes " ") (text x) f g ∙ ap (λ t. t ++ (codes " " ++ text x)) e ∙ one_more_text (λ y. codes " " ++ text y) xs i x d before h is

-- an atom with values
pub atom_listed : (name : List ℕ) (values : List Value) → 0 < length values → codes "(" ++ name ++ after_spaces value_text values ++ codes ")" ≡ atom_text name values
atom_listed name [] h = absurd (omega (arith, h))
atom_listed name (v ∷ values) h = refl

-- the first parameter, one more, and all of them
pub parameters_begin : (sorts : List Sort) (d : Sort) (out one : List ℕ) → 0 < length sorts → one ≡ out ++ parameter_text (0, get_or sorts 0 d)
    → one ++ after_spaces parameter_text (enumerate_from 1 (take (length sorts - 1) (drop 1 sorts))) ≡ out ++ parameters_text sorts
parameters_begin [] d out one h e = absurd (omega (arith, h))
parameters_begin (s ∷ sorts) d out one h e =
    let same : take (length (s ∷ sorts) - 1) sorts ≡ sorts = take_all (length (s ∷ sorts) - 1) sorts (omega arith) in
    ap (λ (xs : List Sort). one ++ after_spaces parameter_text (enumerate_from 1 xs)) same ∙ ap (λ t. t ++ after_spaces parameter_text (enumerate_from 1 sorts)) e
    ∙ append_assoc out (parameter_text (0, s)) (after_spaces parameter_text (enumerate_from 1 sorts))

pub one_more_parameter : (sorts : List Sort) (i : ℕ) (x d : Sort) (out one whole : List ℕ) → i < length sorts → x ≡ get_or sorts i d
    → out ++ after_spaces parameter_text (enumerate_from (i + 1) (drop i sorts)) ≡ whole → one ≡ out ++ (codes " " ++ parameter_text (i + 1, x))
    → one ++ after_spaces parameter_text (enumerate_from (i + 1 + 1) (drop (i + 1) sorts)) ≡ whole
one_more_parameter sorts i x d out one whole h is so e =
    ap (λ t. t ++ after_spaces parameter_text (enumerate_from (i + 1 + 1) (drop (i + 1) sorts))) e
    ∙ append_assoc out (codes " " ++ parameter_text (i + 1, x)) (after_spaces parameter_text (enumerate_from (i + 1 + 1) (drop (i + 1) sorts)))
    ∙ sym (ap (λ (xs : List Sort). out ++ after_spaces parameter_text (enumerate_from (i + 1) xs)) (drop_more sorts i d h ∙ ap (λ (y : Sort). y ∷ drop (i + 1) sorts) (sym is))) ∙ so

pub parameters_end : (sorts : List Sort) (i : ℕ) (out whole : List ℕ) → length sorts ≤ i → out ++ after_spaces parameter_text (enumerate_from (i + 1) (drop i sorts)) ≡ whole → out ≡ whole
parameters_end sorts i out whole h so =
    sym (append-nil out) ∙ sym (ap (λ (xs : List Sort). out ++ after_spaces parameter_text (enumerate_from (i + 1) xs)) (drop_all i sorts h)) ∙ so

-- one more name
pub one_more_name : (params : List (Name × Sort)) (i : ℕ) (p : Name × Sort) (name : Name) (names now : List Name) → i < length params → p ≡ get_or params i p
    → names ≡ map (λ (q : Name × Sort). q.0) (take i params) → name ≡ p.0 → now ≡ names ++ name ∷ [] → now ≡ map (λ (q : Name × Sort). q.0) (take (i + 1) params)
one_more_name params i p name names now h is so e f =
    f ∙ ap (λ (n : Name). names ++ n ∷ []) e ∙ ap (λ (ns : List Name). ns ++ p.0 ∷ []) so ∙ sym (map-append (λ (q : Name × Sort). q.0) (take i params) (p ∷ []))
    ∙ ap (map (λ (q : Name × Sort). q.0)) (ap (λ (q : Name × Sort). take i params ++ q ∷ []) is ∙ sym (take_more params i p h))

-- an argument is below the term, and so are those behind it
pub argument_below : (n : ℕ) (args : List TermId) (i : ℕ) (d : TermId) → i < length args → list_all (is_below n) (drop i args) ≡ true
    → ((get_or args i d).0 < n) × (list_all (is_below n) (drop (i + 1) args) ≡ true)
argument_below n args i d h all =
    let both = both_true (nat_lt (get_or args i d).0 n) (list_all (is_below n) (drop (i + 1) args)) (sym (ap (list_all (is_below n)) (drop_more args i d h)) ∙ all) in
    (below_from (get_or args i d).0 n both.0, both.1)
