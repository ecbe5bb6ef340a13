-- Bound names found in a map.
use Rattle.std.proofs.Common.{◌≡◌, ℕ, List, [], ◌∷◌, ◌++◌, map, Bool, true, false, cond, if◌then◌else◌, Some, None, Option, Result, Ok, Err, OnErr, IsOk, refl, sym, ap, subst, ◌∙◌}
use Rattle.std.proofs.lemmas.List.{append-nil, append_assoc, map-append}
use Rattle.std.proofs.lemmas.Slice.Eq.{bytes_eq-Decides}
use Rattle.std.specs.Map.{lookup}
use Rattle.std.specs.Str.{bytes_eq}
use Rattle.keyed_hash.specs.declared.name.NameKey.{NameKey}
use Rattle.term_check.specs.declared.scope.Bound.{Bound}
use Rattle.term_check.specs.declared.scope.Named.{Named}
use Rattle.term_check.specs.declared.scope.Binding.{Binding}
use Rattle.term_check.specs.machinery.Meanings.{named, named_by, joined, meaning, AreKept, AreMeanings}
use Rattle.term_check.specs.Operators.{first_of}
use Rattle.term_check.specs.Spelling.{bound_to}

abbrev pub same_name : NameKey → NameKey → Bool
same_name a b = bytes_eq a.bytes.now b.bytes.now

abbrev pub key_of : Binding → NameKey
key_of b = record { bytes = b.name }

abbrev Entries : Type 0
Entries = List (NameKey × Option Bound)

-- the map has this for the name of the key, and for each other what it had
abbrev pub IsSet : Entries → Entries → NameKey → Option Bound → Type 0
IsSet es new key o = (q : NameKey) → lookup (same_name q) new ≡ cond (same_name key q) (Some o) (lookup (same_name q) es)

joined_chosen : (own : Bool) (o : Option Bound) (rest : Option (Option Bound)) → joined (cond own (Some o) rest) ≡ cond own o (joined rest)
joined_chosen true o rest = refl
joined_chosen false o rest = refl

meaning_set : (es new : Entries) (key : NameKey) (o : Option Bound) (name : List ℕ) → IsSet es new key o → meaning name new ≡ cond (bytes_eq key.bytes.now name) o (meaning name es)
meaning_set es new key o name set = ap joined (set (record { bytes = record (key.bytes) { now = name } })) ∙ joined_chosen (bytes_eq key.bytes.now name) o (lookup (λ k. bytes_eq name k.bytes.now) es)

pub bound_more : (name : List ℕ) (ns : List Named) (n : Named) → bound_to name (ns ++ n ∷ []) ≡ cond (bytes_eq n.name.bytes name) (Some n.bound) (bound_to name ns)
bound_more name [] n = refl
bound_more name (m ∷ ms) n =
    let this : Option Bound = if bytes_eq m.name.bytes name then Some m.bound else None in
    ap (λ o. first_of o this) (bound_more name ms n) ∙ before (bytes_eq n.name.bytes name) n.bound (bound_to name ms) this
  where
    before : (own : Bool) (b : Bound) (rest this : Option Bound) → first_of (cond own (Some b) rest) this ≡ cond own (Some b) (first_of rest this)
    before true b rest this = refl
    before false b rest this = refl

-- one more name
meanings_more : (es new : Entries) (names : List Named) (key : NameKey) (b : Bound) → AreMeanings es names → IsSet es new key (Some b)
    → AreMeanings new (names ++ named key.bytes.now b ∷ [])
meanings_more es new names key b means set name =
    meaning_set es new key (Some b) name set ∙ ap (cond (bytes_eq key.bytes.now name) (Some b)) (means name) ∙ sym (bound_more name names (named key.bytes.now b))

restored : (own : Bool) (o inner rest : Option Bound) → (own ≡ true → o ≡ rest) → cond own o (cond own inner rest) ≡ rest
restored true o inner rest h = h refl
restored false o inner rest h = refl

-- without the last name
meanings_less : (es new : Entries) (names : List Named) (key : NameKey) (b : Bound) (o : Option Bound) → AreMeanings es (names ++ named key.bytes.now b ∷ []) → o ≡ bound_to key.bytes.now names
    → IsSet es new key o → AreMeanings new names
meanings_less es new names key b o means outside set name =
    meaning_set es new key o name set ∙ ap (cond (bytes_eq key.bytes.now name) o) (means name ∙ bound_more name names (named key.bytes.now b))
    ∙ restored (bytes_eq key.bytes.now name) o (Some b) (bound_to name names) (λ h. outside ∙ ap (λ k. bound_to k names) ((bytes_eq-Decides key.bytes.now name).0 h))

-- a bound name has an entry
is_there : (es : Entries) (names : List Named) (key : NameKey) (b : Bound) → AreMeanings es (names ++ named key.bytes.now b ∷ []) → lookup (same_name key) es ≡ None → None ≡ Some b
is_there es names key b means none =
    ap joined (sym none) ∙ means key.bytes.now ∙ bound_more key.bytes.now names (named key.bytes.now b)
    ∙ ap (λ own. cond own (Some b) (bound_to key.bytes.now names)) ((bytes_eq-Decides key.bytes.now key.bytes.now).1 refl)

kept_more : (outer : List Named) (bs : List Binding) (b : Binding) → AreKept outer bs → b.outside ≡ bound_to b.name.now (outer ++ map named_by bs) → AreKept outer (bs ++ b ∷ [])
kept_more outer [] b kept h = (h ∙ ap (bound_to b.name.now) (append-nil outer), tt)
kept_more outer (c ∷ bs) b kept h =
    (kept.0, kept_more (outer ++ named_by c ∷ []) bs b kept.1 (h ∙ ap (bound_to b.name.now) (sym (append_assoc outer (named_by c ∷ []) (map named_by bs)))))

kept_less : (outer : List Named) (bs : List Binding) (b : Binding) → AreKept outer (bs ++ b ∷ []) → AreKept outer bs × (b.outside ≡ bound_to b.name.now (outer ++ map named_by bs))
kept_less outer [] b kept = (tt, kept.0 ∙ ap (bound_to b.name.now) (sym (append-nil outer)))
kept_less outer (c ∷ bs) b kept =
    let less = kept_less (outer ++ named_by c ∷ []) bs b kept.1 in
    ((kept.0, less.0), less.1 ∙ ap (bound_to b.name.now) (append_assoc outer (named_by c ∷ []) (map named_by bs)))

-- with one more binding
pub binding_added : (bs all : List Binding) (last : Binding) (es new : Entries) (key : NameKey) → all ≡ bs ++ last ∷ [] → key.bytes.now ≡ last.name.now → last.outside ≡ joined (lookup (same_name key) es)
    → AreKept [] bs → AreMeanings es (map named_by bs) → IsSet es new key (Some last.bound) → AreKept [] all × AreMeanings new (map named_by all)
binding_added bs all last es new key is bytes outside kept means entries =
    let stands : last.outside ≡ bound_to last.name.now (map named_by bs) = outside ∙ means key.bytes.now ∙ ap (λ k. bound_to k (map named_by bs)) bytes in
    let seen : map named_by bs ++ named key.bytes.now last.bound ∷ [] ≡ map named_by all =
    ap (λ k. map named_by bs ++ named k last.bound ∷ []) bytes ∙ sym (map-append named_by bs (last ∷ [])) ∙ ap (map named_by) (sym is) in
    (subst (AreKept []) (sym is) (kept_more [] bs last kept stands), subst (AreMeanings new) seen (meanings_more es new (map named_by bs) key last.bound means entries))

last_means : (bs all : List Binding) (last : Binding) (es : Entries) → all ≡ bs ++ last ∷ [] → AreMeanings es (map named_by all) → AreMeanings es (map named_by bs ++ named_by last ∷ [])
last_means bs all last es is means = subst (AreMeanings es) (ap (map named_by) is ∙ map-append named_by bs (last ∷ [])) means

-- without the last binding
pub binding_left : (bs all : List Binding) (last : Binding) (es new : Entries) → all ≡ bs ++ last ∷ [] → AreKept [] all → AreMeanings es (map named_by all)
    → IsSet es new (key_of last) last.outside → AreKept [] bs × AreMeanings new (map named_by bs)
binding_left bs all last es new is kept means entries =
    let less = kept_less [] bs last (subst (AreKept []) is kept) in
    (less.0, meanings_less es new (map named_by bs) (key_of last) last.bound last.outside (last_means bs all last es is means) less.1 entries)

-- whose name has an entry, so that no memory is wanted
pub binding_is_there : {A E : Type 0} (bs all : List Binding) (last : Binding) (es : Entries) (r : Result A E) → all ≡ bs ++ last ∷ [] → AreMeanings es (map named_by all)
    → OnErr r (lookup (same_name (key_of last)) es ≡ None) → IsOk r
binding_is_there bs all last es (Ok a) is means absent = refl
binding_is_there bs all last es (Err e) is means absent =
    let none = is_there es (map named_by bs) (key_of last) last.bound (last_means bs all last es is means) absent in
    absurd (cc)
