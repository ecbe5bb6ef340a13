-- What is known of a predicate, among what is known of all.
use Rattle.std.proofs.Common.{◌≡◌, ◌≢◌, ◌<◌, ◌≤◌, ◌∙◌, ℕ, List, None, ap, sym, arith, get_or, length, map, set}
use Rattle.std.proofs.lemmas.List.{get_or_past, get_or-map, get_or-set_other, get_or-set_same, length-map, length-set, map-set}
use Rattle.guess_hulls.specs.declared.hull.Known.{Known}
use Rattle.guess_hulls.specs.Hulls.{equations_of}

pub at : (known : List Known) (n : ℕ) (d : Known) → n < length known → get_or (map equations_of known) n None ≡ equations_of (get_or known n d)
at known n d less = get_or-map equations_of known n d None less

pub past : (known : List Known) (n : ℕ) → length known ≤ n → get_or (map equations_of known) n None ≡ None
past known n more = let long = length-map known equations_of in get_or_past (map equations_of known) n None (omega (arith, long, more))

pub put : (known : List Known) (n : ℕ) (one : Known) → n < length known → get_or (map equations_of (set known n one)) n None ≡ equations_of one
put known n one less = let long = length-set known n one in at (set known n one) n one (omega (arith, long, less)) ∙ ap equations_of (get_or-set_same known n one one less)

pub others : (known : List Known) (n : ℕ) (one : Known) (m : ℕ) → m ≢ n → get_or (map equations_of (set known n one)) m None ≡ get_or (map equations_of known) m None
others known n one m other = ap (λ xs. get_or xs m None) (map-set equations_of known n one) ∙ get_or-set_other (map equations_of known) n m (equations_of one) None other

pub long : (known : List Known) (n : ℕ) (one : Known) → length (map equations_of (set known n one)) ≡ length (map equations_of known)
long known n one = length-map (set known n one) equations_of ∙ length-set known n one ∙ sym (length-map known equations_of)
