-- The rows of all predicates after one more fact.
use Rattle.std.proofs.Common.{◌≡◌, ℕ, ◌+◌, ◌<◌, List, [], ◌∷◌, ◌++◌, map, length, get_or, set, Some, None, refl, ap, sym, subst, ◌∙◌, arith, inl, inr}
use Rattle.std.specs.Prelude.{ℤ, ◌⊎◌, ◌↔◌, Option}
use Rattle.std.specs.List.{All, AllPairs, Contains, insert}
use Rattle.std.proofs.lemmas.Bool.{cases_eq, cases_order}
use Rattle.std.proofs.lemmas.List.{length-append, length-map, map_push, get_or_append_left, get_or_past, get_or_push, get_or-set_same, get_or-set_other}
use Rattle.std.proofs.lemmas.List.Elements.{Contains-append_left, Contains-get_or, Contains-push, Contains-push_cases}
use Rattle.std.proofs.lemmas.List.Quantifiers.{all_pairs_push}
use Rattle.derivations.specs.declared.fact.Fact.{Fact}
use Rattle.derivations.specs.declared.row.Row.{Row}
use Rattle.derivations.specs.Facts.{pred_of, tuple_of, fact_premises, AreRecorded, AreUnder, Concludes, IsBare}
use Rattle.derivations.specs.machinery.Index.{AreGrown, AreSingle, Begins, Holds, IsBelow, IsIndexed, IsRank, IsRow, empty, key_of}
use Rattle.derivations.proofs.GrownLemmas.{grown_exact}
use Rattle.derivations.proofs.InsertLemmas.{inserted, insert_has, insert_keeps, map_insert, map_members, pairs_weaker}
use Rattle.derivations.proofs.SearchLemmas.{row_insert}

-- fields of the facts after a push
field_push : {Y : Type 0} (g : Fact → Y) (e : Y) (fs : List Fact) (f : Fact) (n : ℕ) → n < length fs → get_or (map g fs) n e ≡ get_or (map g (fs ++ f ∷ [])) n e
field_push g e fs f n within =
    let long = length-map fs g in
    sym (ap (λ xs. get_or xs n e) (map_push g fs f) ∙ get_or_append_left (map g fs) (g f ∷ []) e n (omega (arith, long)))

field_new : {Y : Type 0} (g : Fact → Y) (e : Y) (fs : List Fact) (f : Fact) (n : ℕ) → n ≡ length fs → get_or (map g (fs ++ f ∷ [])) n e ≡ g f
field_new g e fs f n is = ap (λ xs. get_or xs n e) (map_push g fs f) ∙ get_or_push (map g fs) (g f) e n (length-map fs g ∙ sym is)

more_long : (fs : List Fact) (f : Fact) → length (fs ++ f ∷ []) ≡ length fs + 1
more_long fs f = length-append fs (f ∷ [])

-- a number of the longer list is the new one or an old one
split : (fs : List Fact) (f : Fact) (n : ℕ) → n < length (fs ++ f ∷ []) → (n ≡ length fs) ⊎ (n < length fs)
split fs f n l = by (cases_order n (length fs)) where
  by : (n ≡ length fs) ⊎ ((n < length fs) ⊎ (length fs < n)) → (n ≡ length fs) ⊎ (n < length fs)
  by (inl e) = inl e
  by (inr (inl less)) = inr less
  by (inr (inr past)) = let long = more_long fs f in absurd (omega arith)

pub recorded_push : (fs : List Fact) (f : Fact) → AreRecorded fs → All (λ p. p < length fs) f.premises → ((n : ℕ) → Concludes fs n f.pred f.tuple → ⊥) → IsBare f → AreRecorded (fs ++ f ∷ [])
recorded_push fs f recorded there fresh bare = record {
  earlier = λ n l. earlier n (split fs f n l);
  distinct = λ m n lm ln p t. distinct m n (split fs f m lm) (split fs f n ln) p t;
  bare = λ n l p. none n (split fs f n l) p;
} where
  more : List Fact
  more = fs ++ f ∷ []

  earlier : (n : ℕ) → (n ≡ length fs) ⊎ (n < length fs) → All (λ p. p < n) (fact_premises more n)
  earlier n (inl e) = subst (λ ps. All (λ p. p < n) ps) (sym (field_new (λ g. g.premises) [] fs f n e)) (λ k d l. (let less = there k d l in omega arith))
  earlier n (inr less) = subst (λ ps. All (λ p. p < n) ps) (field_push (λ g. g.premises) [] fs f n less) (recorded.earlier n less)

  none : (n : ℕ) → (n ≡ length fs) ⊎ (n < length fs) → pred_of more n ≡ None → tuple_of more n ≡ []
  none n (inl e) p = field_new (λ g. g.tuple) [] fs f n e ∙ bare (sym (field_new (λ g. g.pred) None fs f n e) ∙ p)
  none n (inr less) p = sym (field_push (λ g. g.tuple) [] fs f n less) ∙ recorded.bare n less (field_push (λ g. g.pred) None fs f n less ∙ p)

  -- the new conclusion is no old one
  clash : (m n : ℕ) → m < length fs → n ≡ length fs → pred_of more m ≡ pred_of more n → tuple_of more m ≡ tuple_of more n → ⊥
  clash m n lm e p t = fresh m (lm, field_push (λ g. g.pred) None fs f m lm ∙ p ∙ field_new (λ g. g.pred) None fs f n e, field_push (λ g. g.tuple) [] fs f m lm ∙ t ∙ field_new (λ g. g.tuple) [] fs f n e)

  distinct : (m n : ℕ) → (m ≡ length fs) ⊎ (m < length fs) → (n ≡ length fs) ⊎ (n < length fs) → pred_of more m ≡ pred_of more n → tuple_of more m ≡ tuple_of more n → m ≡ n
  distinct m n (inl a) (inl b) p t = a ∙ sym b
  distinct m n (inl a) (inr b) p t = absurd (clash n m b a (sym p) (sym t))
  distinct m n (inr a) (inl b) p t = absurd (clash m n a b p t)
  distinct m n (inr a) (inr b) p t = recorded.distinct m n a b
      (field_push (λ g. g.pred) None fs f m a ∙ p ∙ sym (field_push (λ g. g.pred) None fs f n b))
      (field_push (λ g. g.tuple) [] fs f m a ∙ t ∙ sym (field_push (λ g. g.tuple) [] fs f n b))

-- numbers of a predicate after a push
abbrev IsOf : List Fact → ℕ → ℕ → Type 0
IsOf fs pred n = (n < length fs) × (pred_of fs n ≡ Some pred)

of_push : (fs : List Fact) (f : Fact) (pred n : ℕ) → IsOf fs pred n → IsOf (fs ++ f ∷ []) pred n
of_push fs f pred n old = (let l = old.0 in let long = more_long fs f in omega arith, sym (field_push (λ g. g.pred) None fs f n old.0) ∙ old.1)

of_old : (fs : List Fact) (f : Fact) (pred n : ℕ) → n < length fs → IsOf (fs ++ f ∷ []) pred n → IsOf fs pred n
of_old fs f pred n less new = (less, field_push (λ g. g.pred) None fs f n less ∙ new.1)

of_new : (fs : List Fact) (f : Fact) (pred n : ℕ) → n ≡ length fs → f.pred ≡ Some pred → IsOf (fs ++ f ∷ []) pred n
of_new fs f pred n e is = (let long = more_long fs f in omega arith, field_new (λ g. g.pred) None fs f n e ∙ is)

concludes_push : (fs : List Fact) (f : Fact) (pred n : ℕ) (t : List ℤ) → Concludes fs n (Some pred) t → Concludes (fs ++ f ∷ []) n (Some pred) t
concludes_push fs f pred n t old = (let of = of_push fs f pred n (old.0, old.1) in (of.0, of.1, sym (field_push (λ g. g.tuple) [] fs f n old.0) ∙ old.2))

concludes_old : (fs : List Fact) (f : Fact) (pred n : ℕ) (t : List ℤ) → IsOf fs pred n → tuple_of (fs ++ f ∷ []) n ≡ t → Concludes fs n (Some pred) t
concludes_old fs f pred n t of is = (of.0, of.1, field_push (λ g. g.tuple) [] fs f n of.0 ∙ is)

-- no tuple has two numbers where nothing is recorded twice
row_single : (fs : List Fact) (pred : ℕ) (row : Row) → AreRecorded fs → IsRow fs pred row → AreSingle row.parts
row_single fs pred row recorded is t m n a b =
    let x = (is.parts t m).0 a in
    let y = (is.parts t n).0 b in
    recorded.distinct m n x.0 y.0 (x.1 ∙ sym y.1) (x.2 ∙ sym y.2)

-- the row of another predicate stays
row_other : (fs : List Fact) (f : Fact) (pred : ℕ) (row : Row) → (f.pred ≡ Some pred → ⊥) → IsRow fs pred row → IsRow (fs ++ f ∷ []) pred row
row_other fs f pred row other is = record {
  numbers = record { order = is.numbers.order; exact = λ n. (λ has. of_push fs f pred n ((is.numbers.exact n).0 has), λ new. (is.numbers.exact n).1 (old n new (split fs f n new.0))) };
  order = pairs_weaker (IsBelow (tuple_of fs)) (IsBelow (tuple_of (fs ++ f ∷ []))) row.by_tuple same is.order;
  exact = λ n. (λ has. of_push fs f pred n ((is.exact n).0 has), λ new. (is.exact n).1 (old n new (split fs f n new.0)));
  keyed = is.keyed ∙ map_members (λ n. key_of (tuple_of fs n)) (λ n. key_of (tuple_of (fs ++ f ∷ []) n)) row.by_tuple (λ x has. ap key_of (field_push (λ g. g.tuple) [] fs f x ((is.exact x).0 has).0));
  parts = λ t n. (λ h. concludes_push fs f pred n t ((is.parts t n).0 h), λ new. (is.parts t n).1 (concludes_old fs f pred n t (old n (new.0, new.1) (split fs f n new.0)) new.2));
} where
  old : (n : ℕ) → IsOf (fs ++ f ∷ []) pred n → (n ≡ length fs) ⊎ (n < length fs) → IsOf fs pred n
  old n new (inl e) = absurd (other (sym (field_new (λ g. g.pred) None fs f n e) ∙ new.1))
  old n new (inr less) = of_old fs f pred n less new

  same : (x y : ℕ) → Contains row.by_tuple x → Contains row.by_tuple y → IsBelow (tuple_of fs) x y → IsBelow (tuple_of (fs ++ f ∷ [])) x y
  same x y hx hy below = rw (sym (field_push (λ g. g.tuple) [] fs f x ((is.exact x).0 hx).0), sym (field_push (λ g. g.tuple) [] fs f y ((is.exact y).0 hy).0)) below

-- the row of its own predicate
row_own : (fs : List Fact) (f : Fact) (pred : ℕ) (row : Row) (rank : ℕ) (parts : List (List (List ℤ × ℕ))) → AreRecorded fs → AreGrown row.parts f.tuple (length fs) parts → f.pred ≡ Some pred → ((n : ℕ) → Concludes fs n f.pred f.tuple → ⊥) → IsRow fs pred row → IsRank (tuple_of fs) row.by_tuple f.tuple rank
    → IsRow (fs ++ f ∷ []) pred (record { by_number = row.by_number ++ length fs ∷ []; by_tuple = insert row.by_tuple rank (length fs); keys = insert row.keys rank (key_of f.tuple); parts = parts })
row_own fs f pred row rank parts recorded grown own fresh is at = record {
  numbers = record {
    order = all_pairs_push (λ x y. x < y) row.by_number (length fs) is.numbers.order (λ j d l. ((is.numbers.exact (get_or row.by_number j d)).0 (Contains-get_or row.by_number j d l)).0);
    exact = λ n. (λ has. numbers n (Contains-push_cases row.by_number (length fs) n has), λ new. listed n new (split fs f n new.0));
  };
  order = row_insert (tuple_of more) row.by_tuple (length fs) rank order rank_more apart;
  exact = λ n. (λ has. tuples n (inserted row.by_tuple rank (length fs) n has), λ new. placed n new (split fs f n new.0));
  keyed =
      ap (λ ks. insert ks rank (key_of f.tuple)) (is.keyed ∙ map_members (λ n. key_of (tuple_of fs n)) (λ n. key_of (tuple_of more n)) row.by_tuple (λ x has. ap key_of (same x has)))
      ∙ ap (λ k. insert (map (λ n. key_of (tuple_of more n)) row.by_tuple) rank k) (ap key_of (sym mine)) ∙ sym (map_insert (λ n. key_of (tuple_of more n)) row.by_tuple rank (length fs));
  parts = λ t n. (λ h. told t n ((exact t n).0 h), λ new. (exact t n).1 (held t n new (split fs f n new.0)));
} where
  more : List Fact
  more = fs ++ f ∷ []

  numbers : (n : ℕ) → Contains row.by_number n ⊎ (length fs ≡ n) → IsOf more pred n
  numbers n (inl has) = of_push fs f pred n ((is.numbers.exact n).0 has)
  numbers n (inr e) = of_new fs f pred n (sym e) own

  listed : (n : ℕ) → IsOf more pred n → (n ≡ length fs) ⊎ (n < length fs) → Contains (row.by_number ++ length fs ∷ []) n
  listed n new (inl e) = subst (λ m. Contains (row.by_number ++ length fs ∷ []) m) (sym e) (Contains-push row.by_number (length fs))
  listed n new (inr less) = Contains-append_left row.by_number (length fs ∷ []) n ((is.numbers.exact n).1 (of_old fs f pred n less new))

  tuples : (n : ℕ) → (length fs ≡ n) ⊎ Contains row.by_tuple n → IsOf more pred n
  tuples n (inl e) = of_new fs f pred n (sym e) own
  tuples n (inr has) = of_push fs f pred n ((is.exact n).0 has)

  placed : (n : ℕ) → IsOf more pred n → (n ≡ length fs) ⊎ (n < length fs) → Contains (insert row.by_tuple rank (length fs)) n
  placed n new (inl e) = subst (λ m. Contains (insert row.by_tuple rank (length fs)) m) (sym e) (insert_has row.by_tuple rank (length fs))
  placed n new (inr less) = insert_keeps row.by_tuple rank (length fs) n ((is.exact n).1 (of_old fs f pred n less new))

  same : (x : ℕ) → Contains row.by_tuple x → tuple_of fs x ≡ tuple_of more x
  same x has = field_push (λ g. g.tuple) [] fs f x ((is.exact x).0 has).0

  mine : tuple_of more (length fs) ≡ f.tuple
  mine = field_new (λ g. g.tuple) [] fs f (length fs) refl

  order : AllPairs (IsBelow (tuple_of more)) row.by_tuple
  order = pairs_weaker (IsBelow (tuple_of fs)) (IsBelow (tuple_of more)) row.by_tuple (λ x y hx hy below. rw (sym (same x hx), sym (same y hy)) below) is.order

  rank_more : IsRank (tuple_of more) row.by_tuple (tuple_of more (length fs)) rank
  rank_more = subst (λ t. IsRank (tuple_of more) row.by_tuple t rank) (sym mine) (record {
    within = at.within;
    before = λ k d l. (let w = at.within in rw (sym (same (get_or row.by_tuple k d) (Contains-get_or row.by_tuple k d (omega arith)))) (at.before k d l));
    behind = λ k d l m. rw (sym (same (get_or row.by_tuple k d) (Contains-get_or row.by_tuple k d m))) (at.behind k d l m);
  })

  exact : (t : List ℤ) (n : ℕ) → Holds parts t n ↔ (Holds row.parts t n ⊎ ((t ≡ f.tuple) × (n ≡ length fs)))
  exact t n = grown_exact row.parts f.tuple (length fs) (row_single fs pred row recorded is) (λ m h. (let x = (is.parts f.tuple m).0 h in fresh m (x.0, x.1 ∙ sym own, x.2))) parts grown t n

  told : (t : List ℤ) (n : ℕ) → Holds row.parts t n ⊎ ((t ≡ f.tuple) × (n ≡ length fs)) → Concludes more n (Some pred) t
  told t n (inl h) = concludes_push fs f pred n t ((is.parts t n).0 h)
  told t n (inr new) = (let of = of_new fs f pred n new.1 own in (of.0, of.1, field_new (λ g. g.tuple) [] fs f n new.1 ∙ sym new.0))

  held : (t : List ℤ) (n : ℕ) → Concludes more n (Some pred) t → (n ≡ length fs) ⊎ (n < length fs) → Holds row.parts t n ⊎ ((t ≡ f.tuple) × (n ≡ length fs))
  held t n new (inl e) = inr (sym new.2 ∙ field_new (λ g. g.tuple) [] fs f n e, e)
  held t n new (inr less) = inl ((is.parts t n).1 (concludes_old fs f pred n t (of_old fs f pred n less (new.0, new.1)) new.2))

  apart : (x : ℕ) → Contains row.by_tuple x → tuple_of more x ≡ tuple_of more (length fs) → ⊥
  apart x has e =
      let old = (is.exact x).0 has in
      fresh x (old.0, old.1 ∙ sym own, same x has ∙ e ∙ mine)

pub index_of : (rows : List Row) (fs : List Fact) (f : Fact) (pred rank : ℕ) (row : Row) (parts : List (List (List ℤ × ℕ))) → AreGrown (get_or rows pred empty).parts f.tuple (length fs) parts → IsIndexed rows fs → f.pred ≡ Some pred → pred < length rows → All (λ p. p < length fs) f.premises → ((n : ℕ) → Concludes fs n f.pred f.tuple → ⊥) → IsBare f
    → IsRank (tuple_of fs) (get_or rows pred empty).by_tuple f.tuple rank
    → row ≡ record { by_number = (get_or rows pred empty).by_number ++ length fs ∷ []; by_tuple = insert (get_or rows pred empty).by_tuple rank (length fs); keys = insert (get_or rows pred empty).keys rank (key_of f.tuple); parts = parts }
    → IsIndexed (set rows pred row) (fs ++ f ∷ [])
index_of rows fs f pred rank row parts grown index own within there fresh bare at is = record { recorded = recorded_push fs f index.recorded there fresh bare; each = λ other. each other (cases_eq other pred) } where
  each : (other : ℕ) → (other ≡ pred) ⊎ (other ≡ pred → ⊥) → IsRow (fs ++ f ∷ []) other (get_or (set rows pred row) other empty)
  each other (inl e) =
      let here : get_or (set rows pred row) other empty ≡ row = ap (λ k. get_or (set rows pred row) k empty) e ∙ get_or-set_same rows pred row empty within in
      subst (λ k. IsRow (fs ++ f ∷ []) k (get_or (set rows pred row) other empty)) (sym e) (subst (λ r. IsRow (fs ++ f ∷ []) pred r) (sym (here ∙ is)) (row_own fs f pred (get_or rows pred empty) rank parts index.recorded grown own fresh (index.each pred) at))
  each other (inr far) = subst (λ r. IsRow (fs ++ f ∷ []) other r) (sym (get_or-set_other rows pred other row empty far))
      (row_other fs f other (get_or rows other empty) (λ e. (let both : Some pred ≡ Some other = sym own ∙ e in far (sym (some_inj pred other both)))) (index.each other)) where
        some_inj : (a b : ℕ) → Some a ≡ Some b → a ≡ b
        some_inj a b e = cc

pub index_false : (rows : List Row) (fs : List Fact) (f : Fact) → IsIndexed rows fs → f.pred ≡ None → All (λ p. p < length fs) f.premises → ((n : ℕ) → Concludes fs n f.pred f.tuple → ⊥) → IsBare f → IsIndexed rows (fs ++ f ∷ [])
index_false rows fs f index own there fresh bare = record {
  recorded = recorded_push fs f index.recorded there fresh bare;
  each = λ pred. row_other fs f pred (get_or rows pred empty) (λ e. (let both : None ≡ Some pred = sym own ∙ e in absurd (cc))) (index.each pred);
}

pub index_none : IsIndexed [] []
index_none = record {
  recorded = record { earlier = λ n l. absurd (omega arith); distinct = λ m n lm ln p t. absurd (omega arith); bare = λ n l p. absurd (omega arith) };
  each = λ pred. record {
    numbers = record { order = λ i j d l in'. absurd (omega arith); exact = λ n. (none pred n, λ new. (let l = new.0 in absurd (omega arith))) };
    order = λ i j d l in'. absurd (omega arith);
    exact = λ n. (none pred n, λ new. (let l = new.0 in absurd (omega arith)));
    keyed = refl;
    parts = λ t n. (λ h. (let l = h.1 in absurd (omega arith)), λ new. (let l = new.0 in absurd (omega arith)));
  };
} where
  none : (pred n : ℕ) → Contains {X = ℕ} [] n → IsOf [] pred n
  none pred n (k, l, is) = absurd (omega arith)

-- rows that are the same by look-up serve the same
pub index_same : (old new : List Row) (fs : List Fact) → ((k : ℕ) → get_or new k empty ≡ get_or old k empty) → IsIndexed old fs → IsIndexed new fs
index_same old new fs same index = record { recorded = index.recorded; each = λ pred. subst (λ r. IsRow fs pred r) (sym (same pred)) (index.each pred) }

-- what a search needs of a row
pub tuples_order : (rows : List Row) (fs : List Fact) (pred : ℕ) (row : List ℕ) → IsIndexed rows fs → row ≡ (get_or rows pred empty).by_tuple → AllPairs (IsBelow (tuple_of fs)) row
tuples_order rows fs pred row index is = subst (λ r. AllPairs (IsBelow (tuple_of fs)) r) (sym is) (index.each pred).order

pub tuples_there : (rows : List Row) (fs : List Fact) (pred : ℕ) (row : List ℕ) → IsIndexed rows fs → row ≡ (get_or rows pred empty).by_tuple → All (λ n. n < length fs) row
tuples_there rows fs pred row index is = subst (λ r. All (λ n. n < length fs) r) (sym is) (λ k d l. (((index.each pred).exact (get_or (get_or rows pred empty).by_tuple k d)).0 (Contains-get_or (get_or rows pred empty).by_tuple k d l)).0)

pub tuples_keyed : (rows : List Row) (fs : List Fact) (pred : ℕ) (row : List ℕ) (keys : List ℤ) → IsIndexed rows fs → row ≡ (get_or rows pred empty).by_tuple → keys ≡ (get_or rows pred empty).keys → keys ≡ map (λ n. key_of (tuple_of fs n)) row
tuples_keyed rows fs pred row keys index is same = same ∙ (index.each pred).keyed ∙ ap (map (λ n. key_of (tuple_of fs n))) (sym is)

-- one empty row more
pub more_same : (rows : List Row) (k : ℕ) → get_or (rows ++ empty ∷ []) k empty ≡ get_or rows k empty
more_same rows k = by (cases_order k (length rows)) where
  by : (k ≡ length rows) ⊎ ((k < length rows) ⊎ (length rows < k)) → get_or (rows ++ empty ∷ []) k empty ≡ get_or rows k empty
  by (inl e) = get_or_push rows empty empty k (sym e) ∙ sym (get_or_past rows k empty (omega arith))
  by (inr (inl less)) = get_or_append_left rows (empty ∷ []) empty k less
  by (inr (inr past)) = get_or_past (rows ++ empty ∷ []) k empty (let long = length-append rows (empty ∷ []) in omega arith) ∙ sym (get_or_past rows k empty (omega arith))

-- what a look-up in the parts of a row says of the facts
pub parts_single : (rows : List Row) (fs : List Fact) (pred : ℕ) (parts : List (List (List ℤ × ℕ))) → IsIndexed rows fs → parts ≡ (get_or rows pred empty).parts → AreSingle parts
parts_single rows fs pred parts index is = subst (λ ps. AreSingle ps) (sym is) (row_single fs pred (get_or rows pred empty) index.recorded (index.each pred))

pub find_is : (rows : List Row) (fs : List Fact) (pred : ℕ) (parts : List (List (List ℤ × ℕ))) (tuple : List ℤ) (r : Option ℕ) → IsIndexed rows fs → parts ≡ (get_or rows pred empty).parts
    → ((n : ℕ) → (r ≡ Some n) ↔ Holds parts tuple n) → (n : ℕ) → (r ≡ Some n) ↔ Concludes fs n (Some pred) tuple
find_is rows fs pred parts tuple r index is same n = (λ found. ((index.each pred).parts tuple n).0 (subst (λ ps. Holds ps tuple n) is ((same n).0 found)), λ told. (same n).1 (subst (λ ps. Holds ps tuple n) (sym is) (((index.each pred).parts tuple n).1 told)))

-- what a part of a row says of the facts
pub under_is : (rows : List Row) (fs : List Fact) (pred : ℕ) (row : List ℕ) (front : List ℤ) (numbers : List ℕ) → IsIndexed rows fs → row ≡ (get_or rows pred empty).by_tuple
    → AllPairs (IsBelow (tuple_of fs)) numbers → ((n : ℕ) → Contains numbers n ↔ (Contains row n × Begins front (tuple_of fs n))) → AreUnder fs pred front numbers
under_is rows fs pred row front numbers index is order same = record {
  order = order;
  exact = λ n. (λ has. there n ((same n).0 has), λ told. (same n).1 (subst (λ xs. Contains xs n) (sym is) (((index.each pred).exact n).1 (told.0, told.1)), told.2));
} where
  there : (n : ℕ) → Contains row n × Begins front (tuple_of fs n) → (n < length fs) × (pred_of fs n ≡ Some pred) × Begins front (tuple_of fs n)
  there n both = (let of = ((index.each pred).exact n).0 (subst (λ xs. Contains xs n) is both.0) in (of.0, of.1, both.1))

pub row_is : (old row : Row) (at n m : ℕ) (k l : ℤ) (ps : List (List (List ℤ × ℕ))) → old ≡ row → n ≡ m → k ≡ l
    → ◌≡◌ {A = Row} (record { by_number = old.by_number ++ n ∷ []; by_tuple = insert old.by_tuple at n; keys = insert old.keys at k; parts = ps }) (record { by_number = row.by_number ++ m ∷ []; by_tuple = insert row.by_tuple at m; keys = insert row.keys at l; parts = ps })
row_is old row at n m k l ps a b c = rw (a, b, c) refl
