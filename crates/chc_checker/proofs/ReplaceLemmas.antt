-- Formulas in place of others, part by part.
use Rattle.std.proofs.Common.{inl, inr, ◌≡◌, ℕ, List, [], ◌∷◌, ◌++◌, Bool, true, false, ◌&&◌, refl, ap, sym, ◌∙◌, subst, ◌+◌, ◌<◌, ◌≤◌, length, take, drop, get_or, zero, suc}
use Rattle.std.proofs.lemmas.List.{take_all, take_more}
use Rattle.std.specs.Prelude.{ℤ, pos, negsuc, ◌≤ℤ◌, int_le, slice_get, Option, Some, None, Result, Ok, Err, IfOk, IfSome, ◌⊎◌}
use Rattle.std.specs.List.{list_all}
use Rattle.lin_atoms.specs.Linear.{Linear, value_at, variable_at}
use Rattle.lin_atoms.specs.Truth.{lit_truth, truth}
use Rattle.lin_atoms.specs.declared.lit.Lit.{Lit}
use Rattle.lin_atoms.specs.declared.lit.Lit.TheVariants.{Le}
use Rattle.lin_atoms.specs.declared.form.Form.{Form}
use Rattle.lin_atoms.specs.declared.form.Form.TheViews.{And, Or}
use Rattle.lin_atoms.proofs.Public.{both_true, truth-And}
use Rattle.chc_checker.specs.machinery.Links.{AreLeast, AreMost, AreWithin, IsLink, IsLinkForm, Replaces, SayTheSame}
use Rattle.chc_checker.proofs.LinkLemmas.{from_both, le-true, least_of, most_of, value_down, value_up}

all_more : (p : Form → Bool) (fs : List Form) (f : Form) → list_all p fs ≡ true → p f ≡ true → list_all p (fs ++ f ∷ []) ≡ true
all_more p [] f all one = from_both (p f) true one refl
all_more p (g ∷ fs) f all one = let both = both_true (p g) (list_all p fs) all in from_both (p g) (list_all p (fs ++ f ∷ [])) both.0 (all_more p fs f both.1 one)

all_less : (p : Form → Bool) (fs : List Form) (f : Form) → list_all p (fs ++ f ∷ []) ≡ true → (list_all p fs ≡ true) × (p f ≡ true)
all_less p [] f h = (refl, (both_true (p f) true h).0)
all_less p (g ∷ fs) f h =
    let both = both_true (p g) (list_all p (fs ++ f ∷ [])) h in
    let rest = all_less p fs f both.1 in
    (from_both (p g) (list_all p fs) both.0 rest.0, rest.1)

module _ (low high : List Bool) where
  pub replaces_itself : (form other : Form) → other ≡ form → Replaces low high form other
  replaces_itself form other is = record { sound = λ point h. ap (truth point) (sym is) ∙ h; whole = λ point within h. ap (truth point) is ∙ h }

  more_true : (point : List ℤ) (fs : List Form) (f : Form) → truth point (And (fs ++ f ∷ [])) ≡ true → (truth point (And fs) ≡ true) × (truth point f ≡ true)
  more_true point fs f h =
      let both = all_less (truth point) fs f (sym (truth-And point (fs ++ f ∷ [])) ∙ h) in
      (truth-And point fs ∙ both.0, both.1)

  true_more : (point : List ℤ) (fs : List Form) (f : Form) → truth point (And fs) ≡ true → truth point f ≡ true → truth point (And (fs ++ f ∷ [])) ≡ true
  true_more point fs f all one = truth-And point (fs ++ f ∷ []) ∙ all_more (truth point) fs f (sym (truth-And point fs) ∙ all) one

  pub replaces_more : (fs others : List Form) (f other : Form) → Replaces low high (And fs) (And others) → Replaces low high f other → Replaces low high (And (fs ++ f ∷ [])) (And (others ++ other ∷ []))
  replaces_more fs others f other all one = record {
    sound = λ point h. let both = more_true point others other h in true_more point fs f (all.sound point both.0) (one.sound point both.1);
    whole = λ point within h. let both = more_true point fs f h in true_more point others other (all.whole point within both.0) (one.whole point within both.1);
  }

  pub replaces_link : (form other : Form) (u v : ℕ) (same : Bool) → IsLink low high form u v same → IsLinkForm u v same other → Replaces low high form other
  replaces_link form other u v same is are = record {
    sound = λ point h. is.made point (are.only point h);
    whole = λ point within h. are.made point (is.only point within h);
  }

-- the same truth, both ways
same_truth : (a b : Bool) → (a ≡ true → b ≡ true) → (b ≡ true → a ≡ true) → a ≡ b
same_truth true b f g = sym (f refl)
same_truth false true f g = g refl
same_truth false false f g = refl

pub same_where : (low high : List Bool) (form other : Form) → Replaces low high form other → ((point : List ℤ) → truth point form ≡ true → AreWithin low high point) → SayTheSame form other
same_where low high form other is within = λ point. same_truth (truth point other) (truth point form) (is.sound point) (λ h. is.whole point (within point h) h)

-- one more mark

pub least_more : (point : List ℤ) (old new : List Bool) (lin : Linear) (v : ℕ) → lin ≡ record { terms = (v, negsuc 0) ∷ []; constant = pos 0 }
    → ((w : ℕ) → slice_get new w ≡ Some true → (slice_get old w ≡ Some true) ⊎ (w ≡ v)) → int_le (value_at point lin) (pos 0) ≡ true → AreLeast old point → AreLeast new point
least_more point old new lin v is marked le least w at = by_case (marked w at) where
  by_case : (slice_get old w ≡ Some true) ⊎ (w ≡ v) → pos 0 ≤ℤ variable_at point w
  by_case (inl h) = least w h
  by_case (inr e) = subst (λ x. pos 0 ≤ℤ variable_at point x) (sym e) (least_of (value_at point lin) (variable_at point v) (value_down point lin v (pos 0) is) (le-true (value_at point lin) (pos 0) le))

pub most_more : (point : List ℤ) (old new : List Bool) (lin : Linear) (v : ℕ) → lin ≡ record { terms = (v, pos 1) ∷ []; constant = negsuc 0 }
    → ((w : ℕ) → slice_get new w ≡ Some true → (slice_get old w ≡ Some true) ⊎ (w ≡ v)) → int_le (value_at point lin) (pos 0) ≡ true → AreMost old point → AreMost new point
most_more point old new lin v is marked le most w at = by_case (marked w at) where
  by_case : (slice_get old w ≡ Some true) ⊎ (w ≡ v) → variable_at point w ≤ℤ pos 1
  by_case (inl h) = most w h
  by_case (inr e) = subst (λ x. variable_at point x ≤ℤ pos 1) (sym e) (most_of (value_at point lin) (variable_at point v) (value_up point lin v (negsuc 0) is) (le-true (value_at point lin) (pos 0) le))

-- what calls return

pub replaces_copied : {E : Type 0} (low high : List Bool) (form : Form) (made : Result Form E) → IfOk made (λ copied. copied ≡ form) → IfOk made (Replaces low high form)
replaces_copied low high form (Ok copied) is = replaces_itself low high form copied is
replaces_copied low high form (Err e) is = tt

pub replaces_linked : {E : Type 0} (low high : List Bool) (form : Form) (u v : ℕ) (same : Bool) (made : Result (Option Form) E) → IsLink low high form u v same
    → IfOk made (λ other. IfSome other (IsLinkForm u v same)) → IfOk made (λ other. IfSome other (Replaces low high form))
replaces_linked low high form u v same (Ok (Some other)) is are = replaces_link low high form other u v same is are
replaces_linked low high form u v same (Ok None) is are = tt
replaces_linked low high form u v same (Err e) is are = tt

-- without a mark

pub within_unmarked : (low high : List Bool) → ((v : ℕ) → slice_get low v ≡ Some true → ⊥) → ((v : ℕ) → slice_get high v ≡ Some true → ⊥) → (point : List ℤ) → AreWithin low high point
within_unmarked low high none never point = record { least = λ v at. absurd (none v at); most = λ v at. absurd (never v at) }

-- bounds of a literal
pub within_more : (point : List ℤ) (lit : Lit) (lin : Linear) (low high next_low next_high : List Bool) → lit ≡ Le lin
    → (int_le (value_at point lin) (pos 0) ≡ true → AreLeast low point → AreLeast next_low point) → (int_le (value_at point lin) (pos 0) ≡ true → AreMost high point → AreMost next_high point)
    → lit_truth point lit ≡ true → AreWithin low high point → AreWithin next_low next_high point
within_more point lit lin low high next_low next_high is least most h within =
    let le : int_le (value_at point lin) (pos 0) ≡ true = ap (lit_truth point) (sym is) ∙ h in
    record { least = least le within.least; most = most le within.most }

-- what tables say that are lent
pub within_lent : (low high lent_low lent_high : List Bool) (form : Form) → lent_low ≡ low → lent_high ≡ high → ((point : List ℤ) → truth point form ≡ true → AreWithin low high point)
    → (point : List ℤ) → truth point form ≡ true → AreWithin lent_low lent_high point
within_lent low high lent_low lent_high form is are within point h =
    subst (λ (l : List Bool). AreWithin l lent_high point) (sym is) (subst (λ (l : List Bool). AreWithin low l point) (sym are) (within point h))

-- what is marked from the start

none_behind : (k : ℕ) (xs : List Bool) → ((v : ℕ) → slice_get xs v ≡ Some true → ⊥) → (v : ℕ) → slice_get (drop k xs) v ≡ Some true → ⊥
none_behind zero xs none v h = none v h
none_behind (suc k) [] none v h = none v h
none_behind (suc k) (x ∷ xs) none v h = none_behind k xs (λ w at. none (suc w) at) v h

in_front : (xs ys : List Bool) → ((v : ℕ) → slice_get ys v ≡ Some true → ⊥) → (v : ℕ) → slice_get (xs ++ ys) v ≡ Some true → slice_get xs v ≡ Some true
in_front [] ys none v h = absurd (none v h)
in_front (x ∷ xs) ys none zero h = h
in_front (x ∷ xs) ys none (suc v) h = in_front xs ys none v h

among_first : (n : ℕ) (xs : List Bool) (v : ℕ) → slice_get (take n xs) v ≡ Some true → slice_get xs v ≡ Some true
among_first zero xs v h = absurd (cc)
among_first (suc n) [] v h = h
among_first (suc n) (x ∷ xs) zero h = h
among_first (suc n) (x ∷ xs) (suc v) h = among_first n xs v h

written : (n : ℕ) (next own : List Bool) → ((v : ℕ) → slice_get own v ≡ Some true → ⊥) → (v : ℕ) → slice_get (take n (next ++ drop (length next) own)) v ≡ Some true → slice_get next v ≡ Some true
written n next own none v h =
    in_front next (drop (length next) own) (none_behind (length next) own none) v (among_first n (next ++ drop (length next) own) v h)

pub marked_by : (n m : ℕ) (low high lent_low lent_high next_low next_high : List Bool) (form : Form) → ((v : ℕ) → slice_get low v ≡ Some true → ⊥) → ((v : ℕ) → slice_get high v ≡ Some true → ⊥)
    → lent_low ≡ low → lent_high ≡ high → ((point : List ℤ) → truth point form ≡ true → AreWithin lent_low lent_high point → AreWithin next_low next_high point)
    → (point : List ℤ) → truth point form ≡ true → AreWithin (take n (next_low ++ drop (length next_low) low)) (take m (next_high ++ drop (length next_high) high)) point
marked_by n m low high lent_low lent_high next_low next_high form none never is are marked point h =
    let within : AreWithin next_low next_high point =
    marked point h (subst (λ (l : List Bool). AreWithin l lent_high point) (sym is) (subst (λ (l : List Bool). AreWithin low l point) (sym are) (within_unmarked low high none never point))) in
    record { least = λ v at. within.least v (written n next_low low none v at); most = λ v at. within.most v (written m next_high high never v at) }

-- a conjunction part by part

pub replaces_none : (low high : List Bool) → Replaces low high (And []) (And [])
replaces_none low high = replaces_itself low high (And []) (And []) refl

pub replaces_next : (low high : List Bool) (parts made : List Form) (i : ℕ) (part new : Form) → i < length parts → part ≡ get_or parts i part → Replaces low high (And (take i parts)) (And made)
    → Replaces low high part new → Replaces low high (And (take (i + 1) parts)) (And (made ++ new ∷ []))
replaces_next low high parts made i part new within is all one =
    let split : take (i + 1) parts ≡ take i parts ++ part ∷ [] = take_more parts i part within ∙ ap (λ (x : Form). take i parts ++ x ∷ []) (sym is) in
    subst (λ (fs : List Form). Replaces low high (And fs) (And (made ++ new ∷ []))) (sym split) (replaces_more low high (take i parts) made part new all one)

pub replaces_end : (low high : List Bool) (parts made : List Form) (i : ℕ) → length parts ≤ i → Replaces low high (And (take i parts)) (And made) → Replaces low high (And parts) (And made)
replaces_end low high parts made i past is = subst (λ (fs : List Form). Replaces low high (And fs) (And made)) (take_all i parts past) is

pub ruleset all_parts = (replaces_none, replaces_next, replaces_end)

-- a formula by its parts

pub replaces_and : (low high : List Bool) (form : Form) (parts lent made : List Form) → form ≡ And parts → lent ≡ parts → Replaces low high (And lent) (And made) → Replaces low high form (And made)
replaces_and low high form parts lent made is same replaces =
    subst (λ (f : Form). Replaces low high f (And made)) (sym is) (subst (λ (fs : List Form). Replaces low high (And fs) (And made)) same replaces)

pub replaces_or : (low high : List Bool) (form : Form) (parts lent : List Form) (made : Form) → form ≡ Or parts → lent ≡ parts → Replaces low high (Or lent) made → Replaces low high form made
replaces_or low high form parts lent made is same replaces =
    subst (λ (f : Form). Replaces low high f made) (sym is) (subst (λ (fs : List Form). Replaces low high (Or fs) made) same replaces)

pub ruleset by_parts = (replaces_copied, replaces_and, replaces_or)
