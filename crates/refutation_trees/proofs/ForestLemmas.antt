-- Split trees on several nodes: they stand side by side, and each may end anywhere.
use Rattle.std.proofs.Common.{◌≡◌, ℕ, suc, ◌+◌, List, [], ◌∷◌, ◌++◌, refl, ap, sym, ◌∙◌, subst, arith, append_assoc}
use Rattle.refutation_trees.specs.Split.{Node, HaveTrees, inner, joined, leaf, none, takes_in}

pub all-leaves : (q : ℕ) (nodes : List Node) → HaveTrees q nodes 0
all-leaves q [] = none
all-leaves q (node ∷ nodes) = leaf node nodes 0 (all-leaves q nodes)

pub together : (q : ℕ) (these those : List Node) (m n : ℕ) → HaveTrees q these m → HaveTrees q those n → HaveTrees q (these ++ those) (m + n)
together q _ those _ n none have = let e : n ≡ 0 + n = omega arith in subst (HaveTrees q those) e have
together q _ those _ n (leaf node nodes m is) have = leaf node (nodes ++ those) (m + n) (together q nodes those m n is have)
together q _ those _ n (takes_in node nodes m k lit at is) have = takes_in node (nodes ++ those) (m + n) k lit at (together q (joined k lit node ∷ nodes) those m n is have)
together q _ those _ n (inner node nodes below m split is) have =
    let e : suc (m + n) ≡ suc m + n = omega arith in
    subst (HaveTrees q (node ∷ nodes ++ those)) e (inner node (nodes ++ those) below (m + n) split (subst (λ ns. HaveTrees q ns (m + n)) (append_assoc below nodes those) (together q (below ++ nodes) those m n is have)))

pub same-head : (a b : Node) (xs ys : List Node) → a ∷ xs ≡ b ∷ ys → a ≡ b
same-head a b xs ys e = cc

pub same-rest : (a b : Node) (xs ys : List Node) → a ∷ xs ≡ b ∷ ys → xs ≡ ys
same-rest a b xs ys e = cc

record Parted (q : ℕ) (these those : List Node) (n : ℕ) : Type 0 where
  pub first : ℕ
  pub second : ℕ
  pub one : HaveTrees q these first
  pub two : HaveTrees q those second
  pub whole : first + second ≡ n

parted : (q : ℕ) (these those nodes : List Node) (n : ℕ) → HaveTrees q nodes n → nodes ≡ these ++ those → Parted q these those n
parted q [] those nodes n have e = record { first = 0; second = n; one = none; two = subst (λ ns. HaveTrees q ns n) e have; whole = omega arith }
parted q (this ∷ these) those _ _ none e = absurd (cc)
parted q (this ∷ these) those _ _ (leaf node nodes n is) e =
    let rest = parted q these those nodes n is (same-rest node this nodes (these ++ those) e) in
    record { first = rest.first; second = rest.second; one = leaf this these rest.first rest.one; two = rest.two; whole = rest.whole }
parted q (this ∷ these) those _ _ (takes_in node nodes n k lit at is) e =
    let rest = parted q (joined k lit node ∷ these) those (joined k lit node ∷ nodes) n is (ap (λ ns. joined k lit node ∷ ns) (same-rest node this nodes (these ++ those) e)) in
    record {
      first = rest.first;
      second = rest.second;
      one = subst (λ a. HaveTrees q (a ∷ these) rest.first) (same-head node this nodes (these ++ those) e) (takes_in node these rest.first k lit at rest.one);
      two = rest.two;
      whole = rest.whole;
    }
parted q (this ∷ these) those _ _ (inner node nodes below n split is) e =
    let rest = parted q (below ++ these) those (below ++ nodes) n is (ap (λ ns. below ++ ns) (same-rest node this nodes (these ++ those) e) ∙ sym (append_assoc below these those)) in
    let whole = rest.whole in
    record {
      first = suc rest.first;
      second = rest.second;
      one = subst (λ a. HaveTrees q (a ∷ these) (suc rest.first)) (same-head node this nodes (these ++ those) e) (inner node these below rest.first split rest.one);
      two = rest.two;
      whole = omega (arith, whole);
    }

pub apart : (q : ℕ) (these those : List Node) (n : ℕ) → HaveTrees q (these ++ those) n → (m : ℕ) × (k : ℕ) × HaveTrees q these m × HaveTrees q those k × (m + k ≡ n)
apart q these those n have = let is = parted q these those (these ++ those) n have refl in (is.first, is.second, is.one, is.two, is.whole)
