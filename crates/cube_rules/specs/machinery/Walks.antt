-- Tests of lemmas by their numbers, as the code tries them.
use Rattle.std.specs.Prelude.{ℕ, List, length, Bool, ◌&&◌, ◌==◌, nat_le, nat_lt}
use Rattle.lemma_frames.specs.declared.framed.Framed.{Framed as KeptLemma}
use Rattle.book_rules.specs.Frames.{Framed, Lemma, excludes, same_lemma}
use Rattle.book_rules.specs.Instances.{Ground}
use Rattle.cube_rules.specs.Views.{framed_at}

-- a lemma of this level or more that shuts the tuple out, and one that is equal to another
abbrev pub shuts : ℕ → Ground → Framed → Bool
shuts k a e = nat_le k e.level && excludes e.lemma a

abbrev pub equals : ℕ → Lemma → Framed → Bool
equals k lemma e = nat_le k e.level && same_lemma e.lemma lemma

-- a lemma of this level or more on the predicate
abbrev pub is_on : ℕ → ℕ → Framed → Bool
is_on k pred e = nat_le k e.level && (e.lemma.pred == pred)

-- whether the lemma of a number is there and passes
abbrev pub passes_at : (Framed → Bool) → List KeptLemma → ℕ → Bool
passes_at test lemmas n = nat_lt n (length lemmas) && test (framed_at lemmas n)
