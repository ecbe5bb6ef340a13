-- Words among those of like lengths.
use Rattle.std.proofs.Common.{◌≡◌, ◌<◌, ℕ, List, [], ◌∷◌, length, Bool, true, false, ◌||◌, refl, sym, ap, ◌∙◌}
use Rattle.std.specs.Prelude.{if◌then◌else◌}
use Rattle.std.specs.Str.{bytes_eq}
use Rattle.std.proofs.lemmas.Bool.{false≢true}
use Rattle.std.proofs.lemmas.Slice.Eq.{bytes_eq-Decides}
use Rattle.term_check.specs.Words.{is_word_among}
use Rattle.term_check.specs.machinery.WordLengths.{is_between, between}
use Rattle.term_check.proofs.ReadingLemmas.{both, lt_test}

-- a word that fails a test which the other passes is another
other : (test : List ℕ → Bool) (word w : List ℕ) → test word ≡ true → test w ≡ false → bytes_eq word w ≡ false
other test word w h k = by (bytes_eq word w) refl where
  by : (b : Bool) → bytes_eq word w ≡ b → b ≡ false
  by true e = absurd (false≢true (sym k ∙ ap test (sym ((bytes_eq-Decides word w).0 e)) ∙ h))
  by false e = refl

among_by : (b : Bool) (test : List ℕ → Bool) (word w : List ℕ) (ws rest : List (List ℕ)) → test word ≡ true → test w ≡ b → is_word_among rest word ≡ is_word_among ws word
    → is_word_among (if b then w ∷ rest else rest) word ≡ is_word_among (w ∷ ws) word
among_by true test word w ws rest h is r = ap (λ x. bytes_eq word w || x) r
among_by false test word w ws rest h is r = r ∙ ap (λ x. x || is_word_among ws word) (sym (other test word w h is))

among_between : (low high : ℕ) (words : List (List ℕ)) (word : List ℕ) → is_between low high word ≡ true → is_word_among (between low high words) word ≡ is_word_among words word
among_between low high [] word h = refl
among_between low high (w ∷ ws) word h = among_by (is_between low high w) (is_between low high) word w ws (between low high ws) h refl (among_between low high ws word h)

-- only words of like lengths can be that word
pub among : (low high : ℕ) (words : List (List ℕ)) (word : List ℕ) → low < length word → length word < high → is_word_among (between low high words) word ≡ is_word_among words word
among low high words word h k = among_between low high words word (both _ _ (lt_test low (length word) h) (lt_test (length word) high k))
