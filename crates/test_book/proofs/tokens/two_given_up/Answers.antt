use Rattle.test_book.proofs.OpenLemmas.{two-given-up}
use Rattle.test_book.proofs.tokens.two_given_up.Goals as goal

pub keep-requires : goal.keep-requires
keep-requires g c = rw (c.both-form.ensures, c.both-base.ensures, c.either-other.ensures) (∣ two-given-up _ _ _ ∣₁)
