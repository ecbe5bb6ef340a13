use Rattle.test_book.proofs.OpenLemmas.{one-given-up}
use Rattle.test_book.proofs.tokens.one_given_up.Goals as goal

pub keep-requires : goal.keep-requires
keep-requires g c = rw (c.both-form.ensures, c.alone-base.ensures, c.either-other.ensures) (∣ one-given-up _ _ ∣₁)
