use Rattle.test_book.proofs.OpenLemmas.{choice-given-up}
use Rattle.test_book.proofs.tokens.either_given_up.Goals as goal

pub keep-requires : goal.keep-requires
keep-requires g c = rw (c.alone-form.ensures, c.both-base.ensures) (∣ choice-given-up _ _ ∣₁)
