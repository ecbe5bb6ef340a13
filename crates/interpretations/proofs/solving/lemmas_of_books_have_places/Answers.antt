use Rattle.interpretations.proofs.PlaceLemmas.{places-kept}
use Rattle.interpretations.proofs.solving.lemmas_of_books_have_places.Goals as goal

pub returns : goal.returns
returns c = places-kept
