use Rattle.std.proofs.Common.{length, refl, ◌∙◌, sym}
use Rattle.std.proofs.lemmas.Option.{slice_get_read}
use Rattle.book_rules.specs.Proofs.{is_proof_of}
use Rattle.step_rules.specs.machinery.Claims.{claim_of}
use Rattle.step_rules.proofs.ShownLemmas.{on-true, proof-at}
use Rattle.step_rules.proofs.proving.is_proved_at.Goals as goal

pub returns-in-Some : goal.returns-in-Some
returns-in-Some c =
    let found = c.in-Some.ensures.lookup in
    let proofs = c.args.proofs.now in
    let proof = c.in-Some.proof.now in
    on-true c.is_proof.result _ (λ is. proof-at (is_proof_of (claim_of c.args.claim.now) c.args.number) proofs c.args.at proof (slice_get_read proofs (length proofs) c.args.at proof refl found.3.0 found.1) (sym c.is_proof.ensures ∙ is))
