-- What is asked of a cube and what is found, over what is lent.
use Rattle.std.proofs.Common.{◌≡◌, ℕ, List, Some, false, inl, sym, subst}
use Rattle.lin_atoms.specs.declared.lit.Lit.{Lit}
use Rattle.lemma_frames.specs.declared.framed.Framed.{Framed as KeptLemma}
use Rattle.chc_tokens.specs.declared.goal.Goal.{Goal}
use Rattle.chc_tokens.specs.declared.goal.Goal.TheVariants.{Holds}
use Rattle.book_rules.specs.Areas.{is_wide}
use Rattle.book_rules.proofs.ListLemmas.{all_of-push}
use Rattle.clause_queries.specs.Answers.{IsFound, MayAskAll}
use Rattle.clause_queries.specs.declared.finding.Found.{Found}
use Rattle.clause_queries.specs.declared.finding.Found.TheVariants.{Instance, Refuted, GivenUp}
use Rattle.step_rules.specs.Standing.{Standing}
use Rattle.obligation_turn.specs.Turns.{GoesOn}
use Rattle.lemma_general.specs.machinery.Passes.{IsAnswerOf, IsCubeOf, IsFoundOf, with_own}
use Rattle.lemma_general.proofs.MetLemmas.{fits-of}
use Rattle.lemma_general.proofs.OwnLemmas.{own-over}

-- of the lemmas of some frames

pub lent-asks : (a b : Standing) (fs : List KeptLemma) (pred : ℕ) (cube : List Lit) (goal : Goal) → a ≡ b → goal ≡ Holds cube → MayAskAll b.system fs (Some pred) (Holds cube) → MayAskAll a.system fs (Some pred) goal
lent-asks a b fs pred cube goal same is may = subst (λ (x : Standing). MayAskAll x.system fs (Some pred) goal) (sym same) (subst (MayAskAll b.system fs (Some pred)) (sym is) may)

pub lent-found : (a b : Standing) (fs : List KeptLemma) (pred : ℕ) (cube lemma : List Lit) (k nodes : ℕ) (found : Found) → a ≡ b → lemma ≡ cube → IsFound a.system fs (Some pred) (Holds lemma) k nodes found → IsFound b.system fs (Some pred) (Holds cube) k nodes found
lent-found a b fs pred cube lemma k nodes found same is h =
    subst (λ (x : Standing). IsFound x.system fs (Some pred) (Holds cube) k nodes found) same (subst (λ (c : List Lit). IsFound a.system fs (Some pred) (Holds c) k nodes found) is h)

-- of the lemmas that are lent

pub cube-asks : (a b : Standing) (pred : ℕ) (cube : List Lit) → a ≡ b → GoesOn b → IsCubeOf b pred cube → MayAskAll b.system a.frames.lemmas (Some pred) (Holds cube)
cube-asks a b pred cube same goes is =
    subst (λ (x : Standing). MayAskAll b.system x.frames.lemmas (Some pred) (Holds cube)) (sym same)
    (record { numbered = (goes.standing).numbered.0; few = goes.few; over = ((goes.standing).over).lemmas; thin = (goes.thin).lemmas; fits = fits-of b pred cube is })

pub cube-found : (a b : Standing) (pred : ℕ) (cube : List Lit) (k nodes : ℕ) (found : Found) → a ≡ b → IsFound b.system a.frames.lemmas (Some pred) (Holds cube) k nodes found → IsFoundOf b pred cube k nodes found
cube-found a b pred cube k nodes found same h = subst (λ (x : Standing). IsFound b.system x.frames.lemmas (Some pred) (Holds cube) k nodes found) same h

-- of these and the lemma itself

pub own-asks : (b : Standing) (pred k : ℕ) (cube : List Lit) (fs : List KeptLemma) → GoesOn b → IsCubeOf b pred cube → fs ≡ with_own b pred cube k → MayAskAll b.system fs (Some pred) (Holds cube)
own-asks b pred k cube fs goes is same =
    subst (λ (xs : List KeptLemma). MayAskAll b.system xs (Some pred) (Holds cube)) (sym same)
    (record {
      numbered = (goes.standing).numbered.0;
      few = goes.few;
      over = own-over b pred k cube goes is;
      thin = all_of-push (λ (f : KeptLemma). is_wide f.lemma ≡ false) b.frames.lemmas (record { pred = pred; level = k; lemma = cube }) (goes.thin).lemmas is.thin;
      fits = fits-of b pred cube is;
    })

-- what is found there is an answer

pub answer-found : (b : Standing) (pred : ℕ) (cube : List Lit) (k nodes : ℕ) (found : Found) → IsFoundOf b pred cube k nodes found → IsAnswerOf b pred cube k nodes found
answer-found b pred cube k nodes (Instance seen) h = h
answer-found b pred cube k nodes (Refuted proofs) h = inl h
answer-found b pred cube k nodes (GivenUp lost) h = h
