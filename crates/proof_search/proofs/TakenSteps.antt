-- What taking a step at a node says of the candidates that stand for it.
use Rattle.std.proofs.Common.{◌≡◌, List, [], ◌∷◌, Option, Some, None, Ok, Err, Result, inl, refl, ap, sym, ◌∙◌, subst}
use Rattle.std.specs.Prelude.{Contains}
use Rattle.term_core.specs.Tree.{Tree}
use Rattle.clause_core.specs.declared.answers.Children.{Children}
use Rattle.clause_core.specs.declared.answers.Why.{Why}
use Rattle.clause_core.specs.declared.steps.Step.{Step}
use Rattle.clause_core.specs.Says.{Says}
use Rattle.clause_core.specs.StepLaws.{OneAnswer}
use Rattle.clause_core.specs.Steps.{row_of}
use Rattle.inference_rules.specs.Answers.{clauses_of}
use Rattle.fitting_lists.specs.Answering.{IsOnlyAnswer}
use Rattle.fitting_lists.specs.Questions.{Question, Answers}
use Rattle.routine_proof.specs.declared.moves.Move.{Move}
use Rattle.routine_proof.specs.Candidates.{Asks, nothing, Meets, Candidate, Gives, certain}
use Rattle.routine_proof.specs.First.{NoneIs, IsFirst}
use Rattle.proof_search.specs.declared.at.At.{At}
use Rattle.proof_search.specs.Taking.{IsAt, IsTaken, SaysAt}

module _ (above : Tree → Tree → Type 0) (one : OneAnswer above) (at : At) (is : IsAt at)
    (step : Step) where
  only_made : (made other : Children) → SaysAt above at step made → SaysAt above at step other →
      made ≡ other
  only_made made other p q =
      let e : ◌≡◌ {A = Result Children Why} (Ok made) (Ok other) =
      one at.setting.now.spec.now at.setting.now.lemmas.now
      (clauses_of at.nodes.now) at.here.now step (Ok made) (Ok other) is.setting.fine p q in
      cc

  -- what is made doesn't meet what is asked for
  pub unmet :
      (asks : Asks) (other : Children) → SaysAt above at step other → (Meets asks other → ⊥) →
      IsTaken (SaysAt above at) step asks None
  unmet asks other p h = λ made says meets. h
      (subst (λ (x : Children). Meets asks x) (only_made made other says p) meets)

  -- nothing is made
  pub refused :
      (asks : Asks) (why : Why) →
      Says above at.here.now (clauses_of at.nodes.now)
      (row_of at.setting.now.spec.now (Contains at.setting.now.lemmas.now)
      (clauses_of at.nodes.now) at.here.now step) (Err why) →
      IsTaken (SaysAt above at) step asks None
  refused asks why p = λ made says meets.
      let e : ◌≡◌ {A = Result Children Why} (Ok made) (Err why) =
      one at.setting.now.spec.now at.setting.now.lemmas.now
      (clauses_of at.nodes.now) at.here.now step (Ok made) (Err why) is.setting.fine says p in
      absurd (cc)

module _ (says : Step → Children → Type 0) where
  -- the one step of a candidate without a question
  pub certain_found : (step : Step) (found : Option Move) → IsTaken says step nothing found →
      IsFirst (Gives says) (certain step) found
  certain_found step None none = (
    λ move g. none move.made
        (subst (λ (s : Step). says s move.made) g.step g.defined) tt,
    tt,
  )
  certain_found step (Some move) t =
      inl (record {
        list = [];
        answers = (refl, refl);
        step = t.0;
        defined = subst (λ (s : Step). says s move.made) (sym t.0) t.1;
        meets = tt;
      })

  module _ (question : Question) (step : List Tree → Step) (asks : Asks) where
    abbrev pub asked_for : List Candidate
    asked_for = record { question = question; step = step; asks = asks } ∷ []

    -- a question without an answer gives nothing
    pub none_answers : IsOnlyAnswer question None → NoneIs (Gives says) asked_for
    none_answers only = (λ move g. only g.list g.answers, tt)

    -- the step of the one list that answers
    pub answered_found :
        (list : List Tree) (found : Option Move) → Answers question list →
        ((other : List Tree) → Answers question other → other ≡ list) →
        IsTaken says (step list) asks found → IsFirst (Gives says) asked_for found
    answered_found list None answers only none = (
      λ move g.
          let e : g.list ≡ list = only g.list g.answers in
          none move.made (subst (λ (s : Step). says s move.made)
          (g.step ∙ ap step e) g.defined) g.meets,
      tt,
    )
    answered_found list (Some move) answers only t =
        inl (record {
          list = list;
          answers = answers;
          step = t.0;
          defined = subst (λ (s : Step). says s move.made) (sym t.0) t.1;
          meets = t.2;
        })
