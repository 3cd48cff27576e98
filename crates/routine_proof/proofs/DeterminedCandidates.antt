-- Each candidate of the list has a question with at most one answer.
use Rattle.std.proofs.Common.{zero, suc, List, [], ◌∷◌, Bool, arith, map}
use Rattle.std.specs.List.{AllByRecursion}
use Rattle.term_core.specs.Tree.{Tree}
use Rattle.spec_core.specs.declared.records.Goal.{Goal}
use Rattle.spec_core.specs.declared.records.Spec.{Spec}
use Rattle.spec_core.specs.Sig.{Sig}
use Rattle.clause_core.specs.declared.clauses.Clause.{Clause}
use Rattle.clause_core.specs.declared.steps.Step.{Step}
use Rattle.clause_places.specs.Spots.{Spot}
use Rattle.fitting_lists.specs.Questions.{Question}
use Rattle.fitting_lists.specs.Fitting.{fittings, rewritable, rewriting}
use Rattle.fitting_lists.proofs.Determined.{IsDetermined, one_list, fittings_determined, rewriting_determined}
use Rattle.routine_proof.specs.Candidates.{Candidate, Asks, all_less, certain}
use Rattle.routine_proof.specs.Entries.{by_fitting, by_rewriting}
use Rattle.routine_proof.specs.Routine.{Start, no_split, split, candidates}
use Rattle.routine_proof.proofs.CandidateLists.{AreAll, HoldsOfKinds, cover_all, entries_all}
use Rattle.routine_proof.proofs.Choices.{HasOneAnswer, AreDetermined}

-- each variable of the question occurs in its patterns
abbrev HasAll : Candidate → Type 0
HasAll c = IsDetermined c.question

all_asked :
    (qs : List Question) (asks : Asks) (step : List Tree → Step) → AllByRecursion IsDetermined qs →
    AllByRecursion HasAll
    (map (λ (q : Question). record { question = q; step = step; asks = asks }) qs)
all_asked [] asks step h = tt
all_asked (q ∷ qs) asks step h = (h.0, all_asked qs asks step h.1)

all_rewriting :
    (referred : Clause) (step : List Tree → Bool → Step) (t : Tree) (sides : List (Bool × Tree)) →
    AllByRecursion (λ (s : Bool × Tree). (t : Tree) → IsDetermined (rewriting referred s.1 t))
    sides →
    AllByRecursion HasAll
    (map
    (λ (s : Bool × Tree). record {
      question = rewriting referred s.1 t;
      step = λ list. step list s.0;
      asks = all_less;
    })
    sides)
all_rewriting referred step t [] h = tt
all_rewriting referred step t (s ∷ sides) h = (h.0 t, all_rewriting referred step t sides h.1)

single_has : (step : Step) → AreAll HasAll (certain step)
single_has step = record { all = (λ n lt. absurd (omega arith), tt) }

fits_have :
    (here referred : Clause) (asks : Asks) (step : List Tree → Step) →
    AreAll HasAll (by_fitting here referred asks step)
unfolding by_fitting
fits_have here referred asks step =
    let determined = fittings_determined here referred in
    record { all = all_asked (fittings here referred) asks step determined }

rewrites_have :
    (referred : Clause) (step : List Tree → Bool → Step) (spot : Spot) →
    AreAll HasAll (by_rewriting referred step spot)
unfolding by_rewriting
rewrites_have referred step spot = record {
  all = all_rewriting referred step spot.term (rewritable referred) (rewriting_determined referred);
}

kinds_have : (sig : Sig) → HoldsOfKinds sig HasAll
kinds_have sig = record {
  single = λ step listed. single_has step;
  fits = λ here referred asks step listed. fits_have here referred asks step;
  rewrites = λ referred step spot listed. rewrites_have referred step spot;
}

-- so each has at most one answer
answers_one : (cs : List Candidate) → AreAll HasAll cs → AllByRecursion HasOneAnswer cs
answers_one cs have = go cs have.all
  where
    go : (cs : List Candidate) → AllByRecursion HasAll cs → AllByRecursion HasOneAnswer cs
    go [] d = tt
    go (c ∷ cs) d = (λ xs ys p q. one_list c.question xs ys d.0 p q, go cs d.1)

-- each candidate of a start has at most one answer
pub candidates_determined :
    (spec : Spec) (lemmas : List Goal) (start : Start) →
    AreDetermined (candidates spec lemmas start)
candidates_determined spec lemmas (split v) zero nodes node =
    answers_one _ (cover_all spec HasAll (kinds_have spec.sig) node.clause v)
candidates_determined spec lemmas (split v) (suc k) nodes node =
    answers_one _ (entries_all spec HasAll (kinds_have spec.sig) lemmas nodes node)
candidates_determined spec lemmas no_split k nodes node =
    answers_one _ (entries_all spec HasAll (kinds_have spec.sig) lemmas nodes node)
