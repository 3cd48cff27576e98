-- The chosen step is that of the first candidate with a possible step.
use Rattle.std.proofs.Common.{◌≡◌, ℕ, ◌+◌, ◌≤◌, List, [], ◌∷◌, true, false, Option, Some, None, inl, inr, length, drop}
use Rattle.std.proofs.Common.{refl, sym, subst}
use Rattle.std.specs.Prelude.{Contains, is_some, slice_get}
use Rattle.term_core.specs.Tree.{Tree}
use Rattle.term_core.proofs.Items.{drop_here, drop_past}
use Rattle.spec_core.specs.declared.records.Spec.{Spec}
use Rattle.clause_core.specs.declared.clauses.Clause.{Clause}
use Rattle.clause_core.specs.declared.steps.Step.{Step}
use Rattle.plain_search.specs.declared.candidates.Candidate.{Candidate}
use Rattle.plain_search.specs.declared.candidates.Candidate.TheVariants.{Trivial, RuleOnLeft, RuleOnRight, Decompose}
use Rattle.plain_search.specs.declared.candidates.Candidate.TheVariants.{AsWritten, WithSidesSwapped}
use Rattle.plain_search.specs.declared.candidates.Taken.{Taken}
use Rattle.plain_search.specs.Choices.{IsPossible, IsChosen}
use Rattle.plain_search.specs.Candidates.{IsOf, IsTaken, IsFirstTaken, IsNext}
use Rattle.plain_search.proofs.TakenCandidates.{skipped}

abbrev pub all : List Candidate
all = Trivial ∷ RuleOnLeft ∷ RuleOnRight ∷ Decompose ∷ AsWritten ∷ WithSidesSwapped ∷ []

module _ (above : Tree → Tree → Type 0) (spec : Spec) (start : Clause) (nodes : List Clause) (c : Clause) where
  possible : (candidate : Candidate) (taken : Taken) → IsTaken above spec start nodes c candidate (Some taken) →
      IsPossible above spec (Contains []) start nodes c (IsOf spec start c candidate) taken.step
  possible candidate taken h = (h.0, taken.made, h.1)

  pub chosen : (found : Option Taken) → IsFirstTaken above spec start nodes c all found →
      IsNext above spec start nodes c found
  chosen (Some t) (inl p) = (inl (possible Trivial t p), p.1)
  chosen (Some t) (inr (a, inl p)) = (inr (a, inl (possible RuleOnLeft t p)), p.1)
  chosen (Some t) (inr (a, inr (b, inl p))) = (inr (a, inr (b, inl (possible RuleOnRight t p))), p.1)
  chosen (Some t) (inr (a, inr (b, inr (d, inl p)))) = (inr (a, inr (b, inr (d, inl (possible Decompose t p)))), p.1)
  chosen (Some t) (inr (a, inr (b, inr (d, inr (e, inl p))))) = (
    inr (
      a,
      inr (b, inr (d, inr (e, inl (possible AsWritten t p)))),
    ),
    p.1,
  )
  chosen (Some t) (inr (a, inr (b, inr (d, inr (e, inr (f, inl p)))))) = (
    inr (
      a,
      inr (b, inr (d, inr (e, inr (f, possible WithSidesSwapped t p)))),
    ),
    p.1,
  )
  chosen (Some t) (inr (a, inr (b, inr (d, inr (e, inr (f, inr (g, q))))))) = absurd (cc)
  chosen None (a, (b, (d, (e, (f, (g, q)))))) = not_chosen
    where
      not_chosen : (step : Step) → IsChosen above spec (Contains []) start nodes c step → ⊥
      not_chosen step (inl p) = a step p
      not_chosen step (inr (x, inl p)) = b step p
      not_chosen step (inr (x, inr (y, inl p))) = d step p
      not_chosen step (inr (x, inr (y, inr (z, inl p)))) = e step p
      not_chosen step (inr (x, inr (y, inr (z, inr (v, inl p))))) = f step p
      not_chosen step (inr (x, inr (y, inr (z, inr (v, inr (w, p)))))) = g step p

  -- what the candidates from a place on find, if those before it find nothing, is what all find
  abbrev pub FindsFrom : ℕ → Type 0
  FindsFrom i = (found : Option Taken) → IsFirstTaken above spec start nodes c (drop i all) found →
      IsFirstTaken above spec start nodes c all found

  module _ (i : ℕ) (candidate : Candidate) (at : slice_get all i ≡ Some candidate) (before : FindsFrom i) where
    from_here : (found : Option Taken) → IsFirstTaken above spec start nodes c (candidate ∷ drop (i + 1) all)
        found → IsFirstTaken above spec start nodes c all found
    from_here found h = before found (subst (λ ks. IsFirstTaken above spec start nodes c ks found)
        (sym (drop_here all i candidate at)) h)

    pub found_here : (found : Option Taken) → IsTaken above spec start nodes c candidate found →
        is_some found ≡ true → IsNext above spec start nodes c found
    found_here (Some t) h e = chosen (Some t) (from_here (Some t) (inl h))
    found_here None h e = absurd (cc)

    pub passed_here : slice_get nodes 0 ≡ Some start → (found : Option Taken) →
        IsTaken above spec start nodes c candidate found → is_some found ≡ false → FindsFrom (i + 1)
    passed_here there (Some t) h e = absurd (cc)
    passed_here there None h e = λ found k. from_here found
        (skipped above spec start nodes c there candidate (drop (i + 1) all) found h k)

  pub none_found : (i : ℕ) → length all ≤ i → FindsFrom i → IsNext above spec start nodes c None
  none_found i past before = chosen None
      (before None (subst (λ ks. IsFirstTaken above spec start nodes c ks None) (sym (drop_past all i past)) refl))
