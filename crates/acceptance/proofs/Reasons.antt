-- The tests of a step for each reason: if it is refused, the one of its reason is the first that finds something.
use Rattle.std.proofs.Common.{◌≡◌, ℕ, ◌<◌, inl, inr, refl, ap, arith}
use Rattle.spec_core.specs.Findings.{test, each, First}
use Rattle.clause_core.specs.declared.answers.Why.{Why}
use Rattle.clause_core.specs.declared.answers.Why.TheVariants.{NoSuchNode, NoSuchPlace, NoSuchRule, DoesNotFit}
use Rattle.clause_core.specs.declared.answers.Why.TheVariants.{NotProvedBefore, Sort, NotCovering, Limit}
use Rattle.clause_core.specs.declared.reports.ReplayWhy.TheVariants.{Step as of_step}
use Rattle.acceptance.specs.Refusals.{all_reasons, Refusal}

-- the places of the reasons in their list
abbrev number : Why → ℕ
number NoSuchNode = 0
number NoSuchPlace = 1
number NoSuchRule = 2
number DoesNotFit = 3
number NotProvedBefore = 4
number Sort = 5
number NotCovering = 6
number Limit = 7

module _ (line : ℕ) (Refused : Why → Type 0) (one : (a b : Why) → Refused a → Refused b → a ≡ b) where
  -- no reason before the one that is found is found
  earlier : (a b : Why) → number a < number b → Refused b → Refused a → ⊥
  earlier a b l p q = let e : number a ≡ number b = ap number (one a b q p) in omega (arith, l, e)

  pub first_reason : (why : Why) → Refused why →
      First {F = Refusal} (each (λ w. test (line, of_step w) (Refused w)) all_reasons) (line, of_step why)
  first_reason NoSuchNode p = inl (p, refl)
  first_reason NoSuchPlace p = inr (earlier NoSuchNode NoSuchPlace (omega arith) p, inl (p, refl))
  first_reason NoSuchRule p = inr (
    earlier NoSuchNode NoSuchRule (omega arith) p,
    inr (earlier NoSuchPlace NoSuchRule (omega arith) p, inl (p, refl)),
  )
  first_reason DoesNotFit p = inr (
    earlier NoSuchNode DoesNotFit (omega arith) p,
    inr (
      earlier NoSuchPlace DoesNotFit (omega arith) p,
      inr (earlier NoSuchRule DoesNotFit (omega arith) p, inl (p, refl)),
    ),
  )
  first_reason NotProvedBefore p = inr (
    earlier NoSuchNode NotProvedBefore (omega arith) p,
    inr (
      earlier NoSuchPlace NotProvedBefore (omega arith) p,
      inr (
        earlier NoSuchRule NotProvedBefore (omega arith) p,
        inr (earlier DoesNotFit NotProvedBefore (omega arith) p, inl (p, refl)),
      ),
    ),
  )
  first_reason Sort p = inr (
    earlier NoSuchNode Sort (omega arith) p,
    inr (
      earlier NoSuchPlace Sort (omega arith) p,
      inr (
        earlier NoSuchRule Sort (omega arith) p,
        inr (
          earlier DoesNotFit Sort (omega arith) p,
          inr (earlier NotProvedBefore Sort (omega arith) p, inl (p, refl)),
        ),
      ),
    ),
  )
  first_reason NotCovering p = inr (
    earlier NoSuchNode NotCovering (omega arith) p,
    inr (
      earlier NoSuchPlace NotCovering (omega arith) p,
      inr (
        earlier NoSuchRule NotCovering (omega arith) p,
        inr (
          earlier DoesNotFit NotCovering (omega arith) p,
          inr (
            earlier NotProvedBefore NotCovering (omega arith) p,
            inr (earlier Sort NotCovering (omega arith) p, inl (p, refl)),
          ),
        ),
      ),
    ),
  )
  first_reason Limit p = inr (
    earlier NoSuchNode Limit (omega arith) p,
    inr (
      earlier NoSuchPlace Limit (omega arith) p,
      inr (
        earlier NoSuchRule Limit (omega arith) p,
        inr (
          earlier DoesNotFit Limit (omega arith) p,
          inr (
            earlier NotProvedBefore Limit (omega arith) p,
            inr (earlier Sort Limit (omega arith) p, inr (earlier NotCovering Limit (omega arith) p, inl (p, refl))),
          ),
        ),
      ),
    ),
  )
