-- Goals are kept if the first one that may be the next one is taken for it.
use Rattle.std.proofs.Common.{◌≡◌, List, [], ◌∷◌, Bool, true, IsTrue, ℕ, suc, inl, inr, sym, subst, ◌∙◌, length, arith}
use Rattle.std.specs.Prelude.{◌↔◌, ◌==◌}
use Rattle.std.proofs.lemmas.Bool.{eqb-true}
use Rattle.spec_core.specs.declared.records.Goal.{Goal}
use Rattle.added_goals.specs.Additions.{AreKept}

-- a further goal before the new ones
kept_behind : (goal : Goal) (old new : List Goal) → AreKept old new → AreKept old (goal ∷ new)
kept_behind goal [] new k = tt
kept_behind goal (g ∷ old) new k = inr k

-- one goal fewer
kept_fewer : (goal : Goal) (old new : List Goal) → AreKept (goal ∷ old) new → AreKept old new
kept_fewer goal old [] k = absurd k
kept_fewer goal old (next ∷ new) (inl k) = kept_behind next old new k.1
kept_fewer goal old (next ∷ new) (inr k) = kept_behind next old new (kept_fewer goal old new k)

pub kept_by_next : (goal next : Goal) (old new : List Goal) → next ≡ goal →
    AreKept (goal ∷ old) (next ∷ new) ↔ AreKept old new
kept_by_next goal next old new same = (
  (λ k. elim k [ inl p ↦ p.1 | inr q ↦ kept_fewer goal old new q ]),
  (λ k. inl (same, k)),
)

no_end : (n : ℕ) → true ≡ (suc n == 0) → ⊥
no_end n is = let e : suc n ≡ 0 = eqb-true (suc n) 0 (sym is) in omega (arith, e)

-- after the last new goal those that are awaited decide
decided_by :
    (awaited old new : List Goal) → AreKept awaited [] ↔ AreKept old new →
    (b : Bool) → b ≡ (length awaited == 0) → IsTrue b ↔ AreKept old new
decided_by [] old new decides b tells = ((λ t. decides.0 tt), (λ k. tells))
decided_by (goal ∷ awaited) old new decides b tells = (
  (λ t. absurd (no_end (length awaited) (sym t ∙ tells))),
  (λ k. absurd (decides.1 k)),
)

pub decided_at_end :
    (awaited rest old new : List Goal) → rest ≡ [] → AreKept awaited rest ↔ AreKept old new →
    (b : Bool) → b ≡ (length awaited == 0) → IsTrue b ↔ AreKept old new
decided_at_end awaited rest old new end decides b tells =
    decided_by awaited old new (subst (λ gs. AreKept awaited gs ↔ AreKept old new) end decides) b tells
