-- Equations among the ones from a place on.
use Rattle.std.proofs.Common.{◌≡◌, ℕ, zero, suc, ◌+◌, ◌<◌, ◌≤◌, List, [], ◌∷◌, inl, inr, length, drop, get_or, add-one}
use Rattle.std.proofs.Common.{sym, subst, arith}
use Rattle.spec_core.specs.declared.records.Equation.{Equation}
use Rattle.clause_core.specs.Equations.{IsEither, Among}

-- what is among the equations from a place on is among all
pub among_rest : (e : Equation) (es : List Equation) (i : ℕ) → Among e (drop i es) → Among e es
among_rest e [] zero h = h
among_rest e [] (suc i) h = h
among_rest e (d ∷ es) zero h = h
among_rest e (d ∷ es) (suc i) h = inr (among_rest e es i h)

-- the equation at a place is among them
pub among_here : (e : Equation) (es : List Equation) (i : ℕ) (d : Equation) → i < length es →
    d ≡ get_or es i d → IsEither e d → Among e es
among_here e [] i d lt is h = absurd (omega arith)
among_here e (x ∷ es) zero d lt is h = inl (subst (IsEither e) is h)
among_here e (x ∷ es) (suc i) d lt is h = inr (among_here e es i d (omega arith) is h)

-- what is among the equations from a place on and isn't the one there is among the ones after it
pub among_later : (e : Equation) (es : List Equation) (i : ℕ) (d : Equation) → i < length es →
    d ≡ get_or es i d → (IsEither e d → ⊥) → Among e (drop i es) → Among e (drop (i + 1) es)
among_later e [] i d lt is h a = absurd (omega arith)
among_later e (x ∷ es) zero d lt is h (inl a) = absurd (h (subst (IsEither e) (sym is) a))
among_later e (x ∷ es) zero d lt is h (inr a) = a
among_later e (x ∷ es) (suc i) d lt is h a = rw add-one (rw add-one at (among_later e es i d (omega arith) is h a))

-- nothing is among the equations after the last one
pub among_none : (e : Equation) (es : List Equation) (i : ℕ) → length es ≤ i → Among e (drop i es) → ⊥
among_none e [] zero past h = h
among_none e [] (suc i) past h = h
among_none e (x ∷ es) zero past h = omega arith
among_none e (x ∷ es) (suc i) past h = among_none e es i (omega arith) h
