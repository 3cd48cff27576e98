-- What the steps that take an equation apart or out say of small clauses.
use Rattle.std.proofs.Common.{◌≡◌, [], inl, inr, refl, sym, subst, arith}
use Rattle.term_core.specs.Tree.{var, app, none, some}
use Rattle.term_core.specs.Variables.{Occurs}
use Rattle.spec_core.specs.Naturals.{naturals, succ_term, plus_term}
use Rattle.spec_core.specs.WellSorted.{IsPattern}
use Rattle.clause_core.specs.ClauseExamples.{equals}
use Rattle.clause_core.specs.Simplifying.{SameHeads}
use Rattle.clause_core.specs.Solving.{IsSolved}
use Rattle.clause_core.specs.SimplifyingExamples.{SimplifyingExamples}
use Rattle.clause_core.proofs.SmallPlaces.{first}

-- plus is no constructor
no_heads : SameHeads naturals.sig (equals (plus_term (var 0) (var 1)) (plus_term (var 1) (var 0))) → ⊥
no_heads h =
    let q : app 4 (some (var 0) (some (var 1) none)) ≡ app h.head h.lefts = h.is_left in
    let k : 4 ≡ h.head = cc in
    omega (arith, k, h.constructor)

not_in_succ : Occurs 0 (succ_term (var 1)) → ⊥
not_in_succ (inl e) = omega (arith, e)
not_in_succ (inr e) = e

in_itself : IsSolved naturals.sig (equals (var 0) (succ_term (var 0))) → ⊥
in_itself s = s.absent
    (subst (λ t. Occurs s.variable t) (sym s.solves.1)
    (subst (λ n. Occurs n (succ_term (var 0))) (sym s.solves.0) (inl refl)))

no_function : IsSolved naturals.sig (equals (var 0) (plus_term (var 1) (var 1))) → ⊥
no_function s = let p : IsPattern naturals.sig (plus_term (var 1) (var 1)) = subst
    (λ t. IsPattern naturals.sig t) s.solves.1 s.pattern in omega (arith, p.0)

pub examples : SimplifyingExamples
examples = record {
  premise = inl (
    first _ [],
    inl (
      record {
        head = 3;
        lefts = _;
        rights = _;
        constructor = omega arith;
        is_left = refl;
        is_right = refl;
      },
      (
        _,
        ((refl, refl), tt),
        tt,
        inl (((record { equations = omega arith; depth = omega arith; size = omega arith }, tt), omega arith), refl),
      ),
    ),
  );
  conclusion = inl (
    first _ [],
    inl (
      record {
        head = 5;
        lefts = _;
        rights = _;
        constructor = omega arith;
        is_left = refl;
        is_right = refl;
      },
      (
        _,
        ((refl, refl), ((refl, refl), tt)),
        tt,
        inl (
          (
            (
              record { equations = omega arith; depth = omega arith; size = omega arith },
              (record { equations = omega arith; depth = omega arith; size = omega arith }, tt),
            ),
            omega arith,
          ),
          refl,
        ),
      ),
    ),
  );
  constants = inl (
    first _ [],
    inl (
      record {
        head = 2;
        lefts = none;
        rights = none;
        constructor = omega arith;
        is_left = refl;
        is_right = refl;
      },
      (_, tt, tt, inl ((tt, omega arith), refl)),
    ),
  );
  function_heads = inl (first _ [], inr (no_heads, refl));
  clashes = inl (
    first _ _,
    inl (
      (omega arith, omega arith, λ e. omega (arith, e)),
      (
        _,
        ((refl, refl), tt),
        tt,
        inl (((record { equations = omega arith; depth = omega arith; size = omega arith }, tt), omega arith), refl),
      ),
    ),
  );
  equal_heads = inl (first _ [], inr (λ h. h.2 refl, refl));
  drops = inl (
    first _ [],
    (
      _,
      ((refl, refl), tt),
      tt,
      inl (((record { equations = omega arith; depth = omega arith; size = omega arith }, tt), omega arith), refl),
    ),
  );
  solves = inl (
    first _ [],
    inl (
      record {
        variable = 0;
        term = succ_term (var 1);
        solves = (refl, refl);
        pattern = (
          omega arith,
          (tt, tt),
        );
        absent = not_in_succ;
      },
      (
        _,
        ((refl, refl), tt),
        tt,
        inl (((record { equations = omega arith; depth = omega arith; size = omega arith }, tt), omega arith), refl),
      ),
    ),
  );
  not_by_itself = inl (first _ [], inr (in_itself, refl));
  not_by_a_function = inl (first _ [], inr (no_function, refl));
}
