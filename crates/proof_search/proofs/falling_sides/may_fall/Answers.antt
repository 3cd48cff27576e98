use Rattle.std.proofs.Common.{◌≡◌, [], ◌∷◌, Bool, true, false, not, inl, inr, refl, sym, ◌∙◌}
use Rattle.std.specs.Prelude.{IsTrue}
use Rattle.term_core.specs.Tree.{Tree}
use Rattle.clause_core.specs.declared.clauses.Clause.{Clause}
use Rattle.fitting_lists.specs.Fitting.{has_all}
use Rattle.proof_search.specs.FallingSides.{MayFall}
use Rattle.proof_search.proofs.falling_sides.may_fall.Goals as goal

by_test :
    (above : Tree → Tree → Type 0) (c : Clause) (t u : Tree) (test : Bool) →
    has_all c (t ∷ []) ≡ true → (IsTrue test → above u t) → MayFall above c t u (not test)
by_test above c t u true all up = inr (up refl)
by_test above c t u false all up = all

pub returns-then-not-has_all_variables : goal.returns-then-not-has_all_variables
returns-then-not-has_all_variables g c =
    inl (sym c.has_all_variables.ensures ∙ c.if-not-has_all_variables.true)

pub returns : goal.returns
returns g c =
    by_test (g.O.TermOrder.above c.args.order.now) c.args.clause.now c.args.side.now
    c.args.other.now c.greater.result
    (sym c.has_all_variables.ensures ∙ c.if-not-has_all_variables.false) c.greater.ensures.sound
