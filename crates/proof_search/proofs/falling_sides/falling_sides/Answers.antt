use Rattle.std.proofs.Common.{◌≡◌, [], ◌∷◌, Bool, true, false, sym, ◌∙◌, subst, not}
use Rattle.term_core.specs.Tree.{Tree}
use Rattle.spec_core.specs.declared.records.Equation.{Equation}
use Rattle.clause_core.specs.declared.clauses.Clause.{Clause}
use Rattle.clause_core.specs.Places.{side}
use Rattle.proof_search.specs.declared.falling_sides.FallingSides.{FallingSides}
use Rattle.proof_search.specs.FallingSides.{AreFalling, MayFall, marked}
use Rattle.proof_search.proofs.falling_sides.falling_sides.Goals as goal

only_one : (e d : Equation) → (e ∷ []) ≡ (d ∷ []) → e ≡ d
only_one e d is = cc

both_sides :
    (above : Tree → Tree → Type 0) (c : Clause) (e : Equation) (sides : FallingSides) →
    c.conclusions ≡ e ∷ [] → MayFall above c e.left e.right sides.left →
    MayFall above c e.right e.left sides.right → AreFalling above c sides
both_sides above c e sides alone p q = record {
  each = λ left d other.
      subst
      (λ (x : Equation). MayFall above c (side left x) (side (not left) x) (marked left sides))
      (only_one e d (sym alone ∙ other)) (go left);
}
  where
    go : (left : Bool) → MayFall above c (side left e) (side (not left) e) (marked left sides)
    go true = p
    go false = q

pub returns-in-None : goal.returns-in-None
returns-in-None g c = record { each = λ left e alone. absurd (c.in-None.ensures e alone) }

pub returns-in-Some : goal.returns-in-Some
returns-in-Some g c =
    both_sides (g.O.TermOrder.above c.args.order.now) c.args.clause.now c.in-Some.equation.now _
    c.in-Some.ensures c.may_fall.ensures c.may_fall-in-Some.ensures
