use Rattle.std.proofs.Common.{◌≡◌, arith, sym, subst, max, length}
use Rattle.substitutions.specs.Substitution.{IsComposed}
use Rattle.substitutions.proofs.Compositions.{composes}
use Rattle.substitutions.proofs.subst.Subst.compose.Goals as goal

pub returns : goal.returns
returns c =
    let all : length c.loop-place.terms.items ≡ max (length c.args.self.now.terms)
    (length c.args.then.now.terms) = omega arith in
    subst (λ both. IsComposed c.args.self.now.terms c.args.then.now.terms both) (sym c.from_vec.ensures)
    (composes c.args.self.now.terms c.args.then.now.terms c.loop-place.terms.items all
    (λ n h. c.loop-place.invariant.1 n (omega arith)))
