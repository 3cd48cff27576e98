use Rattle.std.proofs.Common.{◌≡◌, ◌≤◌, ◌+◌, ◌-◌, ℕ, Option, Some, None, length, arith}
use Rattle.std.specs.Option.{SomeIff, IfSome}
use Rattle.clause_places.specs.Spots.{paths}
use Rattle.clause_places.proofs.PathCounts.{path_count}
use Rattle.clause_places.proofs.walk.left_behind.Goals as goal

by :
    (r : Option ℕ) (n k count : ℕ) → count ≡ n → SomeIff r (n ≤ k) (k - n) →
    IfSome r (λ left. k ≡ count + left)
by None n k count e h = tt
by (Some left) n k count e h = omega (arith, e, h.0, h.1)

pub returns : goal.returns
returns c =
    by c.checked_sub.result c.size-size.result c.args.index (length (paths c.args.term.now))
    (omega (arith, path_count c.args.term.now, c.size-size.ensures, c.if-size.false))
    c.checked_sub.ensures
