-- A format whose limits are no tighter than those of another.
use Rattle.std.proofs.Common.{◌≡◌, ℕ, ◌≤◌, List, Bool, true, false, Option, Some, None, nat_le, length, refl, arith}
use Rattle.std.specs.Prelude.{if◌then◌else◌}
use Rattle.std.proofs.lemmas.Bool.{leb-true, leb-false}
use Rattle.spec_grammar.specs.declared.limits.LimitKind.{LimitKind}
use Rattle.spec_grammar.specs.declared.limits.LimitKind.TheVariants as limit
use Rattle.spec_grammar.specs.Limits.{most_constructors, most_functions, most_rules, over, or_else, name_mark}
use Rattle.spec_grammar.specs.Limits.{constructor_mark, fun_mark, rule_mark}

-- what has no mark in the first place has none in the second
abbrev pub StaysClean : Option LimitKind → Option LimitKind → Type 0
StaysClean mark other = mark ≡ None → other ≡ None

-- What passes no limit of one format passes none of the other.
pub record Looser (version later : ℕ) : Type 0 where
  pub constructors : (k n : ℕ) → StaysClean (constructor_mark version k n) (constructor_mark later k n)
  pub functions : (n : ℕ) → StaysClean (fun_mark version n) (fun_mark later n)
  pub rules : (n : ℕ) → StaysClean (rule_mark version n) (rule_mark later n)

-- a name that isn't too long, in either place
pub named_clean : (name : List ℕ) (mark other : Option LimitKind) → StaysClean mark other →
    StaysClean (name_mark name mark) (name_mark name other)
named_clean name mark other f e = go (nat_le (length name) 64) e
  where
    go : (b : Bool) → (if b then mark else Some limit.Name) ≡ None → (if b then other else Some limit.Name) ≡ None
    go true h = f h
    go false h = h

over_clean : (n most more : ℕ) (why : LimitKind) → most ≤ more → StaysClean (over n most why) (over n more why)
over_clean n most more why le e = go (nat_le most n) (nat_le more n) refl refl e
  where
    go : (b c : Bool) → nat_le most n ≡ b → nat_le more n ≡ c → (if b then Some why else None) ≡ None →
        (if c then Some why else None) ≡ None
    go true c is too h = absurd (let bad : Some why ≡ None = h in cc)
    go false false is too h = refl
    go false true is too h = absurd (omega (arith, leb-false most n is, leb-true more n too))

else_clean :
    (first mark other : Option LimitKind) → StaysClean mark other →
    StaysClean (or_else first mark) (or_else first other)
else_clean (Some why) mark other f e = e
else_clean None mark other f e = f e

pub same_limits : (version : ℕ) → Looser version version
same_limits version = record { constructors = λ k n e. e; functions = λ n e. e; rules = λ n e. e }

pub looser_two : Looser 1 2
looser_two = record {
  constructors = λ k n.
      else_clean (over k 64 limit.Constructors) (over n (most_constructors 1) limit.Constructors)
      (over n (most_constructors 2) limit.Constructors)
      (over_clean n (most_constructors 1) (most_constructors 2) limit.Constructors (omega arith));
  functions = λ n. over_clean n (most_functions 1) (most_functions 2) limit.Functions (omega arith);
  rules = λ n. over_clean n (most_rules 1) (most_rules 2) limit.Rules (omega arith);
}
