-- What the definitions say of small clauses over naturals, where x is the variable 0 and y the
-- variable 1.
use Rattle.std.specs.Prelude.{◌≡◌, ℕ, [], ◌∷◌, true, false, Some, None}
use Rattle.term_core.specs.Tree.{Tree, var}
use Rattle.spec_core.specs.declared.records.Equation.{Equation}
use Rattle.spec_core.specs.Naturals.{zero_term, succ_term, plus_term}
use Rattle.clause_core.specs.declared.clauses.Clause.{Clause}
use Rattle.clause_core.specs.ClauseExamples.{equals, claims, implies, right_zero}
use Rattle.clause_core.specs.ExampleClauses.{one, two, denies}
use Rattle.fitting_lists.specs.Questions.{Question}
use Rattle.fitting_lists.specs.Fitting.{leading, fittings, fitting, rewritable, rewriting}
use Rattle.fitting_lists.specs.Answering.{IsOnlyAnswer}
use Rattle.fitting_lists.specs.declared.spines.Spine.{Spine}
use Rattle.fitting_lists.specs.declared.spines.SpineEnd.{SpineEnd}
use Rattle.fitting_lists.specs.declared.spines.SpineEnd.TheVariants.{Variable, NoArguments, Symbol}
use Rattle.fitting_lists.specs.Spines.{numbered, spine_of, MayBecome, missing_in}

-- plus(s, t) = plus(t, s)
abbrev pub commutes : Tree → Tree → Equation
commutes s t = equals (plus_term s t) (plus_term t s)

-- => plus(x, y) = plus(y, x)
abbrev pub sums : Clause
sums = claims two (commutes (var 0) (var 1))

-- x = y => x = x
abbrev pub equal_ones : Clause
equal_ones = implies two (equals (var 0) (var 1)) (equals (var 0) (var 0))

-- x = x => y = y
abbrev pub scattered : Clause
scattered = implies two (equals (var 0) (var 0)) (equals (var 1) (var 1))

-- => plus(x, zero) = x, plus(zero, x) = x
abbrev pub two_units : Clause
two_units = record {
  ctx = one;
  premises = [];
  conclusions =
      equals (plus_term (var 0) zero_term) (var 0)
      ∷ equals (plus_term zero_term (var 0)) (var 0)
      ∷ [];
}

-- by which list does plus(x, y) = plus(y, x) become the equation, and plus(x, y) the term?
abbrev pub sums_to : Equation → Question
sums_to e = fitting sums (commutes (var 0) (var 1)) e

abbrev pub sum_to : Tree → Question
sum_to t = rewriting sums (plus_term (var 0) (var 1)) t

-- zero = x => succ(x) = zero
abbrev pub node : Clause
node = implies one (equals zero_term (var 0)) (equals (succ_term (var 0)) zero_term)

-- the symbol so often, and what ends this
abbrev pub spine : ℕ → ℕ → SpineEnd → Spine
spine f length end = record { root = Some (numbered f); length = length; end = end }

abbrev pub succ_twice : Tree → Tree
succ_twice t = succ_term (succ_term t)

pub record WorkedExamples : Type 0 where
  -- a conclusion with x and y leads
  pub conclusion_leads :
      leading sums ≡ record { conclusion = true; equation = commutes (var 0) (var 1) } ∷ []
  -- also after a premise; a premise leads if the conclusion lacks y
  pub before_premises :
      leading right_zero
      ≡ record { conclusion = true; equation = equals (plus_term (var 0) (var 1)) (var 0) } ∷ []
  pub premise_leads :
      leading equal_ones ≡ record { conclusion = false; equation = equals (var 0) (var 1) } ∷ []
  -- the first of two leads, and none if no equation has both x and y
  pub first_leads :
      leading two_units
      ≡ record { conclusion = true; equation = equals (plus_term (var 0) zero_term) (var 0) } ∷ []
  pub none_leads : leading scattered ≡ []
  -- the conclusion of the node is asked as written and then swapped, if a conclusion leads, and
  -- its premise if a premise does
  pub conclusions_asked :
      fittings node sums
      ≡ sums_to (equals (succ_term (var 0)) zero_term)
      ∷ sums_to (equals zero_term (succ_term (var 0)))
      ∷ []
  pub premises_asked :
      fittings node equal_ones
      ≡ fitting equal_ones (equals (var 0) (var 1)) (equals zero_term (var 0))
      ∷ fitting equal_ones (equals (var 0) (var 1)) (equals (var 0) zero_term)
      ∷ []
  pub nothing_asked : fittings node scattered ≡ []
  -- zero for x and succ(x) for y make plus(x, y) = plus(y, x) that equation of zero and succ(x)
  pub fitting_list :
      IsOnlyAnswer (sums_to (commutes zero_term (succ_term (var 0))))
      (Some (zero_term ∷ succ_term (var 0) ∷ []))
  -- and nothing makes it plus(zero, succ(x)) = zero
  pub no_fitting_list :
      IsOnlyAnswer (sums_to (equals (plus_term zero_term (succ_term (var 0))) zero_term)) None
  -- both sides of plus(x, y) = plus(y, x) may be rewritten, the left one alone of plus(x, y) = x,
  -- and none if there are two conclusions or no conclusion
  pub both_rewrite :
      rewritable sums
      ≡ (true, plus_term (var 0) (var 1)) ∷ (false, plus_term (var 1) (var 0)) ∷ []
  pub left_rewrites : rewritable right_zero ≡ (true, plus_term (var 0) (var 1)) ∷ []
  pub two_conclusions : rewritable two_units ≡ []
  pub no_conclusion : rewritable (denies one (equals (var 0) zero_term)) ≡ []
  -- plus(x, y) becomes plus(succ(y), zero) by succ(y) for x and zero for y, and it never becomes
  -- zero; plus(x, x) doesn't become plus(succ(y), zero)
  pub rewriting_list :
      IsOnlyAnswer (sum_to (plus_term (succ_term (var 1)) zero_term))
      (Some (succ_term (var 1) ∷ zero_term ∷ []))
  pub other_symbol : IsOnlyAnswer (sum_to zero_term) None
  pub other_arguments :
      IsOnlyAnswer
      (rewriting two_units (plus_term (var 0) (var 0)) (plus_term (succ_term (var 1)) zero_term))
      None
  -- zero, succ and plus have the numbers 2, 3 and 4: succ(succ(plus(x, y))) has succ twice before
  -- plus; the spine of plus(y, x) ends in a variable, and that of zero with zero
  pub symbol_ends :
      spine_of (succ_twice (plus_term (var 0) (var 1))) ≡ spine 3 2 (Symbol (numbered 4))
  pub variable_ends : spine_of (plus_term (var 1) (var 0)) ≡ spine 4 1 Variable
  pub no_arguments : spine_of zero_term ≡ spine 2 1 NoArguments
  -- succ(x) may become succ(succ(zero)), and succ(zero) may not
  pub spine_fits : MayBecome (spine_of (succ_term (var 0))) (spine_of (succ_twice zero_term))
  pub shorter_spine :
      MayBecome (spine_of (succ_term zero_term)) (spine_of (succ_twice zero_term)) → ⊥
  -- no succ of succ(succ(x)) is missing in succ(succ(zero)), and one in succ(zero)
  pub none_missing : missing_in (spine_of (succ_twice (var 0))) (succ_twice zero_term) ≡ 0
  pub one_missing : missing_in (spine_of (succ_twice (var 0))) (succ_term zero_term) ≡ 1
