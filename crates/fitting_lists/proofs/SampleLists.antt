-- The lists of the worked examples, and why there is none, and spines that fit or don't.
use Rattle.std.proofs.Common.{◌≡◌, ℕ, ◌≤◌, [], ◌∷◌, Some, None, inl, inr, refl, arith}
use Rattle.term_core.specs.Tree.{Tree, var, instance}
use Rattle.spec_core.specs.Naturals.{zero_term, succ_term, plus_term}
use Rattle.clause_core.specs.ClauseExamples.{equals}
use Rattle.fitting_lists.specs.Fitting.{both_sides, rewriting}
use Rattle.fitting_lists.specs.Answering.{IsOnlyAnswer}
use Rattle.fitting_lists.specs.Examples.{commutes, sums, sums_to, sum_to, succ_twice, two_units}
use Rattle.fitting_lists.specs.Spines.{spine_of, MayBecome, missing_in}
use Rattle.fitting_lists.proofs.Determined.{one_list}
use Rattle.fitting_lists.proofs.VariableTests.{all_occur}

-- terms that the variables or patterns become
abbrev succ_x : Tree
succ_x = succ_term (var 0)

abbrev unit : Tree
unit = plus_term (succ_term (var 1)) zero_term

pub fitting_list :
    IsOnlyAnswer (sums_to (commutes zero_term succ_x)) (Some (zero_term ∷ succ_x ∷ []))
fitting_list = (
  (refl, refl),
  λ other b.
      one_list (sums_to (commutes zero_term succ_x)) other (zero_term ∷ succ_x ∷ [])
      (all_occur sums (both_sides (commutes (var 0) (var 1))) refl) b (refl, refl),
)

pub no_fitting_list :
    IsOnlyAnswer (sums_to (equals (plus_term zero_term succ_x) zero_term)) None
no_fitting_list list a =
    let x = instance list (var 0) in
    let y = instance list (var 1) in
    let sum = plus_term zero_term succ_x in
    let q : (plus_term x y ∷ plus_term y x ∷ []) ≡ (sum ∷ zero_term ∷ []) = a.1 in
    cc

pub rewriting_list : IsOnlyAnswer (sum_to unit) (Some (succ_term (var 1) ∷ zero_term ∷ []))
rewriting_list = (
  (refl, refl),
  λ other b.
      one_list (sum_to unit) other (succ_term (var 1) ∷ zero_term ∷ [])
      (all_occur sums (plus_term (var 0) (var 1) ∷ []) refl) b (refl, refl),
)

pub other_symbol : IsOnlyAnswer (sum_to zero_term) None
other_symbol list a =
    let x = instance list (var 0) in
    let y = instance list (var 1) in
    let q : (plus_term x y ∷ []) ≡ (zero_term ∷ []) = a.1 in
    cc

pub other_arguments : IsOnlyAnswer (rewriting two_units (plus_term (var 0) (var 0)) unit) None
other_arguments list a =
    let x = instance list (var 0) in
    let q : (plus_term x x ∷ []) ≡ (unit ∷ []) = a.1 in
    cc

pub spine_fits : MayBecome (spine_of (succ_term (var 0))) (spine_of (succ_twice zero_term))
spine_fits = inr (refl, inl (refl, (let le : 1 ≤ 2 = omega arith in le)))

pub shorter_spine :
    MayBecome (spine_of (succ_term zero_term)) (spine_of (succ_twice zero_term)) → ⊥
shorter_spine (inl e) = let q : ◌≡◌ {A = ℕ} 1 0 = e in absurd (omega arith)
shorter_spine (inr (same, inl (e, le))) = absurd (cc)
shorter_spine (inr (same, inr (long, e))) =
    let q : ◌≡◌ {A = ℕ} 1 2 = long in absurd (omega arith)

pub none_missing : missing_in (spine_of (succ_twice (var 0))) (succ_twice zero_term) ≡ 0
none_missing = refl

pub one_missing : missing_in (spine_of (succ_twice (var 0))) (succ_term zero_term) ≡ 1
one_missing = refl
