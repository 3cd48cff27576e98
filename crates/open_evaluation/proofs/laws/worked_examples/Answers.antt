use Rattle.std.proofs.Common.{◌≡◌, ◌≢◌, ℕ, zero, suc, ◌≤◌, List, [], ◌∷◌, Some, None, inl, inr, refl, ap, sym, ◌∙◌}
use Rattle.std.proofs.Common.{arith}
use Rattle.std.specs.Prelude.{slice_get}
use Rattle.term_core.specs.Tree.{Tree, Trees, var, app, none, some, instance}
use Rattle.term_core.proofs.Trees.{args_eq}
use Rattle.spec_core.specs.declared.records.Rule.{Rule}
use Rattle.spec_core.specs.declared.records.Verdict.{Verdict}
use Rattle.spec_core.specs.Naturals.{naturals, plus_zero_rule, plus_succ_rule, unit_goal, zero_term, succ_term}
use Rattle.spec_core.specs.Naturals.{plus_term}
use Rattle.open_evaluation.specs.OpenGives.{HasNoVariable, OpenGives, OpenGivesAll, unknown, open_built, open_called}
use Rattle.open_evaluation.specs.OpenGives.{no_open_terms, more_open_terms, no_open_guards}
use Rattle.open_evaluation.specs.OpenVerdict.{opened, AreDifferent, IsOpenVerdict}
use Rattle.open_evaluation.specs.WalkExamples.{left_unit, one_natural}
use Rattle.open_evaluation.proofs.Arguments.{head_eq, first_eq}
use Rattle.open_evaluation.proofs.laws.worked_examples.Goals as goal

zero_gives : OpenGives naturals zero_term zero_term 0
zero_gives = open_built (omega arith) no_open_terms

succ_gives : {t v : Tree} → OpenGives naturals t v 0 → OpenGives naturals (succ_term t) (succ_term v) 0
succ_gives g = open_built (omega arith) (more_open_terms g no_open_terms refl)

-- plus(zero, x) gives x
zero_more : OpenGives naturals (plus_term zero_term (var 0)) (var 0) 1
zero_more = open_called 0 plus_zero_rule (var 0 ∷ [])
    (more_open_terms zero_gives (more_open_terms unknown no_open_terms refl) refl) refl (
      tt,
      tt,
    ) refl no_open_guards unknown refl

one_more : OpenGives naturals (plus_term (succ_term zero_term) (var 0)) (succ_term (var 0)) 2
one_more = open_called 1 plus_succ_rule (zero_term ∷ var 0 ∷ [])
    (more_open_terms (succ_gives zero_gives) (more_open_terms unknown no_open_terms refl) refl) refl
    ((omega arith, tt), (tt, tt)) refl no_open_guards
    (open_built (omega arith) (more_open_terms zero_more no_open_terms refl)) refl

zero_closed : HasNoVariable zero_term
zero_closed k o = o

succ_closed : (t : Tree) → HasNoVariable t → HasNoVariable (succ_term t)
succ_closed t h k (inl o) = h k o
succ_closed t h k (inr o) = o

not_zero : (t : Tree) → zero_term ≡ succ_term t → ⊥
not_zero t e = let k : ◌≡◌ {A = ℕ} 2 3 = head_eq e in omega arith

numbers_apart : succ_term zero_term ≢ succ_term (succ_term zero_term)
numbers_apart e = not_zero zero_term
    (let q : app 3 (some zero_term none) ≡ app 3 (some (succ_term zero_term) none) = e in cc)

two_numbers : AreDifferent (succ_term zero_term) (succ_term (succ_term zero_term))
two_numbers = inr (
  numbers_apart,
  succ_closed zero_term zero_closed,
  succ_closed (succ_term zero_term) (succ_closed zero_term zero_closed),
)

open_number : AreDifferent (succ_term (var 0)) (succ_term zero_term) → ⊥
open_number (inl h) = h refl
open_number (inr h) = h.1 0 (inl refl)

zero_is_not_succ : (t : Tree) → AreDifferent (succ_term t) zero_term
zero_is_not_succ t = inl (λ e. let k : ◌≡◌ {A = ℕ} 3 2 = e in omega arith)

not_var : (f k : ℕ) (ts : Trees) → app f ts ≡ var k → ⊥
not_var f k ts e = cc

-- a variable gives itself alone, and so doesn't differ from another
var_gives : (k : ℕ) (v : Tree) (n : ℕ) → OpenGives naturals (var k) v n → v ≡ var k
var_gives k v n unknown = refl

vars_may_be_same : (j k : ℕ) (v w : Tree) → v ≡ var j → w ≡ var k → AreDifferent v w → ⊥
vars_may_be_same j k (var i) w e d (inl h) = h
vars_may_be_same j k (app f ts) w e d h = not_var f j ts e
vars_may_be_same j k (var i) w e d (inr h) = h.1 i refl

-- a call of plus costs a use of a rule
plus_costs : (ts : Trees) (v : Tree) (n : ℕ) → OpenGives naturals (app 4 ts) v n → 1 ≤ n
plus_costs ts v n (open_built low all) = absurd (omega arith)
plus_costs ts v n (open_called number rule values all at opens is gs right cost) = omega arith

-- and has none if its first argument is a variable
first_is : (k : ℕ) (ts vs : Trees) (n : ℕ) → OpenGivesAll naturals (some (var k) ts) vs n →
    (us : Trees) × (vs ≡ some (var k) us)
first_is k ts vs n (more_open_terms {v} {vs = us} one more cost) = (us, ap (λ t. some t us) (var_gives k v _ one))

no_left : (k number : ℕ) (rule : Rule) (values : List Tree) (us : Trees) →
    slice_get naturals.rules number ≡ Some rule → instance values rule.left ≡ app 4 (some (var k) us) → ⊥
no_left k zero rule values us at is =
    let e : plus_zero_rule ≡ rule = let q : Some plus_zero_rule ≡ Some rule = at in cc in
    not_var 2 k none (first_eq (args_eq (ap (λ (x : Rule). instance values x.left) e ∙ is)))
no_left k (suc zero) rule values us at is =
    let e : plus_succ_rule ≡ rule = let q : Some plus_succ_rule ≡ Some rule = at in cc in
    not_var 3 k (some (instance values (var 0)) none)
    (first_eq (args_eq (ap (λ (x : Rule). instance values x.left) e ∙ is)))
no_left k (suc (suc number)) rule values us at is = absurd (let e : None ≡ Some rule = at in cc)

plus_stuck : (k : ℕ) (t v : Tree) (n : ℕ) → OpenGives naturals (plus_term (var k) t) v n → ⊥
plus_stuck k t v n (open_built low all) = absurd (omega arith)
plus_stuck k t v n (open_called {vs} number rule values all at opens is gs right cost) =
    let first = first_is k _ vs _ all in
    no_left k number rule values first.0 at (is ∙ ap (λ us. app 4 us) first.1)

spent : (r : Verdict) → IsOpenVerdict naturals (opened [] 2) 0 left_unit r → ⊥
spent r (inl s) = let costs = plus_costs _ _ _ s.0.1.1 in let within = s.0.1.2 in omega arith
spent r (inr s) = let costs = plus_costs _ _ _ s.0.3.1 in let within = s.0.3.2 in omega arith

stuck : (budget : ℕ) (r : Verdict) → IsOpenVerdict naturals (opened [] 1) budget unit_goal r → ⊥
stuck budget r (inl s) = plus_stuck _ _ _ _ s.0.1.1
stuck budget r (inr s) = plus_stuck _ _ _ _ s.0.3.1

undecided : (budget : ℕ) (r : Verdict) → IsOpenVerdict naturals (opened [] 2) budget one_natural r → ⊥
undecided budget r (inl s) =
    let e : var 0 ≡ var 1 = sym (var_gives 0 _ _ s.0.1.1) ∙ var_gives 1 _ _ s.0.2.1 in
    let k : ◌≡◌ {A = ℕ} 0 1 = cc in
    omega arith
undecided budget r (inr s) = vars_may_be_same 0 1 s.0.0 s.0.1 (var_gives 0 _ _ s.0.3.1) (var_gives 1 _ _ s.0.4.1) s.0.2

pub returns : goal.returns
returns c = record {
  one_more = one_more;
  one_fixed = refl;
  two_numbers = two_numbers;
  open_number = open_number;
  holds = inl ((var 0, (1, zero_more, omega arith), (0, unknown, omega arith)), refl);
  fails = inr (
    (
      succ_term (var 0),
      zero_term,
      zero_is_not_succ (var 0),
      (0, succ_gives unknown, omega arith),
      (0, zero_gives, omega arith),
    ),
    refl,
  );
  premise_broken = inl (
    (
      succ_term zero_term,
      zero_term,
      zero_is_not_succ zero_term,
      (0, succ_gives zero_gives, omega arith),
      (0, zero_gives, omega arith),
    ),
    refl,
  );
  spent = spent;
  stuck = stuck;
  undecided = undecided;
}
