-- A variable of a pattern: its instance is a part of the pattern's instance.
use Rattle.std.proofs.Common.{◌≡◌, ◌∙◌, ℕ, ◌+◌, List, true, ap, sym, subst, inl, inr, arith}
use Rattle.term_core.specs.Tree.{Tree, Trees, var, app, none, some, trees_of, instance, instances}
use Rattle.term_core.specs.Measure.{weight, list_weight, list_weight_is}
use Rattle.term_core.specs.Variables.{Occurs, OccursAny}
use Rattle.term_core.specs.Precedence.{Precedence}
use Rattle.path_order.specs.Above.{Above, SomeReaches, by_argument, later}
use Rattle.longest_chains.proofs.Each.{Each}
use Rattle.term_order.specs.Operands.{read, meaning}
use Rattle.term_order.specs.declared.operands.Operand.{Operand}
use Rattle.path_order.specs.Irreflexive.{Reaches, irreflexive, arguments-above}
use Rattle.path_order.specs.Standing.{Stands}
use Rattle.path_order.specs.declared.path.Standing.TheVariants.{Greater, Neither}
use Rattle.path_order.proofs.Deciding.{reach-first, stands-as}

module _ (order : Precedence) (values : List Tree) (n : ℕ) where
  abbrev pub image : Tree
  image = instance values (var n)

  mutual
    reaches-variable : (t : Tree) → Occurs n t → Reaches order (instance values t) image
    reaches-variable (var m) e = inl (ap (λ k. instance values (var k)) (sym e))
    reaches-variable (app f ts) o = inr (by_argument (some-reaches-variable ts o))

    some-reaches-variable : (ts : Trees) → OccursAny n ts → SomeReaches order (instances values ts) image
    some-reaches-variable none o = absurd o
    some-reaches-variable (some t ts) (inl o) =
        reach-first order (instance values t) image (instances values ts) (reaches-variable t o)
    some-reaches-variable (some t ts) (inr o) = later (some-reaches-variable ts o)

  mutual
    not-above-pattern : (t : Tree) → Occurs n t → Above order image (instance values t) → ⊥
    not-above-pattern (var m) e a =
        irreflexive order image (subst (λ k. Above order image (instance values (var k))) (sym e) a)
    not-above-pattern (app f ts) o a = not-above-all ts o (arguments-above order a)

    not-above-all : (ts : Trees) → OccursAny n ts → Each (Above order image) (instances values ts) → ⊥
    not-above-all none o e = absurd o
    not-above-all (some t ts) (inl o) e = not-above-pattern t o e.0
    not-above-all (some t ts) (inr o) e = not-above-all ts o e.1

  -- the pattern's instance is above that of its variable
  pub above-variable : (f : ℕ) (ts : Trees) → OccursAny n ts → Above order (instance values (app f ts)) image
  above-variable f ts o = by_argument (some-reaches-variable ts o)

  -- and the other way round nothing holds
  pub variable-differs : (f : ℕ) (ts : Trees) → OccursAny n ts → image ≡ instance values (app f ts) → ⊥
  variable-differs f ts o e = irreflexive order image (subst (λ t. Above order t image) (sym e) (above-variable f ts o))

  pub variable-not-above :
      (f : ℕ) (ts : Trees) → OccursAny n ts → Above order image (instance values (app f ts)) → ⊥
  variable-not-above f ts o a = not-above-pattern (app f ts) o a

pub app_weight : (t : Tree) (f : ℕ) (ts : List Tree) → t ≡ app f (trees_of ts) → weight t ≡ list_weight ts + 1
app_weight t f ts e =
    let p : weight t ≡ weight (app f (trees_of ts)) = ap (λ u. weight u) e in
    omega (arith, p, list_weight_is ts)

-- a pattern means its instance
pattern_means :
    (values : List Tree) (o : Operand) (t : Tree) → o.is_pattern ≡ true → t ≡ o.term.now →
    meaning values o ≡ instance values t
pattern_means values o t p e =
    ap (λ b. read values b o.term.now) p ∙ ap (λ u. instance values u) (sym e)

-- a variable and a pattern in which it occurs, and the other way round
pub variable_in_pattern :
    (order : Precedence) (values : List Tree) (o q : Operand) (n f : ℕ) (ts : List Tree) → o.is_pattern ≡ true →
    q.is_pattern ≡ true → var n ≡ o.term.now → app f (trees_of ts) ≡ q.term.now →
    Occurs n q.term.now → Stands order (meaning values o) (meaning values q) Neither
variable_in_pattern order values o q n f ts op qp e g h =
    let x = pattern_means values o (var n) op e in
    let y = pattern_means values q (app f (trees_of ts)) qp g in
    let among : OccursAny n (trees_of ts) = subst (λ t. Occurs n t) (sym g) h in
    stands-as order Neither (sym x) (sym y) (
      variable-differs order values n f (trees_of ts) among,
      variable-not-above
          order values n f (trees_of ts) among,
    )

pub pattern_over_variable :
    (order : Precedence) (values : List Tree) (o q : Operand) (n f : ℕ) (ts : List Tree) → o.is_pattern ≡ true →
    q.is_pattern ≡ true → app f (trees_of ts) ≡ o.term.now → var n ≡ q.term.now →
    Occurs n o.term.now → Stands order (meaning values o) (meaning values q) Greater
pattern_over_variable order values o q n f ts op qp e g h =
    let x = pattern_means values o (app f (trees_of ts)) op e in
    let y = pattern_means values q (var n) qp g in
    let among : OccursAny n (trees_of ts) = subst (λ t. Occurs n t) (sym e) h in
    stands-as order Greater (sym x) (sym y) (above-variable order values n f (trees_of ts) among)
