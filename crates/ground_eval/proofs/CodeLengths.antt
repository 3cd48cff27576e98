-- Code of a goal and of a specification with constants is as long as the texts of both allow.
use Rattle.std.proofs.Common.{◌≡◌, ℕ, ◌+◌, ◌≤◌, List, [], ◌∷◌, Some, refl, ap, ◌∙◌, arith, drop, length, map}
use Rattle.std.specs.Prelude.{max, slice_get}
use Rattle.std.proofs.lemmas.List.{length-map}
use Rattle.term_core.proofs.Items.{drop_here}
use Rattle.term_core.specs.Tree.{Tree, Trees, var, app, none, some, tree_size, sizes}
use Rattle.spec_core.specs.declared.records.Equation.{Equation}
use Rattle.spec_core.specs.declared.records.Goal.{Goal}
use Rattle.spec_core.specs.declared.records.Guard.{Guard}
use Rattle.spec_core.specs.declared.records.Rule.{Rule}
use Rattle.rule_code.specs.Lengths.{term_length, tests_length, rules_length}
use Rattle.bank_machine.specs.Fuel.{most_guards}
use Rattle.open_evaluation.specs.Shifted.{shifted, shifted_all, shifted_equation, shifted_guard, shifted_rule}
use Rattle.open_evaluation.specs.Shifted.{shifted_goal}
use Rattle.ground_eval.specs.Prepared.{sides_length, goal_length}

-- one more equation
pub next_sides : (es : List Equation) (k : ℕ) (e : Equation) (old mid one new : ℕ) → slice_get es k ≡ Some e →
    mid + sides_length (drop k es) ≤ old + sides_length es → one ≤ mid + term_length e.left →
    new ≤ one + term_length e.right → new + sides_length (drop (k + 1) es) ≤ old + sides_length es
next_sides es k e old mid one new at h l r = omega (arith, h, l, r, ap sides_length (drop_here es k e at))

-- new numbers of symbols change no length
module _ (c u : ℕ) where
  mutual
    size_shifted : (t : Tree) → tree_size (shifted c u t) ≡ tree_size t
    size_shifted (var n) = refl
    size_shifted (app f ts) = omega (arith, sizes_shifted ts)

    sizes_shifted : (ts : Trees) → sizes (shifted_all c u ts) ≡ sizes ts
    sizes_shifted none = refl
    sizes_shifted (some t ts) = omega (arith, size_shifted t, sizes_shifted ts)

  tests_shifted : (gs : List Guard) → tests_length (map (shifted_guard c u) gs) ≡ tests_length gs
  tests_shifted [] = refl
  tests_shifted (g ∷ gs) = omega (arith, size_shifted g.test, tests_shifted gs)

  pub rules_shifted : (rs : List Rule) → rules_length (map (shifted_rule c u) rs) ≡ rules_length rs
  rules_shifted [] = refl
  rules_shifted (r ∷ rs) = omega (arith, tests_shifted r.guards, size_shifted r.right, rules_shifted rs)

  pub guards_shifted : (rs : List Rule) → most_guards (map (shifted_rule c u) rs) ≡ most_guards rs
  guards_shifted [] = refl
  guards_shifted (r ∷ rs) =
      let here : length (map (shifted_guard c u) r.guards) ≡ length r.guards = length-map r.guards _ in
      ap (λ n. max n (most_guards (map (shifted_rule c u) rs))) here
      ∙ ap (λ n. max (length r.guards) n) (guards_shifted rs)

  sides_shifted : (es : List Equation) → sides_length (map (shifted_equation c u) es) ≡ sides_length es
  sides_shifted [] = refl
  sides_shifted (e ∷ es) = omega (arith, size_shifted e.left, size_shifted e.right, sides_shifted es)

  pub goal_shifted : (g : Goal) → goal_length (shifted_goal c u g) ≡ goal_length g
  goal_shifted g = omega (arith, sides_shifted g.premises, sides_shifted g.conclusions)
