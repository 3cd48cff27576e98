-- The numbers of the rules with one left side, rule by rule.
use Rattle.std.proofs.Common.{◌≡◌, ◌≢◌, ◌+◌, ◌≤◌, ℕ, suc, List, [], ◌∷◌, ◌++◌, Bool, true, false, cond, map, drop, inl}
use Rattle.std.proofs.Common.{inr, refl, ap, sym, ◌∙◌, arith, Some, length, append_assoc}
use Rattle.std.proofs.lemmas.List.{append-nil}
use Rattle.std.specs.Prelude.{slice_get, ◌==◌, ◌&&◌}
use Rattle.std.proofs.lemmas.Bool.Decides.{eqb_tells}
use Rattle.term_core.specs.Tree.{Tree, Trees, var, app, none, some}
use Rattle.term_core.specs.Same.{same_tree, same_trees}
use Rattle.term_core.proofs.Items.{drop_here, drop_past}
use Rattle.term_core.proofs.SameTrees.{same_tree-refl}
use Rattle.spec_core.specs.declared.records.Guard.{Guard}
use Rattle.spec_core.specs.declared.records.Rule.{Rule}
use Rattle.spec_core.specs.Groups.{group}
use Rattle.coverage_check.specs.GroupTree.{rules_with}

both : (a b : Bool) → (a && b) ≡ true → (a ≡ true) × (b ≡ true)
both true b e = (refl, e)
both false b e = absurd (let q : false ≡ true = e in cc)

same_number : (m n : ℕ) → (m == n) ≡ true → m ≡ n
same_number m n e = elim (eqb_tells m n) [ inl h ↦ h.1 | inr h ↦ absurd (let q : true ≡ false = sym e ∙ h.0 in cc) ]

mutual
  -- trees that pass the test are the same
  same_tree-sound : (t u : Tree) → same_tree t u ≡ true → t ≡ u
  same_tree-sound (var m) (var n) e = ap (λ k. var k) (same_number m n e)
  same_tree-sound (app f ts) (app g us) e =
      let h = both (f == g) (same_trees ts us) e in
      let p : f ≡ g = same_number f g h.0 in
      let q : ts ≡ us = same_trees-sound ts us h.1 in
      cc
  same_tree-sound (var m) (app g us) e = absurd (let q : false ≡ true = e in cc)
  same_tree-sound (app f ts) (var n) e = absurd (let q : false ≡ true = e in cc)

  same_trees-sound : (ts us : Trees) → same_trees ts us ≡ true → ts ≡ us
  same_trees-sound none none e = refl
  same_trees-sound (some t ts) (some u us) e =
      let h = both (same_tree t u) (same_trees ts us) e in
      let p : t ≡ u = same_tree-sound t u h.0 in
      let q : ts ≡ us = same_trees-sound ts us h.1 in
      cc
  same_trees-sound none (some u us) e = absurd (let q : false ≡ true = e in cc)
  same_trees-sound (some t ts) none e = absurd (let q : false ≡ true = e in cc)

other_tree : (t u : Tree) → t ≢ u → same_tree t u ≡ false
other_tree t u h = by (same_tree t u) refl
  where
    by : (b : Bool) → same_tree t u ≡ b → same_tree t u ≡ false
    by true e = absurd (h (same_tree-sound t u e))
    by false e = e

module _ (left : Tree) where
  -- the numbers of the rules with the left side, where the first rule has this number
  abbrev pub numbers_from : ℕ → List Rule → List ℕ
  numbers_from n rules = map (λ (m : ℕ × List Guard). m.0) (group left n rules)

  module _ (rules : List Rule) (n : ℕ) (rule : Rule) (at : slice_get rules n ≡ Some rule) where
    next : numbers_from (suc n) (drop n rules) ≡ map (λ (m : ℕ × List Guard). m.0)
        (cond (same_tree left rule.left) ((suc n, rule.guards) ∷ group left (suc (suc n)) (drop (n + 1) rules))
        (group left (suc (suc n)) (drop (n + 1) rules)))
    next = ap (λ rs. numbers_from (suc n) rs) (drop_here rules n rule at)

    number_here : rule.left ≡ left → numbers_from (suc n) (drop n rules) ≡ (n + 1) ∷ numbers_from (suc (n + 1))
        (drop (n + 1) rules)
    number_here same =
        let t : same_tree left rule.left ≡ true = ap (λ u. same_tree left u) same ∙ same_tree-refl left in
        let e : suc n ≡ n + 1 = omega arith in
        next ∙ ap (λ b. map (λ (m : ℕ × List Guard). m.0)
        (cond b ((suc n, rule.guards) ∷ group left (suc (suc n)) (drop (n + 1) rules))
        (group left (suc (suc n)) (drop (n + 1) rules)))) t
        ∙ ap (λ k. k ∷ numbers_from (suc k) (drop (n + 1) rules)) e

    number_later : rule.left ≢ left →
        numbers_from (suc n) (drop n rules) ≡ numbers_from (suc (n + 1)) (drop (n + 1) rules)
    number_later other =
        let t : same_tree left rule.left ≡ false = other_tree left rule.left (λ e. other (sym e)) in
        let e : suc n ≡ n + 1 = omega arith in
        next ∙ ap (λ b. map (λ (m : ℕ × List Guard). m.0)
        (cond b ((suc n, rule.guards) ∷ group left (suc (suc n)) (drop (n + 1) rules))
        (group left (suc (suc n)) (drop (n + 1) rules)))) t
        ∙ ap (λ k. numbers_from (suc k) (drop (n + 1) rules)) e

    pub one_more : (old made : List ℕ) → made ≡ old ++ (n + 1) ∷ [] → rule.left ≡ left →
        old ++ numbers_from (suc n) (drop n rules) ≡ rules_with left rules →
        made ++ numbers_from (suc (n + 1)) (drop (n + 1) rules) ≡ rules_with left rules
    one_more old made is same before =
        let rest = numbers_from (suc (n + 1)) (drop (n + 1) rules) in
        ap (λ ms. ms ++ rest) is ∙ append_assoc old ((n + 1) ∷ []) rest
        ∙ ap (λ ms. old ++ ms) (sym (number_here same)) ∙ before

    pub no_more : (old : List ℕ) → rule.left ≢ left →
        old ++ numbers_from (suc n) (drop n rules) ≡ rules_with left rules →
        old ++ numbers_from (suc (n + 1)) (drop (n + 1) rules) ≡ rules_with left rules
    no_more old other before = ap (λ ms. old ++ ms) (sym (number_later other)) ∙ before

  number_none : (rules : List Rule) (n : ℕ) → length rules ≤ n → numbers_from (suc n) (drop n rules) ≡ []
  number_none rules n end = ap (λ rs. numbers_from (suc n) rs) (drop_past rules n end)

  pub all_numbers : (rules : List Rule) (n : ℕ) (made : List ℕ) → length rules ≤ n →
      made ++ numbers_from (suc n) (drop n rules) ≡ rules_with left rules → made ≡ rules_with left rules
  all_numbers rules n made end all = sym (append-nil made) ∙ ap (λ ms. made ++ ms) (sym (number_none rules n end)) ∙ all
