-- Naturals with addition are ordered and their groups whole, and those of rules near to them aren't.
use Rattle.std.proofs.Common.{◌≡◌, ℕ, zero, suc, List, [], ◌∷◌, Some, None, refl, ap, subst, arith}
use Rattle.std.specs.Prelude.{true, false, slice_get}
use Rattle.term_core.specs.Tree.{Tree}
use Rattle.spec_core.specs.declared.records.Rule.{Rule}
use Rattle.spec_core.specs.declared.records.Guard.{Guard}
use Rattle.spec_core.specs.Groups.{Whole, GroupsAreWhole, group, wanting, alone, split}
use Rattle.spec_core.specs.Naturals.{naturals, plus_zero_rule, plus_succ_rule}
use Rattle.sample_specs.specs.SumOrder.{AboveInSums}
use Rattle.clause_core.specs.Admitted.{RuleIsOrdered, RulesAreOrdered}
use Rattle.clause_core.specs.Examples.{with_rule, looping_rule, is_true, one_sided_rule}

-- what is so of both rules is so of each
each_rule : (P : Rule → Type 0) → P plus_zero_rule → P plus_succ_rule → (k : ℕ) (rule : Rule) →
    slice_get naturals.rules k ≡ Some rule → P rule
each_rule P p q zero rule at = let e : plus_zero_rule ≡ rule = let s : Some plus_zero_rule ≡ Some rule = at in
    cc in subst P e p
each_rule P p q (suc zero) rule at = let e : plus_succ_rule ≡ rule = let s : Some plus_succ_rule ≡ Some
    rule = at in cc in subst P e q
each_rule P p q (suc (suc k)) rule at = absurd (let e : None ≡ Some rule = at in cc)

zero_ordered : RuleIsOrdered AboveInSums plus_zero_rule
zero_ordered = record { right = λ env. omega arith; guards = tt }

succ_ordered : RuleIsOrdered AboveInSums plus_succ_rule
succ_ordered = record { right = λ env. omega arith; guards = tt }

pub ordered : RulesAreOrdered AboveInSums naturals
ordered = each_rule (RuleIsOrdered AboveInSums) zero_ordered succ_ordered

pub whole : GroupsAreWhole naturals
whole = each_rule (λ (rule : Rule). Whole (group rule.left 0 naturals.rules)) alone alone

pub not_ordered : RulesAreOrdered AboveInSums (with_rule looping_rule) → ⊥
not_ordered h = let a = (h 0 looping_rule refl).right in omega (arith, a (λ n. 0))

nothing_is_not_whole : {ms : List (ℕ × List Guard)} → Whole ms → ms ≡ [] → ⊥
nothing_is_not_whole alone e = cc
nothing_is_not_whole (split test begins at_true at_false) e = nothing_is_not_whole at_true (ap (wanting true) e)

-- if one guard list wants a test true, and none wants it false
one_sided : {ms : List (ℕ × List Guard)} → Whole ms → (n : ℕ) (test : Tree) (gs : List Guard) →
    ms ≡ (n, record { test = test; wanted = true } ∷ gs) ∷ [] → ⊥
one_sided (alone {k}) n test gs e =
    let g : Guard = record { test = test; wanted = true } in
    let p : ◌≡◌ {A = ℕ × List Guard} (k, []) (n, g ∷ gs) = cc in
    let q : ◌≡◌ {A = List Guard} [] (g ∷ gs) = ap (λ (m : ℕ × List Guard). m.1) p in
    cc
one_sided (split other begins at_true at_false) n test gs e = nothing_is_not_whole at_false (ap (wanting false) e)

pub not_whole : GroupsAreWhole (with_rule one_sided_rule) → ⊥
not_whole h = one_sided (h 0 one_sided_rule refl) 0 is_true.test [] refl
