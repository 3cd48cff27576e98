-- By levels rules fall by number, and by weights as their sides weigh.
use Rattle.std.proofs.Common.{◌≡◌, ℕ, zero, suc, Some, None, ◌∷◌, [], refl, subst, inl, inr, arith}
use Rattle.std.specs.Prelude.{slice_get}
use Rattle.spec_core.specs.declared.records.Rule.{Rule}
use Rattle.spec_core.specs.Naturals.{naturals, plus_zero_rule, plus_succ_rule}
use Rattle.term_core.specs.Precedence.{by_number}
use Rattle.path_order.specs.Above.{Above, by_argument, by_head, by_arguments, this_is, later, all_none, all_some, here}
use Rattle.kbo_order.specs.Above.{by_weight, by_head as heads, by_arguments as arguments_fall}
use Rattle.kbo_order.specs.Roots.{cases-of, cover-of}
use Rattle.clause_core.specs.Admitted.{RuleIsOrdered, RulesAreOrdered}
use Rattle.spec_order.specs.Orders.{above_of}
use Rattle.spec_order.specs.Examples.{weighed, product_rule}
use Rattle.spec_order.proofs.OwnOrders.{own_by_number, rule_ordered, ordered_by_number}
use Rattle.spec_order.proofs.laws.worked_examples.Goals as goal

-- what is so of both rules is so of each
each_rule :
    (P : Rule → Type 0) → P plus_zero_rule → P plus_succ_rule → (k : ℕ) (rule : Rule) →
    slice_get naturals.rules k ≡ Some rule → P rule
each_rule P p q zero rule at =
    let e : plus_zero_rule ≡ rule = let s : Some plus_zero_rule ≡ Some rule = at in cc in subst P e p
each_rule P p q (suc zero) rule at =
    let e : plus_succ_rule ≡ rule = let s : Some plus_succ_rule ≡ Some rule = at in cc in subst P e q
each_rule P p q (suc (suc k)) rule at = absurd (let e : None ≡ Some rule = at in cc)

zero_falls : RuleIsOrdered (Above by_number) plus_zero_rule
zero_falls = record { right = by_argument (later this_is); guards = tt }

succ_falls : RuleIsOrdered (Above by_number) plus_succ_rule
succ_falls = record {
  right = by_head (omega arith) (all_some
      (by_arguments refl (here refl (by_argument this_is) (all_some (by_argument (later this_is)) all_none)))
      all_none);
  guards = tt;
}

product_falls : RuleIsOrdered (Above by_number) product_rule
product_falls = record {
  right = by_head (omega arith) (all_some (by_argument (later this_is)) (all_some
      (by_arguments refl (here refl (by_argument this_is) (all_some (by_argument (later this_is)) all_none)))
      all_none));
  guards = tt;
}

by_ones : RulesAreOrdered (above_of weighed) weighed
by_ones =
    each_rule (RuleIsOrdered (above_of weighed))
    (record { right = by_weight (record { no_more = λ v. omega arith }) (omega arith); guards = tt })
    (record { right = heads (record { no_more = λ v. omega arith }) refl (omega arith); guards = tt })

pub returns : goal.returns
returns c =
    record {
      by_path =
          ordered_by_number naturals refl (each_rule (RuleIsOrdered (Above by_number)) zero_falls succ_falls);
      by_weights = by_ones;
      product_by_path = rule_ordered (λ t s a. (own_by_number naturals refl t s).1 a) product_rule product_falls;
      product_by_weights = λ r. let h = cover-of r.right in omega (arith, h.no_more 1);
      even_by_weights =
          record { right = by_weight (record { no_more = λ v. omega arith }) (omega arith); guards = tt };
      even_by_path = λ r. c.worked_examples.ensures.other_levels ((own_by_number naturals refl _ _).0 r.right);
      light = λ r. elim (cases-of r.right) [ inl l ↦ omega (arith, l) | inr e ↦ omega (arith, e.0) ];
      heavy = record { right = by_weight (record { no_more = λ v. omega arith }) (omega arith); guards = tt };
    }
