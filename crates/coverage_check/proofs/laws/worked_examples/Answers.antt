use Rattle.std.proofs.Common.{◌≡◌, ℕ, zero, suc, ◌<◌, List, [], ◌∷◌, Some, inl, inr, refl, sym, subst, arith}
use Rattle.term_core.specs.Tree.{Tree, Trees, var, app, none, some, trees_of}
use Rattle.term_core.specs.declared.ids.SortId.{SortId}
use Rattle.spec_core.specs.declared.records.SymInfo.{SymInfo}
use Rattle.spec_core.specs.Sorts.{SortedAll}
use Rattle.spec_core.specs.Linear.{OccurTwice}
use Rattle.spec_core.specs.Naturals.{nat, declares, naturals_sig, zero_term, succ_term}
use Rattle.spec_core.proofs.SortedNaturals.{bool_is_not_nat}
use Rattle.spec_core.proofs.SmallShapes.{small_nat}
use Rattle.coverage_check.specs.Values.{AreValues, MatchesSome}
use Rattle.coverage_check.specs.Named.{IsSettled, IsNamed, no_sorts, no_rows, all_variables, first_constructor}
use Rattle.coverage_check.specs.Examples.{zero_or_succ}
use Rattle.coverage_check.proofs.GuardLists.{none_not_whole, empty_alone, whole_same}
use Rattle.coverage_check.proofs.laws.worked_examples.Goals as goal

-- arguments of a symbol that is declared with these sorts
args : (i : SymInfo) (ts : Trees) (ss : List SortId) → Some (declares ss) ≡ Some i →
    SortedAll naturals_sig [] ts i.args → SortedAll naturals_sig [] ts ss
args i ts ss at s = let e : declares ss ≡ i = cc in
    subst (λ (x : SymInfo). SortedAll naturals_sig [] ts x.args) (sym e) s

-- with the row zero, all values that begin with a constructor before succ are admitted
settled_before : (d : ℕ) → d < 3 → IsSettled naturals_sig ((zero_term ∷ []) ∷ []) (nat ∷ []) d
settled_before zero h ts vs v = absurd (bool_is_not_nat v.0.0.0 v.0.0.1 v.0.0.2)
settled_before (suc zero) h ts vs v = absurd (bool_is_not_nat v.0.0.0 v.0.0.1 v.0.0.2)
settled_before (suc (suc zero)) h none [] v = inl ((refl, tt), tt)
settled_before (suc (suc zero)) h none (w ∷ ws) v = absurd v.0.1
settled_before (suc (suc zero)) h (some t ts) vs v = absurd (args v.0.0.0 (some t ts) [] v.0.0.1 v.0.0.3)
settled_before (suc (suc (suc d))) h ts vs v = absurd (omega arith)

no_row : IsNamed naturals_sig [] (nat ∷ []) (zero_term ∷ [])
no_row = no_rows (small_nat, tt)

zero_alone : IsNamed naturals_sig ((zero_term ∷ []) ∷ []) (nat ∷ []) (succ_term zero_term ∷ [])
zero_alone =
    first_constructor 3 (declares (nat ∷ [])) (record {
      decides = λ h. h.0;
      constructor = omega arith;
      info = refl;
      result = refl;
      before = settled_before;
    }) refl no_row

last_decides : IsNamed naturals_sig ((var 0 ∷ (zero_term ∷ [])) ∷ []) (nat ∷ (nat ∷ []))
    (zero_term ∷ (succ_term zero_term ∷ []))
last_decides = all_variables (λ e. let q : (var 0 ∷ (zero_term ∷ [])) ∷ [] ≡ [] = e in cc) (tt, tt) small_nat zero_alone

constant : (vs : List Tree) → AreValues naturals_sig [] vs → MatchesSome ([] ∷ []) vs
constant [] v = inl ([], refl)
constant (w ∷ ws) v = absurd v.0

-- the first value decides which of both rows the values match
both_cover : (vs : List Tree) → AreValues naturals_sig (nat ∷ (nat ∷ [])) vs → MatchesSome zero_or_succ vs
both_cover [] v = absurd v.0
both_cover (a ∷ []) v = absurd v.0.1
both_cover (a ∷ (b ∷ (c ∷ vs))) v = absurd v.0.1.1
both_cover (var n ∷ (b ∷ [])) v = absurd v.1.0
both_cover (app zero ts ∷ (b ∷ [])) v = absurd (bool_is_not_nat v.0.0.0 v.0.0.1 v.0.0.2)
both_cover (app (suc zero) ts ∷ (b ∷ [])) v = absurd (bool_is_not_nat v.0.0.0 v.0.0.1 v.0.0.2)
both_cover (app (suc (suc zero)) none ∷ (b ∷ [])) v = inl (b ∷ [], refl)
both_cover (app (suc (suc zero)) (some t ts) ∷ (b ∷ [])) v = absurd (args v.0.0.0 (some t ts) [] v.0.0.1 v.0.0.3)
both_cover (app (suc (suc (suc zero))) none ∷ (b ∷ [])) v = absurd (args v.0.0.0 none (nat ∷ []) v.0.0.1 v.0.0.3)
both_cover (app (suc (suc (suc zero))) (some t none) ∷ (b ∷ [])) v = inr (inl (t ∷ (b ∷ []), refl))
both_cover (app (suc (suc (suc zero))) (some t (some u us)) ∷ (b ∷ [])) v = absurd
    (args v.0.0.0 (some t (some u us)) (nat ∷ []) v.0.0.1 v.0.0.3).1
both_cover (app (suc (suc (suc (suc f)))) ts ∷ (b ∷ [])) v = let k : suc (suc (suc (suc f))) < 4 = v.1.0.0 in
    absurd (omega arith)

once : (n : ℕ) → OccurTwice n (trees_of (succ_term (var 0) ∷ (var 1 ∷ []))) → ⊥
once n (inl (inl h)) = h
once n (inl (inr (inl h))) = h.1
once n (inl (inr (inr h))) = h
once n (inr (inl (inl p, inl q))) = omega (arith, p, q)
once n (inr (inl (inl p, inr q))) = q
once n (inr (inl (inr p, q))) = p
once n (inr (inr (inl h))) = h
once n (inr (inr (inr (inl h)))) = h.1
once n (inr (inr (inr (inr h)))) = h

pub returns : goal.returns
returns c = record {
  no_row = no_row;
  zero_alone = zero_alone;
  last_decides = last_decides;
  no_column = no_sorts;
  constant = constant;
  both_cover = both_cover;
  opened_rows = refl;
  opened_variable = refl;
  repeated = λ r. r.linear 0 (inr (inl (refl, inl refl)));
  linear = record {
    sorted = (nat ∷ (nat ∷ []), ((_, refl, refl, (refl, tt)), (refl, tt)));
    patterns = ((omega arith, (tt, tt)), (tt, tt));
    linear = once;
  };
  no_rules = none_not_whole;
  two_unguarded = λ w. let e = (empty_alone ([] ∷ [])).1 (whole_same w _ refl) in cc;
}
