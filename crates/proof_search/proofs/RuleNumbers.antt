-- The numbers of a function's rules stand for all rules if a rule of another function has no
-- result.
use Rattle.std.proofs.Common.{◌≡◌, ℕ, suc, ◌+◌, List, [], ◌∷◌, ◌++◌, Bool, true, false, cond, Some, None, Option, inl}
use Rattle.std.proofs.Common.{inr, refl, subst, arith, length}
use Rattle.std.specs.Prelude.{slice_get}
use Rattle.std.specs.List.{flat_map, range_with_len}
use Rattle.spec_core.specs.declared.records.Rule.{Rule}
use Rattle.spec_core.specs.RuleTables.{has_head, numbers_of}
use Rattle.routine_proof.specs.Candidates.{each}
use Rattle.routine_proof.specs.First.{FirstIs, NoneIs, IsFirst}
use Rattle.routine_proof.proofs.Firsts.{first_right, none_both}

-- another first part, where each first result of it is one of the other
both_first : {B R : Type 0} (is : B → R → Type 0) (here numbers others : List B) →
    ((r : R) → FirstIs is numbers r → FirstIs is others r) → (r : R) →
    FirstIs is (here ++ numbers) r → FirstIs is (here ++ others) r
both_first is [] numbers others go r p = go r p
both_first is (b ∷ here) numbers others go r (inl p) = inl p
both_first is (b ∷ here) numbers others go r (inr p) = inr
    (p.0, both_first is here numbers others go r p.1)

both_none : {B R : Type 0} (is : B → R → Type 0) (here numbers others : List B) →
    (NoneIs is numbers → NoneIs is others) → NoneIs is (here ++ numbers) →
    NoneIs is (here ++ others)
both_none is [] numbers others go p = go p
both_none is (b ∷ here) numbers others go p = (p.0, both_none is here numbers others go p.1)

module _ {B R : Type 0} (is : B → R → Type 0) (g : ℕ → List B) (f : ℕ) where
  first_step : (b : Bool) (n : ℕ) (numbers others : List ℕ) → (b ≡ false → NoneIs is (g n)) →
      ((r : R) → FirstIs is (flat_map g numbers) r → FirstIs is (flat_map g others) r) → (r : R) →
      FirstIs is (flat_map g (cond b (n ∷ numbers) numbers)) r →
      FirstIs is (flat_map g (n ∷ others)) r
  first_step true n numbers others none go r p = both_first is (g n) (flat_map g numbers)
      (flat_map g others) go r p
  first_step false n numbers others none go r p = first_right is (g n) (flat_map g others) r
      (none refl) (go r p)

  none_step : (b : Bool) (n : ℕ) (numbers others : List ℕ) → (b ≡ false → NoneIs is (g n)) →
      (NoneIs is (flat_map g numbers) → NoneIs is (flat_map g others)) →
      NoneIs is (flat_map g (cond b (n ∷ numbers) numbers)) → NoneIs is (flat_map g (n ∷ others))
  none_step true n numbers others none go p = both_none is (g n) (flat_map g numbers)
      (flat_map g others) go p
  none_step false n numbers others none go p = none_both is (g n) (flat_map g others) (none refl)
      (go p)

  -- a rule of another function has none
  abbrev pub HasNoOther : ℕ → List Rule → Type 0
  HasNoOther n rules = (k : ℕ) (rule : Rule) → slice_get rules k ≡ Some rule →
      has_head f rule.left ≡ false → NoneIs is (g (n + k))

  here : (n : ℕ) (rule : Rule) (rules : List Rule) → HasNoOther n (rule ∷ rules) →
      has_head f rule.left ≡ false → NoneIs is (g n)
  here n rule rules apart e =
      let z : n + 0 ≡ n = omega arith in
      subst (λ m. NoneIs is (g m)) z (apart 0 rule refl e)

  later : (n : ℕ) (rule : Rule) (rules : List Rule) → HasNoOther n (rule ∷ rules) →
      HasNoOther (n + 1) rules
  later n rule rules apart = λ k r at e.
      let z : n + suc k ≡ n + 1 + k = omega arith in
      subst (λ m. NoneIs is (g m)) z (apart (suc k) r at e)

  first_of_all : (n : ℕ) (rules : List Rule) → HasNoOther n rules → (r : R) →
      FirstIs is (flat_map g (numbers_of f n rules)) r →
      FirstIs is (flat_map g (range_with_len n (length rules))) r
  first_of_all n [] apart r p = p
  first_of_all n (rule ∷ rules) apart r p =
      let z : suc n ≡ n + 1 = omega arith in
      first_step (has_head f rule.left) n (numbers_of f (suc n) rules)
      (range_with_len (n + 1) (length rules)) (here n rule rules apart)
      (λ s q. first_of_all (n + 1) rules (later n rule rules apart) s
      (subst (λ m. FirstIs is (flat_map g (numbers_of f m rules)) s) z q)) r p

  none_of_all : (n : ℕ) (rules : List Rule) → HasNoOther n rules →
      NoneIs is (flat_map g (numbers_of f n rules)) →
      NoneIs is (flat_map g (range_with_len n (length rules)))
  none_of_all n [] apart p = p
  none_of_all n (rule ∷ rules) apart p =
      let z : suc n ≡ n + 1 = omega arith in
      none_step (has_head f rule.left) n (numbers_of f (suc n) rules)
      (range_with_len (n + 1) (length rules)) (here n rule rules apart)
      (λ q. none_of_all (n + 1) rules (later n rule rules apart)
      (subst (λ m. NoneIs is (flat_map g (numbers_of f m rules))) z q)) p

  -- the answer by the function's rules is that by all rules
  pub by_all : (rules : List Rule) → HasNoOther 1 rules → (found : Option R) →
      IsFirst is (each (numbers_of f 1 rules) g) found →
      IsFirst is (each (range_with_len 1 (length rules)) g) found
  unfolding each
  by_all rules apart None p = none_of_all 1 rules apart p
  by_all rules apart (Some r) p = first_of_all 1 rules apart r p
