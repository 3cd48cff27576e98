use Rattle.std.proofs.Common.{◌≡◌, ℕ, zero, suc, inl, inr, List, [], ◌∷◌, length, Some, None, refl, ap, sym, ◌∙◌}
use Rattle.std.proofs.Common.{subst, lit<, arith}
use Rattle.term_core.specs.Tree.{Tree, var, app}
use Rattle.spec_core.specs.declared.records.Equation.{Equation}
use Rattle.spec_core.specs.Naturals.{nat, naturals, naturals_sig, zero_term, succ_term, plus_term}
use Rattle.substitutions.specs.Fitting.{Fits}
use Rattle.normalization.specs.FirstUses.{IsFirstUse}
use Rattle.normalization.specs.NormalForms.{IsNormal, RunsWithin}
use Rattle.normalization.proofs.Chains.{use_below}
use Rattle.plain_proof.specs.Closings.{HaveSameHead, Closes, identical, stripped, instanced, no_pairs, more_pairs}
use Rattle.plain_proof.specs.PlainProofs.{CaseCloses, CasesClose, IsPlain}
use Rattle.spec_core.specs.Order.{constructors_of}
use Rattle.plain_proof.specs.Examples.{equal_goal}
use Rattle.plain_proof.proofs.Samples.{var_normal, zero_normal, succ_normal, open_sum_normal, zero_first, succ_first}
use Rattle.plain_proof.proofs.Samples.{under_succ}
use Rattle.plain_proof.proofs.laws.worked_examples.Goals as goal

abbrev unit_equation : Equation
unit_equation = record { left = plus_term (var 0) zero_term; right = var 0 }

abbrev moved_equation : Equation
moved_equation = record { left = plus_term (succ_term (var 0)) (var 1); right = succ_term (plus_term (var 0) (var 1)) }

inner : IsFirstUse naturals (plus_term zero_term (plus_term zero_term (var 0))) (2 ∷ []) 1 (plus_term zero_term (var 0))
inner = use_below naturals 4 (zero_term ∷ []) [] (zero_normal, tt) (plus_term zero_term (var 0)) (var 0) [] 1
    (zero_first (var 0) (var_normal 0))

no_head : (n : ℕ) (b : Tree) → HaveSameHead naturals_sig b (var n) → ⊥
no_head n b h = let q : var n ≡ app h.0 h.2 = h.5 in cc

-- the case of zero: plus(zero, zero) = zero
unit_zero : CaseCloses naturals (nat ∷ []) (record { left = plus_term (var 0) zero_term; right = var 0 }) 0 (2, []) 3
unit_zero = record {
  left = zero_term;
  right = zero_term;
  left_uses = ([], 1) ∷ [];
  right_uses = [];
  strippings = 0;
  instances = 0;
  within = record { equations = omega arith; depth = omega arith; size = omega arith };
  left_runs = (
    zero_term,
    zero_first zero_term zero_normal,
    record { equations = omega arith; depth = omega arith; size = omega arith },
    refl,
  );
  left_normal = zero_normal;
  right_runs = refl;
  right_normal = zero_normal;
  closes = identical refl;
  progress = λ h. absurd (omega arith);
  length_is = refl;
}

fits_one : Fits naturals_sig (nat ∷ []) (nat ∷ nat ∷ []) (Some (var 1) ∷ [])
fits_one zero s e = (var 1, refl, e)
fits_one (suc n) s e = absurd (let q : None ≡ Some s = e in cc)

-- the case of succ: plus(succ(z), zero) = succ(z)
unit_succ : CaseCloses naturals (nat ∷ []) (record { left = plus_term (var 0) zero_term; right = var 0 }) 0 (
  3,
  nat ∷ [],
) 7
unit_succ = record {
  left = succ_term (plus_term (var 1) zero_term);
  right = succ_term (var 1);
  left_uses = ([], 2) ∷ [];
  right_uses = [];
  strippings = 1;
  instances = 1;
  within = record { equations = omega arith; depth = omega arith; size = omega arith };
  left_runs = (
    succ_term (plus_term (var 1) zero_term),
    succ_first (var 1) zero_term (var_normal 1) zero_normal,
    record { equations = omega arith; depth = omega arith; size = omega arith },
    refl,
  );
  left_normal = succ_normal _ (open_sum_normal 1 zero_term zero_normal);
  right_runs = refl;
  right_normal = succ_normal (var 1) (var_normal 1);
  closes = stripped (lit< tt)
      (more_pairs (instanced (no_head 1 (plus_term (var 1) zero_term)) (inl (
        Some (var 1) ∷ [],
        fits_one,
        refl,
        refl,
      ))) no_pairs refl refl);
  progress = λ h. omega arith;
  length_is = refl;
}

-- the case of zero: plus(succ(zero), y) = succ(plus(zero, y))
moved_zero : CaseCloses naturals (nat ∷ nat ∷ [])
    (record { left = plus_term (succ_term (var 0)) (var 1); right = succ_term (plus_term (var 0) (var 1)) }) 0 (2, []) 7
moved_zero = record {
  left = succ_term (var 1);
  right = succ_term (var 1);
  left_uses = ([], 2) ∷ (1 ∷ [], 1) ∷ [];
  right_uses = (1 ∷ [], 1) ∷ [];
  strippings = 0;
  instances = 0;
  within = record { equations = omega arith; depth = omega arith; size = omega arith };
  left_runs = (
    succ_term (plus_term zero_term (var 1)),
    succ_first zero_term (var 1) zero_normal (var_normal 1),
    record { equations = omega arith; depth = omega arith; size = omega arith },
    (
      succ_term (var 1),
      under_succ _ _ [] 1 (zero_first (var 1) (var_normal 1)),
      record { equations = omega arith; depth = omega arith; size = omega arith },
      refl,
    ),
  );
  left_normal = succ_normal (var 1) (var_normal 1);
  right_runs = (
    succ_term (var 1),
    under_succ _ _ [] 1 (zero_first (var 1) (var_normal 1)),
    record { equations = omega arith; depth = omega arith; size = omega arith },
    refl,
  );
  right_normal = succ_normal (var 1) (var_normal 1);
  closes = identical refl;
  progress = λ h. absurd (omega arith);
  length_is = refl;
}

-- the case of succ: plus(succ(succ(z)), y) = succ(plus(succ(z), y))
moved_succ : CaseCloses naturals (nat ∷ nat ∷ [])
    (record { left = plus_term (succ_term (var 0)) (var 1); right = succ_term (plus_term (var 0) (var 1)) }) 0
    (3, nat ∷ []) 13
moved_succ = record {
  left = succ_term (succ_term (plus_term (var 2) (var 1)));
  right = succ_term (succ_term (plus_term (var 2) (var 1)));
  left_uses = ([], 2) ∷ (1 ∷ [], 2) ∷ [];
  right_uses = (1 ∷ [], 2) ∷ [];
  strippings = 0;
  instances = 0;
  within = record { equations = omega arith; depth = omega arith; size = omega arith };
  left_runs = (
    succ_term (plus_term (succ_term (var 2)) (var 1)),
    succ_first (succ_term (var 2)) (var 1) (succ_normal (var 2) (var_normal 2)) (var_normal 1),
    record { equations = omega arith; depth = omega arith; size = omega arith },
    (
      succ_term (succ_term (plus_term (var 2) (var 1))),
      under_succ _ _ [] 2 (succ_first (var 2) (var 1) (var_normal 2) (var_normal 1)),
      record { equations = omega arith; depth = omega arith; size = omega arith },
      refl,
    ),
  );
  left_normal = succ_normal _ (succ_normal _ (open_sum_normal 2 (var 1) (var_normal 1)));
  right_runs = (
    succ_term (succ_term (plus_term (var 2) (var 1))),
    under_succ _ _ [] 2 (succ_first (var 2) (var 1) (var_normal 2) (var_normal 1)),
    record { equations = omega arith; depth = omega arith; size = omega arith },
    refl,
  );
  right_normal = succ_normal _ (succ_normal _ (open_sum_normal 2 (var 1) (var_normal 1)));
  closes = identical refl;
  progress = λ h. absurd (omega arith);
  length_is = refl;
}

-- a normal term has no use
no_use : (P : Tree → Type 0) (t v : Tree) (ws : List (List ℕ × ℕ)) → IsNormal naturals t →
    RunsWithin naturals P t ws v → ws ≡ []
no_use P t v [] n r = refl
no_use P t v (w ∷ ws) n r = absurd (n w.0 r.1.old r.1.at w.1 r.1.new r.1.rule)

no_use_same : (P : Tree → Type 0) (t v : Tree) (ws : List (List ℕ × ℕ)) → IsNormal naturals t →
    RunsWithin naturals P t ws v → v ≡ t
no_use_same P t v [] n r = r
no_use_same P t v (w ∷ ws) n r = absurd (n w.0 r.1.old r.1.at w.1 r.1.new r.1.rule)

-- zero and y close by an instance alone
only_instance : (e : Equation) (a b : Tree) (s i : ℕ) → a ≡ zero_term → b ≡ var 1 →
    Closes naturals_sig (nat ∷ nat ∷ []) e (nat ∷ nat ∷ []) a b s i → (s ≡ 0) × (i ≡ 1)
only_instance e a b zero zero p q (identical h) = absurd (let k : zero_term ≡ var 1 = sym p ∙ h ∙ q in cc)
only_instance e (app f ts) (app g us) (suc s) i p q (stripped c all) = absurd (let k : app g us ≡ var 1 = q in cc)
only_instance e a b zero (suc zero) p q (instanced apart r) = (refl, refl)
only_instance e a b zero (suc (suc i)) p q x = elim x [ ]
only_instance e (var n) b (suc s) i p q x = elim x [ ]
only_instance e (app f ts) (var n) (suc s) i p q x = elim x [ ]

not_equal : (n : ℕ) → CaseCloses naturals (nat ∷ nat ∷ []) (record { left = var 0; right = var 1 }) 0 (2, []) n → ⊥
not_equal n c =
    let l = no_use_same _ zero_term c.left c.left_uses zero_normal c.left_runs in
    let r = no_use_same _ (var 1) c.right c.right_uses (var_normal 1) c.right_runs in
    let u : length c.left_uses ≡ 0 = ap (λ ws. length ws)
    (no_use _ zero_term c.left c.left_uses zero_normal c.left_runs) in
    let w : length c.right_uses ≡ 0 = ap (λ ws. length ws)
    (no_use _ (var 1) c.right c.right_uses (var_normal 1) c.right_runs) in
    let k = only_instance (record { left = var 0; right = var 1 }) c.left c.right c.strippings c.instances l r
    c.closes in
    let p = c.progress (omega (arith, k.1)) in
    omega (arith, p, u, w, k.0)

equal_case : (n : ℕ) → (p : IsPlain naturals equal_goal 0 n) → ⊥
equal_case n p =
    let q : Some nat ≡ Some p.sort = p.sorted in
    let k : p.sort ≡ nat = cc in
    let one : (record { left = var 0; right = var 1 } ∷ []) ≡ (p.equation ∷ []) = p.conclusion in
    let e : p.equation ≡ record { left = var 0; right = var 1 } = cc in
    let cases : CasesClose naturals (nat ∷ nat ∷ []) (record { left = var 0; right = var 1 }) 0
    (constructors_of naturals_sig nat) n = subst (λ (x : Equation). CasesClose naturals (nat ∷ nat ∷ []) x 0
    (constructors_of naturals_sig nat) n) e
    (subst (λ s. CasesClose naturals (nat ∷ nat ∷ []) p.equation 0 (constructors_of naturals_sig s) n) k p.cases) in
    not_equal cases.0 cases.2

pub returns : goal.returns
returns c = record {
  below_first = (inr (refl, tt));
  left_first = inl (lit< tt);
  root_last = λ h. h;
  inner_first = inner;
  open_sum_is_normal = open_sum_normal 0 zero_term zero_normal;
  unit_is_plain = record {
    equation = unit_equation;
    sort = nat;
    no_premises = refl;
    conclusion = refl;
    occurs = inr refl;
    sorted = refl;
    within = record { equations = omega arith; depth = omega arith; size = omega arith };
    cases = (3, 7, unit_zero, (7, 0, unit_succ, refl, refl), refl);
  };
  moved_is_plain = record {
    equation = moved_equation;
    sort = nat;
    no_premises = refl;
    conclusion = refl;
    occurs = inl (inl (inl refl));
    sorted = refl;
    within = record { equations = omega arith; depth = omega arith; size = omega arith };
    cases = (7, 13, moved_zero, (13, 0, moved_succ, refl, refl), refl);
  };
  not_on_another = λ n p. let q : None ≡ Some p.sort = p.sorted in cc;
  equal_is_not_plain = equal_case;
}
