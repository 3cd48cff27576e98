-- The terms of a most general unifier of constructor patterns are constructor patterns.
use Rattle.std.proofs.Common.{◌≡◌, ℕ, zero, suc, ◌<◌, ◌≤◌, ◌⊎◌, List, [], ◌∷◌, Option, Some, None, inl, inr, refl, ap}
use Rattle.std.proofs.Common.{sym, ◌∙◌, subst, arith, map}
use Rattle.std.specs.Prelude.{unwrap_or, option_map}
use Rattle.std.proofs.lemmas.Bool.{cases_lt}
use Rattle.term_core.specs.Tree.{Tree, Trees, var, app, none, some}
use Rattle.spec_core.specs.Sig.{Sig, IsConstructor}
use Rattle.spec_core.specs.WellSorted.{IsPattern, ArePatterns}
use Rattle.substitutions.specs.Substitution.{entry, apply, apply_all}
use Rattle.unifier.specs.Shifting.{shifted, shifted_all}
use Rattle.unifier.specs.Unification.{IsMostGeneral}

abbrev keep_or_cut : {A B : Type 0} → A ⊎ B → ℕ → Trees → Tree
keep_or_cut (inl h) f ts = app f ts
keep_or_cut (inr h) f ts = var 0

entry_map : (g : Tree → Tree) (s : List (Option Tree)) (n : ℕ) →
    entry (map (option_map g) s) n ≡ option_map g (entry s n)
entry_map g [] n = refl
entry_map g (e ∷ s) zero = refl
entry_map g (e ∷ s) (suc n) = entry_map g s n

module _ (sig : Sig) where
  abbrev mutual
    -- the term with each application of another symbol than a constructor exchanged for a variable
    pruned : Tree → Tree
    pruned (var n) = var n
    pruned (app f ts) = keep_or_cut (cases_lt f sig.constructors) f (pruned_all ts)

    pruned_all : Trees → Trees
    pruned_all none = none
    pruned_all (some t ts) = some (pruned t) (pruned_all ts)

  kept : (f : ℕ) (ts : Trees) (x : (f < sig.constructors) ⊎ (sig.constructors ≤ f)) → IsConstructor sig f →
      keep_or_cut x f ts ≡ app f ts
  kept f ts (inl h) c = refl
  kept f ts (inr h) c = absurd (omega arith)

  kept_or_cut : (f : ℕ) (ts : Trees) (x : (f < sig.constructors) ⊎ (sig.constructors ≤ f)) →
      ArePatterns sig ts → IsPattern sig (keep_or_cut x f ts)
  kept_or_cut f ts (inl h) p = (h, p)
  kept_or_cut f ts (inr h) p = tt

  mutual
    pruned_is_pattern : (t : Tree) → IsPattern sig (pruned t)
    pruned_is_pattern (var n) = tt
    pruned_is_pattern (app f ts) = kept_or_cut f (pruned_all ts) (cases_lt f sig.constructors) (pruned_are_patterns ts)

    pruned_are_patterns : (ts : Trees) → ArePatterns sig (pruned_all ts)
    pruned_are_patterns none = tt
    pruned_are_patterns (some t ts) = (pruned_is_pattern t, pruned_are_patterns ts)

  -- a pattern under a substitution is pruned if the substitution is
  mutual
    prune_after : (s : List (Option Tree)) (t : Tree) → IsPattern sig t →
        pruned (apply s t) ≡ apply (map (option_map pruned) s) t
    prune_after s (var n) p = by (entry s n) ∙ ap (λ e. unwrap_or e (var n)) (sym (entry_map pruned s n))
      where
        by : (e : Option Tree) → pruned (unwrap_or e (var n)) ≡ unwrap_or (option_map pruned e) (var n)
        by None = refl
        by (Some t) = refl
    prune_after s (app f ts) p = ap (λ us. keep_or_cut (cases_lt f sig.constructors) f us)
        (prune_after_all s ts p.1) ∙ kept f (apply_all (map (option_map pruned) s) ts) (cases_lt f sig.constructors) p.0

    prune_after_all : (s : List (Option Tree)) (ts : Trees) → ArePatterns sig ts →
        pruned_all (apply_all s ts) ≡ apply_all (map (option_map pruned) s) ts
    prune_after_all s none p = refl
    prune_after_all s (some t ts) p =
        let a : pruned (apply s t) ≡ apply (map (option_map pruned) s) t = prune_after s t p.0 in
        let b : pruned_all (apply_all s ts) ≡ apply_all (map (option_map pruned) s) ts = prune_after_all s ts p.1 in
        cc

  mutual
    pattern_before : (u : List (Option Tree)) (t : Tree) → IsPattern sig (apply u t) → IsPattern sig t
    pattern_before u (var n) p = tt
    pattern_before u (app f ts) p = (p.0, patterns_before u ts p.1)

    patterns_before : (u : List (Option Tree)) (ts : Trees) → ArePatterns sig (apply_all u ts) → ArePatterns sig ts
    patterns_before u none p = tt
    patterns_before u (some t ts) p = (pattern_before u t p.0, patterns_before u ts p.1)

  mutual
    pattern_shifted : (by : ℕ) (t : Tree) → IsPattern sig t → IsPattern sig (shifted by t)
    pattern_shifted by (var n) p = tt
    pattern_shifted by (app f ts) p = (p.0, patterns_shifted by ts p.1)

    pub patterns_shifted : (by : ℕ) (ts : Trees) → ArePatterns sig ts → ArePatterns sig (shifted_all by ts)
    patterns_shifted by none p = tt
    patterns_shifted by (some t ts) p = (pattern_shifted by t p.0, patterns_shifted by ts p.1)

  -- if other symbols are pruned from a most general unifier, it still unifies, so it is the most general one
  -- followed by some substitution, and what becomes a pattern by a substitution was one
  pub unified_patterns : (f g : ℕ) (ps qs : Trees) (s : List (Option Tree)) →
      IsMostGeneral (app f ps) (app g qs) s → ArePatterns sig ps → ArePatterns sig qs → ArePatterns sig (apply_all s ps)
  unified_patterns f g ps qs s m p q =
      let e : app f (apply_all s ps) ≡ app g (apply_all s qs) = m.unifies in
      let h : f ≡ g = cc in
      let k : apply_all s ps ≡ apply_all s qs = cc in
      let t = map (option_map pruned) s in
      let a : pruned_all (apply_all s ps) ≡ apply_all t ps = prune_after_all s ps p in
      let b : pruned_all (apply_all s qs) ≡ apply_all t qs = prune_after_all s qs q in
      let unifies : app f (apply_all t ps) ≡ app g (apply_all t qs) = cc in
      let u = m.general t unifies in
      let both : app f (apply_all t ps) ≡ app f (apply_all u.0 (apply_all s ps)) = u.1 (app f ps) in
      let args : apply_all t ps ≡ apply_all u.0 (apply_all s ps) = cc in
      patterns_before u.0 (apply_all s ps)
      (subst (λ ts. ArePatterns sig ts) (a ∙ args) (pruned_are_patterns (apply_all s ps)))
