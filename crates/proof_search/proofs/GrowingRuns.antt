-- From spot to spot of a clause the run of a symbol along last arguments grows by one at most,
-- since the last argument of a call comes right before it. So as many spots are passed over as
-- symbols are missing at one.
use Rattle.std.proofs.Common.{◌≡◌, ℕ, zero, suc, ◌+◌, ◌-◌, ◌≤◌, ◌==◌, List, [], ◌∷◌, ◌++◌, Bool, true, false, cond}
use Rattle.std.proofs.Common.{Option, Some, None, ap, sym, ◌∙◌, subst, arith, append_assoc}
use Rattle.std.specs.Prelude.{slice_get, option_map}
use Rattle.std.specs.List.{flat_map}
use Rattle.std.proofs.lemmas.List.{append-nil}
use Rattle.std.proofs.lemmas.Option.{same_Some, slice_get-map}
use Rattle.term_core.specs.Tree.{Tree, Trees, var, app, none, some, list_of}
use Rattle.term_core.specs.declared.ids.SymId.{SymId}
use Rattle.clause_core.specs.declared.clauses.Clause.{Clause}
use Rattle.clause_core.specs.Clauses.{sides}
use Rattle.clause_places.specs.Spots.{Spot, spots}
use Rattle.clause_places.specs.Listed.{subterms}
use Rattle.clause_places.proofs.ListedTerms.{term_of, subterms_at, by_sides}
use Rattle.fitting_lists.specs.Spines.{numbered, Run, one_more, run, last_run, stands, missing_in}
use Rattle.fitting_lists.specs.declared.spines.Spine.{Spine}
use Rattle.fitting_lists.specs.declared.spines.SpineEnd.{SpineEnd}
use Rattle.fitting_lists.specs.declared.spines.SpineEnd.TheVariants.{Symbol}

call_by :
    (same : Bool) (r : Run) (end : SpineEnd) (n : ℕ) → r.0 ≤ n →
    (cond same (one_more r) (0, end)).0 ≤ suc n
call_by true r end n le = omega (arith, le)
call_by false r end n le = omega arith

module _ (g : ℕ) where
  abbrev count : Tree → ℕ
  count t = (run g t).0

  -- each of the terms has a run that is greater by one at most than the one before it
  abbrev Grows : ℕ → List Tree → Type 0
  Grows r [] = Unit {0}
  Grows r (t ∷ ts) = (count t ≤ suc r) × Grows (count t) ts

  -- the run of the last of the terms, if there is one
  abbrev last_count : ℕ → Trees → ℕ
  last_count r none = r
  last_count r (some t ts) = (last_run g (some t ts)).0

  last_less : (r : ℕ) (ts : Trees) → (last_run g ts).0 ≤ last_count r ts
  last_less r none = omega arith
  last_less r (some t ts) = omega arith

  call_grows : (r f : ℕ) (ts : Trees) → count (app f ts) ≤ suc (last_count r ts)
  call_grows r f ts =
      call_by (f == g) (last_run g ts) (Symbol (numbered f)) (last_count r ts) (last_less r ts)

  mutual
    term_grows :
        (t : Tree) (r : ℕ) (more : List Tree) → Grows (count t) more → Grows r (subterms t ++ more)
    term_grows (var n) r more h = (omega arith, h)
    term_grows (app f ts) r more h =
        let below : List Tree = flat_map subterms (list_of ts) in
        let whole : (subterms (app f ts) ++ more) ≡ (below ++ (app f ts ∷ more)) =
        ap (λ us. us ++ more) (subterms_at f ts) ∙ append_assoc below (app f ts ∷ []) more in
        subst (λ us. Grows r us) (sym whole)
        (all_grow ts r (app f ts ∷ more) (call_grows r f ts, h))

    all_grow :
        (ts : Trees) (r : ℕ) (more : List Tree) → Grows (last_count r ts) more →
        Grows r (flat_map subterms (list_of ts) ++ more)
    all_grow none r more h = h
    all_grow (some t none) r more h =
        subst (λ us. Grows r (us ++ more)) (sym (append-nil (subterms t))) (term_grows t r more h)
    all_grow (some t (some u us)) r more h =
        let rest : List Tree = flat_map subterms (list_of (some u us)) in
        subst (λ vs. Grows r vs) (sym (append_assoc (subterms t) rest more))
        (term_grows t r (rest ++ more) (all_grow (some u us) (count t) more h))

  sides_grow : (ts : List Tree) (r : ℕ) → Grows r (flat_map subterms ts)
  sides_grow [] r = tt
  sides_grow (t ∷ ts) r = term_grows t r (flat_map subterms ts) (sides_grow ts (count t))

  -- by the number of terms in between
  reached :
      (ts : List Tree) (r k : ℕ) (u : Tree) → Grows r ts → slice_get ts k ≡ Some u →
      count u ≤ r + suc k
  reached [] r k u h at = absurd (let q : ◌≡◌ {A = Option Tree} None (Some u) = at in cc)
  reached (t ∷ ts) r zero u h at =
      let same : count t ≡ count u = ap count (same_Some t u at) in
      omega (arith, h.0, same)
  reached (t ∷ ts) r (suc k) u h at = omega (arith, h.0, reached ts (count t) k u h.1 at)

  later :
      (ts : List Tree) (r k m : ℕ) (t u : Tree) → k ≤ m → Grows r ts → slice_get ts k ≡ Some t →
      slice_get ts m ≡ Some u → count u ≤ count t + (m - k)
  later [] r k m t u le h here there =
      absurd (let q : ◌≡◌ {A = Option Tree} None (Some t) = here in cc)
  later (x ∷ ts) r zero zero t u le h here there =
      let same : count t ≡ count u = ap count (same_Some t u (sym here ∙ there)) in
      omega (arith, same)
  later (x ∷ ts) r zero (suc m) t u le h here there =
      let same : count x ≡ count t = ap count (same_Some x t here) in
      omega (arith, same, reached ts (count x) m u h.1 there)
  later (x ∷ ts) r (suc k) zero t u le h here there = absurd (omega (arith, le))
  later (x ∷ ts) r (suc k) (suc m) t u le h here there =
      omega (arith, later ts (count x) k m t u (omega (arith, le)) h.1 here there)

module _ (c : Clause) (k m : ℕ) (s r : Spot) (le : k ≤ m) (here : slice_get (spots c) k ≡ Some s)
    (there : slice_get (spots c) m ≡ Some r) where
  term_listed :
      (n : ℕ) (x : Spot) → slice_get (spots c) n ≡ Some x →
      slice_get (flat_map subterms (sides c)) n ≡ Some x.term
  term_listed n x at =
      ap (λ ts. slice_get ts n) (sym (by_sides c))
      ∙ slice_get-map term_of (spots c) n
      ∙ ap (λ o. option_map term_of o) at

  stands_later : (root : Option SymId) → stands root r.term ≤ stands root s.term + (m - k)
  stands_later None = omega arith
  stands_later (Some f) =
      later f.0 (flat_map subterms (sides c)) 0 k m s.term r.term le
      (sides_grow f.0 (sides c) 0) (term_listed k s here) (term_listed m r there)

  pub missing_later : (p : Spine) → missing_in p s.term ≤ missing_in p r.term + (m - k)
  missing_later p = omega (arith, stands_later p.root)
