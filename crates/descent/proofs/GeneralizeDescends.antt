-- One step of descent for `generalize`: the clause is the instance of the one with a fresh variable.
use Rattle.std.proofs.Common.{◌≡◌, ℕ, suc, ◌+◌, ◌<◌, List, [], ◌∷◌, ◌++◌, Bool, true, false, cond, Some, map, inl, inr}
use Rattle.std.proofs.Common.{refl, ap, sym, ◌∙◌, subst, arith, length}
use Rattle.std.specs.Prelude.{slice_get}
use Rattle.std.specs.List.{range_with_len}
use Rattle.std.proofs.lemmas.List.FromFn.{get_or-map-range_with_len, length-map-range_with_len}
use Rattle.std.proofs.lemmas.List.Sorted.{IsPermutation-refl}
use Rattle.std.proofs.lemmas.Option.{slice_get_within}
use Rattle.std.proofs.lemmas.List.{get_or_append_left, get_or_push}
use Rattle.term_core.specs.declared.ids.SortId.{SortId}
use Rattle.term_core.specs.Tree.{Tree, Trees, var, app, none, some, instance, instances, trees_of}
use Rattle.term_core.specs.Same.{same_tree}
use Rattle.spec_core.specs.declared.records.Equation.{Equation}
use Rattle.spec_core.specs.declared.records.Spec.{Spec}
use Rattle.spec_core.specs.Sig.{Sig}
use Rattle.spec_core.specs.Sorts.{Sorted, SortedAll}
use Rattle.spec_core.specs.Truth.{AllHold, AllBroken}
use Rattle.spec_core.specs.WellSorted.{IsWellSorted}
use Rattle.term_order.specs.Laws.{HasRanks}
use Rattle.clause_core.specs.declared.clauses.Clause.{Clause}
use Rattle.clause_core.specs.declared.clauses.Relation.TheVariants.{Same}
use Rattle.clause_core.specs.declared.steps.Step.TheVariants.{Generalize}
use Rattle.clause_core.specs.declared.answers.Why.TheVariants.{DoesNotFit, Sort}
use Rattle.clause_core.specs.Clauses.{sides, sides_of, ClauseIsSorted}
use Rattle.clause_core.specs.Admitted.{IsAdmitted}
use Rattle.clause_core.specs.Generalizing.{IsGeneral}
use Rattle.clause_core.specs.Abstracting.{abstracted, abstracted_all, abstracted_equation, generalized}
use Rattle.clause_core.specs.Rows.{Made, child}
use Rattle.clause_core.specs.Instances.{variables}
use Rattle.clause_core.specs.Tidied.{variables_of, tidied}
use Rattle.clause_core.specs.Failing.{ClauseFails, values_at}
use Rattle.descent.specs.OneValue.{ValuesRankLower}
use Rattle.descent.specs.Weights.{AreRanks}
use Rattle.descent.specs.Descent.{GoesTo, StepDescends}
use Rattle.descent.proofs.Environments.{equation_under, clause_under}
use Rattle.descent.proofs.SameTests.{same_is}
use Rattle.descent.proofs.SortedEquations.{Each, each_sorted}
use Rattle.descent.proofs.TidiedWeights.{tidied_fails, tidied_weight}
use Rattle.descent.proofs.StepDescents.{no_reason, makes_these, goes_on}
use Rattle.descent.proofs.Counted.{weighs_no_more}
use Rattle.descent.proofs.Valued.{fails_lower}
use Rattle.descent.proofs.MadeSorted.{general_made}

sorted_append : (sig : Sig) (ctx : List SortId) (ts us : List Tree) (ss rs : List SortId) →
    SortedAll sig ctx (trees_of ts) ss → SortedAll sig ctx (trees_of us) rs →
    SortedAll sig ctx (trees_of (ts ++ us)) (ss ++ rs)
sorted_append sig ctx [] us [] rs p q = q
sorted_append sig ctx [] us (s ∷ ss) rs p q = absurd p
sorted_append sig ctx (t ∷ ts) us [] rs p q = absurd p
sorted_append sig ctx (t ∷ ts) us (s ∷ ss) rs p q = (p.0, sorted_append sig ctx ts us ss rs p.1 q)

variables_sorted : (sig : Sig) (ctx ss : List SortId) (from : ℕ) →
    ((n : ℕ) (r : SortId) → slice_get ss n ≡ Some r → slice_get ctx (from + n) ≡ Some r) →
    SortedAll sig ctx (trees_of (map (λ n. var n) (range_with_len from (length ss)))) ss
variables_sorted sig ctx [] from h = tt
variables_sorted sig ctx (s ∷ ss) from h =
    let z : from + 0 ≡ from = omega arith in (
      subst (λ k. slice_get ctx k ≡ Some s) z (h 0 s refl),
      variables_sorted sig ctx ss (from + 1) (λ n r e. let q : from + suc n ≡ (from + 1) + n = omega arith in
          subst (λ k. slice_get ctx k ≡ Some r) q (h (suc n) r e)),
    )

module _ (sig : Sig) (ctx : List SortId) (t : Tree) where
  -- the variables, and the term for the fresh one
  abbrev with_fresh : List Tree
  with_fresh = variables 0 (length ctx) ++ (t ∷ [])

  long : length (variables 0 (length ctx)) ≡ length ctx
  long = length-map-range_with_len (λ n. var n) 0 (length ctx)

  old_is : (m : ℕ) → m < length ctx → instance with_fresh (var m) ≡ var m
  old_is m l = get_or_append_left (variables 0 (length ctx)) (t ∷ []) (var m) m (omega (arith, long, l))
      ∙ get_or-map-range_with_len (λ k. var k) 0 (length ctx) m m (var m) l (omega arith)

  fresh_is : instance with_fresh (var (length ctx)) ≡ t
  fresh_is = get_or_push (variables 0 (length ctx)) t (var (length ctx)) (length ctx) (omega (arith, long))

  mutual
    -- the instance by them is the term as it was
    as_before : (u : Tree) (r : SortId) → Sorted sig ctx u r → instance with_fresh (abstracted t (length ctx) u) ≡ u
    as_before (var m) r p = old_is m (slice_get_within ctx m r p)
    as_before (app f us) r p = by (same_tree t (app f us)) refl (all_as_before us p.0.args p.3)
      where
        by : (b : Bool) → same_tree t (app f us) ≡ b →
            instances with_fresh (abstracted_all t (length ctx) us) ≡ us →
            instance with_fresh (abstracted t (length ctx) (app f us)) ≡ app f us
        by true e h = ap (λ b. instance with_fresh
            (cond b (var (length ctx)) (app f (abstracted_all t (length ctx) us)))) e ∙ fresh_is
            ∙ same_is t (app f us) e
        by false e h = ap (λ b. instance with_fresh
            (cond b (var (length ctx)) (app f (abstracted_all t (length ctx) us)))) e ∙ ap (λ z. app f z) h

    all_as_before : (us : Trees) (rs : List SortId) → SortedAll sig ctx us rs →
        instances with_fresh (abstracted_all t (length ctx) us) ≡ us
    all_as_before none rs p = refl
    all_as_before (some u us) [] p = absurd p
    all_as_before (some u us) (r ∷ rs) p =
        let a : instance with_fresh (abstracted t (length ctx) u) ≡ u = as_before u r p.0 in
        let b : instances with_fresh (abstracted_all t (length ctx) us) ≡ us = all_as_before us rs p.1 in
        λ i. some (a i) (b i)

  equations_before : (es : List Equation) → Each sig ctx es →
      map (equation_under with_fresh) (map (abstracted_equation t (length ctx)) es) ≡ es
  equations_before [] p = refl
  equations_before (e ∷ es) p =
      let a : instance with_fresh (abstracted t (length ctx) e.left) ≡ e.left = as_before e.left p.0.0 p.0.1 in
      let b : instance with_fresh (abstracted t (length ctx) e.right) ≡ e.right = as_before e.right p.0.0 p.0.2 in
      let c = equations_before es p.1 in
      λ i. (record { left = a i; right = b i }) ∷ c i

  terms_sorted : (s : SortId) → Sorted sig ctx t s → SortedAll sig ctx (trees_of with_fresh) (ctx ++ (s ∷ []))
  terms_sorted s p = sorted_append sig ctx (variables 0 (length ctx)) (t ∷ []) ctx (s ∷ [])
      (variables_sorted sig ctx ctx 0 (λ n r e. let z : 0 + n ≡ n = omega arith in
      subst (λ k. slice_get ctx k ≡ Some r) (sym z) e)) (p, tt)

module _ (above : Tree → Tree → Type 0) (rank : ℕ → ℕ → Tree → ℕ → Type 0) (laws : HasRanks above rank)
    (exist : ValuesRankLower above rank) (spec : Spec) (fine : IsWellSorted spec)
    (admitted : IsAdmitted above spec) (c : Clause) (sorted : ClauseIsSorted spec.sig c) (xs : List Tree)
    (fails : ClauseFails spec c xs) where
  generalize_goes : (t : Tree) (s : SortId) → IsGeneral spec.sig c.ctx t s →
      GoesTo rank spec c xs (tidied (generalized c t s)) Same
  generalize_goes (var n) s g = absurd g
  generalize_goes (app f ts) s g =
      let t = app f ts in
      let d = generalized c t s in
      let terms = variables 0 (length c.ctx) ++ (t ∷ []) in
      let ps = each_sorted spec.sig c.ctx c.premises sorted.premises in
      let cs = each_sorted spec.sig c.ctx c.conclusions sorted.conclusions in
      let d_sorted : ClauseIsSorted spec.sig d = general_made spec fine c sorted (app f ts) s g in
      let p : map (equation_under terms) d.premises ≡ c.premises = equations_before spec.sig c.ctx t c.premises ps in
      let q : map (equation_under terms) d.conclusions ≡ c.conclusions = equations_before spec.sig c.ctx t
      c.conclusions cs in
      let same : sides c ≡ sides (clause_under terms c.ctx d) = λ i. sides_of (sym p i) ++ sides_of (sym q i) in
      let low = fails_lower above rank laws exist spec fine admitted c d terms
      (terms_sorted spec.sig c.ctx t s g) d_sorted xs fails.values_fit
      (subst (λ es. AllHold spec xs es) (sym p) fails.premises)
      (subst (λ es. AllBroken spec xs es) (sym q) fails.conclusions) in
      record {
        others = values_at (variables_of d) low.others;
        fails = tidied_fails spec d d_sorted low.others low.fails;
        weighs = λ w v a b. weighs_no_more Same w w v (inl (IsPermutation-refl w))
            (low.no_more w v (subst (λ us. AreRanks rank spec xs us w) same a)
            (tidied_weight rank spec d low.others v b));
      }

pub generalize_descends : (above : Tree → Tree → Type 0) (rank : ℕ → ℕ → Tree → ℕ → Type 0) →
    HasRanks above rank → ValuesRankLower above rank → (t : Tree) → StepDescends above rank (Generalize t)
generalize_descends above rank laws exist t spec numbers nodes c made xs fine admitted lemmas nodes_sorted
    sorted (inl (general, inl (stands, m))) fails =
    let cs : List Made = child Same (generalized c t general.0) ∷ [] in
    goes_on above c nodes made rank spec xs cs (makes_these above c nodes made cs [] m).0 0 Same
    (generalized c t general.0) refl (generalize_goes above rank laws exist spec fine admitted c sorted xs
    fails t general.0 general.1)
generalize_descends above rank laws exist t spec numbers nodes c made xs fine admitted lemmas nodes_sorted
    sorted (inl (general, inr h)) fails = absurd (no_reason above c nodes made DoesNotFit h.1)
generalize_descends above rank laws exist t spec numbers nodes c made xs fine admitted lemmas nodes_sorted
    sorted (inr h) fails = absurd (no_reason above c nodes made Sort h.1)
