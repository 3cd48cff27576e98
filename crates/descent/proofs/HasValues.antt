-- Each sorted term without variables has one value, which ranks no higher: by recursion on a number above its rank.
use Rattle.std.proofs.Common.{◌≡◌, ◌⊎◌, ℕ, zero, suc, ◌+◌, ◌≤◌, ◌<◌, [], Some, None, inl, inr, arith, length}
use Rattle.term_core.specs.Tree.{Tree, Trees, var, app, none}
use Rattle.term_core.specs.Contexts.{hole, plug}
use Rattle.term_core.specs.declared.ids.SortId.{SortId}
use Rattle.term_core.proofs.Numbers.{below_or_not}
use Rattle.spec_core.specs.declared.records.Spec.{Spec}
use Rattle.spec_core.specs.Sig.{IsConstructor}
use Rattle.spec_core.specs.Sorts.{Sorted}
use Rattle.spec_core.specs.Gives.{built}
use Rattle.spec_core.specs.WellSorted.{IsWellSorted}
use Rattle.spec_core.proofs.Keeps.{keeps, keeps_all}
use Rattle.spec_core.proofs.Determined.{determined}
use Rattle.spec_core.proofs.Values.{call_gives}
use Rattle.term_order.specs.Laws.{HasRanks}
use Rattle.clause_core.specs.Admitted.{IsAdmitted}
use Rattle.clause_core.specs.Ranks.{IsGround}
use Rattle.descent.specs.OneValue.{HasOneValue}
use Rattle.descent.proofs.GroundTerms.{sorted_ground}
use Rattle.descent.proofs.InContexts.{plug_ground}
use Rattle.descent.proofs.Measures.{IsMeasure, rank_in, one_rank_in, ranks_measure}
use Rattle.descent.proofs.Arguments.{HasValue, HaveValues, all_values}
use Rattle.descent.proofs.Calls.{call_value}

module _ (above : Tree → Tree → Type 0) (spec : Spec) (fine : IsWellSorted spec)
    (admitted : IsAdmitted above spec) where
  module _ (measure : Tree → ℕ) (falls : IsMeasure above spec measure) where
    -- an application whose arguments have values: a constructor's is built of them, a call's is that of the call with them
    app_value : (f : ℕ) (ts : Trees) (s : SortId) → Sorted spec.sig [] (app f ts) s →
        HaveValues spec measure ts →
        ((t : Tree) (u : SortId) → Sorted spec.sig [] t u → measure t < measure (app f ts) →
        HasValue spec measure t) → (f < spec.sig.constructors) ⊎ (spec.sig.constructors ≤ f) →
        HasValue spec measure (app f ts)
    app_value f ts s p args below (inl c) = record {
      value = app f args.values;
      cost = args.cost;
      gives = built
          c args.give;
      lower = λ c g. args.lower c f none g;
    }
    app_value f ts s p args below (inr l) =
        let kept = keeps_all spec fine args.give p.0.args p.3 in
        let q : Sorted spec.sig [] (app f args.values) s = (p.0, p.1, p.2, kept.0) in
        let g : IsGround spec (app f args.values) = sorted_ground spec.sig fine.arities (app f args.values) s q in
        let other : ¬ (IsConstructor spec.sig f) = λ k. omega arith in
        let same : measure (app f args.values) ≤ measure (app f ts) = args.lower hole f none
        (sorted_ground spec.sig fine.arities (app f ts) s p) in
        let v = call_value above spec fine admitted measure falls f args.values s q kept.1
        (λ t u r less. below t u r (omega (arith, less, same))) other in
        record {
          value = v.value;
          cost = args.cost + v.cost;
          gives = call_gives spec fine f other args.give kept.1 v.gives;
          lower = λ c h. omega (
            arith,
            args.lower c f none h,
            v.lower c (plug_ground (length spec.sig.table) c (app f ts) (app f args.values) h g),
          );
        }

    value_below : (b : ℕ) (t : Tree) (s : SortId) → Sorted spec.sig [] t s → measure t < b → HasValue spec measure t
    value_below zero t s p l = absurd (omega arith)
    value_below (suc b) (var n) s p l = absurd (let q : None ≡ Some s = p in cc)
    value_below (suc b) (app f ts) s p l =
        let less : (t : Tree) (u : SortId) → Sorted spec.sig [] t u → measure t < measure (app f ts) →
        HasValue spec measure t = λ t u q r. value_below b t u q (omega (arith, r, l)) in
        let args = all_values spec measure fine ts p.0.args p.3
        (λ t u i q. less t u q
        (falls.on_arguments f ts t i (sorted_ground spec.sig fine.arities (app f ts) s p))) in
        app_value f ts s p args less (below_or_not f spec.sig.constructors)

    pub sorted_value : (t : Tree) (s : SortId) → Sorted spec.sig [] t s → HasValue spec measure t
    sorted_value t s p = value_below (measure t + 1) t s p (omega arith)

  pub one_value : (rank : ℕ → ℕ → Tree → ℕ → Type 0) → HasRanks above rank → (t : Tree) (s : SortId) →
      Sorted spec.sig [] t s → HasOneValue rank spec t s
  one_value rank laws t s p =
      let v = sorted_value (rank_in above rank laws spec) (ranks_measure above rank laws spec) t s p in
      let is = keeps spec fine v.gives s p in
      record {
        value = v.value;
        cost = v.cost;
        gives = v.gives;
        is_value = is;
        alone = λ w m g. determined spec fine admitted.apart admitted.whole v.gives s p g;
        lower = λ c r q g hr hq.
            let g' : IsGround spec (plug c v.value) = plug_ground (length spec.sig.table) c t v.value g
            (sorted_ground spec.sig fine.arities v.value s is.0) in
            omega (
              arith,
              one_rank_in above rank laws spec (plug c t) r g hr,
              one_rank_in above rank laws spec (plug c v.value) q g' hq,
              v.lower c g,
            );
      }
