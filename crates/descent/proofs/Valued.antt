-- Terms for the variables of a clause, evaluated: what an instance by them gives, one by their values gives, and ranks no lower.
use Rattle.std.proofs.Common.{◌≡◌, ℕ, zero, suc, ◌+◌, ◌≤◌, List, [], ◌∷◌, ◌++◌, Some, None, map, inl, refl, ap, sym}
use Rattle.std.proofs.Common.{◌∙◌, subst, length}
use Rattle.std.specs.Prelude.{slice_get, slice_index_or}
use Rattle.std.specs.List.{AllByRecursion}
use Rattle.std.proofs.lemmas.List.{map-append}
use Rattle.term_core.specs.declared.ids.SortId.{SortId}
use Rattle.term_core.specs.Tree.{Tree, Trees, var, app, none, some, instance, instances, trees_of}
use Rattle.term_core.specs.Contexts.{hole}
use Rattle.term_core.proofs.Items.{all_append}
use Rattle.spec_core.specs.declared.records.Equation.{Equation}
use Rattle.spec_core.specs.declared.records.Spec.{Spec}
use Rattle.spec_core.specs.Sig.{Sig}
use Rattle.spec_core.specs.Sorts.{Sorted, SortedAll, IsValue}
use Rattle.spec_core.specs.Gives.{Gives, GivesAll, built, called, more_terms}
use Rattle.spec_core.specs.Truth.{AreValuesOf, AllHold, AllBroken}
use Rattle.spec_core.specs.WellSorted.{IsWellSorted}
use Rattle.spec_core.proofs.Determined.{determined}
use Rattle.spec_core.proofs.Instances.{sorted_instance}
use Rattle.spec_core.proofs.Values.{built_gives, built_only}
use Rattle.term_order.specs.Laws.{HasRanks}
use Rattle.clause_core.specs.declared.clauses.Clause.{Clause}
use Rattle.clause_core.specs.Clauses.{sides_of, sides, ClauseIsSorted}
use Rattle.clause_core.specs.Admitted.{IsAdmitted}
use Rattle.clause_core.specs.Referred.{AreTermsFor}
use Rattle.clause_core.specs.Failing.{ClauseFails}
use Rattle.descent.specs.Weights.{AreRanks, IsWeight}
use Rattle.descent.specs.OneValue.{ValuesRankLower}
use Rattle.descent.proofs.Environments.{equation_under, clause_under}
use Rattle.descent.proofs.Closers.{value_of}
use Rattle.descent.proofs.SortedEquations.{Each, each_sorted}
use Rattle.descent.proofs.GroundTerms.{sorted_ground}
use Rattle.descent.proofs.Solving.{instance_after}
use Rattle.descent.proofs.Counted.{NoMore, no_more_cons}
use Rattle.descent.proofs.NoHigher.{NoHigher, instance_no_higher}

-- if the second entries give what the first ones do, instances by them do
module _ (spec : Spec) (ctx : List SortId) (xs ys : List Tree) (entry : (n : ℕ) (s : SortId) →
    slice_get ctx n ≡ Some s → (v : Tree) (k : ℕ) → Gives spec (instance xs (var n)) v k →
    (m : ℕ) × Gives spec (instance ys (var n)) v m) where
  mutual
    gives_too : (t : Tree) (s : SortId) → Sorted spec.sig ctx t s → (v : Tree) (k : ℕ) →
        Gives spec (instance xs t) v k → (m : ℕ) × Gives spec (instance ys t) v m
    gives_too (var n) s p v k g = entry n s p v k g
    gives_too (app f ts) s p v k (built {vs = vs} {n = j} con all) = let a = give_too ts p.0.args p.3 vs j
        all in (a.0, built con a.1)
    gives_too (app f ts) s p v k (called {vs = vs} {n = j} number rule values all at bs is gs right
        cost) = let a = give_too ts p.0.args p.3 vs j all in (_, called number rule values a.1 at bs is gs right refl)

    give_too : (ts : Trees) (ss : List SortId) → SortedAll spec.sig ctx ts ss → (vs : Trees) (k : ℕ) →
        GivesAll spec (instances xs ts) vs k → (m : ℕ) × GivesAll spec (instances ys ts) vs m
    give_too none ss p vs k g = (k, g)
    give_too (some t ts) [] p vs k g = absurd p
    give_too (some t ts) (s ∷ ss) p none k g = elim g [ ]
    give_too (some t ts) (s ∷ ss) p (some v vs) k (more_terms {n = a} {k = b} one more cost) =
        let h = gives_too t s p.0 v a one in
        let i = give_too ts ss p.1 vs b more in
        (h.0 + i.0, more_terms h.1 i.1 refl)

-- a sorted ground term with its value, which ranks no higher
pub record Evaluated (rank : ℕ → ℕ → Tree → ℕ → Type 0) (spec : Spec) (s : SortId) (z w : Tree) : Type 0 where
  pub sorted : Sorted spec.sig [] z s
  pub is_value : IsValue spec.sig s w
  pub cost : ℕ
  pub gives : Gives spec z w cost
  pub lower : NoHigher rank spec w z

abbrev pub Entries : (ℕ → ℕ → Tree → ℕ → Type 0) → Spec → List SortId → List Tree → List Tree → Type 0
Entries rank spec ss zs ws = (n : ℕ) (s : SortId) → slice_get ss n ≡ Some s → (d e : Tree) →
    Evaluated rank spec s (slice_index_or zs n d) (slice_index_or ws n e)

module _ (above : Tree → Tree → Type 0) (rank : ℕ → ℕ → Tree → ℕ → Type 0) (laws : HasRanks above rank)
    (exist : ValuesRankLower above rank) (spec : Spec) (fine : IsWellSorted spec)
    (admitted : IsAdmitted above spec) where
  evaluate_one : (s : SortId) (z : Tree) → Sorted spec.sig [] z s → (w : Tree) × Evaluated rank spec s z w
  evaluate_one s z p = let v = exist spec fine admitted z s p in
      (v.value, record { sorted = p; is_value = v.is_value; cost = v.cost; gives = v.gives; lower = v.lower })

  pub evaluate : (ss : List SortId) (zs : List Tree) → SortedAll spec.sig [] (trees_of zs) ss →
      (ws : List Tree) × AreValuesOf spec ss ws × Entries rank spec ss zs ws
  evaluate [] [] p = ([], tt, λ n s at d e. absurd (let q : None ≡ Some s = at in cc))
  evaluate [] (z ∷ zs) p = absurd p
  evaluate (s ∷ ss) [] p = absurd p
  evaluate (s ∷ ss) (z ∷ zs) p =
      let a = evaluate_one s z p.0 in
      let b = evaluate ss zs p.1 in
      (a.0 ∷ b.0, (a.1.is_value, b.1), both a.0 a.1 b.0 b.2)
    where
      both : (w : Tree) → Evaluated rank spec s z w → (ws : List Tree) → Entries rank spec ss zs ws →
          Entries rank spec (s ∷ ss) (z ∷ zs) (w ∷ ws)
      both w a ws b zero r at d e = let q : Some s ≡ Some r = at in let k : s ≡ r = cc in
          subst (λ x. Evaluated rank spec x z w) k a
      both w a ws b (suc n) r at d e = b n r at d e

  -- instances by the terms and by their values
  module _ (ctx : List SortId) (zs ws : List Tree) (each : Entries rank spec ctx zs ws) where
    entry : (n : ℕ) (s : SortId) → slice_get ctx n ≡ Some s →
        Evaluated rank spec s (instance zs (var n)) (instance ws (var n))
    entry n s at = each n s at (var n) (var n)

    pub terms_sorted : (t : Tree) (s : SortId) → Sorted spec.sig ctx t s → Sorted spec.sig [] (instance zs t) s
    terms_sorted t s p = sorted_instance spec.sig ctx t s zs p (λ n r at. (entry n r at).sorted)

    pub to_values : (t : Tree) (s : SortId) → Sorted spec.sig ctx t s → (v : Tree) (k : ℕ) →
        Gives spec (instance zs t) v k → (m : ℕ) × Gives spec (instance ws t) v m
    to_values t s p v k g = gives_too spec ctx zs ws one t s p v k g
      where
        one : (n : ℕ) (r : SortId) → slice_get ctx n ≡ Some r → (u : Tree) (j : ℕ) →
            Gives spec (instance zs (var n)) u j → (m : ℕ) × Gives spec (instance ws (var n)) u m
        one n r at u j h =
            let x = entry n r at in
            let e : instance ws (var n) ≡ u = (determined spec fine admitted.apart admitted.whole x.gives r
            x.sorted h).0 in (
              0,
              subst (λ y. Gives spec (instance ws (var n)) y 0) e
                  (built_gives spec (instance ws (var n)) x.is_value.1),
            )

    pub from_values : (t : Tree) (s : SortId) → Sorted spec.sig ctx t s → (v : Tree) (k : ℕ) →
        Gives spec (instance ws t) v k → (m : ℕ) × Gives spec (instance zs t) v m
    from_values t s p v k g = gives_too spec ctx ws zs one t s p v k g
      where
        one : (n : ℕ) (r : SortId) → slice_get ctx n ≡ Some r → (u : Tree) (j : ℕ) →
            Gives spec (instance ws (var n)) u j → (m : ℕ) × Gives spec (instance zs (var n)) u m
        one n r at u j h =
            let x = entry n r at in
            let e : u ≡ instance ws (var n) = (built_only spec fine h x.is_value.1).0 in
            (x.cost, subst (λ y. Gives spec (instance zs (var n)) y x.cost) (sym e) x.gives)

    pub values_no_higher : (t : Tree) (s : SortId) → Sorted spec.sig ctx t s →
        NoHigher rank spec (instance ws t) (instance zs t)
    values_no_higher t s p = instance_no_higher above rank laws spec fine ctx ws zs
        (λ n r at. (entry n r at).is_value.0) (λ n r at. (entry n r at).lower) t s p

-- terms over variables with values, under these
abbrev pub under_values : List Tree → List Tree → List Tree
under_values xs terms = map (λ t. instance xs t) terms

pub under_sorted : (spec : Spec) (ctx : List SortId) (xs : List Tree) → AreValuesOf spec ctx xs →
    (terms : List Tree) (ss : List SortId) → SortedAll spec.sig ctx (trees_of terms) ss →
    SortedAll spec.sig [] (trees_of (under_values xs terms)) ss
under_sorted spec ctx xs v [] [] p = tt
under_sorted spec ctx xs v [] (s ∷ ss) p = absurd p
under_sorted spec ctx xs v (t ∷ ts) [] p = absurd p
under_sorted spec ctx xs v (t ∷ ts) (s ∷ ss)
    p = (
      sorted_instance spec.sig ctx t s xs p.0 (λ n u at. (value_of spec ctx xs v n u at (var n)).0),
      under_sorted spec ctx xs v ts ss p.1,
    )

pub under_at : (xs : List Tree) (terms : List Tree) (n : ℕ) (d e : Tree) (r : Tree) →
    slice_get terms n ≡ Some r → instance xs (slice_index_or terms n d) ≡ slice_index_or (under_values xs terms) n e
under_at xs [] n d e r at = absurd (let q : None ≡ Some r = at in cc)
under_at xs (t ∷ ts) zero d e r at = refl
under_at xs (t ∷ ts) (suc n) d e r at = under_at xs ts n d e r at

pub some_term : (sig : Sig) (ctx : List SortId) (terms : List Tree) (ss : List SortId) →
    SortedAll sig ctx (trees_of terms) ss → (n : ℕ) (s : SortId) → slice_get ss n ≡ Some s →
    (r : Tree) × (slice_get terms n ≡ Some r) × Sorted sig ctx r s
some_term sig ctx [] [] p n s at = absurd (let q : None ≡ Some s = at in cc)
some_term sig ctx [] (x ∷ ss) p n s at = absurd p
some_term sig ctx (t ∷ ts) [] p n s at = absurd p
some_term sig ctx (t ∷ ts) (x ∷ ss) p zero s at = let q : Some x ≡ Some s = at in let k : x ≡ s = cc in
    (t, refl, subst (λ y. Sorted sig ctx t y) k p.0)
some_term sig ctx (t ∷ ts) (x ∷ ss) p (suc n) s at = some_term sig ctx ts ss p.1 n s at

-- sides of instances
sides_instance : (terms : List Tree) (es : List Equation) →
    sides_of (map (equation_under terms) es) ≡ map (λ t. instance terms t) (sides_of es)
sides_instance terms [] = refl
sides_instance terms (e ∷ es) = ap (λ ts. instance terms e.left ∷ (instance terms e.right ∷ ts))
    (sides_instance terms es)

pub clause_sides : (terms : List Tree) (ctx : List SortId) (d : Clause) →
    sides (clause_under terms ctx d) ≡ map (λ t. instance terms t) (sides d)
clause_sides terms ctx d =
    let p = sides_instance terms d.premises in
    let q = sides_instance terms d.conclusions in
    (λ i. p i ++ q i) ∙ sym (map-append (λ t. instance terms t) (sides_of d.premises) (sides_of d.conclusions))

abbrev HasSort : Sig → List SortId → Tree → Type 0
HasSort sig ctx t = (s : SortId) × Sorted sig ctx t s

sides_sorted : (sig : Sig) (ctx : List SortId) (es : List Equation) → Each sig ctx es →
    AllByRecursion (HasSort sig ctx) (sides_of es)
sides_sorted sig ctx [] h = tt
sides_sorted sig ctx (e ∷ es) h = ((h.0.0, h.0.1), ((h.0.0, h.0.2), sides_sorted sig ctx es h.1))

clause_sorted : (sig : Sig) (c : Clause) → ClauseIsSorted sig c → AllByRecursion (HasSort sig c.ctx) (sides c)
clause_sorted sig c h = all_append (HasSort sig c.ctx) (sides_of c.premises) (sides_of c.conclusions)
    (sides_sorted sig c.ctx c.premises (each_sorted sig c.ctx c.premises h.premises))
    (sides_sorted sig c.ctx c.conclusions (each_sorted sig c.ctx c.conclusions h.conclusions))

module _ (above : Tree → Tree → Type 0) (rank : ℕ → ℕ → Tree → ℕ → Type 0) (laws : HasRanks above rank)
    (exist : ValuesRankLower above rank) (spec : Spec) (fine : IsWellSorted spec)
    (admitted : IsAdmitted above spec) (c d : Clause) (terms : List Tree)
    (sorted_terms : AreTermsFor spec c d terms) (sorted_d : ClauseIsSorted spec.sig d) (xs : List Tree)
    (values : AreValuesOf spec c.ctx xs) where
  module _ (ws : List Tree) (each : Entries rank spec d.ctx (under_values xs terms) ws) where
    two_steps : (t : Tree) (s : SortId) → Sorted spec.sig d.ctx t s →
        instance xs (instance terms t) ≡ instance (under_values xs terms) t
    two_steps t s p = instance_after spec.sig d.ctx terms (under_values xs terms) xs
        (λ n u at. let r = some_term spec.sig c.ctx terms d.ctx sorted_terms n u at in
        under_at xs terms n (var n) (var n) r.0 r.1) t s p

    gives_down : (t : Tree) (s : SortId) → Sorted spec.sig d.ctx t s → (v : Tree) (k : ℕ) →
        Gives spec (instance xs (instance terms t)) v k → (m : ℕ) × Gives spec (instance ws t) v m
    gives_down t s p v k g = to_values above rank laws exist spec fine admitted d.ctx (under_values xs terms) ws
        each t s p v k (subst (λ u. Gives spec u v k) (two_steps t s p) g)

    holds_down : (es : List Equation) → Each spec.sig d.ctx es →
        AllHold spec xs (map (equation_under terms) es) → AllHold spec ws es
    holds_down [] p h = tt
    holds_down (e ∷ es) p h =
        let a = gives_down e.left p.0.0 p.0.1 h.0.0 h.0.1 h.0.3 in
        let b = gives_down e.right p.0.0 p.0.2 h.0.0 h.0.2 h.0.4 in
        ((h.0.0, a.0, b.0, a.1, b.1), holds_down es p.1 h.1)

    broken_down : (es : List Equation) → Each spec.sig d.ctx es →
        AllBroken spec xs (map (equation_under terms) es) → AllBroken spec ws es
    broken_down [] p h = tt
    broken_down (e ∷ es) p h =
        let a = gives_down e.left p.0.0 p.0.1 h.0.0 h.0.2 h.0.5 in
        let b = gives_down e.right p.0.0 p.0.2 h.0.1 h.0.3 h.0.6 in
        ((h.0.0, h.0.1, a.0, b.0, h.0.4, a.1, b.1), broken_down es p.1 h.1)

    lower_side : (t : Tree) (s : SortId) → Sorted spec.sig d.ctx t s → (r q : ℕ) →
        rank (length spec.sig.table) 100 (instance xs (instance terms t)) r →
        rank (length spec.sig.table) 100 (instance ws t) q → q ≤ r
    lower_side t s p r q a b =
        values_no_higher above rank laws exist spec fine admitted d.ctx (under_values xs terms) ws each t s p hole r q
        (sorted_ground spec.sig fine.arities (instance (under_values xs terms) t) s
        (terms_sorted above rank laws exist spec fine admitted d.ctx (under_values xs terms) ws each t s p))
        (subst (λ u. rank (length spec.sig.table) 100 u r) (two_steps t s p) a) b

    ranks_down : (ts : List Tree) → AllByRecursion (HasSort spec.sig d.ctx) ts → (w v : List ℕ) →
        AreRanks rank spec xs (map (λ t. instance terms t) ts) w → AreRanks rank spec ws ts v → NoMore w v
    ranks_down [] p [] [] a b = inl (λ x. refl)
    ranks_down [] p [] (q ∷ v) a b = absurd b
    ranks_down [] p (r ∷ w) v a b = absurd a
    ranks_down (t ∷ ts) p [] v a b = absurd a
    ranks_down (t ∷ ts) p (r ∷ w) [] a b = absurd b
    ranks_down (t ∷ ts) p (r ∷ w) (q ∷ v) a b = no_more_cons r q w v (lower_side t p.0.0 p.0.1 r q a.0 b.0)
        (ranks_down ts p.1 w v a.1 b.1)

  -- if the instance of a clause fails, the clause fails under the values of the terms, and weighs no more
  pub record FailsLower : Type 0 where
    pub others : List Tree
    pub fails : ClauseFails spec d others
    pub no_more : (w v : List ℕ) → IsWeight rank spec xs (clause_under terms c.ctx d) w →
        IsWeight rank spec others d v → NoMore w v

  pub fails_lower : AllHold spec xs (map (equation_under terms) d.premises) →
      AllBroken spec xs (map (equation_under terms) d.conclusions) → FailsLower
  fails_lower hold broken =
      let ev = evaluate above rank laws exist spec fine admitted d.ctx (under_values xs terms)
      (under_sorted spec c.ctx xs values terms d.ctx sorted_terms) in
      record {
        others = ev.0;
        fails = record {
          values_fit = ev.1;
          premises = holds_down ev.0 ev.2 d.premises (each_sorted spec.sig d.ctx d.premises sorted_d.premises) hold;
          conclusions = broken_down ev.0 ev.2 d.conclusions
              (each_sorted spec.sig d.ctx d.conclusions sorted_d.conclusions) broken;
        };
        no_more = λ w v a b. ranks_down ev.0 ev.2 (sides d) (clause_sorted spec.sig d sorted_d) w v
            (subst (λ ts. AreRanks rank spec xs ts w) (clause_sides terms c.ctx d) a) b;
      }
