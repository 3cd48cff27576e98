-- One step of descent for `decompose`: an equation of two terms with one constructor gives way to those of the arguments.
use Rattle.std.proofs.Common.{◌≡◌, ◌≢◌, ◌⊎◌, ℕ, suc, ◌<◌, List, [], ◌∷◌, ◌++◌, Bool, true, false, Some, inl, inr, refl}
use Rattle.std.proofs.Common.{ap, sym, ◌∙◌, subst, arith, length, append_assoc}
use Rattle.std.specs.Prelude.{slice_get}
use Rattle.std.specs.List.{AllByRecursion}
use Rattle.term_core.specs.declared.ids.SortId.{SortId}
use Rattle.term_core.specs.Tree.{Tree, Trees, app, none, some, instance, instances}
use Rattle.term_core.specs.Same.{same_tree}
use Rattle.term_core.specs.Contexts.{around}
use Rattle.term_core.specs.Ground.{IsGroundIn}
use Rattle.term_core.proofs.Items.{all_at}
use Rattle.term_core.proofs.SameTrees.{same_tree-refl}
use Rattle.spec_core.specs.declared.records.Equation.{Equation}
use Rattle.spec_core.specs.declared.records.Spec.{Spec}
use Rattle.spec_core.specs.Sig.{Sig}
use Rattle.spec_core.specs.Sorts.{SortedAll}
use Rattle.spec_core.specs.Gives.{Gives, GivesAll, no_terms, more_terms}
use Rattle.spec_core.specs.Groups.{GroupsAreWhole}
use Rattle.spec_core.specs.Overlap.{NoOverlap}
use Rattle.spec_core.specs.Truth.{EquationBroken, AllHold, AllBroken}
use Rattle.spec_core.specs.WellSorted.{IsWellSorted}
use Rattle.term_order.specs.Laws.{HasRanks}
use Rattle.clause_core.specs.declared.clauses.Clause.{Clause}
use Rattle.clause_core.specs.declared.clauses.Relation.TheVariants.{Less}
use Rattle.clause_core.specs.Clauses.{sides_of, sides, ClauseIsSorted}
use Rattle.clause_core.specs.NumberedEquations.{EquationAt, equations, exchanged}
use Rattle.clause_core.specs.Simplifying.{SameHeads, pairs}
use Rattle.clause_core.specs.Tidied.{variables_of, tidied}
use Rattle.clause_core.specs.Failing.{ClauseFails, values_at}
use Rattle.clause_core.proofs.Sides.{sides_append}
use Rattle.descent.specs.Weights.{AreRanks, IsWeight, IsHeavier}
use Rattle.descent.specs.Descent.{GoesTo}
use Rattle.descent.proofs.InContexts.{around_instance}
use Rattle.descent.proofs.Closers.{holds_at, broken_at, built_value}
use Rattle.descent.proofs.SameTests.{same_is}
use Rattle.descent.proofs.SortedEquations.{split_all, Each, each_sorted, HasOneSort, each_at}
use Rattle.descent.proofs.TidiedWeights.{tidied_fails, tidied_weight}
use Rattle.descent.proofs.SideRanks.{Grounded}
use Rattle.descent.proofs.Removing.{sides_grounded}
use Rattle.descent.proofs.Multisets.{IsIn, none-in, head-in, tail-in, in-cases}
use Rattle.descent.proofs.Lighter.{AreBelow, lighter}
use Rattle.descent.proofs.KeptSorts.{heads_sorts, heads_sorted, pairs_sorted, exchange_sorted}

-- other equations in the place of one
pub holds_replaced : (spec : Spec) (xs : List Tree) (before after news : List Equation) (e : Equation) →
    AllHold spec xs (before ++ (e ∷ after)) → AllHold spec xs news → AllHold spec xs (before ++ (news ++ after))
holds_replaced spec xs [] after [] e h n = h.1
holds_replaced spec xs [] after (d ∷ ds) e h n = (n.0, holds_replaced spec xs [] after ds e h n.1)
holds_replaced spec xs (d ∷ ds) after news e h n = (h.0, holds_replaced spec xs ds after news e h.1 n)

pub broken_replaced : (spec : Spec) (xs : List Tree) (before after news : List Equation) (e : Equation) →
    AllBroken spec xs (before ++ (e ∷ after)) → AllBroken spec xs news → AllBroken spec xs (before ++ (news ++ after))
broken_replaced spec xs [] after [] e h n = h.1
broken_replaced spec xs [] after (d ∷ ds) e h n = (n.0, broken_replaced spec xs [] after ds e h n.1)
broken_replaced spec xs (d ∷ ds) after news e h n = (h.0, broken_replaced spec xs ds after news e h.1 n)

-- a term is an argument
abbrev IsArg : Tree → Trees → Type 0
IsArg s ts = (before : Trees) × (after : Trees) × (ts ≡ around before s after)

arg_later : (s t : Tree) (ts : Trees) → IsArg s ts → IsArg s (some t ts)
arg_later s t ts (b, a, e) = (some t b, a, λ i. some t (e i))

-- the sides of the arguments' equations are arguments
abbrev ArePairs : Trees → Trees → List Equation → Type 0
ArePairs ts us es = AllByRecursion (λ (p : Equation). IsArg p.left ts × IsArg p.right us) es

pairs_later : (t u : Tree) (ts us : Trees) (es : List Equation) → ArePairs ts us es →
    ArePairs (some t ts) (some u us) es
pairs_later t u ts us [] h = tt
pairs_later t u ts us (e ∷ es) h = (
  (arg_later e.left t ts h.0.0, arg_later e.right u us h.0.1),
  pairs_later t u ts us es h.1,
)

are_pairs : (ts us : Trees) → ArePairs ts us (pairs ts us)
are_pairs none none = tt
are_pairs none (some u us) = tt
are_pairs (some t ts) none = tt
are_pairs (some t ts) (some u us) = (
  ((none, ts, refl), (none, us, refl)),
  pairs_later t u ts us (pairs ts us) (are_pairs ts us),
)

side_args : (ts us : Trees) (es : List Equation) → ArePairs ts us es →
    AllByRecursion (λ s. IsArg s ts ⊎ IsArg s us) (sides_of es)
side_args ts us [] h = tt
side_args ts us (e ∷ es) h = (inl h.0.0, (inr h.0.1, side_args ts us es h.1))

pairs_hold : (spec : Spec) (xs : List Tree) (ts us vs : Trees) {n m : ℕ} →
    GivesAll spec (instances xs ts) vs n → GivesAll spec (instances xs us) vs m → AllHold spec xs (pairs ts us)
pairs_hold spec xs none none vs a b = tt
pairs_hold spec xs none (some u us) vs a b = tt
pairs_hold spec xs (some t ts) none vs a b = tt
pairs_hold spec xs (some t ts) (some u us) none a b = elim a [ ]
pairs_hold spec xs (some t ts) (some u us) (some v vs) (more_terms one more c)
    (more_terms one' more' c') = ((v, _, _, one, one'), pairs_hold spec xs ts us vs more more')

-- if the arguments' values differ some pair is broken
pair_broken : (spec : Spec) (xs : List Tree) (sig : Sig) (ctx : List SortId) (ss : List SortId)
    (ts us vs ws : Trees) {n m : ℕ} → SortedAll sig ctx ts ss → SortedAll sig ctx us ss →
    GivesAll spec (instances xs ts) vs n → GivesAll spec (instances xs us) ws m → vs ≢ ws →
    (k : ℕ) × (p : Equation) × (slice_get (pairs ts us) k ≡ Some p) × EquationBroken spec xs p
pair_broken spec xs sig ctx ss none none none none p q no_terms no_terms d = absurd (d refl)
pair_broken spec xs sig ctx ss none none none (some w ws) p q a b d = elim b [ ]
pair_broken spec xs sig ctx ss none none (some v vs) ws p q a b d = elim a [ ]
pair_broken spec xs sig ctx [] none (some u us) vs ws p q a b d = absurd q
pair_broken spec xs sig ctx (s ∷ ss) none (some u us) vs ws p q a b d = absurd p
pair_broken spec xs sig ctx [] (some t ts) none vs ws p q a b d = absurd p
pair_broken spec xs sig ctx (s ∷ ss) (some t ts) none vs ws p q a b d = absurd q
pair_broken spec xs sig ctx [] (some t ts) (some u us) vs ws p q a b d = absurd p
pair_broken spec xs sig ctx (s ∷ ss) (some t ts) (some u us) none ws p q a b d = elim a [ ]
pair_broken spec xs sig ctx (s ∷ ss) (some t ts) (some u us) (some v vs) none p q a b d = elim b [ ]
pair_broken spec xs sig ctx (s ∷ ss) (some t ts) (some u us) (some v vs) (some w ws) p q (more_terms one more c)
    (more_terms one' more' c') d = by (same_tree v w) refl
    (λ r. pair_broken spec xs sig ctx ss ts us vs ws p.1 q.1 more more' r)
  where
    by : (b : Bool) → same_tree v w ≡ b →
        (vs ≢ ws → (k : ℕ) × (p : Equation) × (slice_get (pairs ts us) k ≡ Some p) × EquationBroken spec xs p) →
        (k : ℕ) × (p : Equation) × (slice_get (pairs (some t ts) (some u us)) k ≡ Some p) × EquationBroken spec xs p
    by true e next =
        let h : v ≡ w = same_is v w e in
        let r = next (λ z. d (λ i. some (h i) (z i))) in
        (suc r.0, r.1, r.2, r.3)
    by false e next = (
      0,
      _,
      refl,
      (
        v,
        w,
        _,
        _,
        (λ h. let z : true ≡ false = sym (same_tree-refl v) ∙ ap (λ x. same_tree v x) h ∙ e in cc),
        one,
        one',
      ),
    )

module _ (above : Tree → Tree → Type 0) (rank : ℕ → ℕ → Tree → ℕ → Type 0) (laws : HasRanks above rank)
    (spec : Spec) (xs : List Tree) where
  arg_below : (f : ℕ) (ts : Trees) (s : Tree) → IsArg s ts → Grounded spec xs (app f ts) → (r q : ℕ) →
      rank (length spec.sig.table) 100 (instance xs (app f ts)) r →
      rank (length spec.sig.table) 100 (instance xs s) q → q < r
  arg_below f ts s (b, a, e) g r q p h =
      let z : instance xs (app f ts) ≡ app f (around (instances xs b) (instance xs s) (instances xs a)) = ap
      (λ us. app f (instances xs us)) e ∙ ap (λ us. app f us) (around_instance xs b s a) in
      laws.on_arguments (length spec.sig.table) 100 f (instances xs b) (instances xs a) (instance xs s) r q
      (omega arith) (subst (λ t. IsGroundIn (length spec.sig.table) t) z g)
      (subst (λ t. rank (length spec.sig.table) 100 t r) z p) h

  ranked : (P : Tree → Type 0) (ts : List Tree) → AllByRecursion P ts → (n : List ℕ) →
      AreRanks rank spec xs ts n → (y : ℕ) → IsIn y n →
      (s : Tree) × P s × rank (length spec.sig.table) 100 (instance xs s) y
  ranked P [] h [] p y i = absurd (none-in y i)
  ranked P [] h (r ∷ n) p y i = absurd p
  ranked P (t ∷ ts) h [] p y i = absurd p
  ranked P (t ∷ ts) h (r ∷ n) p y i = elim (in-cases y r n i) [
    | inl e ↦ (t, h.0, subst (λ z. rank (length spec.sig.table) 100 (instance xs t) z) e p.0)
    | inr j ↦ ranked
        P ts h.1 n p.1 y j
  ]

  -- arguments are below the two terms
  args_below : (f : ℕ) (ts us : Trees) (l r : Tree) → l ≡ app f ts → r ≡ app f us → Grounded spec xs l →
      Grounded spec xs r → (news : List Tree) → AllByRecursion (λ s. IsArg s ts ⊎ IsArg s us) news →
      AreBelow above rank laws spec xs (l ∷ (r ∷ [])) news
  args_below f ts us l r el er gl gr news h [] n p q y i = absurd p
  args_below f ts us l r el er gl gr news h (a ∷ []) n p q y i = absurd p.1
  args_below f ts us l r el er gl gr news h (a ∷ (b ∷ m)) n p q y i = by
      (ranked (λ s. IsArg s ts ⊎ IsArg s us) news h n q y i)
    where
      by : ((s : Tree) × (IsArg s ts ⊎ IsArg s us) × rank (length spec.sig.table) 100 (instance xs s) y) →
          (x : ℕ) × IsIn x (a ∷ (b ∷ m)) × (y < x)
      by (s, inl z, k) = (
        a,
        head-in a (b ∷ m),
        arg_below f ts s z (subst (λ t. Grounded spec xs t) el gl) a y
            (subst (λ t. rank (length spec.sig.table) 100 (instance xs t) a) el p.0) k,
      )
      by (s, inr z, k) = (
        b,
        tail-in b a (b ∷ m) (head-in b m),
        arg_below f us s z (subst (λ t. Grounded spec xs t) er gr) b y
            (subst (λ t. rank (length spec.sig.table) 100 (instance xs t) b) er p.1.0) k,
      )

-- the sides of a clause with other equations in the place of one
pub replaced_sides : (c : Clause) (kind : Bool) (n : ℕ) (at : EquationAt (equations kind c) n)
    (news : List Equation) → (before : List Tree) × (after : List Tree)
    × (sides c ≡ before ++ ((at.equation.left ∷ (at.equation.right ∷ [])) ++ after))
    × (sides (exchanged kind c at news) ≡ before ++ (sides_of news ++ after))
replaced_sides c true n at news = (
  sides_of c.premises ++ sides_of at.before,
  sides_of at.after,
  (λ i. sides_of c.premises ++ sides_of (at.is i))
      ∙ (λ i. sides_of c.premises ++ sides_append at.before (at.equation ∷ at.after) i)
      ∙ sym (append_assoc (sides_of c.premises) (sides_of at.before)
      (at.equation.left ∷ (at.equation.right ∷ sides_of at.after))),
  (λ i. sides_of c.premises ++ sides_append at.before (news ++ at.after) i)
      ∙ (λ i. sides_of c.premises ++ (sides_of at.before ++ sides_append news at.after i))
      ∙ sym (append_assoc (sides_of c.premises) (sides_of at.before) (sides_of news ++ sides_of at.after)),
)
replaced_sides c false n at news = (
  sides_of at.before,
  sides_of at.after ++ sides_of c.conclusions,
  (λ i. sides_of (at.is i) ++ sides_of c.conclusions) ∙ (λ i. sides_append at.before (at.equation ∷ at.after) i
      ++ sides_of c.conclusions)
      ∙ append_assoc (sides_of at.before) (at.equation.left ∷ (at.equation.right ∷ sides_of at.after))
      (sides_of c.conclusions),
  (λ i. sides_append at.before (news ++ at.after) i ++ sides_of c.conclusions)
      ∙ append_assoc (sides_of at.before) (sides_of (news ++ at.after)) (sides_of c.conclusions)
      ∙ (λ i. sides_of at.before ++ (sides_append news at.after i ++ sides_of c.conclusions))
      ∙ (λ i. sides_of at.before ++ append_assoc (sides_of news) (sides_of at.after) (sides_of c.conclusions) i),
)

module _ (above : Tree → Tree → Type 0) (rank : ℕ → ℕ → Tree → ℕ → Type 0) (laws : HasRanks above rank)
    (spec : Spec) (fine : IsWellSorted spec) (apart : NoOverlap spec) (whole : GroupsAreWhole spec) (c : Clause)
    (sorted : ClauseIsSorted spec.sig c) (xs : List Tree) (fails : ClauseFails spec c xs) where
  -- with arguments in the place of an equation the clause weighs less
  replaced_weight : (kind : Bool) (n : ℕ) (at : EquationAt (equations kind c) n)
      (heads : SameHeads spec.sig at.equation) (news : List Equation) →
      AllByRecursion (λ s. IsArg s heads.lefts ⊎ IsArg s heads.rights) (sides_of news) → (w v : List ℕ) →
      IsWeight rank spec xs c w → IsWeight rank spec xs (exchanged kind c at news) v → IsHeavier w v
  replaced_weight kind n at heads news args w v p q =
      let parts = replaced_sides c kind n at news in
      let g = subst (λ ts. AllByRecursion (Grounded spec xs) ts) parts.2
      (sides_grounded above rank laws spec fine c sorted xs fails) in
      let one = split_all (Grounded spec xs) parts.0 ((at.equation.left ∷ (at.equation.right ∷ [])) ++ parts.1) g in
      lighter above rank laws spec xs parts.0 (at.equation.left ∷ (at.equation.right ∷ [])) (sides_of news)
      parts.1 (omega arith) one.0 one.1.1.1 (args_below above rank laws spec xs heads.head heads.lefts
      heads.rights at.equation.left at.equation.right heads.is_left heads.is_right one.1.0 one.1.1.0
      (sides_of news) args) w v (subst (λ ts. AreRanks rank spec xs ts w) parts.2 p)
      (subst (λ ts. AreRanks rank spec xs ts v) parts.3 q)

  -- a premise gives way to its arguments' equations
  premise_holds : (n : ℕ) (at : EquationAt c.premises n) (heads : SameHeads spec.sig at.equation) →
      AllHold spec xs (pairs heads.lefts heads.rights)
  premise_holds n at heads =
      let h = holds_at spec xs c.premises n at fails.premises in
      let a = built_value spec fine apart whole heads.head (instances xs heads.lefts) h.0 h.1 heads.constructor
      (subst (λ t. Gives spec (instance xs t) h.0 h.1) heads.is_left h.3) in
      let b = built_value spec fine apart whole heads.head (instances xs heads.rights) h.0 h.2 heads.constructor
      (subst (λ t. Gives spec (instance xs t) h.0 h.2) heads.is_right h.4) in
      let e : app heads.head a.0 ≡ app heads.head b.0 = sym a.1 ∙ b.1 in
      let k : b.0 ≡ a.0 = cc in
      pairs_hold spec xs heads.lefts heads.rights a.0 a.2.1
      (subst (λ vs. GivesAll spec (instances xs heads.rights) vs b.2.0) k b.2.1)

  pub premise_goes : (n : ℕ) (at : EquationAt c.premises n) (heads : SameHeads spec.sig at.equation) →
      GoesTo rank spec c xs (tidied (exchanged false c at (pairs heads.lefts heads.rights))) Less
  premise_goes n at heads =
      let news = pairs heads.lefts heads.rights in
      let d = exchanged false c at news in
      let each = subst (λ es. Each spec.sig c.ctx es) at.is (each_sorted spec.sig c.ctx c.premises sorted.premises) in
      let ss = heads_sorts spec.sig c.ctx at.equation heads
      (each_at spec.sig c.ctx at.before at.after at.equation each) in
      let d_sorted : ClauseIsSorted spec.sig d = exchange_sorted spec.sig c sorted false n at news
      (heads_sorted spec.sig c.ctx at.equation heads) in
      let d_fails : ClauseFails spec d xs = record {
        values_fit = fails.values_fit;
        premises = holds_replaced
            spec xs at.before at.after news at.equation (subst (λ es. AllHold spec xs es) at.is fails.premises)
            (premise_holds n at heads);
        conclusions = fails.conclusions;
      } in
      record {
        others = values_at (variables_of d) xs;
        fails = tidied_fails spec d d_sorted xs d_fails;
        weighs = λ w v p q. replaced_weight false n at heads news
            (side_args heads.lefts heads.rights news (are_pairs heads.lefts heads.rights)) w v p
            (tidied_weight rank spec d xs v q);
      }

  -- some argument's equation of a conclusion is broken
  conclusion_broken : (n : ℕ) (at : EquationAt c.conclusions n) (heads : SameHeads spec.sig at.equation) →
      (ss : List SortId) → SortedAll spec.sig c.ctx heads.lefts ss → SortedAll spec.sig c.ctx heads.rights ss →
      (k : ℕ) × (p : Equation) × (slice_get (pairs heads.lefts heads.rights) k ≡ Some p) × EquationBroken spec xs p
  conclusion_broken n at heads ss p q =
      let h = broken_at spec xs c.conclusions n at fails.conclusions in
      let a = built_value spec fine apart whole heads.head (instances xs heads.lefts) h.0 h.2 heads.constructor
      (subst (λ t. Gives spec (instance xs t) h.0 h.2) heads.is_left h.5) in
      let b = built_value spec fine apart whole heads.head (instances xs heads.rights) h.1 h.3 heads.constructor
      (subst (λ t. Gives spec (instance xs t) h.1 h.3) heads.is_right h.6) in
      pair_broken spec xs spec.sig c.ctx ss heads.lefts heads.rights a.0 b.0 p q a.2.1 b.2.1
      (λ e. h.4 (a.1 ∙ (λ i. app heads.head (e i)) ∙ sym b.1))

  -- one of the children of a conclusion fails
  pub conclusion_goes : (n : ℕ) (at : EquationAt c.conclusions n) (heads : SameHeads spec.sig at.equation) →
      (k : ℕ) × (p : Equation) × (slice_get (pairs heads.lefts heads.rights) k ≡ Some p)
      × GoesTo rank spec c xs (tidied (exchanged true c at (p ∷ []))) Less
  conclusion_goes n at heads =
      let each = subst (λ es. Each spec.sig c.ctx es) at.is
      (each_sorted spec.sig c.ctx c.conclusions sorted.conclusions) in
      let ss = heads_sorts spec.sig c.ctx at.equation heads
      (each_at spec.sig c.ctx at.before at.after at.equation each) in
      let b = conclusion_broken n at heads ss.0 ss.1 ss.2 in
      let p = b.1 in
      let d = exchanged true c at (p ∷ []) in
      let p_sorted = all_at (λ (e : Equation). HasOneSort spec.sig c.ctx e) (pairs heads.lefts heads.rights)
      (pairs_sorted spec.sig c.ctx heads.lefts heads.rights ss.0 ss.1 ss.2) b.0 p b.2 in
      let p_args = all_at (λ (e : Equation). IsArg e.left heads.lefts × IsArg e.right heads.rights)
      (pairs heads.lefts heads.rights) (are_pairs heads.lefts heads.rights) b.0 p b.2 in
      let d_sorted : ClauseIsSorted spec.sig d = exchange_sorted spec.sig c sorted true n at (p ∷ [])
      (λ q. (p_sorted, tt)) in
      let d_fails : ClauseFails spec d xs = record {
        values_fit = fails.values_fit;
        premises = fails.premises;
        conclusions = broken_replaced spec xs at.before at.after (p ∷ []) at.equation
            (subst (λ es. AllBroken spec xs es) at.is fails.conclusions) (b.3, tt);
      } in (
        b.0,
        p,
        b.2,
        record {
          others = values_at (variables_of d) xs;
          fails = tidied_fails spec d d_sorted xs d_fails;
          weighs = λ w v x y. replaced_weight true n at heads (p ∷ []) (inl p_args.0, (inr p_args.1, tt)) w v x
              (tidied_weight rank spec d xs v y);
        },
      )
