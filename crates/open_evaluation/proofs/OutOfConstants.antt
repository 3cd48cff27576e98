-- What a term gives with a constant for each variable, it gives openly.
use Rattle.std.proofs.Common.{◌≡◌, ℕ, ◌+◌, ◌<◌, List, [], ◌∷◌, Option, Some, None, inl, inr, refl, ap, sym, ◌∙◌, subst}
use Rattle.std.proofs.Common.{arith}
use Rattle.std.specs.Prelude.{length, map, slice_get, option_map}
use Rattle.std.specs.List.{AllByRecursion}
use Rattle.std.proofs.lemmas.Option.{slice_get-map}
use Rattle.term_core.specs.Tree.{Tree, Trees, var, app, none, some, instance}
use Rattle.term_core.specs.Variables.{OccursAny}
use Rattle.term_core.specs.declared.ids.SortId.{SortId}
use Rattle.term_core.proofs.Trees.{args_eq}
use Rattle.spec_core.specs.declared.records.Rule.{Rule}
use Rattle.spec_core.specs.declared.records.Guard.{Guard}
use Rattle.spec_core.specs.declared.records.Spec.{Spec}
use Rattle.spec_core.specs.Sorts.{Sorted}
use Rattle.spec_core.specs.Declarations.{bool_sort}
use Rattle.spec_core.specs.WellSorted.{IsWellSorted, sorts_of}
use Rattle.spec_core.specs.Gives.{Gives, GivesAll, GivesGuards, boolean, built, called, no_terms, more_terms}
use Rattle.spec_core.specs.Gives.{no_guards, more_guards}
use Rattle.spec_core.proofs.Determined.{occurs_within}
use Rattle.open_evaluation.specs.OpenGives.{IsOpen, VariablesAreBelow, OpenGives, OpenGivesAll, OpenGivesGuards}
use Rattle.open_evaluation.specs.OpenGives.{unknown, open_built, open_called, no_open_terms, more_open_terms}
use Rattle.open_evaluation.specs.OpenGives.{no_open_guards, more_open_guards}
use Rattle.open_evaluation.specs.Shifted.{shifted_number, shifted, shifted_rule, shifted_guard, closed, closed_all}
use Rattle.open_evaluation.specs.Shifted.{IsExtended}
use Rattle.open_evaluation.proofs.Occurring.{below_instance}
use Rattle.open_evaluation.proofs.Entries.{choose, all_entries}
use Rattle.open_evaluation.proofs.OpenValues.{give_open, keeps_below, keep_below}
use Rattle.open_evaluation.proofs.Arguments.{head_eq, no_more, first_eq, others_eq, nil_not_cons, cons_head, cons_tail}
use Rattle.open_evaluation.proofs.Numbers.{below_number}
use Rattle.open_evaluation.proofs.Parts.{IsClosed, left_part, left_above}
use Rattle.open_evaluation.proofs.ClosedTerms.{closed_inj, closed_instance, closed_boolean}
use Rattle.open_evaluation.proofs.WithConstants.{two_constructors}

-- the item that an item of a mapped list is made of
made_of : {X Y : Type 0} (f : X → Y) (xs : List X) (n : ℕ) (y : Y) → slice_get (map f xs) n ≡ Some y →
    (x : X) × (slice_get xs n ≡ Some x) × (y ≡ f x)
made_of {X} {Y} f xs n y at = by (slice_get xs n) refl (sym (slice_get-map f xs n) ∙ at)
  where
    by : (o : Option X) → slice_get xs n ≡ o → option_map f o ≡ Some y → (x : X) × (slice_get xs n ≡ Some x) × (y ≡ f x)
    by (Some x) e h = (x, e, let k : Some (f x) ≡ Some y = h in cc)
    by None e h = absurd (let k : None ≡ Some y = h in cc)

none_only : (spec : Spec) {ts vs : Trees} {n : ℕ} → GivesAll spec ts vs n → ts ≡ none → (vs ≡ none) × (n ≡ 0)
none_only spec no_terms e = (refl, refl)
none_only spec (more_terms one more cost) e = absurd (no_more e)

module _ (old new : Spec) (sorts : List SortId) (fine : IsWellSorted old) (ext : IsExtended old new sorts) where
  abbrev c : ℕ
  c = old.sig.constructors

  abbrev u : ℕ
  u = length sorts

  -- the term gives openly what is this value with constants
  abbrev Opens : Tree → Tree → ℕ → Type 0
  Opens t w n = (v : Tree) × (w ≡ closed c u v) × OpenGives old t v n

  rule_of : (number : ℕ) (rule : Rule) → slice_get new.rules number ≡ Some rule →
      (r : Rule) × (slice_get old.rules number ≡ Some r) × (rule ≡ shifted_rule c u r)
  rule_of number rule at = made_of (shifted_rule c u) old.rules number rule
      (ap (λ rs. slice_get rs number) (sym ext.rules) ∙ at)

  below_new : (f : ℕ) → f < new.sig.constructors → f < c + u
  below_new f h = let more = ext.constructors in omega arith

  mutual
    -- by the parts that the variables of a left side stand for, a rule that is used at the call with constants is used at the
    -- open call
    pub gives_out : {s w : Tree} {n : ℕ} → Gives new s w n → (t : Tree) → VariablesAreBelow u t →
        s ≡ closed c u t → Opens t w n
    gives_out (built {f = g} {n} low all) (var k) h e =
        let r = none_only new all (args_eq e) in (
          var k,
          ap (λ us. app g us) r.0 ∙ ap (λ f. app f none) (head_eq e),
          subst (λ m. OpenGives old (var k) (var k) m) (sym r.1) unknown,
        )
    gives_out (built {f = g} {n} low all) (app f ts) h e =
        let r = give_out all ts h (args_eq e) in
        let w : shifted_number c u f < c + u = subst (λ m. m < c + u) (head_eq e) (below_new g low) in (
          app f r.0,
          ap (λ us. app g us) r.1 ∙ ap (λ m. app m (closed_all c u r.0)) (head_eq e),
          open_built (below_number c u f w) r.2,
        )
    gives_out (called {f = g} {vs} number rule ys all at bs is gs right cost) (var k) h e =
        let r = rule_of number rule at in
        let w : g < c + u = let m : g ≡ c + k = head_eq e in let b : k < u = h k refl in omega arith in
        absurd (left_above old.sig u ys r.0.left g vs (fine.rules number r.0 r.1).left
        (ap (λ (x : Rule). instance ys x.left) (sym r.2) ∙ is) w)
    gives_out (called {f = g} {vs = us} {v = w} {k} number rule ys all at bs is gs right cost) (app f ts) h e =
        let args = give_out all ts h (args_eq e) in
        let vs = args.0 in
        let r = rule_of number rule at in
        let here = fine.rules number r.0 r.1 in
        let ctx = sorts_of r.0.vars in
        let kept : VariablesAreBelow u (app f vs) = keep_below old fine u args.2 h in
        let match : instance ys (shifted c u r.0.left) ≡ closed c u (app f vs) = ap
        (λ (x : Rule). instance ys x.left) (sym r.2) ∙ is ∙ ap (λ xs. app g xs) args.1
        ∙ ap (λ m. app m (closed_all c u vs)) (head_eq e) in
        let entries = choose (length ctx) (IsClosed old.sig u ys)
        (λ j b. left_part old.sig u ys r.0.left f vs here.left match (give_open old args.2) kept j
        (here.bound j b)) in
        let zs = entries.items in
        let same : (t : Tree) (s : SortId) → Sorted old.sig ctx t s →
        instance ys (shifted c u t) ≡ closed c u (instance zs t) = λ t s p. closed_instance c u ys zs t
        (λ j o. (entries.each j (var j) (occurs_within old.sig ctx t s p j o)).is) in
        let keep : (t : Tree) (s : SortId) → Sorted old.sig ctx t s →
        VariablesAreBelow u (instance zs t) = λ t s p. below_instance u zs t
        (λ j o. (entries.each j (var j) (occurs_within old.sig ctx t s p j o)).part.below) in
        let left : instance zs r.0.left ≡ app f vs = closed_inj c u (instance zs r.0.left) (app f vs)
        (keep r.0.left here.sides.0 here.sides.1) kept (sym (same r.0.left here.sides.0 here.sides.1) ∙ match) in
        let tests = guards_out gs r.0.guards zs (ap (λ (x : Rule). x.guards) r.2) ctx here.guards same keep in
        let value = gives_out right (instance zs r.0.right) (keep r.0.right here.sides.0 here.sides.2)
        (ap (λ (x : Rule). instance ys x.right) r.2 ∙ same r.0.right here.sides.0 here.sides.2) in (
          value.0,
          value.1,
          open_called {v = value.0} number r.0 zs args.2 r.1
              (all_entries (length ctx) (IsClosed old.sig u ys) (IsOpen old.sig) entries
              (λ j x p. p.part.is_open)) left tests value.2 cost,
        )

    pub give_out : {ss ws : Trees} {n : ℕ} → GivesAll new ss ws n → (ts : Trees) →
        ((k : ℕ) → OccursAny k ts → k < u) → ss ≡ closed_all c u ts → (vs : Trees) × (ws ≡ closed_all c u vs)
        × OpenGivesAll old ts vs n
    give_out no_terms none h e = (none, refl, no_open_terms)
    give_out no_terms (some t ts) h e = absurd (no_more (sym e))
    give_out (more_terms one more cost) none h e = absurd (no_more e)
    give_out (more_terms one more cost) (some t ts) h e =
        let first = gives_out one t (λ k o. h k (inl o)) (first_eq e) in
        let others = give_out more ts (λ k o. h k (inr o)) (others_eq e) in
        let p = first.1 in
        let q = others.1 in
        (some first.0 others.0, cc, more_open_terms first.2 others.2 cost)

    guards_out : {ys : List Tree} {hs : List Guard} {n : ℕ} → GivesGuards new ys hs n →
        (gs : List Guard) (zs : List Tree) → hs ≡ map (shifted_guard c u) gs → (ctx : List SortId) →
        AllByRecursion (λ (g : Guard). Sorted old.sig ctx g.test bool_sort) gs →
        ((t : Tree) (s : SortId) → Sorted old.sig ctx t s →
        instance ys (shifted c u t) ≡ closed c u (instance zs t)) →
        ((t : Tree) (s : SortId) → Sorted old.sig ctx t s → VariablesAreBelow u (instance zs t)) →
        OpenGivesGuards old zs gs n
    guards_out no_guards [] zs e ctx sorted same keep = no_open_guards
    guards_out no_guards (g ∷ gs) zs e ctx sorted same keep = absurd (nil_not_cons e)
    guards_out (more_guards one more cost) [] zs e ctx sorted same keep = absurd (nil_not_cons (sym e))
    guards_out (more_guards {values = ys} {guard = d} {n} one more cost) (g ∷ gs) zs e ctx sorted same keep =
        let d_is : d ≡ shifted_guard c u g = cons_head e in
        let below = keep g.test bool_sort sorted.0 in
        let test : instance ys d.test ≡ closed c u (instance zs g.test) = ap (λ (x : Guard). instance ys x.test)
        d_is ∙ same g.test bool_sort sorted.0 in
        let r = gives_out one (instance zs g.test) below test in
        let b : boolean g.wanted ≡ r.0 = closed_inj c u (boolean g.wanted) r.0 (λ k o. absurd o)
        (keeps_below old fine u r.2 below) (closed_boolean c u (two_constructors old fine) g.wanted
        ∙ ap (λ (x : Guard). boolean x.wanted) (sym d_is) ∙ r.1) in
        more_open_guards (subst (λ w. OpenGives old (instance zs g.test) w n) (sym b) r.2)
        (guards_out more gs zs (cons_tail e) ctx sorted.1 same keep) cost
