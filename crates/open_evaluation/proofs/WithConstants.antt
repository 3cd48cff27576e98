-- What a term gives openly, it gives with a constant for each variable.
use Rattle.std.proofs.Common.{◌≡◌, ℕ, ◌<◌, ◌≤◌, List, Some, inl, inr, refl, ap, sym, ◌∙◌, subst, arith}
use Rattle.std.specs.Prelude.{length, map, slice_get, option_map}
use Rattle.std.specs.List.{AllByRecursion}
use Rattle.std.proofs.lemmas.Option.{slice_get-map}
use Rattle.term_core.specs.Tree.{Tree, Trees, var, app, instance}
use Rattle.term_core.specs.Variables.{OccursAny}
use Rattle.term_core.specs.declared.ids.SortId.{SortId}
use Rattle.spec_core.specs.declared.records.Rule.{Rule}
use Rattle.spec_core.specs.declared.records.Guard.{Guard}
use Rattle.spec_core.specs.declared.records.Spec.{Spec}
use Rattle.spec_core.specs.Sorts.{Sorted, IsBuilt}
use Rattle.spec_core.specs.Declarations.{bool_sort}
use Rattle.spec_core.specs.WellSorted.{IsWellSorted, sorts_of}
use Rattle.spec_core.specs.Gives.{Gives, GivesAll, GivesGuards, boolean, built, called, no_terms, more_terms}
use Rattle.spec_core.specs.Gives.{no_guards, more_guards}
use Rattle.spec_core.proofs.Determined.{occurs_within}
use Rattle.open_evaluation.specs.OpenGives.{VariablesAreBelow, OpenGives, OpenGivesAll, OpenGivesGuards, unknown}
use Rattle.open_evaluation.specs.OpenGives.{open_built, open_called, no_open_terms, more_open_terms, no_open_guards}
use Rattle.open_evaluation.specs.OpenGives.{more_open_guards}
use Rattle.open_evaluation.specs.Shifted.{shifted, shifted_rule, shifted_guard, closed, closed_all, IsExtended}
use Rattle.open_evaluation.proofs.Occurring.{below_entry, below_by_left}
use Rattle.open_evaluation.proofs.Entries.{choose, all_entries}
use Rattle.open_evaluation.proofs.OpenValues.{entry_open, keep_below}
use Rattle.open_evaluation.proofs.Numbers.{number_kept}
use Rattle.open_evaluation.proofs.ClosedTerms.{closed_instance, closed_boolean, closed_built}

-- a declared signature has the constructors of Bool
pub two_constructors : (spec : Spec) → IsWellSorted spec → 2 ≤ spec.sig.constructors
two_constructors spec fine = rw fine.signature.is (omega arith)

module _ (old new : Spec) (sorts : List SortId) (fine : IsWellSorted old) (ext : IsExtended old new sorts) where
  abbrev c : ℕ
  c = old.sig.constructors

  abbrev u : ℕ
  u = length sorts

  -- the rule of a number, with the new numbers
  rule_there : (number : ℕ) (rule : Rule) → slice_get old.rules number ≡ Some rule →
      slice_get new.rules number ≡ Some (shifted_rule c u rule)
  rule_there number rule at = ap (λ rs. slice_get rs number) ext.rules
      ∙ slice_get-map (shifted_rule c u) old.rules number ∙ ap (λ r. option_map (shifted_rule c u) r) at

  -- the entry of a rule's variable: what stands for it, with constants
  abbrev IsClosing : List Tree → ℕ → Tree → Type 0
  IsClosing zs k x = (x ≡ closed c u (instance zs (var k))) × IsBuilt new.sig x

  mutual
    -- a rule that is used at an open call is used at the call with constants, under the entries with constants
    pub gives_with : {t v : Tree} {n : ℕ} → OpenGives old t v n → VariablesAreBelow u t →
        Gives new (closed c u t) (closed c u v) n
    gives_with (unknown {k}) h =
        let w : k < u = h k refl in
        let more = ext.constructors in
        built (omega arith) no_terms
    gives_with (open_built {f} low all) h =
        let e = number_kept c u f low in
        let more = ext.constructors in
        built (omega arith) (give_with all h)
    gives_with (open_called {f} {vs} {v} {k} number rule zs all at bs is gs right cost) h =
        let here = fine.rules number rule at in
        let ctx = sorts_of rule.vars in
        let kept : VariablesAreBelow u (app f vs) = keep_below old fine u all h in
        let left : VariablesAreBelow u (instance zs rule.left) = subst (VariablesAreBelow u) (sym is) kept in
        let keep = below_by_left old.sig rule here u zs left in
        let entries = choose (length ctx) (IsClosing zs) (λ j w. (
          closed c u (instance zs (var j)),
          (
            refl,
            closed_built old.sig new.sig u ext.constructors (instance zs (var j))
                (entry_open old.sig zs j (var j) bs tt) (below_entry u zs rule.left left j (here.bound j w)),
          ),
        )) in
        let ys = entries.items in
        let same : (t : Tree) (s : SortId) → Sorted old.sig ctx t s →
        instance ys (shifted c u t) ≡ closed c u (instance zs t) = λ t s p. closed_instance c u ys zs t
        (λ j o. (entries.each j (var j) (occurs_within old.sig ctx t s p j o)).0) in
        let match : instance ys (shifted c u rule.left) ≡ closed c u (app f vs) = same rule.left here.sides.0
        here.sides.1 ∙ ap (λ t. closed c u t) is in
        called number (shifted_rule c u rule) ys (give_with all h) (rule_there number rule at)
        (all_entries (length ctx) (IsClosing zs) (IsBuilt new.sig) entries (λ j x p. p.1)) match
        (guards_with gs ys ctx here.guards same keep)
        (subst (λ t. Gives new t (closed c u v) k) (sym (same rule.right here.sides.0 here.sides.2))
        (gives_with right (keep rule.right here.sides.0 here.sides.2))) cost

    give_with : {ts vs : Trees} {n : ℕ} → OpenGivesAll old ts vs n → ((k : ℕ) → OccursAny k ts → k < u) →
        GivesAll new (closed_all c u ts) (closed_all c u vs) n
    give_with no_open_terms h = no_terms
    give_with (more_open_terms one more cost) h = more_terms (gives_with one (λ k o. h k (inl o)))
        (give_with more (λ k o. h k (inr o))) cost

    guards_with : {zs : List Tree} {gs : List Guard} {n : ℕ} → OpenGivesGuards old zs gs n →
        (ys : List Tree) (ctx : List SortId) →
        AllByRecursion (λ (g : Guard). Sorted old.sig ctx g.test bool_sort) gs →
        ((t : Tree) (s : SortId) → Sorted old.sig ctx t s →
        instance ys (shifted c u t) ≡ closed c u (instance zs t)) →
        ((t : Tree) (s : SortId) → Sorted old.sig ctx t s → VariablesAreBelow u (instance zs t)) →
        GivesGuards new ys (map (shifted_guard c u) gs) n
    guards_with no_open_guards ys ctx sorted same keep = no_guards
    guards_with (more_open_guards {values} {guard} {n} one more cost) ys ctx sorted same keep =
        let gives : Gives new (closed c u (instance values guard.test)) (closed c u (boolean guard.wanted))
        n = gives_with one (keep guard.test bool_sort sorted.0) in
        let wanted : Gives new (closed c u (instance values guard.test)) (boolean guard.wanted) n = subst
        (λ w. Gives new (closed c u (instance values guard.test)) w n)
        (closed_boolean c u (two_constructors old fine) guard.wanted) gives in
        more_guards (subst (λ t. Gives new t (boolean guard.wanted) n)
        (sym (same guard.test bool_sort sorted.0)) wanted) (guards_with more ys ctx sorted.1 same keep) cost
