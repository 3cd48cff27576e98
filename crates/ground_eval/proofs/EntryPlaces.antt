-- Entries at places of the bank.
use Rattle.std.proofs.Common.{◌≡◌, ◌≢◌, ℕ, suc, ◌+◌, ◌-◌, ◌≤◌, List, [], ◌∷◌, ◌++◌, Bool, true, false, Some, inl, inr}
use Rattle.std.proofs.Common.{refl, ap, sym, ◌∙◌, subst, arith, length, map, take}
use Rattle.std.specs.Prelude.{slice_get}
use Rattle.std.proofs.lemmas.List.{length-map, map-append}
use Rattle.term_core.specs.Tree.{Tree, var, app, none}
use Rattle.term_core.specs.declared.ids.SortId.{SortId}
use Rattle.spec_core.specs.declared.records.Spec.{Spec}
use Rattle.spec_core.specs.declared.records.SymInfo.{SymInfo}
use Rattle.spec_core.specs.declared.records.VarInfo.{VarInfo}
use Rattle.spec_core.specs.Sig.{Sig}
use Rattle.spec_core.specs.Sorts.{IsValue}
use Rattle.spec_core.specs.Gives.{boolean}
use Rattle.spec_core.specs.Declarations.{IsDeclared, bool_sort, bool_symbol, declared_by}
use Rattle.spec_core.specs.WellSorted.{IsWellSorted, sorts_of}
use Rattle.value_bank.specs.Cells.{Cell, AddsCells}
use Rattle.value_bank.specs.declared.bank.ValueId.{ValueId}
use Rattle.bank_machine.specs.Runs.{StandAt}
use Rattle.open_evaluation.specs.Shifted.{closed}
use Rattle.open_evaluation.proofs.ClosedTerms.{closed_boolean}
use Rattle.ground_eval.specs.Entries.{IsEntry, AreEntries, AreEntriesAt}
use Rattle.ground_eval.specs.Opened.{Partial, AreFirstValues}
use Rattle.ground_eval.proofs.EntrySteps.{fit_more, firsts_fit}
use Rattle.ground_eval.proofs.FixedSides.{all_stay}
use Rattle.ground_eval.proofs.GoalSides.{values_built}
use Rattle.ground_eval.proofs.PartGoals.{places_count}
use Rattle.ground_eval.proofs.PartSorts.{sort_of_item}
use Rattle.ground_eval.proofs.SharedSides.{stand_kept, sorts_count}

-- the two Booleans are values of their sort
boolean_there : (sorts : List (List ℕ)) (cs fs : List (List ℕ × SymInfo)) (b : Bool) →
    IsValue (declared_by sorts cs fs) bool_sort (boolean b)
boolean_there sorts cs fs true = ((bool_symbol, refl, refl, tt), (omega arith, tt))
boolean_there sorts cs fs false = ((bool_symbol, refl, refl, tt), (omega arith, tt))

boolean_value : (sig : Sig) → IsDeclared sig → (b : Bool) → IsValue sig bool_sort (boolean b)
boolean_value sig d b = subst (λ (s : Sig). IsValue s bool_sort (boolean b)) (sym d.is)
    (boolean_there d.sorts d.constructors d.functions b)

two_there : (sig : Sig) → IsDeclared sig → 2 ≤ sig.constructors
two_there sig d =
    let e : sig.constructors ≡ 2 + length d.constructors = ap (λ (s : Sig). s.constructors) d.is in
    omega (arith, e)

abbrev sort_numbered : ℕ → SortId
sort_numbered n = record { 0 = n }

pub sort_is_bool : (s : SortId) → s.0 ≡ 0 → s ≡ bool_sort
sort_is_bool s e = ap sort_numbered e

entries_few : (spec : Spec) (k : ℕ) (ctx : List SortId) (zs : List Tree) → AreEntries spec k ctx zs →
    length zs ≤ length ctx
entries_few spec k ctx [] h = omega arith
entries_few spec k [] (z ∷ zs) h = absurd h
entries_few spec k (s ∷ ctx) (z ∷ zs) h = omega (arith, entries_few spec (suc k) ctx zs h.1)

module _ (z : Partial) (cells : List Cell) (ids : List ValueId) (zs : List Tree) where
  abbrev c : ℕ
  c = z.spec.sig.constructors

  abbrev u : ℕ
  u = z.extended.sig.constructors - z.spec.sig.constructors

  abbrev ctx : List SortId
  ctx = sorts_of z.goal.vars

  -- first values are entries
  pub first_entries : StandAt cells ids zs → AreFirstValues z.spec z.goal zs → AreEntriesAt z cells ids zs
  first_entries stand first = record {
    fit = firsts_fit z.spec 0 ctx zs first;
    stand = subst (λ ts. StandAt cells ids ts)
        (sym (all_stay z.spec.sig u zs (values_built z.spec (take (length zs) ctx) zs first))) stand;
  }

  module _ (h : AreEntriesAt z cells ids zs) where
    pub entries_count : length ids ≡ length zs
    entries_count = omega (arith, places_count cells ids (map (closed c u) zs) h.stand, length-map zs (closed c u))

    pub no_more_entries : length ids ≤ length z.goal.vars
    no_more_entries = omega (arith, entries_count, entries_few z.spec 0 ctx zs h.fit, sorts_count z.goal.vars)

    pub entries_still : (new : List Cell) → AddsCells cells new → AreEntriesAt z new ids zs
    entries_still new adds = record { fit = h.fit; stand = stand_kept cells new ids (map (closed c u) zs) adds h.stand }

    -- the sort of the next variable
    pub next_sort : (vars : List VarInfo) (x : VarInfo) → vars ≡ z.goal.vars →
        slice_get vars (length ids) ≡ Some x → slice_get ctx (length zs) ≡ Some x.sort
    next_sort vars x e at = subst (λ k. slice_get ctx k ≡ Some x.sort) entries_count
        (sort_of_item z.goal.vars (length ids) x (subst (λ vs. slice_get vs (length ids) ≡ Some x) e at))

    module _ (new : List Cell) (after : List ValueId) (f : ℕ) (stand : (ts : List Tree) → StandAt cells ids ts →
        StandAt new after (ts ++ app f none ∷ [])) where
      one_more : (x : Tree) (s : SortId) → closed c u x ≡ app f none → slice_get ctx (length zs) ≡ Some s →
          IsEntry z.spec (length zs) s x → AreEntriesAt z new after (zs ++ x ∷ [])
      one_more x s e at entry = record {
        fit = fit_more z.spec 0 ctx zs x s h.fit at (subst (λ i. IsEntry z.spec i s x) (omega arith) entry);
        stand = subst (λ ts. StandAt new after ts)
            (sym (map-append (closed c u) zs (x ∷ []) ∙ ap (λ t. map (closed c u) zs ++ t ∷ []) e))
            (stand (map (closed c u) zs) h.stand);
      }

      -- the constant of the next variable
      pub with_variable : (s : SortId) → slice_get ctx (length zs) ≡ Some s → s.0 ≢ 0 → f ≡ c + length ids →
          AreEntriesAt z new after (zs ++ var (length zs) ∷ [])
      with_variable s at other e = one_more (var (length zs)) s
          (ap (λ j. app j none) (omega (arith, e, entries_count))) at (inr (refl, other))

      -- a Boolean
      pub with_boolean : IsWellSorted z.spec → (b : Bool) → boolean b ≡ app f none →
          slice_get ctx (length zs) ≡ Some bool_sort → AreEntriesAt z new after (zs ++ boolean b ∷ [])
      with_boolean fine b e at = one_more (boolean b) bool_sort
          (closed_boolean c u (two_there z.spec.sig fine.signature) b ∙ e)
          at (inl (boolean_value z.spec.sig fine.signature b))
