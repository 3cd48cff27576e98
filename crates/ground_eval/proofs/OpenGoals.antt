-- A goal with constants for the variables that have no value.
use Rattle.std.proofs.Common.{◌≡◌, ◌≢◌, ℕ, zero, suc, ◌+◌, ◌<◌, ◌≤◌, List, [], ◌∷◌, Some, inl, inr, refl, ap, sym, ◌∙◌}
use Rattle.std.proofs.Common.{subst, arith, get_or, length, map, take}
use Rattle.std.specs.Prelude.{slice_get, option_map}
use Rattle.std.proofs.lemmas.Option.{slice_get-map, slice_get_within}
use Rattle.std.proofs.lemmas.List.{length-map}
use Rattle.term_core.specs.Tree.{Tree, var, instance}
use Rattle.term_core.specs.declared.ids.SortId.{SortId}
use Rattle.term_core.proofs.Items.{all_at}
use Rattle.spec_core.specs.declared.records.Equation.{Equation}
use Rattle.spec_core.specs.declared.records.Goal.{Goal}
use Rattle.spec_core.specs.declared.records.Spec.{Spec}
use Rattle.spec_core.specs.Sorts.{Sorted, IsValue}
use Rattle.spec_core.specs.WellSorted.{IsWellSorted, EquationsAreSorted, sorts_of}
use Rattle.spec_core.specs.Truth.{AreValuesOf}
use Rattle.spec_core.proofs.Determined.{occurs_within}
use Rattle.value_bank.specs.Cells.{Cell}
use Rattle.value_bank.specs.declared.bank.ValueId.{ValueId}
use Rattle.rule_code.specs.Programs.{Program}
use Rattle.open_evaluation.specs.Shifted.{closed, shifted_equation}
use Rattle.open_evaluation.proofs.Extended.{info_constant, value_kept}
use Rattle.open_evaluation.specs.OpenGives.{VariablesAreBelow}
use Rattle.open_evaluation.proofs.ClosedTerms.{closed_by_entries, value_stays}
use Rattle.open_evaluation.proofs.Occurring.{below_instance}
use Rattle.open_evaluation.proofs.OpenWalks.{built_closed}
use Rattle.ground_eval.specs.declared.comparing.SidePair.{SidePair}
use Rattle.ground_eval.specs.Entries.{IsEntry, AreEntries}
use Rattle.ground_eval.specs.Opened.{Extends, HaveConstants}
use Rattle.ground_eval.specs.OpenSides.{Setting, with_constants, IsClosedSide, CanOpenAll}
use Rattle.ground_eval.specs.Prepared.{CanCompareAll}
use Rattle.ground_eval.specs.Sides.{HasOneSort}

-- values are no more than the sorts
pub values_few : (spec : Spec) (ctx : List SortId) (vs : List Tree) →
    AreValuesOf spec (take (length vs) ctx) vs → length vs ≤ length ctx
values_few spec ctx [] h = omega arith
values_few spec [] (v ∷ vs) h = absurd h
values_few spec (s ∷ ctx) (v ∷ vs) h = omega (arith, values_few spec ctx vs h.1)

pub item_there : {X : Type 0} (xs : List X) (k : ℕ) → k < length xs → (x : X) × (slice_get xs k ≡ Some x)
item_there [] k lt = absurd (omega (arith, lt))
item_there (x ∷ xs) zero lt = (x, refl)
item_there (x ∷ xs) (suc k) lt = item_there xs k (omega (arith, lt))

-- the entry of a variable
pub entry_at : (spec : Spec) (k : ℕ) (ctx : List SortId) (zs : List Tree) → AreEntries spec k ctx zs →
    (j : ℕ) (d : Tree) → j < length zs → (s : SortId) × (slice_get ctx j ≡ Some s)
    × IsEntry spec (k + j) s (get_or zs j d)
entry_at spec k ctx [] h j d lt = absurd (omega (arith, lt))
entry_at spec k [] (z ∷ zs) h j d lt = absurd h
entry_at spec k (s ∷ ctx) (z ∷ zs) h zero d lt = (s, refl, subst (λ i. IsEntry spec i s z) (omega arith) h.0)
entry_at spec k (s ∷ ctx) (z ∷ zs) h (suc j) d lt =
    let r = entry_at spec (suc k) ctx zs h.1 j d (omega (arith, lt)) in
    (r.0, r.1, subst (λ i. IsEntry spec i r.0 (get_or zs j d)) (omega arith) r.2)

module _ (old new : Spec) (sorts : List SortId) (fine : IsWellSorted old) (extends : Extends old new sorts) where
  abbrev c : ℕ
  c = old.sig.constructors

  abbrev u : ℕ
  u = length sorts

  -- the sort has a constant with this number, unless it is Bool
  abbrev Has : ℕ → SortId → Type 0
  Has k s = s.0 ≢ 0 → slice_get sorts k ≡ Some s

  -- an entry with constants is a value
  entry_value : (k : ℕ) (s : SortId) (z : Tree) → IsEntry old k s z → Has k s → IsValue new.sig s (closed c u z)
  entry_value k s z (inl h) has = subst (λ v. IsValue new.sig s v) (sym (value_stays old.sig u z h.1))
      (value_kept old new sorts extends.more fine.signature s z h).0
  entry_value k s z (inr h) has =
      let at : slice_get sorts k ≡ Some s = has h.1 in
      let within = slice_get_within sorts k s at in
      subst (λ v. IsValue new.sig s (closed c u v)) (sym h.0) (
        (_, info_constant old new sorts extends.more fine.signature k s at, refl, tt),
        (omega (arith, extends.more.constructors, within), tt),
      )

  entry_below : (k : ℕ) (s : SortId) (z : Tree) → IsEntry old k s z → Has k s → VariablesAreBelow u z
  entry_below k s z (inl h) has = λ j o. absurd (built_closed old.sig z h.1 j o)
  entry_below k s z (inr h) has =
      let within = slice_get_within sorts k s (has h.1) in
      subst (VariablesAreBelow u) (sym h.0) (λ j o. omega (arith, o, within))

  entries_values : (k : ℕ) (ctx : List SortId) (zs : List Tree) →
      ((j : ℕ) (s : SortId) → slice_get ctx j ≡ Some s → Has (k + j) s) → AreEntries old k ctx zs →
      length zs ≡ length ctx → AreValuesOf new ctx (map (closed c u) zs)
  entries_values k [] [] has h all = tt
  entries_values k (s ∷ ctx) [] has h all = absurd (omega (arith, all))
  entries_values k [] (z ∷ zs) has h all = absurd h
  entries_values k (s ∷ ctx) (z ∷ zs) has h all = (
    entry_value k s z h.0 (subst (λ i. Has i s) (omega arith) (has 0 s refl)),
    entries_values (suc k) ctx zs (λ j t at. subst (λ i. Has i t) (omega arith) (has (suc j) t at)) h.1
        (omega (arith, all)),
  )

  -- values of all sorts are values of them with constants too
  pub values_still : (ctx : List SortId) (vs : List Tree) → AreValuesOf old ctx vs → AreValuesOf new ctx vs
  values_still [] [] a = tt
  values_still [] (v ∷ vs) a = absurd a
  values_still (s ∷ ctx) [] a = absurd a
  values_still (s ∷ ctx) (v ∷ vs) a = (
    (value_kept old new sorts extends.more fine.signature s v a.0).0,
    values_still ctx vs a.1,
  )

  module _ (goal : Goal) (constants : HaveConstants (sorts_of goal.vars) sorts) (zs : List Tree)
      (fit : AreEntries old 0 (sorts_of goal.vars) zs) (all : length zs ≡ length (sorts_of goal.vars)) where
    abbrev ctx : List SortId
    ctx = sorts_of goal.vars

    -- what stands for the variables
    abbrev pub setting : Setting
    setting = record { spec = old; sorts = sorts; values = zs }

    pub are_values : AreValuesOf new ctx (with_constants setting)
    are_values = entries_values 0 ctx zs (λ j s at other. subst (λ i. slice_get sorts i ≡ Some s) (omega arith)
        (constants j s at other)) fit all

    entries_below : (k : ℕ) → k < length zs → VariablesAreBelow u (instance zs (var k))
    entries_below k lt =
        let r = entry_at old 0 ctx zs fit k (var k) lt in
        entry_below (0 + k) r.0 (instance zs (var k)) r.2
        (λ other. subst (λ i. slice_get sorts i ≡ Some r.0) (omega arith) (constants k r.0 r.1 other))

    side_closed : (t : Tree) (s : SortId) → Sorted old.sig ctx t s → IsClosedSide setting t
    side_closed t s h =
        let fits : VariablesAreBelow (length zs) t = λ j o. omega (arith, all, occurs_within old.sig ctx t s h j o) in
        record {
          is = closed_by_entries c u zs t fits;
          below = below_instance u zs t
              (λ k o. entries_below k (fits k o));
        }

    -- the equations can be compared if the others have constants
    pub can_open : (p : Program) (es : List Equation) → p.spec ≡ new → EquationsAreSorted old.sig ctx es →
        (cells : List Cell) (pairs : List SidePair) (ids : List ValueId) →
        CanCompareAll p cells pairs ids (map (shifted_equation c u) es) (with_constants setting) →
        CanOpenAll setting p cells pairs ids es
    can_open p es is sorted cells pairs ids h = record {
      count = omega (arith, h.code.count, length-map es (shifted_equation c u));
      each = λ k e pair a b.
          let there : slice_get (map (shifted_equation c u) es) k ≡ Some
          (shifted_equation c u e) = slice_get-map (shifted_equation c u) es k
          ∙ ap (λ o. option_map (shifted_equation c u) o) a in
          let srt = sorted k e a in
          record {
            compared = record {
              code = h.code.each k (shifted_equation c u e) pair there b;
              stand = h.stand;
              built = h.built;
              sorted = all_at (HasOneSort p.spec (with_constants setting))
                  (map (shifted_equation c u) es) h.sorted k (shifted_equation c u e) there;
            };
            left = side_closed e.left srt.0 srt.1;
            right = side_closed e.right srt.0 srt.2;
          };
    }
