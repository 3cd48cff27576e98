-- Laws of the definitions, for an order on terms.
use Rattle.std.specs.Prelude.{◌≡◌, ◌≢◌, ◌⊎◌, ◌+◌, ◌<◌, ℕ, [], Some, slice_get}
use Rattle.term_core.specs.Tree.{Tree, Trees}
use Rattle.term_core.specs.declared.ids.SortId.{SortId}
use Rattle.spec_core.specs.declared.records.SymInfo.{SymInfo}
use Rattle.spec_core.specs.declared.records.Rule.{Rule}
use Rattle.spec_core.specs.declared.records.Spec.{Spec}
use Rattle.spec_core.specs.Sig.{info_of, IsConstructor}
use Rattle.spec_core.specs.Sorts.{Sorted, SortedAll, AreBuilt}
use Rattle.spec_core.specs.Gives.{Gives}
use Rattle.spec_core.specs.WellSorted.{IsWellSorted}
use Rattle.clause_core.specs.Admitted.{IsAdmitted}
use Rattle.spec_admit.specs.FirstFault.{Tells}
use Rattle.spec_admit.specs.LeftSides.{HasOneLeftSide}
use Rattle.spec_admit.specs.declared.faults.AdmitFault.{AdmitFault}
use Rattle.spec_admit.specs.declared.faults.AdmitFault.TheVariants.{Guards, OutOfMemory}

module _ (above : Tree → Tree → Type 0) where
  -- an admitted specification has no fault but want of memory
  abbrev pub NoFaultWhereAdmitted : Type 0
  NoFaultWhereAdmitted =
      (spec : Spec) (fault : AdmitFault) →
      IsAdmitted above spec → Tells above spec fault → fault ≡ OutOfMemory

  -- a well sorted specification has one fault at most, but for want of memory
  abbrev pub OneFault : Type 0
  OneFault =
      (spec : Spec) (fault other : AdmitFault) →
      IsWellSorted spec → Tells above spec fault → Tells above spec other →
      (fault ≡ other) ⊎ ((fault ≡ OutOfMemory) ⊎ (other ≡ OutOfMemory))

  -- the rule that a fault of guards names is the first with its left side
  abbrev pub FirstOfItsGroup : Type 0
  FirstOfItsGroup =
      (spec : Spec) (number : ℕ) →
      Tells above spec (Guards number) →
      (place : ℕ) × (rule : Rule)
      × (number ≡ place + 1) × (slice_get spec.rules place ≡ Some rule)
      × ((k : ℕ) (other : Rule) →
      k < place → slice_get spec.rules k ≡ Some other → other.left ≢ rule.left)

  -- in an admitted specification each function has, for each list of values of its argument sorts,
  -- exactly one left side that matches
  abbrev pub OneLeftSide : Type 0
  OneLeftSide =
      (spec : Spec) (f : ℕ) (i : SymInfo) (vs : Trees) →
      IsAdmitted above spec → info_of spec.sig f ≡ Some i → ¬ (IsConstructor spec.sig f) →
      SortedAll spec.sig [] vs i.args → AreBuilt spec.sig vs →
      HasOneLeftSide spec f vs

  -- and each sorted term has one value and one cost at most
  abbrev pub OneValueWhereAdmitted : Type 0
  OneValueWhereAdmitted =
      (spec : Spec) (t v w : Tree) (n m : ℕ) (s : SortId) →
      IsWellSorted spec → IsAdmitted above spec → Sorted spec.sig [] t s →
      Gives spec t v n → Gives spec t w m →
      (v ≡ w) × (n ≡ m)
