-- Which fault of a specification is the first: of linearity, order, overlap, guards and coverage, in
-- this order.
use Rattle.std.specs.Prelude.{◌≡◌, ℕ, ◌+◌, List, Some, option_map, slice_get}
use Rattle.term_core.specs.Tree.{Tree}
use Rattle.spec_core.specs.declared.records.SymInfo.{SymInfo}
use Rattle.spec_core.specs.declared.records.VarInfo.{VarInfo}
use Rattle.spec_core.specs.declared.records.Spec.{Spec}
use Rattle.spec_core.specs.Sig.{info_of}
use Rattle.spec_core.specs.Linear.{LeftSidesAreLinear}
use Rattle.spec_core.specs.Overlap.{NoOverlap}
use Rattle.spec_core.specs.Groups.{GroupsAreWhole}
use Rattle.spec_core.specs.Findings.{First}
use Rattle.overlap_check.specs.declared.answers.Overlap.TheVariants.{Both}
use Rattle.overlap_check.specs.Repetition.{IsFirstRepeated}
use Rattle.overlap_check.specs.Answers.{IsOverlap}
use Rattle.coverage_check.specs.LeftSides.{rows_of}
use Rattle.coverage_check.specs.Named.{IsNamed}
use Rattle.clause_core.specs.Admitted.{RulesAreOrdered}
use Rattle.spec_admit.specs.Tests.{all_order_tests, all_guards_tests, all_coverage_tests}
use Rattle.spec_admit.specs.declared.faults.AdmitFault.{AdmitFault}
use Rattle.spec_admit.specs.declared.faults.AdmitFault.TheVariants.{Linear, Order, Overlap, Guards, Coverage}
use Rattle.spec_admit.specs.declared.faults.AdmitFault.TheVariants.{OutOfMemory}

module _ (spec : Spec) where
  -- the first rule with a variable twice on its left side; the least such variable has this name
  pub record IsRepeated (number : ℕ) (name : List ℕ) : Type 0 where
    pub place : ℕ
    pub counts : number ≡ place + 1
    pub var : ℕ
    pub first : IsFirstRepeated spec place var
    pub named : option_map (λ (i : VarInfo). i.name) (slice_get first.rule.vars var) ≡ Some name

  -- the first function that isn't covered, with the values that are named for its rows
  pub record IsUncovered (f : ℕ) (values : List Tree) : Type 0 where
    pub first : First (all_coverage_tests spec) f
    pub info : SymInfo
    pub declared : info_of spec.sig f ≡ Some info
    pub named : IsNamed spec.sig (rows_of f spec.rules) info.args values

module _ (above : Tree → Tree → Type 0) (spec : Spec) where
  -- the fault is the first of its kind, and the parts before it hold; want of memory may always come
  abbrev pub Tells : AdmitFault → Type 0
  Tells (Linear rule name) = IsRepeated spec rule name
  Tells (Order rule part) =
      LeftSidesAreLinear spec × First (all_order_tests above spec) (rule, part)
  Tells (Overlap first second values) =
      LeftSidesAreLinear spec × RulesAreOrdered above spec
      × IsOverlap spec (Both first second values)
  Tells (Guards rule) =
      LeftSidesAreLinear spec × RulesAreOrdered above spec × NoOverlap spec
      × First (all_guards_tests spec) rule
  Tells (Coverage f values) =
      LeftSidesAreLinear spec × RulesAreOrdered above spec × NoOverlap spec × GroupsAreWhole spec
      × IsUncovered spec f.0 values
  Tells OutOfMemory = Unit {0}
