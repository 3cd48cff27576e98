-- A plan of the calls that are to fail.
use Rattle.std.specs.Prelude.{ℕ, List, Contains}
use Rattle.io_core.specs.Count.{next_count}

-- the calls that are to fail, counted from 1, and how many calls and faults there were so far
pub record CallPlan : Type 0 where
  pub fails : List ℕ
  pub calls : ℕ
  pub faults : ℕ

-- the plan before the first call
abbrev pub planned : List ℕ → CallPlan
planned fails = record { fails = fails; calls = 0; faults = 0 }

-- the next call is one that is to fail
abbrev pub FailsNext : CallPlan → Type 0
FailsNext plan = Contains plan.fails (next_count plan.calls)

-- the plan after one call more
abbrev pub called : CallPlan → CallPlan
called plan = record plan { calls = next_count plan.calls }

-- the plan after one fault more
abbrev pub faulted : CallPlan → CallPlan
faulted plan = record plan { faults = next_count plan.faults }
