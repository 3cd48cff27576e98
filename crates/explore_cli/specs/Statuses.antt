-- The status that a report on a specification gives.
use Rattle.std.specs.Prelude.{Any}
use Rattle.std.specs.List.{AllByRecursion}
use Rattle.spec_core.specs.declared.records.Goal.{Goal}
use Rattle.spec_core.specs.declared.records.Spec.{Spec}
use Rattle.clause_core.specs.declared.reports.Claim.{Claim}
use Rattle.clause_core.specs.declared.reports.Report.{Report}
use Rattle.acceptance.specs.Claims.{IsProvedBy}
use Rattle.file_replies.specs.declared.statuses.Status.{Status}
use Rattle.file_replies.specs.declared.statuses.Status.TheVariants.{Done, Refuted, Open}
use Rattle.spike_cli.specs.Claims.{IsRefuted}

-- each goal is proved
abbrev pub ProvesAll : Spec → Report → Type 0
ProvesAll spec report =
    AllByRecursion (λ (goal : Goal). IsProvedBy goal.name report.claims) spec.goals

abbrev pub Refutes : Claim → Type 0
Refutes claim = IsRefuted claim.outcome

-- a goal is refuted
abbrev pub RefutesOne : Report → Type 0
RefutesOne report = Any Refutes report.claims

-- Refuted if a goal is refuted, else Done if each is proved, else Open
abbrev pub IsStatusOf : Spec → Report → Status → Type 0
IsStatusOf spec report Done = ProvesAll spec report × (RefutesOne report → ⊥)
IsStatusOf spec report Refuted = RefutesOne report
IsStatusOf spec report Open = (ProvesAll spec report → ⊥) × (RefutesOne report → ⊥)
IsStatusOf spec report _ = ⊥
