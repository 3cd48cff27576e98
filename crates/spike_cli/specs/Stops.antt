-- What was appended when a command that writes a report ended or stopped, and when a task did.
use Rattle.std.specs.Prelude.{◌≡◌, ℕ, List, Option, Result, Ok, Err}
use Rattle.io_core.specs.Count.{Rose}
use Rattle.io_core.specs.Piece.{Appended}
use Rattle.spec_core.specs.declared.records.Goal.{Goal}
use Rattle.spec_core.specs.declared.records.Spec.{Spec}
use Rattle.spec_core.specs.Sig.{Sig}
use Rattle.clause_core.specs.declared.reports.Claim.{Claim}
use Rattle.clause_core.specs.declared.reports.Outcome.{Outcome}
use Rattle.clause_core.specs.declared.reports.Outcome.TheVariants.{Proved, Refuted, Open}
use Rattle.proof_script.specs.Words.{lines_text}
use Rattle.proof_script.specs.Claims.{claim_text, header_lines}
use Rattle.command_line.specs.Tasks.{Task}
use Rattle.command_line.specs.declared.bounds.ProofBounds.{ProofBounds}
use Rattle.file_replies.specs.Parts.{AppendsPartOf}
use Rattle.file_replies.specs.Stops.{Stopped}
use Rattle.file_replies.specs.declared.statuses.Status.{Status}
use Rattle.file_replies.specs.declared.statuses.Status.TheVariants as status
use Rattle.file_replies.specs.declared.stops.Stop.{Stop}
use Rattle.spike_cli.specs.Claims.{IsClaimOn}
use Rattle.spike_cli.specs.Runs.{Ended, RefusedBytes, MayWriteFor}

-- the status after one claim more
abbrev pub joined : Status → Outcome → Status
joined status.Refuted outcome = status.Refuted
joined s (Proved block) = s
joined s (Refuted index values) = status.Refuted
joined s (Open budget) = status.Open

-- the text of a claim on the goal, with these lemmas
abbrev pub IsTextOnGoal : ProofBounds → Spec → List ℕ → Goal → List ℕ → Type 0
IsTextOnGoal bounds spec lemmas goal text =
    (claim : Claim) × IsClaimOn bounds spec lemmas goal claim × (text ≡ claim_text spec.sig claim)

module _ (old new : Option (List ℕ)) (writes writes' : ℕ) where
  -- the first two lines were appended
  abbrev pub WritesHeader : Sig → ℕ → Result Unit Stop → Type 0
  WritesHeader sig steps (Ok u) = Appended old new (lines_text sig (header_lines steps))
  WritesHeader sig steps (Err stop) =
      Stopped old new writes writes' (λ text. text ≡ lines_text sig (header_lines steps)) stop

  -- the claim on the goal, with these lemmas, was appended
  abbrev pub WritesClaim : ProofBounds → Spec → List ℕ → Goal → Result Claim Stop → Type 0
  WritesClaim bounds spec lemmas goal (Ok claim) =
      IsClaimOn bounds spec lemmas goal claim × Appended old new (claim_text spec.sig claim)
  WritesClaim bounds spec lemmas goal (Err stop) =
      Stopped old new writes writes' (IsTextOnGoal bounds spec lemmas goal) stop

-- what a task did on the bytes of its file, by its status
module _
    (held : List ℕ → Option (List ℕ)) (task : Task) (bytes : List ℕ)
    (reads reads' : ℕ) (old new : Option (List ℕ)) (writes writes' : ℕ) where
  abbrev pub MeansFor : Status → Type 0
  MeansFor status.Done = Ended held task bytes old new status.Done
  MeansFor status.Refuted = Ended held task bytes old new status.Refuted
  MeansFor status.Open = Ended held task bytes old new status.Open
  MeansFor status.Refused = RefusedBytes held task bytes old new
  MeansFor status.No = Ended held task bytes old new status.No
  MeansFor status.ReadFault = Rose reads reads' × (new ≡ old)
  MeansFor status.WriteFault =
      Rose writes writes' × AppendsPartOf (MayWriteFor held task bytes) old new
  MeansFor status.Usage = ⊥
  MeansFor status.OutOfMemory = AppendsPartOf (MayWriteFor held task bytes) old new
