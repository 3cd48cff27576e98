use Rattle.std.proofs.Common.{sym, ◌∙◌, arith}
use Rattle.proof_script.specs.Names.{reserved_words}
use Rattle.proof_script.proofs.Runs.{true_false}
use Rattle.proof_script.proofs.Spelled.{found_reserved, report_name}
use Rattle.proof_script.proofs.names.is_report_name.Goals as goal
use Rattle.proof_script.proofs.names.is_report_name.Goals.{then-bytes-gt-MAX_NAME_BYTES-via-then-bytes-gt-MAX_NAME_BYTES}
use Rattle.proof_script.proofs.names.is_report_name.Goals.{then-bytes-gt-MAX_NAME_BYTES-via-else-bytes-gt-MAX_NAME_BYTES+then-is_reserved}

pub returns : goal.returns
returns c = (
  λ t. report_name c.args.bytes.now (omega arith) (sym c.is_reserved.ensures ∙ c.if-is_reserved.false)
      (c.is_name.ensures.0 t),
  λ h. c.is_name.ensures.1 (h.text, h.spelled),
)

pub returns-then-bytes-gt-MAX_NAME_BYTES : goal.returns-then-bytes-gt-MAX_NAME_BYTES
returns-then-bytes-gt-MAX_NAME_BYTES c = (
  λ t. absurd (true_false (sym t)),
  λ h. absurd (elim c.then-bytes-gt-MAX_NAME_BYTES.branch [
    | then-bytes-gt-MAX_NAME_BYTES-via-then-bytes-gt-MAX_NAME_BYTES w ↦ omega (arith, h.short)
    | then-bytes-gt-MAX_NAME_BYTES-via-else-bytes-gt-MAX_NAME_BYTES+then-is_reserved w ↦ h.free
        (found_reserved reserved_words c.args.bytes.now (sym w.is_reserved.ensures ∙ w.if-is_reserved.true))
  ]),
)
