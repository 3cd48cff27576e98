-- What `upgrade` writes of an accepted specification, and what that text is.
use Rattle.std.specs.Prelude.{◌≡◌, ◌≤◌, ◌*◌, ℕ, List, length}
use Rattle.spec_core.specs.declared.records.Spec.{Spec}
use Rattle.spec_grammar.specs.declared.raw.RawSpec.{RawSpec}
use Rattle.spec_printing.specs.Printed.{printed}
use Rattle.spec_printing.specs.Upgraded.{upgraded}
use Rattle.accepted_spec.specs.Meanings.{IsAcceptedAs}
use Rattle.file_replies.specs.declared.statuses.Status.{Status}
use Rattle.file_replies.specs.declared.statuses.Status.TheVariants.{Done}

-- the printed form in format 2, with the status Done
abbrev pub IsUpgrade : RawSpec → List ℕ → Status → Type 0
IsUpgrade raw text status = (text ≡ printed (upgraded raw)) × (status ≡ Done)

-- The text is accepted as the same specification, has at most three times the bytes of the first
-- one, and is what `upgrade` writes of itself.
pub record KeepsMeaning (bytes : List ℕ) (spec : Spec) (text : List ℕ) : Type 0 where
  pub raw : RawSpec
  pub accepted : IsAcceptedAs text raw spec
  pub short : length text ≤ 3 * length bytes
  pub unchanged : printed (upgraded raw) ≡ text

-- each text that `upgrade` writes of an accepted one is such a text
abbrev pub UpgradesKeepMeaning : Type 0
UpgradesKeepMeaning =
    (bytes : List ℕ) (raw : RawSpec) (spec : Spec) → IsAcceptedAs bytes raw spec
    → KeepsMeaning bytes spec (printed (upgraded raw))
