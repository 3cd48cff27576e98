-- The text of a report that was begun, with a claim more and with its last line.
use Rattle.std.proofs.Common.{◌≡◌, ℕ, List, [], ◌∷◌, ◌++◌, ap, sym, ◌∙◌, append_assoc}
use Rattle.std.specs.Prelude.{codes}
use Rattle.std.proofs.lemmas.List.{append-nil}
use Rattle.std.proofs.lemmas.Grind.{flat_map-append}
use Rattle.spec_core.specs.Sig.{Sig}
use Rattle.clause_core.specs.declared.reports.Claim.{Claim}
use Rattle.proof_script.specs.Words.{lines_text}
use Rattle.proof_script.specs.Claims.{claim_text, claims_text, header_lines, report_text}
use Rattle.search_claims.specs.Claims.{report_of}
use Rattle.spike_cli.specs.Reports.{begun_text}

-- the text of a report that was begun, with one claim more, and with its last line
pub begun_text-more : (steps : ℕ) (sig : Sig) (claims : List Claim) (claim : Claim) →
    begun_text steps sig (claims ++ claim ∷ []) ≡ begun_text steps sig claims ++ claim_text sig claim
begun_text-more steps sig claims claim =
    let header = lines_text sig (header_lines steps) in
    ap (λ x. header ++ x) (flat_map-append (claim_text sig) claims (claim ∷ [])
    ∙ ap (λ x. claims_text sig claims ++ x) (append-nil (claim_text sig claim)))
    ∙ sym (append_assoc header (claims_text sig claims) (claim_text sig claim))

pub begun_text-whole : (steps : ℕ) (sig : Sig) (claims : List Claim) → begun_text steps sig claims
    ++ codes "done\n" ≡ report_text sig (report_of steps claims)
begun_text-whole steps sig claims = append_assoc (lines_text sig (header_lines steps)) (claims_text sig claims)
    (codes "done\n")
