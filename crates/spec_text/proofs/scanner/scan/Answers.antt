use Rattle.spec_text.proofs.TokenLemmas.{is_found, is_stopped, is_only, is_exact}
use Rattle.spec_text.proofs.scanner.scan.Goals as goal

pub returns-clause-found : goal.returns-clause-found
returns-clause-found c = is_found (λ x. x.items) c.args.bytes.now c.scan_all.result c.scan_all.ensures

pub returns-clause-fault : goal.returns-clause-fault
returns-clause-fault c = is_stopped (λ x. x.items) c.args.bytes.now c.scan_all.result c.scan_all.ensures

pub returns-clause-only : goal.returns-clause-only
returns-clause-only c = is_only (λ x. x.items) c.args.bytes.now c.scan_all.result c.scan_all.ensures

pub returns-clause-exact : goal.returns-clause-exact
returns-clause-exact c = is_exact (λ x. x.items) c.args.bytes.now c.scan_all.result c.scan_all.ensures
