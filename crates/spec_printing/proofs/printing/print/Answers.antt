use Rattle.std.proofs.Common.{◌≡◌, ℕ, List, Result, Ok, Err, sym, subst}
use Rattle.std.specs.Prelude.{IfOk}
use Rattle.spec_grammar.specs.declared.raw.RawSpec.{RawSpec}
use Rattle.spec_printing.specs.Printed.{printed}
use Rattle.spec_printing.specs.ReadsBack.{ReadsBackAs}
use Rattle.spec_printing.proofs.Again.{reads_back}
use Rattle.spec_printing.proofs.printing.print.Goals as goal

printed_reads_back : {X E : Type 0} (view : X → List ℕ) (raw : RawSpec) (result : Result X E) →
    IfOk result (λ r. view r ≡ printed raw) → IfOk result (λ r. ReadsBackAs raw (view r))
printed_reads_back view raw (Ok r) e = subst (ReadsBackAs raw) (sym e) (λ bytes d. reads_back bytes raw d)
printed_reads_back view raw (Err fault) e = tt

pub returns-clause-reads_back : goal.returns-clause-reads_back
returns-clause-reads_back c = printed_reads_back (λ r. r.items) c.args.raw.now c.printed_form.result
    c.printed_form.ensures
