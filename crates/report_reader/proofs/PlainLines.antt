-- The lines that may come next have a head, and are read in one way.
use Rattle.std.proofs.Common.{◌≡◌, ℕ, List, [], refl, sym, ◌∙◌, subst, inl, inr, codes, arith}
use Rattle.std.specs.List.{AllByRecursion}
use Rattle.term_core.specs.Tree.{Tree}
use Rattle.spec_core.specs.Sig.{Sig}
use Rattle.clause_core.specs.declared.reports.Outcome.TheVariants as outcomes
use Rattle.clause_core.specs.declared.steps.Step.{Step}
use Rattle.clause_core.specs.declared.steps.Step.TheVariants.{Trivial}
use Rattle.proof_script.specs.Claims.{value_line}
use Rattle.proof_script.specs.Delimiters.{AllRun}
use Rattle.proof_script.specs.Reports.{ValueStands}
use Rattle.proof_script.specs.Standing.{StepStands}
use Rattle.proof_script.specs.Steps.{step_line}
use Rattle.proof_script.specs.Words.{Line}
use Rattle.proof_script.proofs.ClaimReads.{short_by, first_sound}
use Rattle.proof_script.proofs.Lists.{cons_nil}
use Rattle.proof_script.proofs.PlainNames.{name_plain}
use Rattle.proof_script.proofs.StepReads.{runs_all, step_run}
use Rattle.proof_script.proofs.TermReads.{NamesDiffer}
use Rattle.proof_script.proofs.WordReads.{Sound}
use Rattle.report_reader.specs.FirstLines.{FirstStands, line_of}
use Rattle.report_reader.specs.Stages.{Stage, start, titled, between, proving, refuting, MayFollow}
use Rattle.report_reader.specs.declared.first_lines.FirstLine.{FirstLine}
use Rattle.report_reader.specs.declared.first_lines.FirstLine.TheVariants.{Proved, Refuted, Open}

-- no byte of the head ends a word, and the words may appear
pub record IsPlainLine (sig : Sig) (line : Line) : Type 0 where
  pub head : AllRun line.head
  pub some : line.head ≡ [] → ⊥
  pub words : AllByRecursion (Sound sig) line.words

step_head : (step : Step) → (step_line step).head ≡ [] → ⊥
step_head (Trivial k) e = cons_nil e
step_head _ e = cons_nil e

step_words : (sig : Sig) (step : Step) → StepStands sig step → AllByRecursion (Sound sig) (step_line step).words
step_words sig (Trivial k) h = h
step_words sig _ h = h

module _ (sig : Sig) (d : NamesDiffer sig) where
  step_plain : (step : Step) → StepStands sig step → IsPlainLine sig (step_line step)
  step_plain step h = record { head = step_run step; some = step_head step; words = step_words sig step h }

  value_plain : (v : List ℕ × Tree) → ValueStands sig v → IsPlainLine sig (value_line v)
  value_plain v h =
      let name = name_plain v.0 h.name in
      record {
        head = name.run;
        some = λ e. cons_nil (sym name.is ∙ e);
        words = (
          runs_all (codes "=") refl,
          (h.stands, tt),
        );
      }

  first_plain : (first : FirstLine) → FirstStands first → IsPlainLine sig (line_of first)
  first_plain (Proved goal n) h = record {
    head = runs_all (codes "proved") refl;
    some = λ e. cons_nil e;
    words = (h.0, (runs_all (codes "nodes") refl, (short_by 10000 n h.1 (omega arith), tt)));
  }
  first_plain (Refuted goal index n) h = record {
    head = runs_all (codes "refuted") refl;
    some = λ e. cons_nil
        e;
    words = (
      h.0,
      (
        runs_all (codes "index") refl,
        (h.1, (runs_all (codes "with") refl, (short_by 16 n h.2 (omega arith), tt))),
      ),
    );
  }
  first_plain (Open goal b) h = record {
    head = runs_all (codes "open") refl;
    some = λ e. cons_nil e;
    words = first_sound sig d goal (outcomes.Open b) (record { goal = h.0; outcome = h.1 });
  }

  pub plain_line : (stage : Stage) (line : Line) → MayFollow sig stage line → IsPlainLine sig line
  plain_line start line e = subst (IsPlainLine sig) (sym e)
      (record {
        head = runs_all (codes "spike-report") refl;
        some = λ q. cons_nil q;
        words = (runs_all (codes "1") refl, tt);
      })
  plain_line titled line (n, b, e) = subst (IsPlainLine sig) (sym e)
      (record {
        head = runs_all (codes "steps") refl;
        some = λ q. cons_nil q;
        words = (short_by 100000 n b.1 (omega arith), tt);
      })
  plain_line (between report) line (inl e) = subst (IsPlainLine sig) (sym e)
      (record { head = runs_all (codes "done") refl; some = λ q. cons_nil q; words = tt })
  plain_line (between report) line (inr (first, h, e)) = subst (IsPlainLine sig) (sym e) (first_plain first h)
  plain_line (proving report goal n ts) line (step, h, e) = subst (IsPlainLine sig) (sym e) (step_plain step h)
  plain_line (refuting report goal index n vs) line (value, h, e) = subst (IsPlainLine sig) (sym e)
      (value_plain value h)
