use Rattle.std.proofs.Common.{◌≡◌, ◌+◌, ◌-◌, ◌∙◌, min, arith, refl, sym, subst, length, take}
use Rattle.term_core.proofs.Members.{in_contained}
use Rattle.spec_core.specs.declared.records.Verdict.TheVariants.{Holds, Fails, Spent}
use Rattle.refuter.specs.declared.parts.Look.TheVariants.{Whole, Cut, Found}
use Rattle.refuter.specs.declared.parts.Tally.{Tally}
use Rattle.ground_eval.specs.Opened.{AllHaveVerdict}
use Rattle.refuter.specs.Blocks.{block}
use Rattle.refuter.specs.Looks.{LooksOver, Passes}
use Rattle.refuter.proofs.Blocks.{block_length}
use Rattle.refuter.proofs.Passing.{block_has, looks_found, looks_whole, looks_short, taken_spent, taken_holds}
use Rattle.refuter.proofs.Steps.{at_places}
use Rattle.refuter.proofs.walking.Walk.pass.Goals as goal
use Rattle.refuter.proofs.walking.Walk.pass.Goals.{in-Spent, in-Holds}

pub first-requires-clause-begun : goal.first-requires-clause-begun
first-requires-clause-begun c = (c.requires.begun.0, c.requires.begun.1)

pub first-requires-clause-some : goal.first-requires-clause-some
first-requires-clause-some c = omega (arith, c.requires.size, c.requires.some)

pub returns-in-Fails-clause-looks : goal.returns-in-Fails-clause-looks
returns-in-Fails-clause-looks c =
    let spec = c.args.self.now.prepared.now.spec in
    let aim = c.args.self.now.prepared.now.goal in
    let b = c.requires.begun.1 in
    let firsts = c.requires.begun.0 in
    let decided = subst (λ v. AllHaveVerdict spec aim firsts c.args.self.now.budget v) c.in-Fails.is
    c.requires.begun.2 in
    let has = block_has spec aim c.args.self.now.budget c.args.self.now.depth b.sorts c.args.sorts.now firsts
    Fails b.parted (in_contained _ _ b.listed) decided in
    let found = looks_found spec aim c.args.self.now.budget c.args.self.now.tries
    (block spec.sig c.args.self.now.depth firsts c.args.sorts.now) c.args.tally.now
    c.in_ok-values-in-Fails.values has (c.in_ok-values-in-Fails.ensures.first firsts b.stand) c.requires.more in
    at_places c.args.bank.now c.args.row.now.items
    (λ vs. LooksOver spec aim c.args.self.now.budget c.args.self.now.tries
    (block spec.sig c.args.self.now.depth vs c.args.sorts.now) c.args.tally.now c.args.tally.now
    (Found c.in_ok-values-in-Fails.values)) firsts b.stand found

pub overflow_add-tally : goal.overflow_add-tally
overflow_add-tally c = omega (arith, c.min-taken.ensures, c.requires.more)

pub overflow_add-tally-2 : goal.overflow_add-tally-2
overflow_add-tally-2 c = elim c.match-verdict.branch [
  | in-Spent w ↦ omega (arith, c.min-taken.ensures, c.requires.more, c.requires.tally.0, w.skipped-is)
  | in-Holds w ↦ omega (arith, c.min-taken.ensures, c.requires.more, c.requires.tally.0, w.skipped-is)
]

pub returns-then-taken-size-clause-looks : goal.returns-then-taken-size-clause-looks
returns-then-taken-size-clause-looks c =
    let spec = c.args.self.now.prepared.now.spec in
    let aim = c.args.self.now.prepared.now.goal in
    let budget = c.args.self.now.budget in
    let tries = c.args.self.now.tries in
    let b = c.requires.begun.1 in
    let firsts = c.requires.begun.0 in
    let rows = block spec.sig c.args.self.now.depth firsts c.args.sorts.now in
    let long : length rows ≡ c.args.size = block_length spec.sig c.args.self.now.depth firsts c.args.sorts.now
    ∙ sym c.requires.size in
    let old = c.args.tally.now in
    let new : Tally = record {
      tried = c.args.tally.now.tried + c.min-taken.result;
      skipped = c.args.tally.now.skipped + c.match-verdict.skipped;
    } in
    let size : c.min-taken.result ≡ min (length rows) (tries - old.tried) = omega (arith, long, c.min-taken.ensures) in
    at_places c.args.bank.now c.args.row.now.items
    (λ vs. LooksOver spec aim budget tries (block spec.sig c.args.self.now.depth vs c.args.sorts.now) old
    new Cut) firsts b.stand (elim c.match-verdict.branch [
      | in-Spent w ↦
          let decided = subst (λ v. AllHaveVerdict spec aim firsts budget v) w.in-Spent.is c.requires.begun.2 in
          let has = block_has spec aim budget c.args.self.now.depth b.sorts c.args.sorts.now firsts Spent
          b.parted (in_contained _ _ b.listed) decided in
          let passes = subst (λ n. Passes spec aim budget (take c.min-taken.result rows) n) (sym w.skipped-is)
          (taken_spent spec aim budget c.requires.walk.fine c.requires.walk.listed.0
          c.requires.walk.listed.1 rows c.min-taken.result has (omega (arith, size))) in
          looks_short spec aim budget c.requires.walk.fine c.requires.walk.listed.0 c.requires.walk.listed.1
          tries rows old new c.min-taken.result c.match-verdict.skipped size
          (omega (arith, c.requires.more)) refl refl (omega (arith, w.skipped-is)) passes
          (omega (arith, long, c.if-taken-size.true))
      | in-Holds w ↦
          let decided = subst (λ v. AllHaveVerdict spec aim firsts budget v) w.in-Holds.is c.requires.begun.2 in
          let has = block_has spec aim budget c.args.self.now.depth b.sorts c.args.sorts.now firsts Holds
          b.parted (in_contained _ _ b.listed) decided in
          let passes = subst (λ n. Passes spec aim budget (take c.min-taken.result rows) n) (sym w.skipped-is)
          (taken_holds spec aim budget c.requires.walk.fine c.requires.walk.listed.0
          c.requires.walk.listed.1 rows c.min-taken.result has) in
          looks_short spec aim budget c.requires.walk.fine c.requires.walk.listed.0 c.requires.walk.listed.1
          tries rows old new c.min-taken.result c.match-verdict.skipped size
          (omega (arith, c.requires.more)) refl refl (omega (arith, w.skipped-is)) passes
          (omega (arith, long, c.if-taken-size.true))
    ])

pub returns-else-taken-size-clause-looks : goal.returns-else-taken-size-clause-looks
returns-else-taken-size-clause-looks c =
    let spec = c.args.self.now.prepared.now.spec in
    let aim = c.args.self.now.prepared.now.goal in
    let budget = c.args.self.now.budget in
    let tries = c.args.self.now.tries in
    let b = c.requires.begun.1 in
    let firsts = c.requires.begun.0 in
    let rows = block spec.sig c.args.self.now.depth firsts c.args.sorts.now in
    let long : length rows ≡ c.args.size = block_length spec.sig c.args.self.now.depth firsts c.args.sorts.now
    ∙ sym c.requires.size in
    let old = c.args.tally.now in
    let new : Tally = record {
      tried = c.args.tally.now.tried + c.min-taken.result;
      skipped = c.args.tally.now.skipped + c.match-verdict.skipped;
    } in
    let size : c.min-taken.result ≡ min (length rows) (tries - old.tried) = omega (arith, long, c.min-taken.ensures) in
    at_places c.args.bank.now c.args.row.now.items
    (λ vs. LooksOver spec aim budget tries (block spec.sig c.args.self.now.depth vs c.args.sorts.now) old
    new Whole) firsts b.stand (elim c.match-verdict.branch [
      | in-Spent w ↦
          let decided = subst (λ v. AllHaveVerdict spec aim firsts budget v) w.in-Spent.is c.requires.begun.2 in
          let has = block_has spec aim budget c.args.self.now.depth b.sorts c.args.sorts.now firsts Spent
          b.parted (in_contained _ _ b.listed) decided in
          let passes = subst (λ n. Passes spec aim budget (take c.min-taken.result rows) n) (sym w.skipped-is)
          (taken_spent spec aim budget c.requires.walk.fine c.requires.walk.listed.0
          c.requires.walk.listed.1 rows c.min-taken.result has (omega (arith, size))) in
          looks_whole spec aim budget c.requires.walk.fine c.requires.walk.listed.0 c.requires.walk.listed.1
          tries rows old new c.min-taken.result c.match-verdict.skipped size
          (omega (arith, c.requires.more)) refl refl (omega (arith, w.skipped-is)) passes
          (omega (arith, long, c.if-taken-size.false))
      | in-Holds w ↦
          let decided = subst (λ v. AllHaveVerdict spec aim firsts budget v) w.in-Holds.is c.requires.begun.2 in
          let has = block_has spec aim budget c.args.self.now.depth b.sorts c.args.sorts.now firsts Holds
          b.parted (in_contained _ _ b.listed) decided in
          let passes = subst (λ n. Passes spec aim budget (take c.min-taken.result rows) n) (sym w.skipped-is)
          (taken_holds spec aim budget c.requires.walk.fine c.requires.walk.listed.0
          c.requires.walk.listed.1 rows c.min-taken.result has) in
          looks_whole spec aim budget c.requires.walk.fine c.requires.walk.listed.0 c.requires.walk.listed.1
          tries rows old new c.min-taken.result c.match-verdict.skipped size
          (omega (arith, c.requires.more)) refl refl (omega (arith, w.skipped-is)) passes
          (omega (arith, long, c.if-taken-size.false))
    ])
