-- Claims that reports are made of: they can be printed, and their reports have a text.
use Rattle.std.proofs.Common.{◌≡◌, ℕ, zero, suc, ◌≤◌, ◌*◌, List, [], ◌∷◌, ◌++◌, Some, None, inl, inr, refl, sym, subst}
use Rattle.std.proofs.Common.{arith, length, length-append}
use Rattle.std.proofs.lemmas.Option.{slice_get_within}
use Rattle.std.specs.Prelude.{slice_get, map, codes}
use Rattle.std.specs.List.{AllByRecursion}
use Rattle.term_core.specs.Tree.{Tree, Trees, var, app, none, some}
use Rattle.spec_core.specs.declared.records.Goal.{Goal}
use Rattle.spec_core.specs.declared.records.Spec.{Spec}
use Rattle.spec_core.specs.Order.{substitutions}
use Rattle.spec_core.specs.Sig.{Sig, names_of}
use Rattle.spec_core.specs.TermText.{SymbolsAreInRange, AllSymbolsAreInRange}
use Rattle.spec_core.specs.WellSorted.{GoalIsSorted}
use Rattle.spec_order.specs.Orders.{above_of}
use Rattle.refuter.specs.declared.answers.Search.{Search}
use Rattle.refuter.specs.declared.answers.Search.TheVariants.{Found, NotFound}
use Rattle.refuter.specs.Finds.{Finds, IsFalse}
use Rattle.clause_core.specs.declared.reports.Budget.{Budget}
use Rattle.clause_core.specs.declared.reports.Claim.{Claim}
use Rattle.clause_core.specs.declared.reports.Outcome.{Outcome}
use Rattle.clause_core.specs.declared.reports.Outcome.TheVariants.{Proved, Refuted, Open}
use Rattle.clause_core.specs.declared.steps.Block.{Block}
use Rattle.clause_core.specs.declared.steps.Step.{Step}
use Rattle.clause_core.specs.Tidied.{goal_clause}
use Rattle.proof_script.specs.Claims.{claim_text, claims_text, header_lines, last_line, report_text}
use Rattle.proof_script.specs.Names.{IsReportName}
use Rattle.proof_script.specs.Ranges.{ClaimIsInRange, LineIsInRange, WordIsInRange}
use Rattle.proof_script.specs.Reports.{ClaimStands}
use Rattle.proof_script.specs.Standing.{IsShort, TermStands, PatternStands, SymbolsStand, AllSymbolsStand, WordStands}
use Rattle.proof_script.specs.Standing.{StepStands}
use Rattle.proof_script.specs.Steps.{step_line}
use Rattle.proof_script.specs.Texts.{IsReportText}
use Rattle.proof_script.specs.Words.{Word, fixed, name, number, variable, equation, place, side, term, terms, patterns}
use Rattle.proof_script.specs.Words.{Line, line_text, lines_text}
use Rattle.proof_script.proofs.Begun.{IsSmall, text_of_small}
use Rattle.plain_search.specs.StandingBlocks.{PlainBlocksStand}
use Rattle.routine_proof.specs.Routine.{starts, IsProof}
use Rattle.routine_proof.specs.Standing.{RoutineBlocksStand}
use Rattle.search_claims.specs.Claims.{AreClaims, report_of}
use Rattle.search_claims.specs.Names.{GoalNamesStand}
use Rattle.search_claims.proofs.Bytes.{number_bytes, line_bytes}
use Rattle.search_claims.proofs.InRange.{OutcomeIsInRange, refuted_in_range, open_in_range}
use Rattle.search_claims.proofs.OutcomesStand.{MayStand, refuted_stands, open_stands, tried_few, claim_stands}
use Rattle.command_line.specs.declared.bounds.ProofBounds.{ProofBounds}
use Rattle.spike_cli.specs.Claims.{IsClaimOn, IsNextClaim, IsOutcomeOf, IsUnrefuted, budget_of, proved_goals}
use Rattle.spike_cli.specs.Within.{AreWithin}
use Rattle.file_replies.specs.Reported.{HasReports}
use Rattle.spike_cli.proofs.ProvedGoals.{first_item}

module _ (sig : Sig) where
  -- symbols that may appear in a report are the signature's
  mutual
    symbols_in_range : (t : Tree) → SymbolsStand sig t → SymbolsAreInRange sig t
    symbols_in_range (var n) h = tt
    symbols_in_range (app f ts) h =
        (slice_get_within sig.table f (h.0.0, h.0.1) h.0.2, all_symbols_in_range ts h.1)

    all_symbols_in_range : (ts : Trees) → AllSymbolsStand sig ts → AllSymbolsAreInRange sig ts
    all_symbols_in_range none h = tt
    all_symbols_in_range (some t ts) h = (symbols_in_range t h.0, all_symbols_in_range ts h.1)

  terms_in_range :
      (ts : List Tree) → AllByRecursion (TermStands sig) ts →
      AllByRecursion (SymbolsAreInRange sig) ts
  terms_in_range [] h = tt
  terms_in_range (t ∷ ts) h = (symbols_in_range t h.0.symbols, terms_in_range ts h.1)

  patterns_in_range :
      (ps : List Tree) → AllByRecursion (PatternStands sig) ps →
      AllByRecursion (SymbolsAreInRange sig) ps
  patterns_in_range [] h = tt
  patterns_in_range (p ∷ ps) h = (symbols_in_range p h.0.stands.symbols, patterns_in_range ps h.1)

  word_in_range : (w : Word) → WordStands sig w → WordIsInRange sig w
  word_in_range (fixed text) h = tt
  word_in_range (name text) h = tt
  word_in_range (number n) h = tt
  word_in_range (variable n) h = tt
  word_in_range (equation conclusion n) h = tt
  word_in_range (place p) h = tt
  word_in_range (side left) h = tt
  word_in_range (term t) h = symbols_in_range t h.symbols
  word_in_range (terms ts) h = terms_in_range ts h
  word_in_range (patterns ps) h = patterns_in_range ps h.1

  words_in_range :
      (ws : List Word) → AllByRecursion (WordStands sig) ws → AllByRecursion (WordIsInRange sig) ws
  words_in_range [] h = tt
  words_in_range (w ∷ ws) h = (word_in_range w h.0, words_in_range ws h.1)

  steps_in_range :
      (steps : List Step) → AllByRecursion (StepStands sig) steps →
      AllByRecursion (LineIsInRange sig) (map step_line steps)
  steps_in_range [] h = tt
  steps_in_range (s ∷ steps) h = (words_in_range (step_line s).words h.0, steps_in_range steps h.1)

  names_short :
      (names : List (List ℕ)) → AllByRecursion IsReportName names → (f : ℕ) (n : List ℕ) →
      slice_get names f ≡ Some n → length n ≤ 64
  names_short [] all f n at = absurd (let q : None ≡ Some n = at in cc)
  names_short (m ∷ names) all zero n at =
      let q : Some m ≡ Some n = at in let k : m ≡ n = cc in subst (λ x. length x ≤ 64) k all.0.short
  names_short (m ∷ names) all (suc f) n at = names_short names all.1 f n at

-- how many bytes claims have, and the first two lines
claims_bytes :
    (sig : Sig) (claims : List Claim) → AllByRecursion (IsSmall sig) claims →
    length (claims_text sig claims) ≤ 300000 * length claims
claims_bytes sig [] h = omega arith
claims_bytes sig (c ∷ claims) h =
    omega (
      arith,
      h.0,
      claims_bytes sig claims h.1,
      length-append (claim_text sig c)
          (claims_text sig claims),
    )

pub header_bytes :
    (sig : Sig) (steps : ℕ) → IsShort steps → length (lines_text sig (header_lines steps)) ≤ 100
header_bytes sig steps h =
    let first : Line = record { head = codes "spike-report"; words = fixed (codes "1") ∷ [] } in
    let second : Line = record { head = codes "steps"; words = number steps ∷ [] } in
    omega (
      arith,
      line_bytes sig first,
      line_bytes sig second,
      number_bytes steps h,
      length-append
          (line_text sig first) (lines_text sig (second ∷ [])),
      length-append (line_text sig second)
          [],
    )

pub as_many :
    (IsOn : List Claim → Goal → Claim → Type 0) (before : List Claim) (goals : List Goal)
    (claims : List Claim) → AreClaims IsOn before goals claims → length claims ≡ length goals
as_many IsOn before [] [] a = refl
as_many IsOn before (g ∷ goals) [] a = absurd a
as_many IsOn before [] (c ∷ claims) a = absurd a
as_many IsOn before (g ∷ goals) (c ∷ claims) a =
    omega (arith, as_many IsOn (before ++ c ∷ []) goals claims a.1)

goal_names_stand :
    (goals : List Goal) → AllByRecursion GoalNamesStand goals →
    AllByRecursion (λ (g : Goal). IsReportName g.name) goals
goal_names_stand [] all = tt
goal_names_stand (g ∷ goals) all = (all.0.goal_name, goal_names_stand goals all.1)

module _
    (spec : Spec) (stand : PlainBlocksStand (above_of spec))
    (routine : RoutineBlocksStand (above_of spec)) (bounds : ProofBounds)
    (reports : HasReports spec) (within : AreWithin bounds) where
  -- the block of a proved claim: its steps may appear, there are few of them, and the text is short
  record BlockStands (goal : Goal) (block : Block) : Type 0 where
    stands : AllByRecursion (StepStands spec.sig) block.steps
    few : length block.steps ≤ 10000
    short :
        length (claim_text spec.sig (record { goal = goal.name; outcome = Proved block })) ≤ 300000

  block_stands :
      (lemmas : List ℕ) (goal : Goal) (tried : Budget) (block : Block) →
      GoalIsSorted spec.sig goal → GoalNamesStand goal →
      IsUnrefuted bounds spec lemmas goal tried (Proved block) → BlockStands goal block
  block_stands lemmas goal tried block sorted names (inl is) = record {
    stands =
        stand spec goal is.variable.0 block.steps reports.fine sorted reports.names.symbols
        (omega (arith, reports.few_rules)) is.plain;
    few = omega (arith, is.few, within.plain);
    short =
        is.short names.goal_name.short (names_short spec.sig (names_of spec.sig)
        reports.names.symbols) reports.few_rules;
  }
  block_stands lemmas goal tried block sorted names (inr is) =
      let found =
      first_item (IsProof (above_of spec) spec lemmas goal bounds.nodes) (starts (goal_clause goal))
      block.steps is.1 in
      let proof = found.2 in
      let few : length block.steps ≤ 10000 = omega (arith, proof.few, within.nodes) in
      record {
        stands =
            routine spec lemmas goal found.0 block.steps reports.fine sorted
            (record {
              symbols = reports.names.symbols;
              goals = goal_names_stand spec.goals
                  reports.names.goals;
            }) (omega (arith, reports.few_rules)) proof.proves.within
            proof.routine;
        few = few;
        short = proof.short;
      }

  -- the symbols in the lines of a claim are the signature's
  pub claim_in_range :
      (lemmas : List ℕ) (goal : Goal) (claim : Claim) → GoalIsSorted spec.sig goal →
      GoalNamesStand goal → IsClaimOn bounds spec lemmas goal claim → ClaimIsInRange spec.sig claim
  claim_in_range lemmas goal claim sorted names c = by c.search claim.outcome c.false c.outcome
    where
      by :
          (search : Search) (o : Outcome) →
          IsFalse spec goal bounds.search.tries (substitutions spec goal bounds.search.depth)
          search → IsOutcomeOf bounds spec lemmas goal search o → OutcomeIsInRange spec claim.goal o
      by (Found index values) o f is =
          subst (λ o. OutcomeIsInRange spec claim.goal o) (sym is)
          (refuted_in_range spec claim.goal index goal.vars values f.2)
      by (NotFound tried skipped cut) (Proved block) f is =
          let b =
          block_stands lemmas goal (budget_of bounds tried skipped cut) block sorted names is in
          ((tt, (tt, (tt, tt))), steps_in_range spec.sig block.steps b.stands)
      by (NotFound tried skipped cut) (Refuted index values) f is = absurd is
      by (NotFound tried skipped cut) (Open budget) f is = open_in_range spec claim.goal budget

  -- what is claimed of a goal may appear in a report
  outcome_stands :
      (lemmas : List ℕ) (goal : Goal) → GoalIsSorted spec.sig goal → GoalNamesStand goal →
      (search : Search) (o : Outcome) →
      IsFalse spec goal bounds.search.tries (substitutions spec goal bounds.search.depth) search →
      Finds spec goal bounds.search.steps bounds.search.tries
      (substitutions spec goal bounds.search.depth) search →
      IsOutcomeOf bounds spec lemmas goal search o → MayStand spec goal.name o
  outcome_stands lemmas goal sorted names (Found index row) o f e is =
      subst (λ o. MayStand spec goal.name o) (sym is)
      (refuted_stands spec goal names reports.names.symbols sorted.few_variables bounds.search.depth
      bounds.search.tries index row within.search.depth within.search.tries.1 f)
  outcome_stands lemmas goal sorted names (NotFound tried skipped cut) (Proved block) f e is =
      let b = block_stands lemmas goal (budget_of bounds tried skipped cut) block sorted names is in
      record { stands = (b.few, b.stands); small = b.short }
  outcome_stands lemmas goal sorted names (NotFound tried skipped cut) (Refuted index values) f e
      is =
      absurd is
  outcome_stands lemmas goal sorted names (NotFound tried skipped cut) (Open budget) f e is =
      let t =
      tried_few spec goal bounds.search.steps bounds.search.tries
      (substitutions spec goal bounds.search.depth) tried skipped cut e in
      let most = within.search.tries.1 in
      subst (λ b. MayStand spec goal.name (Open b)) (sym is.2)
      (open_stands spec goal names (budget_of bounds tried skipped cut) (record {
        depth = within.search.depth;
        tried = omega (arith, t.0);
        skipped = omega (arith, t.1);
        plain = omega (arith, within.plain);
        nodes = omega (arith, within.nodes);
      }))

  all_stand :
      (before : List Claim) (goals : List Goal) (claims : List Claim) →
      ((k : ℕ) (goal : Goal) → slice_get goals k ≡ Some goal → GoalIsSorted spec.sig goal) →
      AllByRecursion GoalNamesStand goals →
      AreClaims (IsNextClaim bounds spec) before goals claims →
      AllByRecursion (ClaimStands spec.sig) claims × AllByRecursion (IsSmall spec.sig) claims
  all_stand before [] [] sorted names a = (tt, tt)
  all_stand before (g ∷ goals) [] sorted names a = absurd a
  all_stand before [] (c ∷ claims) sorted names a = absurd a
  all_stand before (g ∷ goals) (c ∷ claims) sorted names a =
      let m =
      outcome_stands (proved_goals before) g (sorted 0 g refl) names.0 a.0.search c.outcome
      a.0.false a.0.exact a.0.outcome in
      let here = claim_stands spec c g.name c.outcome names.0.goal_name a.0.name refl m in
      let others =
      all_stand (before ++ c ∷ []) goals claims (λ k goal at. sorted (suc k) goal at) names.1
      a.1 in
      ((here.0, others.0), (here.1, others.1))

  -- the report of claims on all goals has a text
  pub report_stands :
      (claims : List Claim) → AreClaims (IsNextClaim bounds spec) [] spec.goals claims →
      IsReportText spec.sig (report_text spec.sig (report_of bounds.search.steps claims))
      (report_of bounds.search.steps claims)
  report_stands claims a =
      let h = all_stand [] spec.goals claims reports.fine.goals reports.names.goals a in
      text_of_small spec.sig (report_of bounds.search.steps claims)
      (record { steps = within.search.steps; claims = h.0 }) h.1

  -- which isn't too long for `replay`
  pub report_short :
      (claims : List Claim) → AreClaims (IsNextClaim bounds spec) [] spec.goals claims →
      length (report_text spec.sig (report_of bounds.search.steps claims)) ≤ 67108864
  report_short claims a =
      let h = all_stand [] spec.goals claims reports.fine.goals reports.names.goals a in
      let header = lines_text spec.sig (header_lines bounds.search.steps) in
      let last = lines_text spec.sig (last_line ∷ []) in
      let short : IsShort bounds.search.steps = omega (arith, within.search.steps.1) in
      omega (
        arith,
        reports.few_goals,
        as_many (IsNextClaim bounds spec) [] spec.goals claims a,
        claims_bytes spec.sig claims h.1,
        header_bytes spec.sig bounds.search.steps short,
        line_bytes spec.sig last_line,
        length-append (line_text spec.sig last_line) [],
        length-append header (claims_text spec.sig claims ++ last),
        length-append
            (claims_text spec.sig claims) last,
      )
