-- The first fit of a node that closes it.
use Rattle.std.proofs.Common.{◌≡◌, ℕ, suc, ◌<◌, List, [], ◌∷◌, ◌++◌, Some, take, drop, map, get_or, refl}
use Rattle.std.proofs.Common.{sym, ◌∙◌}
use Rattle.std.proofs.Common.{ap, subst, arith, length, append_assoc}
use Rattle.std.specs.Prelude.{◌↔◌, Contains, MatchOption, Option, None, slice_get}
use Rattle.std.specs.List.{AllByRecursion}
use Rattle.std.proofs.lemmas.List.Elements.{Contains-append_right}
use Rattle.term_core.specs.Tree.{Tree}
use Rattle.std.proofs.lemmas.List.{map-id}
use Rattle.term_core.proofs.Items.{all_append, all_at_or, parted_at}
use Rattle.spec_core.specs.declared.records.Spec.{Spec}
use Rattle.spec_core.specs.WellSorted.{IsWellSorted}
use Rattle.clause_core.specs.declared.answers.Children.{Children}
use Rattle.clause_core.specs.declared.clauses.Clause.{Clause}
use Rattle.clause_core.specs.declared.reports.Report.{Report}
use Rattle.clause_core.specs.declared.steps.Step.{Step}
use Rattle.clause_core.specs.ClauseLaws.{OneRelation}
use Rattle.acceptance.specs.Blocks.{StepMakes}
use Rattle.acceptance.specs.Claims.{ProvedBefore}
use Rattle.acceptance.specs.Strict.{first_child}
use Rattle.claimed_goals.specs.Tracking.{AreProved}
use Rattle.claimed_goals.proofs.UsableGoals.{makes_same}
use Rattle.inference_rules.specs.declared.nodes.Node.{Node}
use Rattle.inference_rules.specs.Answers.{clauses_of as clauses_in}
use Rattle.script_trim.specs.declared.blocks.Fit.{Fit}
use Rattle.script_trim.specs.declared.blocks.KeptBlock.{KeptBlock}
use Rattle.script_trim.specs.Closing.{trivials, matches, absurds, closing_steps}
use Rattle.script_trim.specs.Cutting.{ClosesAt, FitsAt}
use Rattle.script_trim.specs.Fitting.{own_steps, other_steps, AreDefined, AreFitting, IsByItself, none}
use Rattle.script_trim.specs.Fitting.{defined, left_out}
use Rattle.script_trim.specs.Kept.{kept_report, IsKept}
use Rattle.script_trim.specs.OneClaim.{IsFirstStep}
use Rattle.script_trim.proofs.KeptClaims.{closing_there, node_there, steps_same}
use Rattle.script_trim.proofs.OnlyItself.{itself_isnt_closing}

-- what is said of an option if it is known
pub match_some :
    {A : Type 0} (o : Option A) (x : A) (P : Type 0) (Q : A → Type 0) → o ≡ Some x → MatchOption o P Q → Q x
match_some o x P Q is h = subst (λ p. MatchOption p P Q) is h

pub match_none : {A : Type 0} (o : Option A) (P : Type 0) (Q : A → Type 0) → o ≡ None → MatchOption o P Q → P
match_none o P Q is h = subst (λ p. MatchOption p P Q) is h

-- the items that an iterator has yielded, the one that it yields, and those that it has left
pub yielded_parts :
    (all seen : List Fit) (fit : Fit) → map (λ y. y) seen ≡ take (length seen) all → length seen < length all →
    fit ≡ get_or all (length seen) fit → all ≡ seen ++ fit ∷ drop (suc (length seen)) all
yielded_parts all seen fit far lt is =
    sym (parted_at all (length seen) fit lt is) ∙ ap (λ fs. fs ++ fit ∷ drop (suc (length seen)) all)
    (sym far ∙ map-id seen)

-- if two words say the same of which goals may be used, the same steps are defined
module _ (above : Tree → Tree → Type 0) (spec : Spec) (usable other : ℕ → Type 0)
    (same : (k : ℕ) → usable k ↔ other k) where
  step_there :
      (nodes : List Clause) (i : ℕ) (step : Step) (m : Children) → StepMakes above spec usable nodes i step m →
      StepMakes above spec other nodes i step m
  step_there nodes i step m p = (makes_same above spec usable other same nodes i (step ∷ []) (m ∷ []) (p, tt)).0

  step_back :
      (nodes : List Clause) (i : ℕ) (step : Step) (m : Children) → StepMakes above spec other nodes i step m →
      StepMakes above spec usable nodes i step m
  step_back nodes i step m p =
      (makes_same above spec other usable (λ k. ((same k).1, (same k).0)) nodes i (step ∷ []) (m ∷ []) (p, tt)).0

  pub defined_there :
      (nodes : List Clause) (i : ℕ) (steps : List Step) (fits : List Fit) →
      AreDefined above spec usable nodes i steps fits → AreDefined above spec other nodes i steps fits
  defined_there nodes i steps fits none = none
  defined_there nodes i (step ∷ steps) (fit ∷ fits) (defined p d) =
      defined (step_there nodes i step fit.made p) (defined_there nodes i steps fits d)
  defined_there nodes i (step ∷ steps) fits (left_out by d) =
      left_out (λ m p. by m (step_back nodes i step m p)) (defined_there nodes i steps fits d)

  pub itself_there :
      (nodes : List Clause) (i : ℕ) (steps : List Step) → AllByRecursion (IsByItself above spec usable nodes i) steps →
      AllByRecursion (IsByItself above spec other nodes i) steps
  itself_there nodes i [] h = tt
  itself_there nodes i (step ∷ steps) h =
      (λ m p. h.0 m (step_back nodes i step m p), itself_there nodes i steps h.1)

module _ (above : Tree → Tree → Type 0) (spec : Spec) (usable : ℕ → Type 0) (nodes : List Clause) (i : ℕ)
    (P : Step → Type 0) (by_itself : (step : Step) → IsByItself above spec usable nodes i step → P step) where
  -- the steps up to one that is defined, if this holds of those that are left out
  pub record Parts (steps : List Step) (fit : Fit) : Type 0 where
    pub before : List Step
    pub after : List Step
    pub is : steps ≡ before ++ fit.step ∷ after
    pub all : AllByRecursion P before
    pub makes : StepMakes above spec usable nodes i fit.step fit.made

  pub parts_at :
      (steps : List Step) (fits : List Fit) → AreDefined above spec usable nodes i steps fits →
      (seen later : List Fit) (fit : Fit) → fits ≡ seen ++ fit ∷ later → AllByRecursion (λ (f : Fit). P f.step) seen →
      Parts steps fit
  parts_at steps fits none [] later fit e h = absurd (let q : [] ≡ fit ∷ later = e in cc)
  parts_at steps fits none (x ∷ seen) later fit e h = absurd (let q : [] ≡ x ∷ (seen ++ fit ∷ later) = e in cc)
  parts_at (step ∷ steps) (first ∷ fits) (defined p d) [] later fit e h =
      let q : first ∷ fits ≡ fit ∷ later = e in
      let same : first ≡ fit = cc in
      record {
        before = [];
        after = steps;
        is = ap (λ (f : Fit). f.step ∷ steps) same;
        all = tt;
        makes = subst (λ (f : Fit). StepMakes above spec usable nodes i f.step f.made) same p;
      }
  parts_at (step ∷ steps) (first ∷ fits) (defined p d) (x ∷ seen) later fit e h =
      let q : first ∷ fits ≡ x ∷ (seen ++ fit ∷ later) = e in
      let same : x ≡ first = cc in
      let more : fits ≡ seen ++ fit ∷ later = cc in
      let r = parts_at steps fits d seen later fit more h.1 in
      record {
        before = step ∷ r.before;
        after = r.after;
        is = ap (λ ss. step ∷ ss) r.is;
        all =
            (subst (λ (f : Fit). P f.step) same h.0, r.all);
        makes = r.makes;
      }
  parts_at (step ∷ steps) fits (left_out by d) seen later fit e h =
      let r = parts_at steps fits d seen later fit e h in
      record {
        before = step ∷ r.before;
        after = r.after;
        is = ap (λ ss. step ∷ ss) r.is;
        all =
            (by_itself step by, r.all);
        makes = r.makes;
      }

  -- if it holds of each step that is defined, it holds of all
  pub all_steps :
      (steps : List Step) (fits : List Fit) → AreDefined above spec usable nodes i steps fits →
      AllByRecursion (λ (f : Fit). P f.step) fits → AllByRecursion P steps
  all_steps steps fits none h = tt
  all_steps (step ∷ steps) (first ∷ fits) (defined p d) h = (h.0, all_steps steps fits d h.1)
  all_steps (step ∷ steps) fits (left_out by d) h = (by_itself step by, all_steps steps fits d h)

-- no closing by this step is possible
module _ (above : Tree → Tree → Type 0) (spec : Spec) (report : Report) (number : ℕ) (block : KeptBlock)
    (k : IsKept above spec report number block) (i : ℕ) where
  abbrev pub NotBy : Step → Type 0
  NotBy step = (others : List Step) → ClosesAt above spec report number block k i step others → ⊥

module _ (above : Tree → Tree → Type 0) (one : OneRelation above) (spec : Spec) (fine : IsWellSorted spec)
    (report : Report) (number : ℕ) (block : KeptBlock) (k : IsKept above spec report number block) (i : ℕ) where
  abbrev Not : Step → Type 0
  Not step = NotBy above spec report number block k i step

  abbrev nodes : List Clause
  nodes = clauses_in block.nodes.items

  abbrev before_nodes : List Clause
  before_nodes = take (first_child k.claim.made i) nodes

  abbrev usable : ℕ → Type 0
  usable = ProvedBefore spec (take number report.claims)

  not_by : (step : Step) → IsByItself above spec usable before_nodes i step → Not step
  not_by step by others c = itself_isnt_closing above one spec fine report number block k i step by others c

  -- fits by the lemmas are fits by the goals that the claims before prove
  pub fitting_there :
      (steps : Spec → List Clause → Clause → List Step) (fits : List Fit) (numbers : List ℕ) →
      AreProved spec (take number report.claims) numbers → (ns : List Node) (before : ℕ) →
      ns ≡ block.nodes.items → before ≡ first_child k.claim.made i →
      AreFitting above spec (Contains numbers) steps (clauses_in ns) before i fits →
      AreFitting above spec usable steps nodes (first_child k.claim.made i) i fits
  fitting_there steps fits numbers proved ns before e f h c at =
      let moved : AreFitting above spec (Contains numbers) steps nodes (first_child k.claim.made i) i fits =
      subst (λ n. AreFitting above spec (Contains numbers) steps nodes n i fits) f
      (subst (λ xs. AreFitting above spec (Contains numbers) steps (clauses_in xs) before i fits) e h) in
      defined_there above spec (Contains numbers) usable proved _ i _ fits (moved c at)

  -- none of these steps closes the node if no fit does
  pub none_of :
      (steps : Spec → List Clause → Clause → List Step) (fits : List Fit) →
      AreFitting above spec usable steps nodes (first_child k.claim.made i) i fits →
      AllByRecursion (λ (f : Fit). Not f.step) fits → (c : Clause) → slice_get nodes i ≡ Some c →
      AllByRecursion Not (steps spec nodes c)
  none_of steps fits fitting h c at =
      all_steps above spec usable before_nodes i Not not_by (steps spec nodes c) fits (fitting c at) h

  -- and if no closing step does, none closes it
  pub none_closes :
      ((c : Clause) → slice_get nodes i ≡ Some c → AllByRecursion Not (closing_steps spec nodes c)) →
      (step : Step) (rest : List Step) → ClosesAt above spec report number block k i step rest → ⊥
  none_closes all step rest c =
      let at = node_there above one spec fine report number block k i step rest c in
      let member = closing_there above one spec fine report number block k i step rest c in
      let not : Not step = subst Not member.2
      (all_at_or Not (closing_steps spec nodes c.node) member.0 step (all c.node at) member.1) in
      not rest c

  -- some of the closing steps, with those before and those after them, and their fits
  module _ (first steps last : Spec → List Clause → Clause → List Step)
      (parted : (c : Clause) → closing_steps spec nodes c ≡ first spec nodes c ++
      (steps spec nodes c ++ last spec nodes c)) (fits : List Fit)
      (fitting : AreFitting above spec usable steps nodes (first_child k.claim.made i) i fits) where
    whole :
        (c : Clause) (before after : List Step) (step : Step) → steps spec nodes c ≡ before ++ step ∷ after →
        closing_steps spec nodes c ≡ (first spec nodes c ++ before) ++ step ∷ (after ++ last spec nodes c)
    whole c before after step is =
        parted c
        ∙ ap (λ ss. first spec nodes c ++ (ss ++ last spec nodes c)) is
        ∙ ap (λ ss. first spec nodes c ++ ss) (append_assoc before (step ∷ after) (last spec nodes c))
        ∙ sym (append_assoc (first spec nodes c) before (step ∷ (after ++ last spec nodes c)))

    module _ (seen later : List Fit) (fit : Fit) (is : fits ≡ seen ++ fit ∷ later) where
      -- a fit is a closing step that makes what it is said to make
      pub fits_at : FitsAt above spec report number block k i fit
      fits_at c at =
          let p = parts_at above spec usable before_nodes i (λ s. Unit {0}) (λ s n. tt) (steps spec nodes c) fits
          (fitting c at) seen later fit is (trivial seen) in (
            subst (λ ss. Contains ss fit.step) (sym (whole c p.before p.after fit.step p.is))
                (Contains-append_right (first spec nodes c ++ p.before)
                (fit.step ∷ (p.after ++ last spec nodes c)) fit.step (0, omega arith, refl)),
            p.makes,
          )
        where
          trivial : (fs : List Fit) → AllByRecursion (λ (f : Fit). Unit {0}) fs
          trivial [] = tt
          trivial (f ∷ fs) = (tt, trivial fs)

      -- the first one that closes the node is the first closing step that could
      pub first_fit :
          ((c : Clause) → slice_get nodes i ≡ Some c → AllByRecursion Not (first spec nodes c)) →
          AllByRecursion (λ (f : Fit). Not f.step) seen → (rest : List Step) →
          ClosesAt above spec report number block k i fit.step rest →
          IsFirstStep above spec number (kept_report above spec report number k.name block) i fit.step rest
      first_fit not_first h rest c =
          let at = node_there above one spec fine report number block k i fit.step rest c in
          let p = parts_at above spec usable before_nodes i Not not_by (steps spec nodes c.node) fits
          (fitting c.node at) seen later fit is h in
          record {
            closes = c;
            before = first spec nodes c.node ++ p.before;
            after = p.after ++ last spec nodes c.node;
            parted =
                steps_same above one spec fine report number block k c.claim c.node
                ∙ whole c.node p.before p.after fit.step p.is;
            none_before = all_append Not (first spec nodes c.node) p.before (not_first c.node at) p.all;
          }

    pub all_fit : AllByRecursion (FitsAt above spec report number block k i) fits
    all_fit = from [] fits refl
      where
        from :
            (seen later : List Fit) → fits ≡ seen ++ later →
            AllByRecursion (FitsAt above spec report number block k i) later
        from seen [] e = tt
        from seen (f ∷ later) e =
            (fits_at seen later f e, from (seen ++ f ∷ []) later (e ∙ sym (append_assoc seen (f ∷ []) later)))

-- the closing steps in these two parts
abbrev pub no_steps : Spec → List Clause → Clause → List Step
no_steps spec ns c = []

pub own_and_others :
    (spec : Spec) (ns : List Clause) (c : Clause) →
    closing_steps spec ns c ≡ own_steps spec ns c ++ other_steps spec ns c
own_and_others spec ns c =
    let others = other_steps spec ns c in
    ap (λ ss. trivials c ++ ss) (sym (append_assoc (matches c) (absurds c) others))
    ∙ sym (append_assoc (trivials c) (matches c ++ absurds c) others)
