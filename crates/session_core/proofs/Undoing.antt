-- What a session keeps of a state, by what it keeps of the state after one more command: the last goal
-- is dropped, or the last link and the nodes of its children are.
use Rattle.std.proofs.Common.{◌≡◌, inl, inr, ℕ, zero, suc, ◌+◌, ◌-◌, ◌≤◌, List, [], ◌∷◌, ◌++◌, Some, None, refl, sym}
use Rattle.std.proofs.Common.{◌∙◌, ap, subst, arith}
use Rattle.std.proofs.Common.{length, map, append_assoc}
use Rattle.std.specs.Prelude.{flat_map, Ok, Err}
use Rattle.std.proofs.lemmas.Grind.{flat_map-append}
use Rattle.std.proofs.lemmas.List.{append-nil, length-map, map-append}
use Rattle.term_core.specs.Tree.{Tree}
use Rattle.spec_core.specs.declared.records.Spec.{Spec}
use Rattle.spec_core.specs.WellSorted.{IsWellSorted}
use Rattle.clause_core.specs.declared.answers.Children.{Children}
use Rattle.clause_core.specs.declared.clauses.Clause.{Clause}
use Rattle.clause_core.specs.declared.reports.Claim.{Claim}
use Rattle.clause_core.specs.declared.steps.Step.{Step}
use Rattle.clause_core.specs.ClauseLaws.{OneRelation}
use Rattle.clause_core.specs.Tidied.{goal_clause}
use Rattle.acceptance.specs.Blocks.{clauses_of, nodes_of, StepsMake}
use Rattle.acceptance.specs.Claims.{ProvedBefore}
use Rattle.acceptance.proofs.NoRefusal.{goal_named_one}
use Rattle.clause_core.specs.Rows.{Row, needs, makes}
use Rattle.clause_core.specs.Says.{Says}
use Rattle.clause_core.specs.Steps.{row_of}
use Rattle.clause_core.specs.declared.answers.Child.{Child}
use Rattle.clause_core.specs.declared.answers.Why.TheVariants.{Limit}
use Rattle.acceptance.proofs.OneBlock.{steps_one}
use Rattle.acceptance.proofs.WholeBlocks.{as_many}
use Rattle.block_links.specs.Links.{links_of}
use Rattle.session_core.specs.States.{Work, State, pending, pending_of, proves, settled_by, with_step, without_step}
use Rattle.session_core.specs.States.{nodes_at}
use Rattle.session_core.specs.Accepting.{TakesGoal, TakesStep}
use Rattle.session_core.specs.Sound.{IsUnderWork, AreUnderWork, IsSound}
use Rattle.session_core.specs.Value.{LastStep, without_last}
use Rattle.session_core.specs.Kept.{Kept, IsKept, AreKept, WorkIsKept, Keeps}
use Rattle.session_core.specs.Written.{steps_in}
use Rattle.session_core.specs.Lengths.{lengths_after, steps_length}
use Rattle.session_core.proofs.StepLengths.{lengths_more}
use Rattle.session_core.proofs.Sound.{more_steps}

module _ (above : Tree → Tree → Type 0) (spec : Spec) where
  -- one claim more, at the end
  kept_more : (before claims : List Claim) (kept : List Kept) → AreKept above spec before claims kept →
      (claim : Claim) (k : Kept) → (work : Work) × (claim ≡ proves work.goal work.steps) ×
      IsKept above spec (before ++ claims) work k → AreKept above spec before (claims ++ claim ∷ []) (kept ++ k ∷ [])
  kept_more before [] [] p claim k q = (
    subst (λ cs. (work : Work) × (claim ≡ proves work.goal work.steps) ×
        IsKept above spec cs work k) (append-nil before) q,
    tt,
  )
  kept_more before [] (x ∷ kept) p claim k q = absurd p
  kept_more before (c ∷ claims) [] p claim k q = absurd p
  kept_more before (c ∷ claims) (x ∷ kept) p claim k q =
      let a : before ++ (c ∷ claims) ≡ (before ++ c ∷ []) ++ claims = sym (append_assoc before (c ∷ []) claims) in (
        p.0,
        kept_more (before ++ c ∷ []) claims kept p.1 claim k (subst (λ cs. (work : Work) ×
            (claim ≡ proves work.goal work.steps) × IsKept above spec cs work k) a q),
      )

  -- and the last claim taken off
  record KeptLast (before claims : List Claim) (claim : Claim) (kept : List Kept) : Type 0 where
    front : List Kept
    k : Kept
    is : kept ≡ front ++ k ∷ []
    others : AreKept above spec before claims front
    work : Work
    claim_is : claim ≡ proves work.goal work.steps
    keeps : IsKept above spec (before ++ claims) work k

  kept_last : (before claims : List Claim) (claim : Claim) (kept : List Kept) →
      AreKept above spec before (claims ++ claim ∷ []) kept → KeptLast before claims claim kept
  kept_last before [] claim [] p = absurd p
  kept_last before [] claim (x ∷ []) p = record {
    front = [];
    k = x;
    is = refl;
    others = tt;
    work = p.0.0;
    claim_is =
        p.0.1;
    keeps = subst (λ cs. IsKept above spec cs p.0.0 x) (sym (append-nil before)) p.0.2;
  }
  kept_last before [] claim (x ∷ y ∷ kept) p = absurd p.1
  kept_last before (c ∷ claims) claim [] p = absurd p
  kept_last before (c ∷ claims) claim (x ∷ kept) p =
      let r = kept_last (before ++ c ∷ []) claims claim kept p.1 in
      let a : (before ++ c ∷ []) ++ claims ≡ before ++ (c ∷ claims) = append_assoc before (c ∷ []) claims in
      record {
        front = x ∷ r.front;
        k = r.k;
        is = ap (λ xs. x ∷ xs) r.is;
        others = (p.0, r.others);
        work = r.work;
        claim_is = r.claim_is;
        keeps = subst (λ cs. IsKept above spec cs r.work r.k) a r.keeps;
      }

  -- the goal's nodes and links with a step more
  nodes_more : (work : Work) (step : Step) (m : Children) → nodes_at (with_step work step m) ≡ nodes_at work ++
      clauses_of m
  nodes_more work step m =
      let e = flat_map-append clauses_of work.made (m ∷ []) in
      let n : clauses_of m ++ [] ≡ clauses_of m = append-nil (clauses_of m) in
      ap (λ xs. goal_clause work.goal ∷ xs) (e ∙ ap (λ xs. flat_map clauses_of work.made ++ xs) n)

  links_more : (work : Work) (step : Step) (m : Children) → map links_of (with_step work step m).made ≡ map links_of
      work.made ++ links_of m ∷ []
  links_more work step m = map-append links_of work.made (m ∷ [])

  -- what is kept after a goal that is begun, and what was kept before it
  pub goal_begins : (old new : State) (name : List ℕ) (t : TakesGoal above spec old name new) (goals : List Kept) →
      Keeps above spec old goals → Keeps above spec new (goals ++ record {
        number = t.named.0;
        nodes =
            goal_clause t.goal ∷ [];
        links = [];
        lengths = [];
      } ∷ [])
  goal_begins old new name t goals k =
      let none : WorkIsKept above spec old.claims None k.last = subst (λ w. WorkIsKept above spec old.claims w k.last)
      t.idle k.work in
      let whole : goals ≡ k.finished = k.is ∙ no_last old.claims k.finished k.last none in
      subst (λ x. Keeps above spec x (goals ++ record {
        number = t.named.0;
        nodes = goal_clause t.goal ∷ [];
        links =
            [];
        lengths = [];
      } ∷ [])) (sym t.is) (record {
        finished = k.finished;
        last = record { number = t.named.0; nodes = goal_clause t.goal ∷ []; links = []; lengths = [] } ∷ [];
        is = ap (λ gs. gs ++ record {
          number = t.named.0;
          nodes = goal_clause t.goal ∷ [];
          links = [];
          lengths =
              [];
        } ∷ []) whole;
        claims = k.claims;
        work = record { number = t.named.1; makes = tt; nodes = refl; links = refl; lengths = refl };
      })
    where
      no_last : (claims : List Claim) (front last : List Kept) → WorkIsKept above spec claims None last →
          front ++ last ≡ front
      no_last claims front [] h = append-nil front
      no_last claims front (x ∷ xs) h = absurd h

  pub goal_undone : (old new : State) (name : List ℕ) → TakesGoal above spec old name new → (goals : List Kept) →
      Keeps above spec new goals → (front : List Kept) × (k : Kept) × (goals ≡ front ++ k ∷ []) ×
      Keeps above spec old front
  goal_undone old new name t goals k =
      let begun : Keeps above spec _ goals = subst (λ x. Keeps above spec x goals) t.is k in
      by_last begun.finished begun.last begun.is begun.claims begun.work
    where
      by_last : (finished last : List Kept) → goals ≡ finished ++ last → AreKept above spec [] old.claims finished →
          WorkIsKept above spec old.claims (Some (record { goal = t.goal; steps = []; made = [] })) last →
          (front : List Kept) × (k : Kept) × (goals ≡ front ++ k ∷ []) × Keeps above spec old front
      by_last finished [] e c w = absurd w
      by_last finished (x ∷ []) e c w = (
        finished,
        x,
        e,
        record {
          finished = finished;
          last = [];
          is = sym (append-nil finished);
          claims = c;
          work =
              subst (λ o. WorkIsKept above spec old.claims o []) (sym t.idle) tt;
        },
      )
      by_last finished (x ∷ y ∷ last) e c w = absurd w

  module _ (one : OneRelation above) (fine : IsWellSorted spec) (old new : State) (step : Step) (sound : IsSound above
      spec old) (t : TakesStep above spec old step new) where
    abbrev after : Work
    after = with_step t.work step t.made

    under : IsUnderWork above spec old.claims t.work
    under = let e : AreUnderWork above spec old.claims (Some t.work) =
        subst (λ w. AreUnderWork above spec old.claims w) t.under_work sound.under_work in e

    -- the goal's entry before the step, by the one after it
    abbrev entry : ℕ → Kept
    entry number = record {
      number = number;
      nodes = nodes_at t.work;
      links = map links_of t.work.made;
      lengths =
          lengths_after spec.sig 0 t.work.steps;
    }

    -- what is kept of the last goal, when the step is taken back
    pub record Undone (goals : List Kept) : Type 0 where
      pub front : List Kept
      pub k : Kept
      pub is : goals ≡ front ++ k ∷ []
      pub nodes : k.nodes ≡ nodes_at t.work ++ clauses_of t.made
      pub links : k.links ≡ map links_of t.work.made ++ links_of t.made ∷ []
      pub lengths : k.lengths ≡ lengths_after spec.sig 0 t.work.steps ++ steps_length spec.sig (t.work.steps ++ step ∷
          []) ∷ []
      pub keeps : Keeps above spec old (front ++ entry k.number ∷ [])

    undone_by : (goals front : List Kept) (k : Kept) → goals ≡ front ++ k ∷ [] →
        AreKept above spec [] old.claims front → IsKept above spec old.claims after k → Undone goals
    undone_by goals front k e others h = record {
      front = front;
      k = k;
      is = e;
      nodes = h.nodes ∙ nodes_more t.work step t.made;
      links = h.links ∙ links_more t.work step t.made;
      lengths = h.lengths ∙ lengths_more spec.sig t.work.steps step;
      keeps = record {
        finished = front;
        last = entry k.number ∷ [];
        is = refl;
        claims = others;
        work = subst (λ w. WorkIsKept above spec old.claims w (entry k.number ∷ [])) (sym t.under_work)
            (record { number = h.number; makes = under.makes; nodes = refl; links = refl; lengths = refl });
      };
    }

    -- the block of the claim that the step finished is that of the goal under work
    finished_by : (work : Work) (k : Kept) → proves after.goal after.steps ≡ proves work.goal work.steps →
        IsKept above spec old.claims work k → IsKept above spec old.claims after k
    finished_by work k e h =
        let n : after.goal.name ≡ work.goal.name = ap (λ (c : Claim). c.goal) e in
        let g : work.goal ≡ after.goal = goal_named_one spec fine after.goal.name work.goal after.goal (
          k.number,
          h.number,
          sym n,
        ) under.named in
        let s : after.steps ≡ work.steps = ap (λ (c : Claim). steps_in c.outcome) e in
        let made_by : StepsMake above spec (ProvedBefore spec old.claims) (goal_clause after.goal ∷ []) 0 after.steps
        work.made = subst (λ x. StepsMake above spec (ProvedBefore spec old.claims) (goal_clause after.goal ∷ [])
        0 x work.made) (sym s) (subst (λ x. StepsMake above spec (ProvedBefore spec old.claims) (goal_clause x ∷
        []) 0 work.steps work.made) g h.makes) in
        let makes = more_steps above spec old.claims t.work under step t.made t.makes in
        let m : work.made ≡ after.made = steps_one above one spec fine (ProvedBefore spec old.claims) (goal_clause
        after.goal ∷ []) 0 after.steps work.made after.made made_by makes in
        record {
          number = h.number ∙ ap (λ x. Some x) g;
          makes = makes;
          nodes = h.nodes ∙ (λ i. nodes_of (goal_clause (g i)) (m i));
          links = h.links ∙ ap (λ ms. map links_of ms) m;
          lengths = h.lengths ∙ ap (λ ss. lengths_after spec.sig 0 ss) (sym s);
        }

    settled_undone : (n : ℕ) (goals : List Kept) → Keeps above spec (settled_by n old.claims after) goals →
        Undone goals
    settled_undone zero goals k = by_last k.finished k.last k.is (kept_last [] old.claims (proves after.goal
        after.steps) k.finished k.claims) k.work
      where
        by_last : (finished last : List Kept) → goals ≡ finished ++ last →
            KeptLast [] old.claims (proves after.goal after.steps) finished →
            WorkIsKept above spec (old.claims ++ proves after.goal after.steps ∷ []) None last → Undone goals
        by_last finished [] e r w = undone_by goals r.front r.k (e ∙ append-nil finished ∙
            r.is) r.others (finished_by r.work r.k r.claim_is r.keeps)
        by_last finished (x ∷ last) e r w = absurd w
    settled_undone (suc n) goals k = by_last k.finished k.last k.is k.claims k.work
      where
        by_last : (finished last : List Kept) → goals ≡ finished ++ last → AreKept above spec [] old.claims finished →
            WorkIsKept above spec old.claims (Some after) last → Undone goals
        by_last finished [] e c w = absurd w
        by_last finished (x ∷ []) e c w = undone_by goals finished x e c w
        by_last finished (x ∷ y ∷ last) e c w = absurd w

    -- the last entry loses its last link and the nodes of its children
    pub step_undone : (goals : List Kept) → Keeps above spec new goals → Undone goals
    step_undone goals k = settled_undone (without_step after) goals (subst (λ x. Keeps above spec x goals) t.is k)

    -- and it gets them when the step is taken
    settled_kept : (n : ℕ) (front : List Kept) (k : Kept) → AreKept above spec [] old.claims front →
        IsKept above spec old.claims after k → Keeps above spec (settled_by n old.claims after) (front ++ k ∷ [])
    settled_kept zero front k others h = record {
      finished = front ++ k ∷ [];
      last = [];
      is =
          sym (append-nil (front ++ k ∷ []));
      claims = kept_more [] old.claims front others (proves after.goal
          after.steps) k (after, refl, h);
      work = tt;
    }
    settled_kept (suc n) front k others h = record {
      finished = front;
      last = k ∷ [];
      is = refl;
      claims = others;
      work = h;
    }

    pub step_kept : (front : List Kept) (k : Kept) → AreKept above spec [] old.claims front →
        IsKept above spec old.claims t.work k → Keeps above spec new (front ++ record {
          number = k.number;
          nodes =
              k.nodes ++ clauses_of t.made;
          links = k.links ++ links_of t.made ∷ [];
          lengths =
              k.lengths ++ steps_length spec.sig (t.work.steps ++ step ∷ []) ∷ [];
        } ∷ [])
    step_kept front k others h =
        let more : Kept = record {
          number = k.number;
          nodes = k.nodes ++ clauses_of t.made;
          links =
              k.links ++ links_of t.made ∷ [];
          lengths = k.lengths ++ steps_length spec.sig (t.work.steps ++ step ∷ [])
              ∷ [];
        } in
        let kept : IsKept above spec old.claims after more = record {
          number = h.number;
          makes = more_steps above spec old.claims t.work under step t.made t.makes;
          nodes = ap (λ xs. xs ++ clauses_of t.made) h.nodes ∙ sym (nodes_more t.work step t.made);
          links = ap (λ xs. xs ++ links_of t.made ∷ []) h.links ∙ sym (links_more t.work step t.made);
          lengths = ap (λ ns. ns ++ steps_length spec.sig (t.work.steps ++ step ∷ []) ∷ []) h.lengths ∙
              sym (lengths_more spec.sig t.work.steps step);
        } in
        subst (λ x. Keeps above spec x (front ++ more ∷ [])) (sym t.is) (settled_kept (without_step after) front more
        others kept)

module _ (above : Tree → Tree → Type 0) (c : Clause) where
  -- with what a step makes there are few nodes
  pub says_few : (nodes : List Clause) (row : Row) (m : Children) → Says above c nodes row (Ok m) →
      length nodes + length m.clauses ≤ 10000
  says_few nodes (needs P why rest) m (inl (p, s)) = says_few nodes (rest p) m s
  says_few nodes (needs P why rest) m (inr (n, e)) = absurd (let q : Ok m ≡ Err why = e in cc)
  says_few nodes (makes children refs) m (made, cs, rs, inl (few, e)) =
      let q : Ok m ≡ Ok made = e in
      let k : m ≡ made = cc in
      let n : length m.clauses ≡ length made.clauses = ap (λ (x : Children). length x.clauses) k in
      omega (arith, few.1, n)
  says_few nodes (makes children refs) m (made, cs, rs, inr (few, e)) = absurd (let q : Ok m ≡ Err Limit = e in cc)

module _ (above : Tree → Tree → Type 0) (one : OneRelation above) (spec : Spec) (fine : IsWellSorted spec)
    (old new : State) (sound : IsSound above spec old) where
  -- the last link and the nodes of its children, what is kept without them, and how many nodes are
  -- pending then
  pub last_step : (step : Step) → TakesStep above spec old step new → (goals : List Kept) →
      Keeps above spec new goals → (l : LastStep goals) × Keeps above spec old (l.front ++ without_last l ∷ []) ×
      (length l.nodes - length l.links ≡ pending old)
  last_step step t goals k =
      let u = step_undone above spec one fine old new step sound t goals k in
      let e : AreUnderWork above spec old.claims (Some t.work) = subst (λ w. AreUnderWork above spec old.claims w)
      t.under_work sound.under_work in
      let under : IsUnderWork above spec old.claims t.work = e in
      let many = as_many above spec (ProvedBefore spec old.claims) (goal_clause t.work.goal ∷ []) 0 t.work.steps
      t.work.made under.makes in
      let links : length (map links_of t.work.made) ≡ length t.work.made = length-map t.work.made links_of in
      let few = says_few above t.makes.clause (nodes_at t.work) (row_of spec (ProvedBefore spec old.claims)
      (nodes_at t.work) t.makes.clause step) t.made t.makes.says in
      let counts : length (clauses_of t.made) ≡ length (links_of t.made).clauses =
      length-map t.made.clauses (λ (d : Child). d.clause) ∙ sym (length-map t.made.clauses _) in
      let pends : pending old ≡ pending_of (Some t.work) = ap pending_of t.under_work in (
        record {
          front = u.front;
          last = u.k;
          is = u.is;
          links = map links_of t.work.made;
          link = links_of t.made;
          links_are = u.links;
          lengths = lengths_after spec.sig 0 t.work.steps;
          total = steps_length spec.sig (t.work.steps ++ step ∷ []);
          lengths_are = u.lengths;
          nodes = nodes_at t.work;
          others = clauses_of t.made;
          nodes_are = u.nodes;
          counted = counts;
          reached = omega (arith, links, many, under.unfinished);
          few = omega (arith, few);
        },
        u.keeps,
        omega (arith, pends, links, many),
      )
