-- A candidate whose question has at most one answer gives at most one move.
use Rattle.std.proofs.Common.{◌≡◌, ℕ, List, [], ◌∷◌, ap, sym, ◌∙◌, subst}
use Rattle.std.specs.List.{AllByRecursion}
use Rattle.term_core.specs.Tree.{Tree}
use Rattle.clause_core.specs.declared.answers.Children.{Children}
use Rattle.clause_core.specs.declared.clauses.Clause.{Clause}
use Rattle.clause_core.specs.declared.steps.Step.{Step}
use Rattle.fitting_lists.specs.Questions.{Answers}
use Rattle.routine_proof.specs.declared.moves.Move.{Move}
use Rattle.routine_proof.specs.Blocks.{Table}
use Rattle.routine_proof.specs.Candidates.{Candidate, Gives}
use Rattle.routine_proof.specs.Ways.{Node}
use Rattle.routine_proof.proofs.Firsts.{HasOne}

-- a step makes one thing
abbrev pub SaysOne : Table → Type 0
SaysOne says =
    (nodes : List Clause) (c : Clause) (step : Step) (a b : Children) →
    says nodes c step a → says nodes c step b → a ≡ b

abbrev pub HasOneAnswer : Candidate → Type 0
HasOneAnswer c =
    (xs ys : List Tree) → Answers c.question xs → Answers c.question ys → xs ≡ ys

abbrev pub AreDetermined : (ℕ → List Node → Node → List Candidate) → Type 0
AreDetermined candidates =
    (k : ℕ) (nodes : List Node) (node : Node) →
    AllByRecursion HasOneAnswer (candidates k nodes node)

module _
    (says : Step → Children → Type 0)
    (one : (step : Step) (a b : Children) → says step a → says step b → a ≡ b)
  where
    -- moves by one step are one
    pub same_move :
        (r s : Move) → r.step ≡ s.step → says r.step r.made → says s.step s.made → r ≡ s
    same_move r s steps p q =
        let defined : says s.step r.made = subst (λ (t : Step). says t r.made) steps p in
        let made : r.made ≡ s.made = one s.step r.made s.made defined q in
        λ i. record { step = steps i; made = made i }

    pub one_move : (c : Candidate) → HasOneAnswer c → HasOne (Gives says) c
    one_move c unique r s p q =
        let lists : p.list ≡ q.list = unique p.list q.list p.answers q.answers in
        same_move r s (p.step ∙ ap (λ l. c.step l) lists ∙ sym q.step) p.defined q.defined

    pub each_one :
        (cs : List Candidate) →
        AllByRecursion HasOneAnswer cs → AllByRecursion (HasOne (Gives says)) cs
    each_one [] d = tt
    each_one (c ∷ cs) d = (one_move c d.0, each_one cs d.1)
