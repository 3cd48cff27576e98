-- Clauses of nodes that are kept and let go. What the table says of a step at a node depends of the nodes so far
-- on how many they are, and on the clause of the node that the step refers to.
use Rattle.std.proofs.Common.{◌≡◌, ◌⊎◌, ℕ, zero, suc, ◌+◌, ◌≤◌, ◌<◌, List, [], ◌∷◌, ◌++◌, Some, inl, inr, refl, sym}
use Rattle.std.proofs.Common.{◌∙◌, ap, subst, lit≤, arith, length, set}
use Rattle.std.specs.Prelude.{Result, slice_get, slice_index_or}
use Rattle.std.proofs.lemmas.List.{length-set}
use Rattle.std.proofs.lemmas.Option.{none-some}
use Rattle.term_core.specs.Tree.{Tree}
use Rattle.spec_core.specs.declared.records.Spec.{Spec}
use Rattle.spec_core.specs.Sig.{Sig}
use Rattle.clause_core.specs.declared.clauses.Clause.{Clause}
use Rattle.clause_core.specs.declared.steps.Step.{Step}
use Rattle.clause_core.specs.declared.steps.Step.TheVariants.{Subsume, Hyp}
use Rattle.clause_core.specs.declared.answers.Children.{Children}
use Rattle.clause_core.specs.declared.answers.Why.{Why}
use Rattle.clause_core.specs.Referred.{NodeAt}
use Rattle.clause_core.specs.Rows.{Row, needs, makes}
use Rattle.clause_core.specs.Says.{Says}
use Rattle.clause_core.specs.Steps.{row_of}
use Rattle.descent.specs.SortedChildren.{IsNode}
use Rattle.inference_rules.specs.Answers.{clauses_of}
use Rattle.inference_rules.specs.Nodes.{AreNodes}
use Rattle.block_links.specs.Links.{without_sides}
use Rattle.block_steps.specs.declared.taken_steps.TakenSteps.{TakenSteps}
use Rattle.replay_check.specs.Kept.{IsNeededBehind, IsNeededFrom, LetsGo, TellLastUses, referred}

module _ (above : Tree → Tree → Type 0) (c : Clause) (nodes others : List Clause)
    (long : length nodes ≡ length others) where
  -- a row says the same over as many nodes
  says_over : (row : Row) (answer : Result Children Why) → Says above c nodes row answer →
      Says above c others row answer
  says_over (needs P why rest) answer (inl h) = inl (h.0, says_over (rest h.0) answer h.1)
  says_over (needs P why rest) answer (inr h) = inr h
  says_over (makes children refs) answer (m, p, q, inl h) = (
    m,
    p,
    q,
    inl ((h.0.0, subst (λ n. n + length m.clauses ≤ 10000) long h.0.1), h.1),
  )
  says_over (makes children refs) answer (m, p, q, inr h) = (
    m,
    p,
    q,
    inr (λ a. h.0 (a.0, subst (λ n. n + length m.clauses ≤ 10000) (sym long) a.1), h.1),
  )

  abbrev node_too : (number : ℕ) → slice_get nodes number ≡ slice_get others number → NodeAt nodes number →
      NodeAt others number
  node_too number same at = record { clause = at.clause; is = sym same ∙ at.is }

  abbrev node_back : (number : ℕ) → slice_get nodes number ≡ slice_get others number → NodeAt others number →
      NodeAt nodes number
  node_back number same at = record { clause = at.clause; is = same ∙ at.is }

  module _ (spec : Spec) (usable : ℕ → Type 0) where
    -- so does the row of a step, if the node that it refers to has the same clause
    row_over : (step : Step) (answer : Result Children Why) →
        ((k : ℕ) → referred step ≡ Some k → slice_get nodes k ≡ slice_get others k) →
        Says above c nodes (row_of spec usable nodes c step) answer →
        Says above c nodes (row_of spec usable others c step) answer
    row_over (Subsume node terms) answer same (inl h) = inl (node_too node (same node refl) h.0, h.1)
    row_over (Subsume node terms) answer same (inr h) = inr (λ at. h.0 (node_back node (same node refl) at), h.1)
    row_over (Hyp node terms place left) answer same (inl h) = inl (node_too node (same node refl) h.0, h.1)
    row_over (Hyp node terms place left) answer same (inr h) = inr (λ at. h.0 (node_back node (same node refl) at), h.1)
    row_over step answer same h = h

    pub step_over : (step : Step) (answer : Result Children Why) →
        ((k : ℕ) → referred step ≡ Some k → slice_get nodes k ≡ slice_get others k) →
        Says above c nodes (row_of spec usable nodes c step) answer →
        Says above c others (row_of spec usable others c step) answer
    step_over step answer same h = says_over (row_of spec usable others c step) answer (row_over step answer same h)

-- after lists of one length come the same clauses
pub same_joined : (xs ys zs : List Clause) (k : ℕ) → length xs ≡ length ys → slice_get xs k ≡ slice_get ys k →
    slice_get (xs ++ zs) k ≡ slice_get (ys ++ zs) k
same_joined [] [] zs k long same = refl
same_joined [] (y ∷ ys) zs k long same = absurd (omega (arith, long))
same_joined (x ∷ xs) [] zs k long same = absurd (omega (arith, long))
same_joined (x ∷ xs) (y ∷ ys) zs zero long same = same
same_joined (x ∷ xs) (y ∷ ys) zs (suc k) long same = same_joined xs ys zs k (omega (arith, long)) same

-- a clause is exchanged
other_stays : (xs : List Clause) (i k : ℕ) (x : Clause) → (k ≡ i → ⊥) → slice_get (set xs i x) k ≡ slice_get xs k
other_stays [] i k x not = refl
other_stays (y ∷ ys) zero zero x not = absurd (not refl)
other_stays (y ∷ ys) zero (suc k) x not = refl
other_stays (y ∷ ys) (suc i) zero x not = refl
other_stays (y ∷ ys) (suc i) (suc k) x not = other_stays ys i k x (λ e. not (ap suc e))

each_exchanged : (P : Clause → Type 0) (x : Clause) → P x → (xs : List Clause) (i : ℕ) →
    ((k : ℕ) (d : Clause) → slice_get xs k ≡ Some d → P d) → (k : ℕ) (d : Clause) →
    slice_get (set xs i x) k ≡ Some d → P d
each_exchanged P x p [] i each k d at = each k d at
each_exchanged P x p (y ∷ ys) zero each zero d at = let q : Some x ≡ Some d = at in let e : x ≡ d = cc in subst P e p
each_exchanged P x p (y ∷ ys) zero each (suc k) d at = each (suc k) d at
each_exchanged P x p (y ∷ ys) (suc i) each zero d at = each 0 d at
each_exchanged P x p (y ∷ ys) (suc i) each (suc k) d at = each_exchanged P x p ys i
    (λ j e get. each (suc j) e get) k d at

-- a clause without sides can be in a block
empty_node : (sig : Sig) → IsNode sig without_sides
empty_node sig = record {
  sorted = record {
    variables = tt;
    premises = λ k e is. absurd (none-some e is);
    conclusions = λ k e is. absurd
        (none-some e is);
  };
  is_tidied = refl;
  within = record { equations = lit≤ tt; depth = lit≤ tt; size = lit≤ tt };
}

-- some are let go, and then others
pub both_go : (needed : ℕ → Type 0) (old between new : TakenSteps) → LetsGo needed old between →
    LetsGo needed between new → LetsGo needed old new
both_go needed old between new p q = record {
  kept = record { long = q.kept.long ∙ p.kept.long; same = λ k h. q.kept.same k h ∙ p.kept.same k h };
  nodes = λ sig are. q.nodes sig (p.nodes sig are);
  links = q.links ∙ p.links;
}

-- one is let go
pub one_goes : (lasts : List ℕ) (k node : ℕ) (old new : TakenSteps) → node ≤ k →
    slice_index_or lasts node 0 ≤ k →
    clauses_of new.nodes.items ≡ set (clauses_of old.nodes.items) node without_sides →
    new.links.items ≡ old.links.items → LetsGo (IsNeededBehind lasts k) old new
one_goes lasts k node old new here last nodes links = record {
  kept = record {
    long = ap length nodes ∙ length-set (clauses_of old.nodes.items) node without_sides;
    same = λ j needed. subst (λ cs. slice_get cs j ≡ slice_get (clauses_of old.nodes.items) j) (sym nodes)
        (other_stays (clauses_of old.nodes.items) node j without_sides (another j needed));
  };
  nodes = λ sig are. subst (λ cs. AreNodes sig cs) (sym nodes)
      (each_exchanged (IsNode sig) without_sides (empty_node sig) (clauses_of old.nodes.items) node are);
  links = links;
}
  where
    another : (j : ℕ) → IsNeededBehind lasts k j → j ≡ node → ⊥
    another j (inl lt) e = omega (arith, lt, here, e)
    another j (inr lt) e = let h : k < slice_index_or lasts node 0 = subst (λ i. k < slice_index_or lasts i 0) e
        lt in omega (arith, h, last)

-- what is needed from a step on is needed after the step before it, and from that step on
pub needed_behind : (steps : List Step) (lasts : List ℕ) → length lasts ≡ length steps →
    TellLastUses steps lasts → (i : ℕ) → i < length steps → (node : ℕ) → IsNeededFrom steps (i + 1) node →
    IsNeededBehind lasts i node
needed_behind steps lasts long last i lt node (inl le) = inl (omega (arith, le))
needed_behind steps lasts long last i lt node (inr (k, step, le, at, is)) = elim (told_or_not node (length lasts)) [
  | inl l ↦ inr (let h = last k node step at is l in omega (arith, le, h))
  | inr l ↦ inl (omega (arith, l, long, lt))
]
  where
    told_or_not : (k n : ℕ) → (k < n) ⊎ (n ≤ k)
    told_or_not k n = grind arith

pub needed_before : (steps : List Step) (i node : ℕ) → IsNeededFrom steps (i + 1) node → IsNeededFrom steps i node
needed_before steps i node (inl le) = inl (omega (arith, le))
needed_before steps i node (inr (k, step, le, at, is)) = inr (k, step, omega (arith, le), at, is)
