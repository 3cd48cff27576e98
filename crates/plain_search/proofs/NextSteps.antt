-- The step of a pending node: the first of the candidates that is possible, with what it makes.
use Rattle.std.proofs.Common.{◌≡◌, ◌≢◌, ℕ, ◌+◌, ◌*◌, ◌^◌, ◌<◌, ◌≤◌, ◌⊎◌, inl, inr, List, [], ◌∷◌, length, map, Bool}
use Rattle.std.proofs.Common.{true, false, Some, refl, ap, sym, ◌∙◌, subst, lit<, arith}
use Rattle.std.specs.Prelude.{slice_get, Contains}
use Rattle.std.specs.List.{AllByRecursion}
use Rattle.std.proofs.lemmas.Option.{slice_get_within}
use Rattle.term_core.specs.Tree.{Tree, Trees, app, none, some, trees_of, list_of, tree_size, tree_depth, sizes}
use Rattle.term_core.specs.Variables.{Occurs, OccursAny, NumberedAll}
use Rattle.term_core.specs.declared.ids.SortId.{SortId}
use Rattle.term_core.proofs.Trees.{size_positive}
use Rattle.term_core.proofs.SameTrees.{same_tree_or_not}
use Rattle.spec_core.specs.declared.records.Equation.{Equation}
use Rattle.spec_core.specs.declared.records.Spec.{Spec}
use Rattle.spec_core.specs.Sig.{IsConstructor}
use Rattle.spec_core.specs.Sorts.{SortedAll}
use Rattle.spec_core.specs.WellSorted.{IsWellSorted}
use Rattle.spec_core.proofs.Determined.{occur_within}
use Rattle.substitutions.specs.Substitution.{apply}
use Rattle.clause_core.specs.declared.clauses.Clause.{Clause}
use Rattle.clause_core.specs.declared.clauses.Relation.TheVariants.{Less}
use Rattle.clause_core.specs.declared.steps.Step.{Step}
use Rattle.clause_core.specs.declared.steps.Step.TheVariants.{Trivial, Subsume, Rule as RuleStep, Decompose}
use Rattle.clause_core.specs.declared.answers.Child.{Child}
use Rattle.clause_core.specs.Equations.{swapped}
use Rattle.clause_core.specs.Limits.{IsWithin, clause_size}
use Rattle.clause_core.specs.Places.{side, with_side}
use Rattle.clause_core.specs.Simplifying.{pairs}
use Rattle.clause_core.specs.Tidied.{tidied, IsTidied}
use Rattle.clause_core.proofs.TidiedLimits.{tidied_size}
use Rattle.normalization.specs.FirstUses.{IsFirstUse}
use Rattle.normalization.specs.Narrow.{IsNarrow, AreNarrow}
use Rattle.normalization.specs.NormalForms.{IsNormal, RunsWithin}
use Rattle.normalization.proofs.NormalTerms.{args_normal}
use Rattle.plain_proof.specs.Closings.{HaveSameHead, IsInstance, Closes, identical, stripped, instanced, ClosesAll}
use Rattle.plain_proof.specs.Closings.{more_pairs}
use Rattle.plain_proof.specs.Limits.{AreWithin, equation_clause}
use Rattle.plain_proof.proofs.NarrowTerms.{use_narrow}
use Rattle.plain_proof.proofs.RenamedTidying.{renamed, renamed_all}
use Rattle.plain_search.specs.Choices.{place_in, IsTrivial, IsUse, IsDecomposition, IsReference, IsPossible, IsChosen}
use Rattle.plain_search.specs.Choices.{with_terms}
use Rattle.plain_search.proofs.Renamings.{first_renamed, normal_renamed}
use Rattle.plain_search.proofs.NodePairs.{number, back, taken, node_ctx, in_node, IsHere, again, node_is}
use Rattle.plain_search.proofs.OccurrencesAfterUses.{use_occurs}
use Rattle.plain_search.proofs.TrivialSteps.{nothing, trivial_says, trivial_same}
use Rattle.plain_search.proofs.UseSteps.{clause_of, one_child, use_says, no_use}
use Rattle.plain_search.proofs.DecompositionSteps.{child_of, a_child_each, decompose_says, no_decomposition}
use Rattle.plain_search.proofs.ReferenceSteps.{to_first, reference_says, swapped_says, terms_fit}
use Rattle.plain_search.proofs.Matching.{Fit, sorted_long, fit_or_not}
use Rattle.plain_search.proofs.GoalInstances.{terms, terms_make, terms_sorted}
use Rattle.plain_search.proofs.PendingNodes.{Pending, pending_positive, within_node, pair_within}
use Rattle.plain_search.proofs.StepBytes.{bytes, IsCheap, trivial_short, decompose_short, rule_short, subsume_short}
use Rattle.plain_search.proofs.StepBytes.{terms_small, numbered_all_few}
use Rattle.plain_search.proofs.Building.{AllClosable, total, SaysMade, StepAt, HasSteps}

never : {A : Type 0} → false ≡ true → A
never q = absurd (let r : false ≡ true = q in cc)

-- a renamed application
heads_taken : (r back : ℕ → ℕ) (t : Tree) (f : ℕ) (ts : Trees) → renamed back (renamed r t) ≡ t →
    renamed r t ≡ app f ts → t ≡ app f (renamed_all back ts)
heads_taken r back t f ts takes e = sym takes ∙ ap (λ x. renamed back x) e

module _ (tidies : (c : Clause) → IsTidied (tidied c)) (above : Tree → Tree → Type 0) (spec : Spec)
    (fine : IsWellSorted spec) (gctx : List SortId) (e : Equation) (ranges : (n : ℕ) →
    Occurs n e.left ⊎ Occurs n e.right → n < length gctx) where
  -- the first node
  abbrev pub start_ctx : List SortId
  start_ctx = node_ctx gctx e.left e.right

  abbrev pub start_equation : Equation
  start_equation = record { left = in_node gctx e.left e.right e.left; right = in_node gctx e.left e.right e.right }

  abbrev pub start : Clause
  start = clause_of start_ctx start_equation

  abbrev pub Chosen : List Clause → Clause → Step → Type 0
  Chosen nodes c step = IsChosen above spec (Contains []) start nodes c step

  abbrev At : List Clause → Clause → ℕ → Bool → Type 1
  At nodes c m mark = StepAt above spec Chosen start (Pending spec gctx e) (IsCheap spec) (bytes spec.sig) 213
      nodes c m mark

  module _ (nodes : List Clause) (there : slice_get nodes 0 ≡ Some start) (m : ℕ) (mark : Bool)
      (room : length nodes + m ≤ 10001) (over : List SortId) (a b : Tree) where
    abbrev ctx : List SortId
    ctx = node_ctx over a b

    abbrev l : Tree
    l = in_node over a b a

    abbrev r : Tree
    r = in_node over a b b

    abbrev here : Equation
    here = record { left = l; right = r }

    abbrev c : Clause
    c = clause_of ctx here

    abbrev NotPossible : (Step → Type 0) → Type 0
    NotPossible IsOne = (s : Step) → IsPossible above spec (Contains []) start nodes c IsOne s → ⊥

    trivial_at : 1 ≤ m → l ≡ r → At nodes c m mark
    trivial_at pos same =
        let says = λ (usable : ℕ → Type 0). trivial_says above spec usable nodes ctx l r
        (omega (arith, room, pos)) same in
        record {
          step = Trivial 1;
          made = nothing;
          marks = [];
          says = says;
          chosen = inl (refl, nothing, says (Contains []));
          fine = record { falls = tt; refers = tt };
          marked = λ q. refl;
          closable = tt;
          smaller = omega (arith, pos);
          cheap = λ z. omega (arith, trivial_short spec.sig, pos);
        }

    module _ (differ : l ≢ r) where
      not_trivial : NotPossible IsTrivial
      not_trivial s p = differ (trivial_same above spec (Contains []) nodes ctx l r start s p)

      -- a use in one side, while the other one stays
      use_at :
          (left : Bool) (p : List ℕ) (k : ℕ) (u x y : Tree) (n : ℕ) →
          IsFirstUse spec (side left here) p k (in_node over a b u) →
          with_side left here (in_node over a b u) ≡ record { left = in_node over a b x; right = in_node over a b y } →
          ((j : ℕ) → Occurs j x ⊎ Occurs j y → IsHere over a b j) → AreWithin x y →
          ((s : Step) → IsPossible above spec (Contains []) start nodes c (IsUse spec c left) s → Chosen nodes c s) →
          Pending spec gctx e (tidied (equation_clause over x y)) n false → n + 1 ≤ m →
          (IsCheap spec → bytes spec.sig (RuleStep (place_in left p) k) ≤ 213) → At nodes c m mark
      use_at left p k u x y n w is occur within chosen pending smaller cheap =
          let child : tidied (clause_of ctx (with_side left here (in_node over a b u))) ≡ tidied
          (equation_clause over x y) = ap (λ d. tidied (clause_of ctx d)) is ∙ again over a b x y occur in
          let fits = subst (λ d. IsWithin d) (sym child) (within_node over x y within) in
          let says = λ (usable : ℕ → Type 0). use_says above spec fine usable nodes ctx here left p k
          (in_node over a b u) (omega (
            arith,
            room,
            smaller,
            pending_positive spec gctx e (tidied (equation_clause over x y)) n false pending,
          )) w fits in
          record {
            step = RuleStep (place_in left p) k;
            made = one_child (clause_of ctx (with_side left here (in_node over a b u)));
            marks = (n, false) ∷ [];
            says = says;
            chosen = chosen (RuleStep (place_in left p) k) (
              (here, p, k, in_node over a b u, refl, w, refl),
              one_child (clause_of ctx (with_side left here (in_node over a b u))),
              says (Contains []),
            );
            fine = record { falls = (refl, tt); refers = tt };
            marked = λ q. refl;
            closable = (subst (λ d. Pending spec gctx e d n false) (sym child) pending, tt);
            smaller = omega (arith, smaller);
            cheap = λ z. omega (arith, cheap z, smaller);
          }

      takes_a : renamed (back over a b) l ≡ a
      takes_a = taken over a b a (λ n o. inl o)

      takes_b : renamed (back over a b) r ≡ b
      takes_b = taken over a b b (λ n o. inr o)

      number_small : IsCheap spec → (t u : Tree) (p : List ℕ) (k : ℕ) → IsFirstUse spec t p k u → k < 10 ^ 4
      number_small z t u p k w = omega (
        arith,
        w.rule.listed.1,
        slice_get_within spec.rules w.rule.listed.0 w.rule.rule w.rule.listed.2,
        z.1,
      )

      left_deep : AreWithin a b → tree_depth a ≤ 100
      left_deep w = omega (arith, w.depth)

      right_deep : AreWithin a b → tree_depth b ≤ 100
      right_deep w = omega (arith, w.depth)

      left_at :
          (left right : Tree) (w : List ℕ × ℕ) (ws xs : List (List ℕ × ℕ)) (s i : ℕ) →
          RunsWithin spec (λ t. AreWithin t b) a (w ∷ ws) left → IsNormal spec left →
          RunsWithin spec (λ t. AreWithin left t) b xs right → IsNormal spec right →
          Closes spec.sig gctx e over left right s i → AreWithin a b → IsNarrow a → IsNarrow b →
          m ≡ length (w ∷ ws) + length xs + tree_size left + tree_size right → At nodes c m mark
      left_at left right w ws xs s i lr ln rr rn closes within na nb size =
          let f = first_renamed spec fine (number over a b) (back over a b) a takes_a lr.0 w.0 w.1 lr.1 in
          let n = length ws + length xs + tree_size left + tree_size right in
          let occur = λ (j : ℕ) (o : Occurs j lr.0 ⊎ Occurs j b).
          (elim o as (λ _. IsHere over a b j) [
            | inl q ↦ inl (use_occurs spec fine a lr.0 w.0 w.1 j lr.1 q)
            | inr q ↦ inr q
          ]) in
          let pending : Pending spec gctx e (tidied (equation_clause over lr.0 b)) n false = record {
            over = over;
            a = lr.0;
            b = b;
            left = left;
            right = right;
            left_uses = ws;
            right_uses = xs;
            strippings = s;
            instances = i;
            is = refl;
            within = lr.2;
            left_runs = lr.3;
            left_normal = ln;
            right_runs = rr;
            right_normal = rn;
            closes = closes;
            progress = λ q. never q;
            number = refl;
            left_narrow = use_narrow spec fine a lr.0 w.0 w.1 lr.1 na;
            right_narrow = nb;
          } in
          use_at true w.0 w.1 lr.0 lr.0 b n f refl occur lr.2 (λ s p. inr (not_trivial, inl p)) pending
          (omega (arith, size)) (λ z. rule_short spec.sig true w.0 w.1 a lr.1.old lr.1.at na
          (left_deep within) (number_small z a lr.0 w.0 w.1 lr.1))

      right_at :
          (right : Tree) (w : List ℕ × ℕ) (xs : List (List ℕ × ℕ)) (s i : ℕ) → IsNormal spec a →
          RunsWithin spec (λ t. AreWithin a t) b (w ∷ xs) right → IsNormal spec right →
          Closes spec.sig gctx e over a right s i → AreWithin a b → IsNarrow a → IsNarrow b →
          m ≡ length (w ∷ xs) + tree_size a + tree_size right → At nodes c m mark
      right_at right w xs s i ln rr rn closes within na nb size =
          let f = first_renamed spec fine (number over a b) (back over a b) b takes_b rr.0 w.0 w.1 rr.1 in
          let n = length xs + tree_size a + tree_size right in
          let occur = λ (j : ℕ) (o : Occurs j a ⊎ Occurs j rr.0).
          (elim o as (λ _. IsHere over a b j)
          [ inl q ↦ inl q | inr q ↦ inr (use_occurs spec fine b rr.0 w.0 w.1 j rr.1 q) ]) in
          let normal = normal_renamed spec fine (number over a b) (back over a b) a takes_a ln in
          let pending : Pending spec gctx e (tidied (equation_clause over a rr.0)) n false = record {
            over = over;
            a = a;
            b = rr.0;
            left = a;
            right = right;
            left_uses = [];
            right_uses = xs;
            strippings = s;
            instances = i;
            is = refl;
            within = rr.2;
            left_runs = refl;
            left_normal = ln;
            right_runs = rr.3;
            right_normal = rn;
            closes = closes;
            progress = λ q. never q;
            number = omega arith;
            left_narrow = na;
            right_narrow = use_narrow spec fine b rr.0 w.0 w.1 rr.1 nb;
          } in
          use_at false w.0 w.1 rr.0 a rr.0 n f refl occur rr.2
          (λ s p. inr (
            not_trivial,
            inr (no_use above spec fine (Contains []) nodes ctx here true start normal, inl p),
          )) pending
          (omega (arith, size)) (λ z. rule_short spec.sig false w.0 w.1 b rr.1.old rr.1.at nb
          (right_deep within) (number_small z b rr.0 w.0 w.1 rr.1))

      -- the children of a pair whose constructors are stripped
      record ArgsMade (es : List Equation) (n : ℕ) : Type 0 where
        marks : List (ℕ × Bool)
        closable : AllClosable (Pending spec gctx e) (map (λ (d : Child). d.clause) (map (child_of ctx) es)) marks
        within : AllByRecursion (λ (d : Child). IsWithin d.clause) (map (child_of ctx) es)
        falls : AllByRecursion (λ (d : Child). d.relation ≡ Less) (map (child_of ctx) es)
        few : total marks ≤ n
        count : length es ≤ n

      args_at :
          (f g : ℕ) (ts us : Trees) (s i : ℕ) → ClosesAll spec.sig gctx e over ts us s i →
          AllByRecursion (IsNormal spec) (list_of ts) → AllByRecursion (IsNormal spec) (list_of us) →
          AreWithin (app f ts) (app g us) → ((n : ℕ) → OccursAny n ts → IsHere over a b n) →
          ((n : ℕ) → OccursAny n us → IsHere over a b n) → AreNarrow ts → AreNarrow us →
          ArgsMade (pairs (renamed_all (number over a b) ts) (renamed_all (number over a b) us)) (sizes ts + sizes us)
      args_at f g none none s i all na nb w ht hu nt
          nu = record { marks = []; closable = tt; within = tt; falls = tt; few = omega arith; count = omega arith }
      args_at f g none (some u us) s i all na nb w ht hu nt nu = elim all [ ]
      args_at f g (some t ts) none s i all na nb w ht hu nt nu = elim all [ ]
      args_at f g (some t ts) (some u us) s i (more_pairs {s = s1} {i = i1} {p = s2} {j = i2} one others k q) na
          nb w ht hu nt nu =
          let h = pair_within f g t u ts us w in
          let rest = args_at f g ts us s2 i2 others na.1 nb.1 h.1 (λ n o. ht n (inr o)) (λ n o. hu n (inr o))
          nt.1 nu.1 in
          let occur = λ (j : ℕ) (o : Occurs j t ⊎ Occurs j u).
          (elim o as (λ _. IsHere over a b j) [ inl x ↦ ht j (inl x) | inr x ↦ hu j (inl x) ]) in
          let child = again over a b t u occur in
          let n = tree_size t + tree_size u in
          let pos = size_positive t in
          let pending : Pending spec gctx e (tidied (equation_clause over t u)) n false = record {
            over = over;
            a = t;
            b = u;
            left = t;
            right = u;
            left_uses = [];
            right_uses = [];
            strippings = s1;
            instances = i1;
            is = refl;
            within = h.0;
            left_runs = refl;
            left_normal = na.0;
            right_runs = refl;
            right_normal = nb.0;
            closes = one;
            progress = λ x. never x;
            number = omega arith;
            left_narrow = nt.0;
            right_narrow = nu.0;
          } in
          record {
            marks = (n, false) ∷ rest.marks;
            closable = (subst (λ d. Pending spec gctx e d n false) (sym child) pending, rest.closable);
            within = (subst (λ d. IsWithin d) (sym child) (within_node over t u h.0), rest.within);
            falls = (refl, rest.falls);
            few = omega (arith, rest.few);
            count = omega (arith, rest.count, pos);
          }

      -- both sides are normal
      module _ (a_normal : IsNormal spec a) (b_normal : IsNormal spec b) (within : AreWithin a b)
          (na : IsNarrow a) (nb : IsNarrow b) (size : m ≡ tree_size a + tree_size b) where
        no_left : NotPossible (IsUse spec c true)
        no_left = no_use above spec fine (Contains []) nodes ctx here true start
            (normal_renamed spec fine (number over a b) (back over a b) a takes_a a_normal)

        no_right : NotPossible (IsUse spec c false)
        no_right = no_use above spec fine (Contains []) nodes ctx here false start
            (normal_renamed spec fine (number over a b) (back over a b) b takes_b b_normal)

        stripped_at : (f : ℕ) (ts us : Trees) (s i : ℕ) → IsConstructor spec.sig f → a ≡ app f ts →
            b ≡ app f us → ClosesAll spec.sig gctx e over ts us s i → At nodes c m mark
        stripped_at f ts us s i con p q all =
            let k = number over a b in
            let es = pairs (renamed_all k ts) (renamed_all k us) in
            let normal_a = args_normal spec f ts (subst (λ x. IsNormal spec x) p a_normal) in
            let normal_b = args_normal spec f us (subst (λ x. IsNormal spec x) q b_normal) in
            let w : AreWithin (app f ts) (app f us) = subst (λ x. AreWithin x (app f us)) p
            (subst (λ x. AreWithin a x) q within) in
            let narrow_a : IsNarrow (app f ts) = subst (λ x. IsNarrow x) p na in
            let narrow_b : IsNarrow (app f us) = subst (λ x. IsNarrow x) q nb in
            let made = args_at f f ts us s i all normal_a normal_b w
            (λ n o. inl (subst (λ x. Occurs n x) (sym p) o))
            (λ n o. inr (subst (λ x. Occurs n x) (sym q) o)) narrow_a.1 narrow_b.1 in
            let size_a : tree_size a ≡ 1 + sizes ts = ap (λ x. tree_size x) p in
            let size_b : tree_size b ≡ 1 + sizes us = ap (λ x. tree_size x) q in
            let says = λ (usable : ℕ → Type 0). decompose_says above spec usable nodes ctx here f
            (renamed_all k ts) (renamed_all k us) con (ap (λ x. renamed k x) p) (ap (λ x. renamed k x) q)
            (omega (arith, room, made.count, size, size_a, size_b)) made.within in
            record {
              step = Decompose true 1;
              made = a_child_each ctx es;
              marks = made.marks;
              says = says;
              chosen = inr (
                not_trivial,
                inr (no_left, inr (no_right, inl (refl, a_child_each ctx es, says (Contains [])))),
              );
              fine = record { falls = made.falls; refers = tt };
              marked = λ x. refl;
              closable = made.closable;
              smaller = omega (arith, made.few, size, size_a, size_b);
              cheap = λ z. omega (arith, decompose_short spec.sig, made.few, size, size_a, size_b);
            }

        heads_back : HaveSameHead spec.sig l r → HaveSameHead spec.sig a b
        heads_back h = (
          h.0,
          renamed_all (back over a b) h.1,
          renamed_all (back over a b) h.2,
          h.3,
          heads_taken (number over a b) (back over a b) a h.0 h.1 takes_a h.4,
          heads_taken (number over a b) (back over a b) b h.0 h.2 takes_b h.5,
        )

        module _ (apart : HaveSameHead spec.sig a b → ⊥) (unmarked : mark ≡ true → ⊥) where
          no_decompose : NotPossible IsDecomposition
          no_decompose = no_decomposition above spec (Contains []) nodes ctx here start (λ h. apart (heads_back h))

          -- a reference that is chosen closes the node
          closed_by : (ts : List Tree) → SaysMade above spec nodes c (Subsume 0 ts) to_first →
              Chosen nodes c (Subsume 0 ts) → (IsCheap spec → bytes spec.sig (Subsume 0 ts) ≤ 213 * m) →
              At nodes c m mark
          closed_by ts says chosen cheap = record {
            step = Subsume 0 ts;
            made = to_first;
            marks = [];
            says = says;
            chosen = chosen;
            fine = record { falls = tt; refers = ((refl, refl), tt) };
            marked = λ q. absurd (unmarked q);
            closable = tt;
            smaller = omega (arith, size, size_positive a);
            cheap = λ z. omega (arith, cheap z);
          }

          node_within : IsWithin c
          node_within = subst (λ d. IsWithin d) (node_is over a b) (within_node over a b within)

          node_size : tree_size l + tree_size r ≡ m
          node_size =
              let k : clause_size (equation_clause ctx l r) ≡ clause_size (equation_clause over a b) = ap
              (λ d. clause_size d) (sym (node_is over a b)) ∙ tidied_size (equation_clause over a b) in
              omega (arith, k, size)

          -- the variables of the node are few
          node_numbered : NumberedAll 0 (some l (some r none)) (length ctx)
          node_numbered = subst (λ d. IsTidied d) (node_is over a b) (tidies (equation_clause over a b))

          start_numbered : NumberedAll 0 (some start_equation.left (some start_equation.right none)) (length start_ctx)
          start_numbered = subst (λ d. IsTidied d) (node_is gctx e.left e.right)
              (tidies (equation_clause gctx e.left e.right))

          reference_short : (ts : List Tree) (d : Equation) → with_terms ts (start_equation ∷ []) ≡ d ∷ [] →
              tree_size d.left + tree_size d.right ≡ m → SortedAll spec.sig ctx (trees_of ts) start_ctx →
              IsCheap spec → bytes spec.sig (Subsume 0 ts) ≤ 213 * m
          reference_short ts d is sized sorted z =
              let s = map (λ (t : Tree). Some t) ts in
              let q : (record {
                left = apply s start_equation.left;
                right = apply s
                    start_equation.right;
              }) ∷ [] ≡ d ∷ [] = is in
              let k : record { left = apply s start_equation.left; right = apply s start_equation.right } ≡ d = cc in
              let long : length start_ctx ≡ length ts = sym (sorted_long spec.sig ctx ts start_ctx sorted) in
              let few = terms_small ts start_equation.left start_equation.right
              (subst (λ n. NumberedAll 0 (some start_equation.left (some start_equation.right none)) n) long
              start_numbered) in
              let variables = numbered_all_few 0 (length ctx) (some l (some r none)) node_numbered in
              let line = subsume_short spec.sig z.0 ts
              (λ n o. omega (
                arith,
                occur_within spec.sig ctx (trees_of ts) start_ctx sorted n o,
                variables,
                node_size,
                node_within.size,
              )) in
              omega (
                arith,
                line,
                few,
                ap (λ (x : Equation). tree_size x.left) k,
                ap (λ (x : Equation). tree_size x.right) k,
                sized,
                size,
                size_positive a,
              )

          abbrev Fits_here : List Tree → Type 0
          Fits_here ts = Fit spec.sig start_ctx ctx start_equation here start_numbered ts

          written_at : (ts : List Tree) → Fits_here ts → At nodes c m mark
          written_at ts fit =
              let says = λ (usable : ℕ → Type 0). reference_says above spec usable nodes start_ctx
              start_equation there ctx here ts (omega (arith, room, size, size_positive a)) fit.is
              fit.sorted node_within in
              let chosen : Chosen nodes c (Subsume 0 ts) = inr (
                not_trivial,
                inr (
                  no_left,
                  inr (
                    no_right,
                    inr (no_decompose, inl ((ts, fit.is, refl), to_first, says (Contains []))),
                  ),
                ),
              ) in
              closed_by ts says chosen (λ z. reference_short ts here fit.is node_size fit.sorted z)

          none_written : ((ts : List Tree) → Fits_here ts → ⊥) → NotPossible (IsReference start (here ∷ []))
          none_written unfit s p = let t = terms_fit above spec (Contains []) nodes start_ctx start_equation
              there ctx here s (here ∷ []) p in unfit t.0 (record { is = t.1; sorted = t.2 })

          swapped_at : (ts : List Tree) → with_terms ts (start_equation ∷ []) ≡ swapped here ∷ [] →
              SortedAll spec.sig ctx (trees_of ts) start_ctx → ((us : List Tree) → Fits_here us → ⊥) → At nodes c m mark
          swapped_at ts is sorted unfit =
              let says = λ (usable : ℕ → Type 0). swapped_says above spec usable nodes start_ctx start_equation
              there ctx here ts (omega (arith, room, size, size_positive a)) is sorted node_within in
              let chosen : Chosen nodes c (Subsume 0 ts) = inr (
                not_trivial,
                inr (
                  no_left,
                  inr (
                    no_right,
                    inr (no_decompose, inr (none_written unfit, ((ts, is, refl), to_first, says (Contains [])))),
                  ),
                ),
              ) in
              closed_by ts says chosen (λ z. reference_short ts (swapped here) is (omega (arith, node_size)) sorted z)

          instance_at : IsInstance spec.sig gctx e over a b ⊎ IsInstance spec.sig gctx e over b a → At nodes c m mark
          instance_at (inl w) =
              let make = terms_make spec.sig gctx e ranges over a b w.0 w.1 a b w.2 w.3 (λ n o. o) in
              let sorted = terms_sorted spec.sig gctx e ranges over a b w.0 w.1 a b w.2 w.3 (λ n o. o) in
              written_at (terms spec.sig gctx e ranges over a b w.0) (record { is = make; sorted = sorted })
          instance_at (inr w) =
              let other = λ (n : ℕ) (o : Occurs n b ⊎ Occurs n a).
              (elim o as (λ _. IsHere over a b n) [ inl x ↦ inr x | inr x ↦ inl x ]) in
              let make = terms_make spec.sig gctx e ranges over a b w.0 w.1 b a w.2 w.3 other in
              let sorted = terms_sorted spec.sig gctx e ranges over a b w.0 w.1 b a w.2 w.3 other in
              elim (fit_or_not spec.sig start_ctx ctx start_equation here start_numbered) as (λ _. At nodes c m mark) [
                | inl f ↦ written_at f.0 f.1
                | inr unfit ↦ swapped_at (terms spec.sig gctx e ranges over a b w.0) make sorted unfit
              ]

        closing : (x y : Tree) (s i : ℕ) → x ≡ a → y ≡ b → Closes spec.sig gctx e over x y s i →
            (mark ≡ true → 0 < i → 0 < s) → At nodes c m mark
        closing x y s i p q (identical h) progress = absurd (differ (ap (λ t. in_node over a b t) (sym p ∙ h ∙ q)))
        closing x y s i p q (stripped {f} {ts} {us} {s = s1} con all) progress = stripped_at f ts us s1 i con
            (sym p) (sym q) all
        closing x y s i p q (instanced apart inst) progress =
            instance_at (λ h. apart (h.0, h.1, h.2, h.3, p ∙ h.4, q ∙ h.5))
            (λ z. absurd (omega (arith, progress z (lit< tt))))
            (subst (λ z. IsInstance spec.sig gctx e over z b ⊎ IsInstance spec.sig gctx e over b z) p
            (subst (λ z. IsInstance spec.sig gctx e over x z ⊎ IsInstance spec.sig gctx e over z x) q inst))

      by_uses :
          (left right : Tree) (ws xs : List (List ℕ × ℕ)) (s i : ℕ) → AreWithin a b →
          RunsWithin spec (λ t. AreWithin t b) a ws left → IsNormal spec left →
          RunsWithin spec (λ t. AreWithin left t) b xs right → IsNormal spec right →
          Closes spec.sig gctx e over left right s i → (mark ≡ true → 0 < i → 0 < length ws + length xs + s) →
          IsNarrow a → IsNarrow b → m ≡ length ws + length xs + tree_size left + tree_size right → At nodes c m mark
      by_uses left right (w ∷ ws) xs s i within lr ln rr rn closes progress na nb size = left_at left right w ws
          xs s i lr ln rr rn closes within na nb size
      by_uses left right [] (x ∷ xs) s i within lr ln rr rn closes progress na nb size =
          let z : tree_size left ≡ tree_size a = ap (λ y. tree_size y) lr in
          right_at right x xs s i (subst (λ y. IsNormal spec y) lr ln)
          (subst (λ y. RunsWithin spec (λ v. AreWithin y v) b (x ∷ xs) right) lr rr) rn
          (subst (λ y. Closes spec.sig gctx e over y right s i) lr closes) within na nb (omega (arith, size, z))
      by_uses left right [] [] s i within lr ln rr rn closes progress na nb size =
          let z : tree_size left ≡ tree_size a = ap (λ y. tree_size y) lr in
          let y : tree_size right ≡ tree_size b = ap (λ y. tree_size y) rr in
          closing (subst (λ y. IsNormal spec y) lr ln) (subst (λ y. IsNormal spec y) rr rn) within na nb
          (omega (arith, size, z, y)) a b s i refl refl
          (subst (λ y. Closes spec.sig gctx e over a y s i) rr
          (subst (λ y. Closes spec.sig gctx e over y right s i) lr closes)) (λ q h. omega (arith, progress q h))

  -- each pending node has its step
  pub has_steps : HasSteps above spec Chosen start (Pending spec gctx e) (IsCheap spec) (bytes spec.sig) 213
  has_steps nodes d m mark there room p =
      let over = p.over in
      let l = in_node over p.a p.b p.a in
      let r = in_node over p.a p.b p.b in
      let is : d ≡ clause_of (node_ctx over p.a p.b) (record { left = l; right = r }) = p.is ∙ node_is over p.a p.b in
      let here : At nodes (clause_of (node_ctx over p.a p.b) (record { left = l; right = r })) m mark = elim
      (same_tree_or_not l r) as
      (λ _. At nodes (clause_of (node_ctx over p.a p.b) (record { left = l; right = r })) m mark) [
        | inl same ↦ trivial_at nodes there m mark room over p.a p.b
            (omega (arith, p.number, size_positive p.left)) same
        | inr differ ↦ by_uses nodes there m mark room over p.a p.b differ p.left p.right p.left_uses
            p.right_uses p.strippings p.instances p.within p.left_runs p.left_normal p.right_runs p.right_normal
            p.closes p.progress p.left_narrow p.right_narrow p.number
      ] in
      subst (λ x. At nodes x m mark) (sym is) here
