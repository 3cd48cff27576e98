-- Rounds of the occurs test.
use Rattle.std.proofs.Common.{◌≡◌, ℕ, zero, suc, ◌+◌, ◌<◌, ◌≤◌, Bool, true, false, List, [], ◌∷◌, ◌++◌, ◌⊎◌, inl, inr}
use Rattle.std.proofs.Common.{refl, ap, sym, ◌∙◌, subst, arith, length, set, get_or, take, drop, ◌-◌, length-set}
use Rattle.std.proofs.Common.{MatchBool}
use Rattle.std.specs.Prelude.{slice_index}
use Rattle.std.proofs.lemmas.List.{get_or_read}
use Rattle.term_core.specs.Tree.{Tree}
use Rattle.term_core.specs.Measure.{weight}
use Rattle.unifier.specs.declared.unification.graph.Shape.{Shape}
use Rattle.unifier.specs.declared.unification.graph.Shape.TheVariants.{Var, App}
use Rattle.unifier.specs.Graph.{shape_at, IsGraph}
use Rattle.unifier.specs.Roots.{root, AreRoots}
use Rattle.unifier.specs.Markings.{IsModel, Follows}
use Rattle.unifier.specs.Cycles.{EachArg, Ends, IsAcyclic, HasNoModel}
use Rattle.unifier.specs.Readiness.{is_ready, AreReady, IsHeld, marks, IsMarked, AreStuck}
use Rattle.unifier.proofs.Graphs.{each_from, each_from_both, weight-trees_by}
use Rattle.unifier.proofs.Lists.{written_back}
use Rattle.unifier.proofs.Resolutions.{args_within}
use Rattle.term_core.proofs.Numbers.{below_or_last}

pub marks_le : (bs : List Bool) → marks bs ≤ length bs
marks_le [] = omega arith
marks_le (true ∷ bs) = omega (arith, marks_le bs)
marks_le (false ∷ bs) = omega (arith, marks_le bs)

marks-set : (bs : List Bool) (i : ℕ) → i < length bs → is_ready bs i ≡ false → marks (set bs i true) ≡ marks bs + 1
marks-set [] i h e = absurd (omega arith)
marks-set (true ∷ bs) zero h e = absurd (let q : true ≡ false = e in cc)
marks-set (false ∷ bs) zero h e = omega arith
marks-set (true ∷ bs) (suc i) h e = omega (arith, marks-set bs i (omega arith) e)
marks-set (false ∷ bs) (suc i) h e = marks-set bs i (omega arith) e

set_cases : (bs : List Bool) (i k : ℕ) → is_ready (set bs i true) k ≡ true → (k ≡ i) ⊎ (is_ready bs k ≡ true)
set_cases [] i k e = inr e
set_cases (b ∷ bs) zero zero e = inl refl
set_cases (b ∷ bs) zero (suc k) e = inr e
set_cases (b ∷ bs) (suc i) zero e = inr e
set_cases (b ∷ bs) (suc i) (suc k) e = elim (set_cases bs i k e) [ inl q ↦ inl (ap suc q) | inr q ↦ inr q ]

module _ (graph : List Shape) (roots : List ℕ) where
  -- a way down that ends before a number ends before a greater one
  pub ends_later : (k m i : ℕ) → k ≤ m → Ends graph roots k i → Ends graph roots m i
  ends_later zero m i h e = absurd e
  ends_later (suc k) zero i h e = absurd (omega arith)
  ends_later (suc k) (suc m) i h e = each_from {P = λ c. Ends graph roots k (root roots c)}
      {Q = λ c. Ends graph roots m (root roots c)} (shape_at graph i) e
      (λ c d. ends_later k m (root roots c) (omega arith) d)

  -- a node whose arguments are ready is marked
  pub marked_more : (ready : List Bool) (node : ℕ) → IsGraph graph → AreRoots graph roots →
      length ready ≡ length graph → node < length graph → IsMarked graph roots ready →
      is_ready ready node ≡ false → AreReady roots ready (shape_at graph node) →
      IsMarked graph roots (set ready node true) × (marks (set ready node true) ≡ marks ready + 1)
  marked_more ready node fine at long l marked old are =
      let m : marks (set ready node true) ≡ suc (marks ready) = omega (arith, marks-set ready node (omega arith) old) in
      (λ i h e. subst (λ n. Ends graph roots n i) (sym m) (by i h (set_cases ready node i e)), omega arith)
    where
      each : EachArg (λ c. Ends graph roots (marks ready) (root roots c)) (shape_at graph node)
      each = each_from_both {P = λ c. c < length graph} {Q = λ c. is_ready ready (root roots c) ≡ true}
          {S = λ c. Ends graph roots (marks ready) (root roots c)} (shape_at graph node)
          (args_within graph roots fine node l) are (λ c b d. marked (root roots c) (at.within c b) d)

      by : (i : ℕ) → i < length graph → (i ≡ node) ⊎ (is_ready ready i ≡ true) → Ends graph roots (suc (marks ready)) i
      by i h (inl q) = subst (λ n. Ends graph roots (suc (marks ready)) n) (sym q) each
      by i h (inr q) = ends_later (marks ready) (suc (marks ready)) i (omega arith) (marked i h q)

  -- if all are ready there is no cycle
  pub acyclic_by : (ready : List Bool) → length ready ≡ length graph → IsMarked graph roots ready →
      ((k : ℕ) → k < length ready → is_ready ready k ≡ true) → IsAcyclic graph roots
  acyclic_by ready long marked all i l = ends_later (marks ready) (length graph) i
      (omega (arith, marks_le ready)) (marked i l (all i (omega arith)))

  pub unmarked : (ready : List Bool) → ((i : ℕ) → is_ready ready i ≡ false) → IsMarked graph roots ready
  unmarked ready h i l e = absurd (let q : true ≡ false = sym e ∙ h i in cc)

  module _ (ready : List Bool) (mark : ℕ → Tree) (fine : IsGraph graph) (at : AreRoots graph roots)
      (stuck : AreStuck graph roots ready (length graph)) (model : IsModel graph mark)
      (follows : Follows graph roots mark) where
    -- an argument that isn't ready has a smaller mark, and so on without end
    no_model : (n i : ℕ) → i < length graph → is_ready ready i ≡ false → weight (mark i) < n → ⊥
    no_model zero i l e h = omega arith
    no_model (suc n) i l e h =
        let w : (c : ℕ) × (c < length graph) × (is_ready ready (root roots c) ≡ false)
        × (weight (mark c) < weight (mark i)) = smaller (shape_at graph i) refl (stuck i l e)
        (args_within graph roots fine i l) in
        no_model n (root roots w.0) (at.within w.0 w.1) w.2 (omega (arith, w.3, ap (λ t. weight t) (follows w.0 w.1)))
      where
        smaller : (s : Shape) → shape_at graph i ≡ s → IsHeld roots ready s →
            EachArg (λ c. c < length graph) s → (c : ℕ) × (c < length graph)
            × (is_ready ready (root roots c) ≡ false) × (weight (mark c) < weight (mark i))
        smaller (Var v) is held b = absurd held
        smaller (App f cs) is held b = (
          slice_index cs held.0,
          b held.0 held.1,
          held.2,
          omega (arith, weight-trees_by mark cs held.0 held.1, ap (λ t. weight t) (model i f cs l is)),
        )

  pub stuck_has_no_model : (ready : List Bool) → IsGraph graph → AreRoots graph roots →
      length ready ≡ length graph → AreStuck graph roots ready (length graph) → (k : ℕ) → k < length ready →
      is_ready ready k ≡ false → HasNoModel graph roots
  stuck_has_no_model ready fine at long stuck k l e mark model follows = no_model ready mark fine at stuck model
      follows (suc (weight (mark k))) k (omega arith) e (omega arith)

  -- how far a round is: nodes were marked, or all nodes so far are stuck
  pub record Round (old ready : List Bool) (node : ℕ) (found : Bool) : Type 0 where
    pub long : length ready ≡ length graph
    pub marked : IsMarked graph roots ready
    pub more : marks old ≤ marks ready
    pub found_is : MatchBool found (marks old < marks ready) (AreStuck graph roots ready node)

  node_shape : (node : ℕ) (s : Shape) → node < length graph → s ≡ get_or graph node s → s ≡ shape_at graph node
  node_shape node s l e = get_or_read graph node s l e (Var (record { 0 = 0 }))

  pub args_of_shape : (node : ℕ) (s : Shape) → IsGraph graph → node < length graph → s ≡ get_or graph node s →
      EachArg (λ c. c < length graph) s
  args_of_shape node s fine l e = subst (λ x. EachArg (λ c. c < length graph) x) (sym (node_shape node s l e))
      (args_within graph roots fine node l)

  module _ (old ready : List Bool) (node : ℕ) (found : Bool) (fine : IsGraph graph) (at : AreRoots graph roots)
      (l : node < length graph) (round : Round old ready node found) where
    pub round_marks : (s : Shape) → s ≡ get_or graph node s → is_ready ready node ≡ false →
        AreReady roots ready s → Round old (set ready node true) (node + 1) true
    round_marks s read off are =
        let ok : AreReady roots ready (shape_at graph node) = subst (λ x. AreReady roots ready x)
        (node_shape node s l read) are in
        let m = marked_more ready node fine at round.long l round.marked off ok in
        record {
          long = length-set ready node true ∙ round.long;
          marked = m.0;
          more = omega (arith, m.1, round.more);
          found_is = omega (arith, m.1, round.more);
        }

    stays : (b : Bool) → (is_ready ready node ≡ false → IsHeld roots ready (shape_at graph node)) →
        MatchBool b (marks old < marks ready) (AreStuck graph roots ready node) →
        MatchBool b (marks old < marks ready) (AreStuck graph roots ready (node + 1))
    stays true h f = f
    stays false h f = λ i k e. elim (below_or_last i node k) [
      | inl b ↦ f i b e
      | inr q ↦ subst (λ n. IsHeld roots ready (shape_at graph n)) (sym q)
          (h (subst (λ n. is_ready ready n ≡ false) q e))
    ]

    round_stays : (is_ready ready node ≡ false → IsHeld roots ready (shape_at graph node)) →
        Round old ready (node + 1) found
    round_stays h = record {
      long = round.long;
      marked = round.marked;
      more = round.more;
      found_is = stays found
          h round.found_is;
    }

    pub round_held : (s : Shape) → s ≡ get_or graph node s → IsHeld roots ready s → Round old ready (node + 1) found
    round_held s read held = round_stays (λ e. subst (λ x. IsHeld roots ready x) (node_shape node s l read) held)

    pub round_passes : is_ready ready node ≡ true → Round old ready (node + 1) found
    round_passes on = round_stays (λ e. absurd (let q : true ≡ false = sym on ∙ e in cc))

  -- after the last round
  pub all_decided : (ready now : List Bool) (r : Bool) → now ≡ ready → IsGraph graph → AreRoots graph roots →
      length ready ≡ length graph → IsMarked graph roots ready → AreStuck graph roots ready (length graph) →
      MatchBool r ((k : ℕ) → k < length now → is_ready now k ≡ true) ((k : ℕ) × (k < length now)
      × (is_ready now k ≡ false)) → MatchBool r (IsAcyclic graph roots) (HasNoModel graph roots)
  all_decided ready now true e fine at long marked stuck h = acyclic_by ready long marked
      (subst (λ bs. (k : ℕ) → k < length bs → is_ready bs k ≡ true) e h)
  all_decided ready now false e fine at long marked stuck h =
      let w = subst (λ bs. (k : ℕ) × (k < length bs) × (is_ready bs k ≡ false)) e h in
      stuck_has_no_model ready fine at long stuck w.0 w.1 w.2

pub marks_fall : (n len : ℕ) (old made : List Bool) → len ≡ length old → length made ≡ length old →
    length old ≡ n → marks old < marks made → n - marks (take len (made ++ drop (length made) old)) < n - marks old
marks_fall n len old made e h l m = rw (written_back old made len e h) (omega (arith, marks_le made))
