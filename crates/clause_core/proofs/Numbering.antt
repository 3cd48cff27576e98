-- Renumbered terms are numbered by first occurrence, and terms that are so stay as they are.
use Rattle.std.proofs.Common.{◌≡◌, ℕ, zero, suc, ◌+◌, ◌<◌, ◌≤◌, List, [], ◌∷◌, ◌++◌, cond, ◌==◌, inl, inr, map, length}
use Rattle.std.proofs.Common.{take, refl, ap, sym, ◌∙◌, subst, append_assoc, length-append, arith}
use Rattle.std.specs.Prelude.{slice_index_or}
use Rattle.std.proofs.lemmas.Bool.Decides.{eqb_tells}
use Rattle.std.proofs.lemmas.List.{append-nil, map-append, length-map, take_all}
use Rattle.std.proofs.lemmas.List.Folds.{position_or_len_push}
use Rattle.term_core.specs.Tree.{Tree, Trees, var, app, none, some, trees_of}
use Rattle.term_core.specs.Variables.{occurrences, occurrences_all, Occurs, OccursAny, Numbered, NumberedAll}
use Rattle.term_core.specs.Gathered.{met, gathered}
use Rattle.term_core.specs.declared.ids.SortId.{SortId}
use Rattle.term_core.proofs.Items.{taken_next}
use Rattle.term_core.proofs.Numbered.{numbered_all_below}
use Rattle.term_core.proofs.Numbers.{below_or_last}
use Rattle.spec_core.specs.declared.records.Equation.{Equation}
use Rattle.spec_core.specs.Declarations.{bool_sort}
use Rattle.clause_core.specs.declared.clauses.Clause.{Clause}
use Rattle.clause_core.specs.Clauses.{sides_of, sides}
use Rattle.clause_core.specs.Tidied.{variables_of, place_of, renumbered, renumbered_all, renumbered_equation, sorts_at}
use Rattle.clause_core.specs.Tidied.{tidied, IsTidied}
use Rattle.clause_core.proofs.FirstOccurrences.{gathered_firsts}
use Rattle.clause_core.proofs.Renumbering.{Met, met_or_not, met_old, met_new, place_kept, place_last, gathered_more}
use Rattle.clause_core.proofs.Renumbering.{gathered-append, renumbered_all-trees_of}
use Rattle.clause_core.proofs.RenumberedEquations.{sides_renumbered}

numbered_var : (n : ℕ) (olds more : List ℕ) →
    Numbered (length olds) (renumbered (met olds n ++ more) (var n)) (length (met olds n))
numbered_var n olds more = elim (met_or_not olds n) [
  | inl h ↦ (
      let e = met_old olds n h in
      let p : place_of (met olds n ++ more) n ≡ place_of olds n = ap (λ os. place_of (os ++ more) n) e
      ∙ place_kept olds more n h in
      inl (omega (arith, p, h), ap (λ (os : List ℕ). length os) e))
  | inr h ↦ (
      let e = met_new olds n h in
      let p : place_of (met olds n ++ more) n ≡ length olds = ap (λ os. place_of (os ++ more) n) e
      ∙ ap (λ os. place_of os n) (append_assoc olds (n ∷ []) more) ∙ place_last olds more n h in
      inr (p, ap (λ (os : List ℕ). length os) e ∙ length-append olds (n ∷ [])))
]

mutual
  numbered_tree :
      (t : Tree) (olds more : List ℕ) →
      Numbered (length olds) (renumbered (gathered olds (occurrences t) ++ more) t)
      (length (gathered olds (occurrences t)))
  numbered_tree (var n) olds more = numbered_var n olds more
  numbered_tree (app f ts) olds more = numbered_trees ts olds more

  numbered_trees :
      (ts : Trees) (olds more : List ℕ) →
      NumberedAll (length olds) (renumbered_all (gathered olds (occurrences_all ts) ++ more) ts)
      (length (gathered olds (occurrences_all ts)))
  numbered_trees none olds more = refl
  numbered_trees (some t ts) olds more =
      let first : List ℕ = gathered olds (occurrences t) in
      let apart : gathered olds (occurrences t ++ occurrences_all ts) ≡ gathered first
      (occurrences_all ts) = gathered-append olds (occurrences t) (occurrences_all ts) in
      let g = gathered_more first (occurrences_all ts) in
      let whole : gathered olds (occurrences t ++ occurrences_all ts) ++ more ≡ first
      ++ (g.0 ++ more) = ap (λ os. os ++ more) (apart ∙ g.1) ∙ append_assoc first g.0 more in (
        length first,
        subst (λ os. Numbered (length olds) (renumbered os t) (length first)) (sym whole)
            (numbered_tree t olds (g.0 ++ more)),
        subst (λ os. NumberedAll (length first) (renumbered_all (os ++ more) ts) (length os)) (sym apart)
            (numbered_trees ts first more),
      )

tidied_sides : (c : Clause) → sides (tidied c) ≡ map (renumbered (variables_of c)) (sides c)
tidied_sides c =
    (λ i. sides_renumbered (variables_of c) c.premises i ++ sides_renumbered (variables_of c) c.conclusions i)
    ∙ sym (map-append (renumbered (variables_of c)) (sides_of c.premises) (sides_of c.conclusions))

pub is_tidied : (c : Clause) → IsTidied (tidied c)
is_tidied c =
    let ts : Trees = trees_of (sides c) in
    let olds : variables_of c ≡ gathered [] (occurrences_all ts) = sym (gathered_firsts (occurrences_all ts)) in
    let n = numbered_trees ts [] [] in
    let m : NumberedAll 0 (renumbered_all (variables_of c) ts) (length (variables_of c)) =
    subst (λ os. NumberedAll 0 (renumbered_all os ts) (length os)) (sym olds)
    (subst (λ os. NumberedAll 0 (renumbered_all os ts) (length (gathered [] (occurrences_all ts))))
    (append-nil (gathered [] (occurrences_all ts))) n) in
    let all : trees_of (sides (tidied c)) ≡ renumbered_all (variables_of c) ts = ap trees_of (tidied_sides c)
    ∙ sym (renumbered_all-trees_of (variables_of c) (sides c)) in
    let long : length (sorts_at c.ctx (variables_of c)) ≡ length (variables_of c) = length-map (variables_of c)
    (λ n. slice_index_or c.ctx n bool_sort) in
    subst (λ k. NumberedAll 0 (trees_of (sides (tidied c))) k) (sym long)
    (subst (λ us. NumberedAll 0 us (length (variables_of c))) (sym all) m)

-- the numbers below a number
up_to : ℕ → List ℕ
up_to zero = []
up_to (suc k) = up_to k ++ k ∷ []

none_below : up_to 0 ≡ []
unfolding up_to
none_below = refl

up_to_next : (k : ℕ) → up_to (k + 1) ≡ up_to k ++ k ∷ []
unfolding up_to
up_to_next k = let e : k + 1 ≡ suc k = omega arith in ap (λ m. up_to m) e

length_up_to : (k : ℕ) → length (up_to k) ≡ k
unfolding up_to
length_up_to zero = refl
length_up_to (suc k) = omega (arith, length-append (up_to k) (k ∷ []), length_up_to k)

place_above : (k n : ℕ) → k ≤ n → place_of (up_to k) n ≡ length (up_to k)
unfolding up_to
place_above zero n h = refl
place_above (suc k) n h =
    let last = length-append (up_to k) (k ∷ []) in
    let before = place_above k n (omega (arith, h)) in
    let push = position_or_len_push (λ m. m == n) (up_to k) k in
    elim (eqb_tells (place_of (up_to k) n) (length (up_to k))) [
      | inl e ↦ elim (eqb_tells k n) [
        | inl q ↦ absurd (omega (arith, h, q.1))
        | inr q ↦ push ∙ ap (λ b. cond b (length (up_to k) + cond (k == n) 0 1) (place_of (up_to k) n)) e.0
            ∙ ap (λ b. length (up_to k) + cond b 0 1) q.0 ∙ sym last
      ]
      | inr e ↦ absurd (e.1 before)
    ]

met_below : (k n : ℕ) → n < k → Met (up_to k) n × (place_of (up_to k) n ≡ n)
unfolding up_to
met_below zero n h = absurd (omega (arith, h))
met_below (suc k) n h = elim (below_or_last n k (omega (arith, h))) [
  | inl l ↦ (
      let r = met_below k n l in
      let p = place_kept (up_to k) (k ∷ []) n r.0 ∙ r.1 in
      (omega (arith, p, l, length-append (up_to k) (k ∷ []), length_up_to k), p))
  | inr e ↦ (
      let p : place_of (up_to k ++ k ∷ []) n ≡ n = ap (λ m. place_of (up_to k ++ m ∷ []) n) (sym e)
      ∙ place_last (up_to k) [] n (place_above k n (omega (arith, e))) ∙ length_up_to k ∙ sym e in
      (omega (arith, p, e, length-append (up_to k) (k ∷ []), length_up_to k), p))
]

mutual
  -- the variables of numbered terms are met in the order of the numbers
  in_order : (t : Tree) (k m : ℕ) → Numbered k t m → gathered (up_to k) (occurrences t) ≡ up_to m
  in_order (var n) k m (inl h) = met_old (up_to k) n (met_below k n h.0).0 ∙ ap (λ j. up_to j) (sym h.1)
  in_order (var n) k m (inr h) =
      met_new (up_to k) n (place_above k n (omega (arith, h.0))) ∙ ap (λ j. up_to k ++ j ∷ []) h.0
      ∙ sym (up_to_next k) ∙ ap (λ j. up_to j) (sym h.1)
  in_order (app f ts) k m h = all_in_order ts k m h

  all_in_order : (ts : Trees) (k m : ℕ) → NumberedAll k ts m → gathered (up_to k) (occurrences_all ts) ≡ up_to m
  all_in_order none k m h = ap (λ j. up_to j) (sym h)
  all_in_order (some t ts) k m h =
      gathered-append (up_to k) (occurrences t) (occurrences_all ts)
      ∙ ap (λ os. gathered os (occurrences_all ts)) (in_order t k h.0 h.1) ∙ all_in_order ts h.0 m h.2

mutual
  same_tree_after : (m : ℕ) (t : Tree) → ((n : ℕ) → Occurs n t → n < m) → renumbered (up_to m) t ≡ t
  same_tree_after m (var n) h = ap (λ k. var k) (met_below m n (h n refl)).1
  same_tree_after m (app f ts) h = ap (λ us. app f us) (same_trees_after m ts h)

  same_trees_after : (m : ℕ) (ts : Trees) → ((n : ℕ) → OccursAny n ts → n < m) → renumbered_all (up_to m) ts ≡ ts
  same_trees_after m none h = refl
  same_trees_after m (some t ts) h =
      let p : renumbered (up_to m) t ≡ t = same_tree_after m t (λ n o. h n (inl o)) in
      let q : renumbered_all (up_to m) ts ≡ ts = same_trees_after m ts (λ n o. h n (inr o)) in
      λ i. some (p i) (q i)

same_equations_after :
    (m : ℕ) (es : List Equation) (rest : List Tree) → ((n : ℕ) → OccursAny n (trees_of (sides_of es ++ rest)) → n < m) →
    (map (renumbered_equation (up_to m)) es ≡ es) × ((n : ℕ) → OccursAny n (trees_of rest) → n < m)
same_equations_after m [] rest h = (refl, h)
same_equations_after m (e ∷ es) rest h =
    let l : renumbered (up_to m) e.left ≡ e.left = same_tree_after m e.left (λ n o. h n (inl o)) in
    let r : renumbered (up_to m) e.right ≡ e.right = same_tree_after m e.right (λ n o. h n (inr (inl o))) in
    let next = same_equations_after m es rest (λ n o. h n (inr (inr o))) in
    let q : map (renumbered_equation (up_to m)) es ≡ es = next.0 in
    (λ i. record { left = l i; right = r i } ∷ q i, next.1)

taken_sorts : (ctx : List SortId) (k : ℕ) → k ≤ length ctx → sorts_at ctx (up_to k) ≡ take k ctx
unfolding up_to
taken_sorts ctx zero h = refl
taken_sorts ctx (suc k) h =
    let e : k + 1 ≡ suc k = omega arith in
    let x : SortId = slice_index_or ctx k bool_sort in
    map-append (λ n. slice_index_or ctx n bool_sort) (up_to k) (k ∷ [])
    ∙ ap (λ ss. ss ++ x ∷ []) (taken_sorts ctx k (omega (arith, h)))
    ∙ sym (taken_next ctx k x (omega (arith, h)) (index_same ctx k (omega (arith, h))))
    ∙ ap (λ j. take j ctx) e
  where
    index_same : (ss : List SortId) (i : ℕ) → i < length ss →
        slice_index_or ss i bool_sort ≡ slice_index_or ss i (slice_index_or ss i bool_sort)
    index_same [] i l = absurd (omega (arith, l))
    index_same (s ∷ ss) zero l = refl
    index_same (s ∷ ss) (suc i) l = index_same ss i (omega (arith, l))

-- a tidied clause is tidied to itself
pub stays : (c : Clause) → IsTidied c → tidied c ≡ c
stays c h =
    let m : ℕ = length c.ctx in
    let olds : variables_of c ≡ up_to m =
    sym (gathered_firsts (occurrences_all (trees_of (sides c))))
    ∙ ap (λ os. gathered os (occurrences_all (trees_of (sides c)))) (sym none_below)
    ∙ all_in_order (trees_of (sides c)) 0 m h in
    let below : (n : ℕ) → OccursAny n (trees_of (sides c)) → n < m = numbered_all_below 0 m (trees_of (sides c)) h in
    let first = same_equations_after m c.premises (sides_of c.conclusions) below in
    let second = same_equations_after m c.conclusions [] (subst (λ ts. (n : ℕ) → OccursAny n (trees_of ts) →
    n < m) (sym (append-nil (sides_of c.conclusions))) first.1) in
    let ctx : sorts_at c.ctx (variables_of c) ≡ c.ctx = ap (λ os. sorts_at c.ctx os) olds
    ∙ taken_sorts c.ctx m (omega arith) ∙ take_all m c.ctx (omega arith) in
    let premises : map (renumbered_equation (variables_of c)) c.premises ≡ c.premises = ap
    (λ os. map (renumbered_equation os) c.premises) olds ∙ first.0 in
    let conclusions : map (renumbered_equation (variables_of c)) c.conclusions ≡ c.conclusions = ap
    (λ os. map (renumbered_equation os) c.conclusions) olds ∙ second.0 in
    λ i. record { ctx = ctx i; premises = premises i; conclusions = conclusions i }
