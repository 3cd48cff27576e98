-- What joining two classes does.
use Rattle.std.proofs.Common.{◌≡◌, ◌≢◌, ℕ, zero, suc, ◌+◌, ◌*◌, ◌<◌, ◌≤◌, List, [], ◌∷◌, ◌++◌, ◌⊎◌, inl, inr, refl, ap}
use Rattle.std.proofs.Common.{sym, ◌∙◌, subst, arith, length, length-append, get_or, take, drop}
use Rattle.std.specs.List.{zip}
use Rattle.std.proofs.Math.Nat.{mul-le-mul_right}
use Rattle.std.proofs.lemmas.List.{append-nil, get_or_read}
use Rattle.term_core.specs.Tree.{Tree, app, none, some}
use Rattle.term_core.specs.declared.ids.SymId.{SymId}
use Rattle.term_core.specs.declared.ids.VarId.{VarId}
use Rattle.unifier.specs.declared.unification.graph.Shape.{Shape}
use Rattle.unifier.specs.declared.unification.graph.Shape.TheVariants.{Var, App}
use Rattle.unifier.specs.Graph.{shape_at, trees_by, ArgsBelow, AllBelow, IsGraph}
use Rattle.unifier.specs.Roots.{root, relabelled}
use Rattle.unifier.specs.Markings.{Splits, Follows, Joins}
use Rattle.unifier.specs.Classes.{AreWithin, IsLike, Classes}
use Rattle.unifier.specs.Work.{count_roots, width, widths}
use Rattle.unifier.specs.Closure.{Joined, NotJoined}
use Rattle.unifier.proofs.Graphs.{below_most}
use Rattle.unifier.proofs.Lists.{written_back}
use Rattle.unifier.proofs.Pairs.{joins_parts, joins_all, joins_zip, zip_joins, within_parts, within_all, within_zip}
use Rattle.unifier.proofs.Pairs.{length_zip_le}
use Rattle.unifier.proofs.Relabelling.{swap_here, swap_other, root-relabelled, length-relabelled, count_falls}
use Rattle.term_core.proofs.Numbers.{same_or_not}

width_le : (graph : List Shape) (i : ℕ) (f : SymId) (cs : List ℕ) → i < length graph →
    shape_at graph i ≡ App f cs → length cs ≤ widths graph
width_le [] i f cs l e = absurd (omega arith)
width_le (s ∷ ss) zero f cs l e = omega (arith, ap (λ s. width s) e)
width_le (s ∷ ss) (suc i) f cs l e = omega (arith, width_le ss i f cs (omega arith) e)

work_falls : (c d w p r : ℕ) → c < d → p ≤ w → c * (w + 1) + (r + p) < d * (w + 1) + (r + 1)
work_falls c d w p r h q = omega (arith, mul-le-mul_right (w + 1) h)

module _ (graph : List Shape) (roots : List ℕ) (rest : List (ℕ × ℕ)) (left right : ℕ)
    (at : Classes graph roots (rest ++ (left, right) ∷ [])) where
  pub last_within : (left < length graph) × (right < length graph)
  last_within =
      let r = (within_parts (length graph) rest ((left, right) ∷ []) at.waiting).1 in
      (r.0, r.1)

  pub last_joined : (mark : ℕ → Tree) → Joins mark (rest ++ (left, right) ∷ []) → mark left ≡ mark right
  last_joined mark j = (joins_parts mark rest ((left, right) ∷ []) j).1.0

  -- both nodes are in one class
  pub joined_before : root roots left ≡ root roots right → Joined graph roots rest left right roots rest
  joined_before e = record {
    classes = record {
      long = at.long;
      within = at.within;
      still = at.still;
      waiting = (within_parts (length graph) rest ((left, right) ∷ []) at.waiting).0;
      closed = λ i f cs l is.
          let c = at.closed i f cs l is in (
            c.0,
            c.1,
            c.2,
            c.3,
            c.4,
            λ mark follows j. c.5 mark follows (joins_all mark rest ((left, right) ∷ []) j (same mark follows, tt)),
          );
    };
    step = record {
      forth = λ mark s follows j. (follows, (joins_parts mark rest ((left, right) ∷ []) j).0);
      back = λ mark follows j. (follows, joins_all mark rest ((left, right) ∷ []) j (same mark follows, tt));
    };
    falls = omega (arith, length-append rest ((left, right) ∷ []));
  }
    where
      same : (mark : ℕ → Tree) → Follows graph roots mark → mark left ≡ mark right
      same mark follows = follows left last_within.0 ∙ ap (λ r. mark r) e ∙ sym (follows right last_within.1)

  module _ (from to : ℕ) (ends : ((root roots left ≡ from) × (root roots right ≡ to))
      ⊎ ((root roots left ≡ to) × (root roots right ≡ from))) (apart : from ≢ to) where
    from_in : from < length graph
    from_in = elim ends [
      | inl e ↦ subst (λ n. n < length graph) e.0 (at.within left last_within.0)
      | inr e ↦
          subst (λ n. n < length graph) e.1 (at.within right last_within.1)
    ]

    to_in : to < length graph
    to_in = elim ends [
      | inl e ↦ subst (λ n. n < length graph) e.1 (at.within right last_within.1)
      | inr e ↦
          subst (λ n. n < length graph) e.0 (at.within left last_within.0)
    ]

    from_still : root roots from ≡ from
    from_still = elim ends [
      | inl e ↦ subst (λ n. root roots n ≡ n) e.0 (at.still left last_within.0)
      | inr e ↦ subst (λ n. root roots n ≡ n) e.1 (at.still right last_within.1)
    ]

    to_still : root roots to ≡ to
    to_still = elim ends [
      | inl e ↦ subst (λ n. root roots n ≡ n) e.1 (at.still right last_within.1)
      | inr e ↦ subst (λ n. root roots n ≡ n) e.0 (at.still left last_within.0)
    ]

    new : List ℕ
    new = relabelled from to roots

    -- each node of the one root has the other, and the others keep theirs
    moves : (i : ℕ) → i < length graph → ((root roots i ≡ from) × (root new i ≡ to))
        ⊎ ((root roots i ≢ from) × (root new i ≡ root roots i))
    unfolding new
    moves i l =
        let e = root-relabelled from to roots i (omega (arith, at.long)) in
        elim (same_or_not (root roots i) from) [
          | inl q ↦ inl (q, e ∙ swap_here from to (root roots i) q)
          | inr q ↦ inr (q, e ∙ swap_other from to (root roots i) q)
        ]

    from_moves : root new from ≡ to
    from_moves = elim (moves from from_in) [ inl e ↦ e.1 | inr e ↦ absurd (e.0 from_still) ]

    to_stays : root new to ≡ to
    to_stays = elim (moves to to_in) [ inl e ↦ e.1 | inr e ↦ e.1 ∙ to_still ]

    -- no node of the one root is the other
    no_root : (j : ℕ) → j < length roots → root roots j ≡ from → 0 + j ≡ to → ⊥
    no_root j l e q =
        let k : j ≡ to = omega arith in
        apart (sym e ∙ ap (λ n. root roots n) k ∙ to_still)

    -- a marking of the joined classes is one of the classes, with one mark for both roots
    marks_before : (mark : ℕ → Tree) → Follows graph new mark → Follows graph roots mark × (mark from ≡ mark to)
    marks_before mark follows =
        let both : mark from ≡ mark to = follows from from_in ∙ ap (λ r. mark r) from_moves in (
          λ i l. elim (moves i l) [
            | inl e ↦ follows i l ∙ ap (λ r. mark r) e.1 ∙ sym both ∙ ap (λ r. mark r) (sym e.0)
            | inr e ↦ follows i l ∙ ap (λ r. mark r) e.1
          ],
          both,
        )

    marks_after : (mark : ℕ → Tree) → Follows graph roots mark → mark from ≡ mark to → Follows graph new mark
    marks_after mark follows both i l =
        elim (moves i l) [
          | inl e ↦ follows i l ∙ ap (λ r. mark r) e.0 ∙ both ∙ ap (λ r. mark r) (sym e.1)
          | inr e ↦ follows i l ∙ ap (λ r. mark r) (sym e.1)
        ]

    pair_joined : (mark : ℕ → Tree) → Follows graph roots mark → mark from ≡ mark to → mark left ≡ mark right
    pair_joined mark follows both =
        elim ends [
          | inl e ↦ follows left last_within.0 ∙ ap (λ r. mark r) e.0 ∙ both ∙ ap (λ r. mark r) (sym e.1)
              ∙ sym (follows right last_within.1)
          | inr e ↦ follows left last_within.0 ∙ ap (λ r. mark r) e.0 ∙ sym both ∙ ap (λ r. mark r) (sym e.1)
              ∙ sym (follows right last_within.1)
        ]

    roots_joined : (mark : ℕ → Tree) → Follows graph roots mark → mark left ≡ mark right → mark from ≡ mark to
    roots_joined mark follows both =
        elim ends [
          | inl e ↦ ap (λ r. mark r) (sym e.0) ∙ sym (follows left last_within.0) ∙ both
              ∙ follows right last_within.1 ∙ ap (λ r. mark r) e.1
          | inr e ↦ ap (λ r. mark r) (sym e.1) ∙ sym (follows right last_within.1) ∙ sym both
              ∙ follows left last_within.0 ∙ ap (λ r. mark r) e.0
        ]

    module _ (pushed : List (ℕ × ℕ)) (in_graph : AreWithin (length graph) pushed) (few : length pushed ≤ widths graph)
        (like : (f : SymId) (cs : List ℕ) → shape_at graph from ≡ App f cs → (g : SymId) × (ds : List ℕ)
        × (shape_at graph to ≡ App g ds) × (f.0 ≡ g.0) × (length cs ≡ length ds)
        × ((mark : ℕ → Tree) → Joins mark pushed → trees_by mark cs ≡ trees_by mark ds))
        (given : (mark : ℕ → Tree) → Splits graph mark → mark from ≡ mark to → Joins mark pushed) where
      before : (mark : ℕ → Tree) → Follows graph new mark → Joins mark (rest ++ pushed) →
          Follows graph roots mark × Joins mark (rest ++ (left, right) ∷ [])
      before mark follows j =
          let b = marks_before mark follows in (
            b.0,
            joins_all mark rest ((left, right) ∷ []) (joins_parts mark rest pushed j).0
                (pair_joined mark b.0 b.1, tt),
          )

      likely : (i : ℕ) (f : SymId) (cs : List ℕ) → i < length graph → shape_at graph i ≡ App f cs →
          IsLike graph new (rest ++ pushed) f cs (root new i)
      likely i f cs l is =
          let c = at.closed i f cs l is in
          elim (moves i l) [
            | inr e ↦ (
              c.0,
              c.1,
              ap (λ r. shape_at graph r) e.1 ∙ c.2,
              c.3,
              c.4,
              λ mark follows j. let b = before mark follows j in c.5 mark b.0 b.1,
            )
            | inl e ↦
                let d = like c.0 c.1 (ap (λ r. shape_at graph r) (sym e.0) ∙ c.2) in (
                  d.0,
                  d.1,
                  ap (λ r. shape_at graph r) e.1 ∙ d.2,
                  c.3 ∙ d.3,
                  c.4 ∙ d.4,
                  λ mark follows j.
                      let b = before mark follows j in
                      c.5 mark b.0 b.1 ∙ d.5 mark (joins_parts mark rest pushed j).1,
                )
          ]

      new_still : (i : ℕ) → i < length graph → root new (root new i) ≡ root new i
      new_still i l =
          elim (moves i l) [
            | inl e ↦ ap (λ r. root new r) e.1 ∙ to_stays ∙ sym e.1
            | inr e ↦
                elim (moves (root roots i) (at.within i l)) [
                  | inl d ↦ absurd (e.0 (sym (at.still i l) ∙ d.0))
                  | inr d ↦ ap (λ r. root new r) e.1 ∙ d.1 ∙ at.still i l ∙ sym e.1
                ]
          ]

      new_within : (i : ℕ) → i < length graph → root new i < length graph
      new_within i l = elim (moves i l) [
        | inl e ↦ subst (λ n. n < length graph) (sym e.1) to_in
        | inr e ↦ subst
            (λ n. n < length graph) (sym e.1) (at.within i l)
      ]

      new_classes : Classes graph new (rest ++ pushed)
      unfolding new
      new_classes = record {
        long = length-relabelled from to roots ∙ at.long;
        within = new_within;
        still = new_still;
        waiting = within_all (length graph) rest pushed (within_parts (length graph) rest ((left, right) ∷ [])
            at.waiting).0 in_graph;
        closed = likely;
      }

      pub joined_by : Joined graph roots rest left right (relabelled from to roots) (rest ++ pushed)
      unfolding new
      joined_by = record {
        classes = new_classes;
        step = record {
          forth = λ mark s follows j.
              let both = roots_joined mark follows (last_joined mark j) in (
                marks_after mark follows both,
                joins_all mark rest pushed (joins_parts mark rest ((left, right) ∷ []) j).0 (given mark s both),
              );
          back = before;
        };
        falls =
            let c = count_falls from to 0 from roots apart no_root (omega (arith, at.long, from_in)) from_still
            (omega arith) in
            let w = work_falls (count_roots 0 (relabelled from to roots)) (count_roots 0 roots) (widths graph)
            (length pushed) (length rest) c few in
            omega (arith, length-append rest pushed, length-append rest ((left, right) ∷ []));
      }

    -- a variable's class takes the other root
    pub joined_variable : (v : VarId) → shape_at graph from ≡ Var v →
        Joined graph roots rest left right (relabelled from to roots) rest
    joined_variable v is =
        subst (λ ps. Joined graph roots rest left right (relabelled from to roots) ps) (append-nil rest)
        (joined_by [] tt (omega arith) (λ f cs e. absurd (let q : Var v ≡ App f cs = sym is ∙ e in cc))
        (λ mark s e. tt))

    -- two applications with as many arguments leave the pairs of these
    pub joined_applications : IsGraph graph → (f g : SymId) (xs ys : List ℕ) → shape_at graph from ≡ App f xs →
        shape_at graph to ≡ App g ys → f.0 ≡ g.0 → length xs ≡ length ys →
        Joined graph roots rest left right (relabelled from to roots) (rest ++ zip xs ys)
    joined_applications fine f g xs ys p q same long =
        joined_by (zip xs ys)
        (within_zip (length graph) xs ys (args_in from from_in f xs p) (args_in to to_in g ys q))
        (omega (arith, length_zip_le xs ys, width_le graph from f xs from_in p))
        (λ h cs e.
        let k : App h cs ≡ App f xs = sym e ∙ p in
        let s : h ≡ f = cc in
        let c : cs ≡ xs = cc in (
          g,
          ys,
          q,
          ap (λ (o : SymId). o.0) s ∙ same,
          ap length c ∙ long,
          λ mark j. ap (λ us. trees_by mark us) c
              ∙ joins_zip mark xs ys long j,
        ))
        (λ mark s e. zip_joins mark xs ys (s from to f g xs ys from_in to_in p q same long e))
      where
        args_in : (i : ℕ) → i < length graph → (f : SymId) (cs : List ℕ) → shape_at graph i ≡ App f cs →
            AllBelow (length graph) cs
        args_in i l f cs e = below_most i (length graph) cs (omega arith) (subst (λ s. ArgsBelow i s) e (fine i l))

same_length : (mark : ℕ → Tree) (cs ds : List ℕ) → trees_by mark cs ≡ trees_by mark ds → length cs ≡ length ds
same_length mark [] [] e = refl
same_length mark [] (d ∷ ds) e = absurd (let q : none ≡ some (mark d) (trees_by mark ds) = e in cc)
same_length mark (c ∷ cs) [] e = absurd (let q : some (mark c) (trees_by mark cs) ≡ none = e in cc)
same_length mark (c ∷ cs) (d ∷ ds) e =
    let q : some (mark c) (trees_by mark cs) ≡ some (mark d) (trees_by mark ds) = e in
    ap suc (same_length mark cs ds (cc))

-- two applications with one instance have one symbol and as many arguments
pub not_joined : (graph : List Shape) (roots : List ℕ) (rest : List (ℕ × ℕ)) (left right : ℕ) →
    Classes graph roots (rest ++ (left, right) ∷ []) → (f g : SymId) (xs ys : List ℕ) →
    shape_at graph (root roots left) ≡ App f xs → shape_at graph (root roots right) ≡ App g ys →
    (f.0 ≡ g.0 → length xs ≡ length ys → ⊥) → NotJoined graph roots left right
not_joined graph roots rest left right at f g xs ys p q other mark model follows e =
    let l = last_within graph roots rest left right at in
    let a : mark (root roots left) ≡ app f.0 (trees_by mark xs) = model (root roots left) f xs (at.within left l.0) p in
    let b : mark (root roots right) ≡ app g.0 (trees_by mark ys) = model (root roots right) g ys
    (at.within right l.1) q in
    let k : app f.0 (trees_by mark xs) ≡ app g.0 (trees_by mark ys) = sym a ∙ sym (follows left l.0) ∙ e
    ∙ follows right l.1 ∙ b in
    other (cc) (same_length mark xs ys (cc))

-- the same, as the code reads and writes
module _ (graph : List Shape) (roots : List ℕ) (rest : List (ℕ × ℕ)) (left right : ℕ)
    (at : Classes graph roots (rest ++ (left, right) ∷ [])) (from to : ℕ)
    (from_read : from ≡ get_or roots left from) (to_read : to ≡ get_or roots right to) where
  from_is : root roots left ≡ from
  from_is = sym (get_or_read roots left from
      (omega (arith, at.long, last_within graph roots rest left right at)) from_read 0)

  to_is : root roots right ≡ to
  to_is = sym (get_or_read roots right to (omega (arith, at.long, last_within graph roots rest left right at))
      to_read 0)

  pub from_within : from < length graph
  from_within = subst (λ n. n < length graph) from_is (at.within left (last_within graph roots rest left right at).0)

  pub to_within : to < length graph
  to_within = subst (λ n. n < length graph) to_is (at.within right (last_within graph roots rest left right at).1)

  pub same_root : from ≡ to → Joined graph roots rest left right roots rest
  same_root e = joined_before graph roots rest left right at (from_is ∙ e ∙ sym to_is)

  module _ (a b : Shape) (a_read : a ≡ get_or graph from a) (b_read : b ≡ get_or graph to b) where
    a_is : (s : Shape) → a ≡ s → shape_at graph from ≡ s
    a_is s e = sym (get_or_read graph from a from_within a_read (Var (record { 0 = 0 }))) ∙ e

    b_is : (s : Shape) → b ≡ s → shape_at graph to ≡ s
    b_is s e = sym (get_or_read graph to b to_within b_read (Var (record { 0 = 0 }))) ∙ e

    pub clash_read : (f g : SymId) (xs ys : List ℕ) → a ≡ App f xs → b ≡ App g ys →
        (f.0 ≡ g.0 → length xs ≡ length ys → ⊥) → NotJoined graph roots left right
    clash_read f g xs ys p q other =
        not_joined graph roots rest left right at f g xs ys (ap (λ r. shape_at graph r) from_is
        ∙ a_is (App f xs) p) (ap (λ r. shape_at graph r) to_is ∙ b_is (App g ys) q) other

    module _ (made : List ℕ) (n : ℕ) (long : n ≡ length roots) (apart : from ≢ to) where
      back : (x y : ℕ) (pending : List (ℕ × ℕ)) → made ≡ relabelled x y roots →
          Joined graph roots rest left right (relabelled x y roots) pending →
          Joined graph roots rest left right (take n (made ++ drop (length made) roots)) pending
      back x y pending e j =
          let l : length made ≡ length roots = ap length e ∙ length-relabelled x y roots in
          subst (λ rs. Joined graph roots rest left right rs pending) (sym e ∙ sym (written_back roots made n long l)) j

      pub applications_read : IsGraph graph → (f g : SymId) (xs ys : List ℕ) → a ≡ App f xs → b ≡ App g ys →
          f.0 ≡ g.0 → length xs ≡ length ys → (pending : List (ℕ × ℕ)) → pending ≡ rest ++ zip xs ys →
          made ≡ relabelled from to roots →
          Joined graph roots rest left right (take n (made ++ drop (length made) roots)) pending
      applications_read fine f g xs ys p q same args pending e m =
          back from to pending m (subst (λ ps. Joined graph roots rest left right (relabelled from to roots) ps) (sym e)
          (joined_applications graph roots rest left right at from to (inl (from_is, to_is)) apart fine f g xs
          ys (a_is (App f xs) p) (b_is (App g ys) q) same args))

      pub first_variable_read : (v : VarId) → a ≡ Var v → made ≡ relabelled from to roots →
          Joined graph roots rest left right (take n (made ++ drop (length made) roots)) rest
      first_variable_read v p m = back from to rest m (joined_variable graph roots rest left right at from to
          (inl (from_is, to_is)) apart v (a_is (Var v) p))

      pub second_variable_read : (v : VarId) → b ≡ Var v → made ≡ relabelled to from roots →
          Joined graph roots rest left right (take n (made ++ drop (length made) roots)) rest
      second_variable_read v q m = back to from rest m (joined_variable graph roots rest left right at to from
          (inr (from_is, to_is)) (λ e. apart (sym e)) v (b_is (Var v) q))
