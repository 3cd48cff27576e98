-- The order of a status has the same arguments, each once.
use Rattle.std.proofs.Common.{◌≡◌, ℕ, zero, suc, ◌+◌, ◌≤◌, Bool, true, false, ◌&&◌, List, [], ◌∷◌, length, Option}
use Rattle.std.proofs.Common.{Some, None, ap, subst, sym, refl, ◌∙◌, inl, inr, arith}
use Rattle.std.specs.Prelude.{◌==◌, if◌then◌else◌}
use Rattle.std.proofs.lemmas.Bool.{eqb-true, and_parts}
use Rattle.std.specs.List.{AllByRecursion}
use Rattle.term_core.specs.Tree.{Tree, Trees, var, none, some, list_of, instance, instances, tree_depth, depths}
use Rattle.term_core.specs.Contexts.{around}
use Rattle.term_core.specs.Measure.{weight, weights}
use Rattle.term_core.specs.Precedence.{Precedence, status, is_status, times}
use Rattle.term_core.proofs.Members.{In}
use Rattle.term_core.proofs.Numbers.{same_or_not}
use Rattle.term_core.proofs.Statuses.{IsPlace, status-places, status-once, status-sums, sum_of, sum_to, times-in}
use Rattle.term_core.proofs.Statuses.{times-here, times-other}
use Rattle.path_order.specs.Arranged.{numbered, picked, in_order, arranged}
use Rattle.longest_chains.proofs.Each.{Each}

abbrev pub Count : Trees → ℕ
Count ts = length (list_of ts)

-- what is so of the arguments as they are, and of those in any order, is so of the arranged ones
pub arranged-cases :
    (P : Trees → Type 0) (s : Option (List ℕ)) (ts : Trees) → P ts →
    ((ps : List ℕ) → s ≡ Some ps → is_status ps ≡ true → length ps ≡ Count ts → P (picked ps ts)) →
    P (in_order s ts)
arranged-cases P None ts a b = a
arranged-cases P (Some ps) ts a b = go (is_status ps && (length ps == Count ts)) refl
  where
    go :
        (test : Bool) → is_status ps && (length ps == Count ts) ≡ test →
        P (if test then picked ps ts else ts)
    go true e =
        let h = and_parts (is_status ps) (length ps == Count ts) e in
        b ps refl h.0 (eqb-true (length ps) (Count ts) h.1)
    go false e = a

-- their number

pub count-picked : (ps : List ℕ) (ts : Trees) → Count (picked ps ts) ≡ length ps
count-picked [] ts = refl
count-picked (p ∷ ps) ts = omega (arith, count-picked ps ts)

pub count-arranged : (o : Precedence) (f : ℕ) (ts : Trees) → Count (arranged o f ts) ≡ Count ts
count-arranged o f ts =
    arranged-cases (λ us. Count us ≡ Count ts) (status o f) ts refl
    (λ ps is h e. count-picked ps ts ∙ e)

-- what holds of each

places-here : (m p : ℕ) (ps : List ℕ) → m ≡ p → AllByRecursion (IsPlace p) ps → AllByRecursion (IsPlace m) ps
places-here m p ps e h = subst (λ k. AllByRecursion (IsPlace k) ps) (sym e) h

each-numbered :
    (P : Tree → Type 0) (ts : Trees) (n : ℕ) → IsPlace (Count ts) n → Each P ts →
    P (numbered (list_of ts) n)
each-numbered P none n l e = absurd (omega (arith, l.0, l.1))
each-numbered P (some t ts) zero l e = absurd (omega (arith, l.0))
each-numbered P (some t ts) (suc zero) l e = e.0
each-numbered P (some t ts) (suc (suc n)) l e =
    each-numbered P ts (suc n) (omega arith, omega (arith, l.1)) e.1

numbered-each :
    (P : Tree → Type 0) (ts : Trees) →
    ((n : ℕ) → IsPlace (Count ts) n → P (numbered (list_of ts) n)) → Each P ts
numbered-each P none h = tt
numbered-each P (some t ts) h = (
  h 1 (omega arith, omega arith),
  numbered-each P ts (λ n l. further n l (λ k. h k)),
)
  where
    further :
        (n : ℕ) → IsPlace (Count ts) n →
        ((k : ℕ) → IsPlace (Count (some t ts)) k → P (numbered (list_of (some t ts)) k)) →
        P (numbered (list_of ts) n)
    further zero l g = absurd (omega (arith, l.0))
    further (suc n) l g = g (suc (suc n)) (omega arith, omega (arith, l.1))

picked-into :
    (P : Tree → Type 0) (ps : List ℕ) (ts : Trees) → AllByRecursion (IsPlace (Count ts)) ps →
    Each P ts → Each P (picked ps ts)
picked-into P [] ts l e = tt
picked-into P (p ∷ ps) ts l e = (each-numbered P ts p l.0 e, picked-into P ps ts l.1 e)

picked-has :
    (P : Tree → Type 0) (ps : List ℕ) (ts : Trees) (n : ℕ) → In n ps → Each P (picked ps ts) →
    P (numbered (list_of ts) n)
picked-has P [] ts n i e = absurd i
picked-has P (p ∷ ps) ts n (inl q) e = subst (λ k. P (numbered (list_of ts) k)) (sym q) e.0
picked-has P (p ∷ ps) ts n (inr i) e = picked-has P ps ts n i e.1

status-has : (ps : List ℕ) → is_status ps ≡ true → (n : ℕ) → IsPlace (length ps) n → In n ps
status-has ps h n l = times-in n ps (omega (arith, status-once ps h n l))

pub each-arranged :
    (P : Tree → Type 0) (o : Precedence) (f : ℕ) (ts : Trees) → Each P ts →
    Each P (arranged o f ts)
each-arranged P o f ts e =
    arranged-cases (λ us. Each P us) (status o f) ts e
    (λ ps is h c. picked-into P ps ts (places-here (Count ts) (length ps) ps (sym c) (status-places ps h)) e)

pub arranged-each :
    (P : Tree → Type 0) (o : Precedence) (f : ℕ) (ts : Trees) → Each P (arranged o f ts) →
    Each P ts
arranged-each P o f ts =
    arranged-cases (λ us. Each P us → Each P ts) (status o f) ts (λ e. e)
    (λ ps is h c e.
    numbered-each P ts (λ n l. picked-has P ps ts n (status-has ps h n (l.0, omega (arith, c, l.1))) e))

-- instances

numbered-instances :
    (xs : List Tree) (ts : Trees) (n : ℕ) → IsPlace (Count ts) n →
    numbered (list_of (instances xs ts)) n ≡ instance xs (numbered (list_of ts) n)
numbered-instances xs none n l = absurd (omega (arith, l.0, l.1))
numbered-instances xs (some t ts) zero l = absurd (omega (arith, l.0))
numbered-instances xs (some t ts) (suc zero) l = refl
numbered-instances xs (some t ts) (suc (suc n)) l =
    numbered-instances xs ts (suc n) (omega arith, omega (arith, l.1))

picked-instances :
    (xs : List Tree) (ps : List ℕ) (ts : Trees) → AllByRecursion (IsPlace (Count ts)) ps →
    picked ps (instances xs ts) ≡ instances xs (picked ps ts)
picked-instances xs [] ts l = refl
picked-instances xs (p ∷ ps) ts l =
    λ i. some (numbered-instances xs ts p l.0 i) (picked-instances xs ps ts l.1 i)

count-instances : (xs : List Tree) (ts : Trees) → Count (instances xs ts) ≡ Count ts
count-instances xs none = refl
count-instances xs (some t ts) = omega (arith, count-instances xs ts)

pub arranged-instances :
    (xs : List Tree) (o : Precedence) (f : ℕ) (ts : Trees) →
    arranged o f (instances xs ts) ≡ instances xs (arranged o f ts)
arranged-instances xs o f ts = by-status (status o f)
  where
    by-status : (s : Option (List ℕ)) → in_order s (instances xs ts) ≡ instances xs (in_order s ts)
    by-status None = refl
    by-status (Some ps) =
        ap (λ n. if is_status ps && (length ps == n) then picked ps (instances xs ts) else instances xs ts)
        (count-instances xs ts)
        ∙ go (is_status ps && (length ps == Count ts)) refl
      where
        go :
            (test : Bool) → is_status ps && (length ps == Count ts) ≡ test →
            (if test then picked ps (instances xs ts) else instances xs ts)
            ≡ instances xs (if test then picked ps ts else ts)
        go true e =
            let h = and_parts (is_status ps) (length ps == Count ts) e in
            let c = eqb-true (length ps) (Count ts) h.1 in
            picked-instances xs ps ts (places-here (Count ts) (length ps) ps (sym c) (status-places ps h.0))
        go false e = refl

-- a place among the arguments is one among the arranged ones

there : (before : Trees) (t : Tree) (after : Trees) →
    numbered (list_of (around before t after)) (suc (Count before)) ≡ t
there none t after = refl
there (some b before) t after = there before t after

elsewhere :
    (before : Trees) (t s : Tree) (after : Trees) (n : ℕ) → (n ≡ suc (Count before) → ⊥) →
    numbered (list_of (around before t after)) n ≡ numbered (list_of (around before s after)) n
elsewhere before t s after zero d = refl
elsewhere none t s after (suc zero) d = absurd (d refl)
elsewhere none t s after (suc (suc n)) d = refl
elsewhere (some b before) t s after (suc zero) d = refl
elsewhere (some b before) t s after (suc (suc n)) d =
    elsewhere before t s after (suc n) (λ e. d (omega (arith, e)))

others-stay :
    (before : Trees) (t s : Tree) (after : Trees) (ps : List ℕ) →
    times (suc (Count before)) ps ≡ 0 →
    picked ps (around before t after) ≡ picked ps (around before s after)
others-stay before t s after [] z = refl
others-stay before t s after (p ∷ ps) z =
    elim (same_or_not p (suc (Count before))) [
      | inl e ↦ absurd (omega (arith, z, times-here (suc (Count before)) p ps e))
      | inr d ↦
          λ i. some (elsewhere before t s after p d i) (others-stay before t s after ps
          (omega (arith, z, times-other (suc (Count before)) p ps d)) i)
    ]

-- what has one place for each term
abbrev pub HasPlace : (Tree → Trees) → Type 0
HasPlace arguments = (before : Trees) × (after : Trees) × ((t : Tree) → arguments t ≡ around before t after)

picked-place :
    (before after : Trees) (ps : List ℕ) → times (suc (Count before)) ps ≡ 1 →
    HasPlace (λ t. picked ps (around before t after))
picked-place before after [] z = absurd (omega (arith, z))
picked-place before after (p ∷ ps) z =
    elim (same_or_not p (suc (Count before))) [
      | inl e ↦
          let gone : times (suc (Count before)) ps ≡ 0 =
          omega (arith, z, times-here (suc (Count before)) p ps e)
          in
          let at : (t : Tree) → numbered (list_of (around before t after)) p ≡ t =
          λ t. ap (λ k. numbered (list_of (around before t after)) k) e ∙ there before t after
          in (
            none,
            picked ps (around before (var 0) after),
            λ t i. some (at t i) (others-stay before t (var 0) after ps gone i),
          )
      | inr d ↦
          let rest = picked-place before after ps (omega (arith, z, times-other (suc (Count before)) p ps d)) in (
            some (numbered (list_of (around before (var 0) after)) p) rest.0,
            rest.1,
            λ t i. some (elsewhere before t (var 0) after p d i) (rest.2 t i),
          )
    ]

count-around :
    (before : Trees) (t s : Tree) (after : Trees) →
    Count (around before t after) ≡ Count (around before s after)
count-around none t s after = refl
count-around (some b before) t s after = omega (arith, count-around before t s after)

within-around :
    (before : Trees) (t : Tree) (after : Trees) → suc (Count before) ≤ Count (around before t after)
within-around none t after = omega arith
within-around (some b before) t after = omega (arith, within-around before t after)

abbrev Size : Trees → Trees → ℕ
Size before after = Count (around before (var 0) after)

abbrev Ordered : List ℕ → Trees → Trees → Bool → Tree → Trees
Ordered ps before after test t =
    if test then picked ps (around before t after) else around before t after

one-test :
    (ps : List ℕ) (before after : Trees) (t : Tree) →
    (is_status ps && (length ps == Count (around before t after)))
    ≡ (is_status ps && (length ps == Size before after))
one-test ps before after t =
    ap (λ n. is_status ps && (length ps == n)) (count-around before t (var 0) after)

pub arranged-place :
    (o : Precedence) (f : ℕ) (before after : Trees) →
    HasPlace (λ t. arranged o f (around before t after))
arranged-place o f before after = by-status (status o f)
  where
    by-status : (s : Option (List ℕ)) → HasPlace (λ t. in_order s (around before t after))
    by-status None = (before, after, λ t. refl)
    by-status (Some ps) = go (is_status ps && (length ps == Size before after)) refl
      where
        go :
            (test : Bool) → is_status ps && (length ps == Size before after) ≡ test →
            HasPlace (λ t. in_order (Some ps) (around before t after))
        go true e =
            let h = and_parts (is_status ps) (length ps == Size before after) e in
            let c = eqb-true (length ps) (Size before after) h.1 in
            let place =
            picked-place before after ps
            (status-once ps h.0 (suc (Count before)) (
              omega arith,
              omega
                  (arith, c, within-around before (var 0) after),
            ))
            in (
              place.0,
              place.1,
              λ t. ap (λ b. Ordered ps before after b t) (one-test ps before after t ∙ e) ∙ place.2 t,
            )
        go false e = (
          before,
          after,
          λ t. ap (λ b. Ordered ps before after b t) (one-test ps before after t ∙ e),
        )

-- arguments that are the same in the order of one status are the same

pub first-is : {a b : Tree} {ts ss : Trees} → some a ts ≡ some b ss → a ≡ b
first-is e = cc

pub rest-is : {a b : Tree} {ts ss : Trees} → some a ts ≡ some b ss → ts ≡ ss
rest-is e = cc

picked-same :
    (ps : List ℕ) (ts ss : Trees) (n : ℕ) → In n ps → picked ps ts ≡ picked ps ss →
    numbered (list_of ts) n ≡ numbered (list_of ss) n
picked-same [] ts ss n i e = absurd i
picked-same (p ∷ ps) ts ss n (inl q) e =
    subst (λ k. numbered (list_of ts) k ≡ numbered (list_of ss) k) (sym q) (first-is e)
picked-same (p ∷ ps) ts ss n (inr i) e = picked-same ps ts ss n i (rest-is e)

pub same-numbered :
    (ts ss : Trees) → Count ts ≡ Count ss →
    ((n : ℕ) → IsPlace (Count ts) n → numbered (list_of ts) n ≡ numbered (list_of ss) n) → ts ≡ ss
same-numbered none none c h = refl
same-numbered none (some s ss) c h = absurd (omega (arith, c))
same-numbered (some t ts) none c h = absurd (omega (arith, c))
same-numbered (some t ts) (some s ss) c h =
    λ i. some (h 1 (omega arith, omega arith) i) (same-numbered ts ss (omega (arith, c))
    (λ n l. further n l (λ k. h k)) i)
  where
    further :
        (n : ℕ) → IsPlace (Count ts) n →
        ((k : ℕ) → IsPlace (Count (some t ts)) k →
        numbered (list_of (some t ts)) k ≡ numbered (list_of (some s ss)) k) →
        numbered (list_of ts) n ≡ numbered (list_of ss) n
    further zero l g = absurd (omega (arith, l.0))
    further (suc n) l g = g (suc (suc n)) (omega arith, omega (arith, l.1))

pub arranged-same :
    (o : Precedence) (f : ℕ) (ts ss : Trees) → Count ts ≡ Count ss →
    arranged o f ts ≡ arranged o f ss → ts ≡ ss
arranged-same o f ts ss c = by-status (status o f)
  where
    by-status : (s : Option (List ℕ)) → in_order s ts ≡ in_order s ss → ts ≡ ss
    by-status None e = e
    by-status (Some ps) e =
        go (is_status ps && (length ps == Count ts)) refl
        (e ∙ ap (λ n. if is_status ps && (length ps == n) then picked ps ss else ss) (sym c))
      where
        go :
            (test : Bool) → is_status ps && (length ps == Count ts) ≡ test →
            (if test then picked ps ts else ts) ≡ (if test then picked ps ss else ss) → ts ≡ ss
        go true q same =
            let h = and_parts (is_status ps) (length ps == Count ts) q in
            let k = eqb-true (length ps) (Count ts) h.1 in
            same-numbered ts ss c (λ n l. picked-same ps ts ss n (status-has ps h.0 n (l.0, omega (arith, k, l.1)))
            same)
        go false q same = same

-- their weight

weight-of : List Tree → ℕ → ℕ
weight-of ts n = weight (numbered ts n) + 1

weights-picked : (ts : Trees) (ps : List ℕ) → weights (picked ps ts) ≡ sum_of (weight-of (list_of ts)) ps
unfolding weight-of
weights-picked ts [] = refl
weights-picked ts (p ∷ ps) = omega (arith, weights-picked ts ps)

sum-from-first : (w : ℕ → ℕ) (m : ℕ) → sum_to w (suc m) ≡ w 1 + sum_to (λ n. w (suc n)) m
sum-from-first w zero = refl
sum-from-first w (suc m) = omega (arith, sum-from-first w m)

sum-as : (v w : ℕ → ℕ) (m : ℕ) → ((n : ℕ) → 1 ≤ n → v n ≡ w n) → sum_to v m ≡ sum_to w m
sum-as v w zero h = refl
sum-as v w (suc m) h = omega (arith, h (suc m) (omega arith), sum-as v w m h)

weights-are : (ts : Trees) → sum_to (weight-of (list_of ts)) (Count ts) ≡ weights ts
unfolding weight-of
weights-are none = refl
weights-are (some t ts) =
    let shift : sum_to (λ n. weight-of (t ∷ list_of ts) (suc n)) (Count ts) ≡ sum_to (weight-of (list_of ts))
    (Count ts) =
    sum-as (λ n. weight-of (t ∷ list_of ts) (suc n)) (weight-of (list_of ts)) (Count ts) (λ n l. one-less n l)
    in
    omega (arith, sum-from-first (weight-of (t ∷ list_of ts)) (Count ts), shift, weights-are ts)
  where
    one-less : (n : ℕ) → 1 ≤ n → weight-of (t ∷ list_of ts) (suc n) ≡ weight-of (list_of ts) n
    one-less zero l = absurd (omega (arith, l))
    one-less (suc n) l = refl

pub weights-arranged : (o : Precedence) (f : ℕ) (ts : Trees) → weights (arranged o f ts) ≡ weights ts
weights-arranged o f ts =
    arranged-cases (λ us. weights us ≡ weights ts) (status o f) ts refl
    (λ ps is h c.
    weights-picked ts ps ∙ status-sums (weight-of (list_of ts)) ps h
    ∙ ap (λ m. sum_to (weight-of (list_of ts)) m) c ∙ weights-are ts)

-- their depth

each-depth : (ts : Trees) (k : ℕ) → depths ts ≤ k → Each (λ t. tree_depth t ≤ k) ts
each-depth none k l = tt
each-depth (some t ts) k l = (omega arith, each-depth ts k (omega arith))

depth-each : (ts : Trees) (k : ℕ) → Each (λ t. tree_depth t ≤ k) ts → depths ts ≤ k
depth-each none k e = omega arith
depth-each (some t ts) k e = omega (arith, e.0, depth-each ts k e.1)

pub depths-arranged :
    (o : Precedence) (f : ℕ) (ts : Trees) (k : ℕ) → depths ts ≤ k → depths (arranged o f ts) ≤ k
depths-arranged o f ts k l =
    depth-each (arranged o f ts) k (each-arranged (λ t. tree_depth t ≤ k) o f ts (each-depth ts k l))
