-- Places of variables among those that were met, and terms renumbered by them.
use Rattle.std.proofs.Common.{◌≡◌, ℕ, suc, ◌+◌, ◌<◌, List, [], ◌∷◌, ◌++◌, true, false, not, cond, ◌==◌, ◌||◌, Some}
use Rattle.std.proofs.Common.{None, ◌⊎◌, inl, inr, map, length, take, drop, get_or, refl, ap, sym, ◌∙◌, subst}
use Rattle.std.proofs.Common.{append_assoc, length-append, arith}
use Rattle.std.specs.Prelude.{position}
use Rattle.std.specs.List.{list_any}
use Rattle.std.proofs.lemmas.Bool.Decides.{eqb_tells, leb_tells}
use Rattle.std.proofs.lemmas.List.{append-nil, map-append}
use Rattle.std.proofs.lemmas.List.Sums.{prefix_len-le-length}
use Rattle.std.proofs.Math.Seq.{drop-cons}
use Rattle.term_core.specs.Tree.{Tree, Trees, var, app, none, some, trees_of}
use Rattle.term_core.specs.Variables.{occurrences, occurrences_all}
use Rattle.term_core.specs.Gathered.{met, gathered}
use Rattle.term_core.specs.Measures.{tree_bound, bounds}
use Rattle.term_core.proofs.Items.{taken_next}
use Rattle.term_core.proofs.Trees.{trees_of-inj}
use Rattle.clause_core.specs.Tidied.{place_of, renumbered, renumbered_all}

-- the number is among those that were met
abbrev pub Met : List ℕ → ℕ → Type 0
Met olds n = place_of olds n < length olds

place_here : (m n : ℕ) (ms : List ℕ) → (m == n) ≡ true → place_of (m ∷ ms) n ≡ 0
place_here m n ms e = ap (λ b. cond (not b) (1 + place_of ms n) 0) e

place_later : (m n : ℕ) (ms : List ℕ) → (m == n) ≡ false → place_of (m ∷ ms) n ≡ 1 + place_of ms n
place_later m n ms e = ap (λ b. cond (not b) (1 + place_of ms n) 0) e

pub met_or_not : (olds : List ℕ) (n : ℕ) → Met olds n ⊎ (place_of olds n ≡ length olds)
met_or_not olds n = grind (arith, prefix_len-le-length (λ m. not (m == n)) olds)

-- a number keeps its place when others are added
pub place_kept : (olds more : List ℕ) (n : ℕ) → Met olds n → place_of (olds ++ more) n ≡ place_of olds n
place_kept [] more n h = absurd (omega (arith, h))
place_kept (m ∷ ms) more n h = elim (eqb_tells m n) [
  | inl e ↦ place_here m n (ms ++ more) e.0 ∙ sym (place_here m n ms e.0)
  | inr e ↦ place_later m n (ms ++ more) e.0
      ∙ ap (λ k. 1 + k) (place_kept ms more n (omega (arith, h, place_later m n ms e.0))) ∙ sym (place_later m n ms e.0)
]

pub still_met : (olds more : List ℕ) (n : ℕ) → Met olds n → Met (olds ++ more) n
still_met olds more n h = omega (arith, h, place_kept olds more n h, length-append olds more)

-- a number that is met for the first time comes last
pub place_last : (olds more : List ℕ) (n : ℕ) → place_of olds n ≡ length olds →
    place_of (olds ++ n ∷ more) n ≡ length olds
place_last [] more n h = elim (eqb_tells n n) [ inl e ↦ place_here n n more e.0 | inr e ↦ absurd (e.1 refl) ]
place_last (m ∷ ms) more n h = elim (eqb_tells m n) [
  | inl e ↦ absurd (omega (arith, h, place_here m n ms e.0))
  | inr e ↦ place_later m n (ms ++ n ∷ more) e.0
      ∙ ap (λ k. 1 + k) (place_last ms more n (omega (arith, h, place_later m n ms e.0))) ∙ omega arith
]

pub found_at : (olds : List ℕ) (n i : ℕ) → position (λ m. m == n) olds ≡ Some i → Met olds n × (place_of olds n ≡ i)
found_at olds n i h = elim (leb_tells (suc (place_of olds n)) (length olds)) [
  | inl e ↦ let q : Some (place_of olds n) ≡ Some i = sym (ap (λ b. cond b (Some (place_of olds n)) None) e.0)
      ∙ h in (omega (arith, e.1), cc)
  | inr e ↦ absurd (let q : None ≡ Some i = sym (ap (λ b. cond b (Some (place_of olds n)) None) e.0) ∙ h in cc)
]

pub not_found : (olds : List ℕ) (n : ℕ) → position (λ m. m == n) olds ≡ None → place_of olds n ≡ length olds
not_found olds n h = elim (leb_tells (suc (place_of olds n)) (length olds)) [
  | inl e ↦ absurd (let q : Some (place_of olds n) ≡ None = sym
      (ap (λ b. cond b (Some (place_of olds n)) None) e.0) ∙ h in cc)
  | inr e ↦ omega (arith, e.1, prefix_len-le-length (λ m. not (m == n)) olds)
]

any_met : (olds : List ℕ) (n : ℕ) → Met olds n → list_any (λ m. m == n) olds ≡ true
any_met [] n h = absurd (omega (arith, h))
any_met (m ∷ ms) n h = elim (eqb_tells m n) [
  | inl e ↦ ap (λ b. b || list_any (λ k. k == n) ms) e.0
  | inr e ↦ ap (λ b. b || list_any (λ k. k == n) ms) e.0 ∙ any_met ms n (omega (arith, h, place_later m n ms e.0))
]

any_new : (olds : List ℕ) (n : ℕ) → place_of olds n ≡ length olds → list_any (λ m. m == n) olds ≡ false
any_new [] n h = refl
any_new (m ∷ ms) n h = elim (eqb_tells m n) [
  | inl e ↦ absurd (omega (arith, h, place_here m n ms e.0))
  | inr e ↦ ap (λ b. b || list_any (λ k. k == n) ms) e.0 ∙ any_new ms n (omega (arith, h, place_later m n ms e.0))
]

pub met_old : (olds : List ℕ) (n : ℕ) → Met olds n → met olds n ≡ olds
met_old olds n h = ap (λ b. cond b olds (olds ++ n ∷ [])) (any_met olds n h)

pub met_new : (olds : List ℕ) (n : ℕ) → place_of olds n ≡ length olds → met olds n ≡ olds ++ n ∷ []
met_new olds n h = ap (λ b. cond b olds (olds ++ n ∷ [])) (any_new olds n h)

-- what is met is added after what was there
met_more : (olds : List ℕ) (n : ℕ) → (more : List ℕ) × (met olds n ≡ olds ++ more) × Met (olds ++ more) n
met_more olds n = elim (met_or_not olds n) [
  | inl h ↦ ([], met_old olds n h ∙ sym (append-nil olds), still_met olds [] n h)
  | inr h ↦ (n ∷ [], met_new olds n h, omega (arith, place_last olds [] n h, length-append olds (n ∷ [])))
]

pub gathered_more : (olds ns : List ℕ) → (more : List ℕ) × (gathered olds ns ≡ olds ++ more)
gathered_more olds [] = ([], sym (append-nil olds))
gathered_more olds (n ∷ ns) =
    let a = met_more olds n in
    let b = gathered_more (met olds n) ns in
    (a.0 ++ b.0, b.1 ∙ ap (λ os. os ++ b.0) a.1 ∙ append_assoc olds a.0 b.0)

-- the place of a number stays the same from where it is met
pub gathered_kept : (olds ns : List ℕ) (n : ℕ) → Met olds n → Met (gathered olds ns) n
    × (place_of (gathered olds ns) n ≡ place_of olds n)
gathered_kept olds ns n h =
    let g = gathered_more olds ns in
    (subst (λ os. Met os n) (sym g.1) (still_met olds g.0 n h), ap (λ os. place_of os n) g.1 ∙ place_kept olds g.0 n h)

pub met_here : (olds : List ℕ) (n : ℕ) → Met (met olds n) n
met_here olds n = let a = met_more olds n in subst (λ os. Met os n) (sym a.1) a.2

pub gathered-append : (olds ms ns : List ℕ) → gathered olds (ms ++ ns) ≡ gathered (gathered olds ms) ns
gathered-append olds [] ns = refl
gathered-append olds (m ∷ ms) ns = gathered-append (met olds m) ms ns

-- renumbered terms stay the same when more variables are met
mutual
  pub renumbered_kept :
      (t : Tree) (olds ns : List ℕ) →
      renumbered (gathered (gathered olds (occurrences t)) ns) t ≡ renumbered (gathered olds (occurrences t)) t
  renumbered_kept (var n) olds ns = ap (λ k. var k) (gathered_kept (met olds n) ns n (met_here olds n)).1
  renumbered_kept (app f ts) olds ns = ap (λ us. app f us) (renumbered_all_kept ts olds ns)

  pub renumbered_all_kept :
      (ts : Trees) (olds ns : List ℕ) →
      renumbered_all (gathered (gathered olds (occurrences_all ts)) ns) ts ≡ renumbered_all
      (gathered olds (occurrences_all ts)) ts
  renumbered_all_kept none olds ns = refl
  renumbered_all_kept (some t ts) olds ns =
      let first = gathered olds (occurrences t) in
      let apart : gathered olds (occurrences t ++ occurrences_all ts) ≡ gathered first
      (occurrences_all ts) = gathered-append olds (occurrences t) (occurrences_all ts) in
      let p : renumbered (gathered (gathered olds (occurrences t ++ occurrences_all ts)) ns) t ≡ renumbered
      (gathered olds (occurrences t ++ occurrences_all ts)) t =
      ap (λ os. renumbered (gathered os ns) t) apart
      ∙ ap (λ os. renumbered os t) (sym (gathered-append first (occurrences_all ts) ns))
      ∙ renumbered_kept t olds (occurrences_all ts ++ ns)
      ∙ sym (renumbered_kept t olds (occurrences_all ts))
      ∙ ap (λ os. renumbered os t) (sym apart) in
      let q : renumbered_all (gathered (gathered olds (occurrences t ++ occurrences_all ts)) ns)
      ts ≡ renumbered_all (gathered olds (occurrences t ++ occurrences_all ts)) ts =
      ap (λ os. renumbered_all (gathered os ns) ts) apart ∙ renumbered_all_kept ts first ns
      ∙ ap (λ os. renumbered_all os ts) (sym apart) in
      λ i. some (p i) (q i)

pub renumbered_all-trees_of : (olds : List ℕ) (ts : List Tree) →
    renumbered_all olds (trees_of ts) ≡ trees_of (map (renumbered olds) ts)
renumbered_all-trees_of olds [] = refl
renumbered_all-trees_of olds (t ∷ ts) = ap (λ us. some (renumbered olds t) us) (renumbered_all-trees_of olds ts)

-- one term more of a list
pub occurrences_all-append :
    (ts us : List Tree) →
    occurrences_all (trees_of (ts ++ us)) ≡ occurrences_all (trees_of ts) ++ occurrences_all (trees_of us)
occurrences_all-append [] us = refl
occurrences_all-append (t ∷ ts) us = ap (λ ns. occurrences t ++ ns) (occurrences_all-append ts us)
    ∙ sym (append_assoc (occurrences t) (occurrences_all (trees_of ts)) (occurrences_all (trees_of us)))

-- the variables of more terms
pub gathered_both :
    (olds : List ℕ) (ts us : List Tree) →
    gathered olds (occurrences_all (trees_of (ts ++ us))) ≡ gathered
    (gathered olds (occurrences_all (trees_of ts))) (occurrences_all (trees_of us))
gathered_both olds ts us = ap (λ ns. gathered olds ns) (occurrences_all-append ts us)
    ∙ gathered-append olds (occurrences_all (trees_of ts)) (occurrences_all (trees_of us))

pub gathered_next :
    (olds : List ℕ) (ts : List Tree) (i : ℕ) (t : Tree) → i < length ts → t ≡ get_or ts i t →
    gathered olds (occurrences_all (trees_of (take (i + 1) ts))) ≡ gathered
    (gathered olds (occurrences_all (trees_of (take i ts)))) (occurrences t)
gathered_next olds ts i t lt is =
    ap (λ us. gathered olds (occurrences_all (trees_of us))) (taken_next ts i t lt is)
    ∙ gathered_both olds (take i ts) (t ∷ [])
    ∙ ap (λ ns. gathered (gathered olds (occurrences_all (trees_of (take i ts)))) ns) (append-nil (occurrences t))

pub list_kept :
    (olds ns : List ℕ) (ts : List Tree) →
    map (renumbered (gathered (gathered olds (occurrences_all (trees_of ts))) ns)) ts ≡ map
    (renumbered (gathered olds (occurrences_all (trees_of ts)))) ts
list_kept olds ns ts =
    trees_of-inj _ _ (sym (renumbered_all-trees_of _ ts) ∙ renumbered_all_kept (trees_of ts) olds ns
    ∙ renumbered_all-trees_of _ ts)

pub renumbered_next :
    (start : List ℕ) (ts : List Tree) (i : ℕ) (t : Tree) → i < length ts → t ≡ get_or ts i t →
    (olds news : List ℕ) (made pushed : List Tree) (new : Tree) →
    olds ≡ gathered start (occurrences_all (trees_of (take i ts))) →
    news ≡ gathered (gathered start (occurrences_all (trees_of (take i ts)))) (occurrences t) →
    made ≡ map (renumbered olds) (take i ts) → new ≡ renumbered news t → pushed ≡ made ++ new ∷ [] →
    pushed ≡ map (renumbered news) (take (i + 1) ts)
renumbered_next start ts i t lt is olds news made pushed new o n m w p =
    let first : List ℕ = gathered start (occurrences_all (trees_of (take i ts))) in
    let kept : made ≡ map (renumbered news) (take i ts) =
    m ∙ ap (λ os. map (renumbered os) (take i ts)) o ∙ sym (list_kept start (occurrences t) (take i ts))
    ∙ ap (λ os. map (renumbered os) (take i ts)) (sym n) in
    p ∙ ap (λ us. us ++ new ∷ []) kept ∙ ap (λ u. map (renumbered news) (take i ts) ++ u ∷ []) w
    ∙ sym (map-append (renumbered news) (take i ts) (t ∷ []))
    ∙ ap (λ us. map (renumbered news) us) (sym (taken_next ts i t lt is))

-- a list of which only the items before a place have changed has the old one there, and the old ones after it
pub next_left : {X : Type 0} (now before : List X) (i : ℕ) (d : X) → i < length now → i < length before →
    drop i now ≡ drop i before → get_or now i d ≡ get_or before i d
next_left now before i d l m e =
    let q : get_or now i d ∷ drop (suc i) now ≡ get_or before i d ∷ drop (suc i) before = sym
    (drop-cons now i d l) ∙ e ∙ drop-cons before i d m in cc

pub others_left : {X : Type 0} (now before : List X) (i : ℕ) (d : X) → i < length now → i < length before →
    drop i now ≡ drop i before → drop (i + 1) now ≡ drop (i + 1) before
others_left now before i d l m e =
    let q : get_or now i d ∷ drop (suc i) now ≡ get_or before i d ∷ drop (suc i) before = sym
    (drop-cons now i d l) ∙ e ∙ drop-cons before i d m in
    let r : drop (suc i) now ≡ drop (suc i) before = cc in
    let n : i + 1 ≡ suc i = omega arith in
    ap (λ k. drop k now) n ∙ r ∙ ap (λ k. drop k before) (sym n)

mutual
  -- a term without variables stays as it is
  pub closed_kept : (olds : List ℕ) (t : Tree) → tree_bound t ≡ 0 → renumbered olds t ≡ t
  closed_kept olds (var n) e = absurd (omega (arith, e))
  closed_kept olds (app f ts) e = ap (λ us. app f us) (all_closed_kept olds ts e)

  all_closed_kept : (olds : List ℕ) (ts : Trees) → bounds ts ≡ 0 → renumbered_all olds ts ≡ ts
  all_closed_kept olds none e = refl
  all_closed_kept olds (some t ts) e =
      let p = closed_kept olds t (omega (arith, e)) in
      let q = all_closed_kept olds ts (omega (arith, e)) in
      cc
