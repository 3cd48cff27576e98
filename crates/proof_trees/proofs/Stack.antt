-- A stack of what is left to draw, and what becomes of it.
use Rattle.std.proofs.Common.{◌≡◌, ◌<◌, ◌+◌, ℕ, suc, List, [], ◌∷◌, ◌++◌, true, false}
use Rattle.std.proofs.Common.{refl, sym, ◌∙◌, ap, subst, arith, length}
use Rattle.std.specs.List.{AllByRecursion}
use Rattle.std.proofs.lemmas.List.{append_assoc, append-nil, length-append}
use Rattle.term_core.proofs.Items.{all_append}
use Rattle.page_core.specs.declared.parts.Part.TheVariants.{Case}
use Rattle.page_core.specs.Events.{Event, begins, ends}
use Rattle.page_core.specs.Pages.{PageValue, after}
use Rattle.page_core.proofs.Pages.{after-after}
use Rattle.proof_trees.specs.declared.trees.Pending.{Pending}
use Rattle.proof_trees.specs.declared.trees.Pending.TheVariants.{Tree, Cases, EndCase}
use Rattle.proof_trees.specs.Pendings.{DrawsNext, IsPending, left_of, lefts, whole, work}
use Rattle.proof_trees.specs.Trees.{Outline, below, cases}

module _ (o : Outline) (nodes : ℕ) where
  lefts_append : (ps qs : List Pending) → lefts o nodes (ps ++ qs) ≡ lefts o nodes qs ++ lefts o nodes ps
  lefts_append [] qs = sym (append-nil (lefts o nodes qs))
  lefts_append (p ∷ ps) qs =
      ap (λ es. es ++ left_of o nodes p) (lefts_append ps qs)
      ∙ append_assoc (lefts o nodes qs) (lefts o nodes ps) (left_of o nodes p)

  module _ (rest new : List Pending) (next : Pending) (before after_it : PageValue)
      (d : DrawsNext o nodes next rest new before after_it) where
    same_left : d.drawn ++ lefts o nodes new ≡ lefts o nodes (rest ++ next ∷ [])
    same_left =
        ap (λ ps. d.drawn ++ lefts o nodes ps) d.stack
        ∙ ap (λ es. d.drawn ++ es) (lefts_append rest d.more)
        ∙ sym (append_assoc d.drawn (lefts o nodes d.more) (lefts o nodes rest))
        ∙ ap (λ es. es ++ lefts o nodes rest) d.same
        ∙ sym (lefts_append rest (next ∷ []))

    -- the whole page stays as it will be
    pub same_page : after after_it (lefts o nodes new) ≡ after before (lefts o nodes (rest ++ next ∷ []))
    same_page =
        ap (λ p. after p (lefts o nodes new)) d.page
        ∙ after-after before d.drawn (lefts o nodes new)
        ∙ ap (λ es. after before es) same_left

    pub still_pending : AllByRecursion (IsPending o nodes) rest → AllByRecursion (IsPending o nodes) new
    still_pending all =
        subst (λ ps. AllByRecursion (IsPending o nodes) ps) (sym d.stack)
        (all_append (IsPending o nodes) rest d.more all d.pending)

    pub less_work : work o nodes new < work o nodes (rest ++ next ∷ [])
    less_work =
        omega (
          arith,
          ap length same_left,
          length-append d.drawn (lefts o nodes new),
          ap length d.stack,
          length-append rest d.more,
          length-append rest (next ∷ []),
          d.falls,
        )

  -- what a node leaves: its cases, its only child, or nothing
  module _ (k : ℕ) (is : whole o nodes k ≡ o.own k ++ below o (whole o nodes) k (o.has_cases k) (o.count k))
      (some : 0 < length (o.own k)) (old : List Pending) (before after_it : PageValue)
      (page : after_it ≡ after before (o.own k)) where
    pub cases_left :
        o.has_cases k ≡ true → (n : ℕ) → n ≡ o.count k → (new : List Pending) →
        new ≡ old ++ Cases k 0 n ∷ [] → DrawsNext o nodes (Tree k) old new before after_it
    cases_left are n all new stack = record {
      drawn = o.own k;
      page = page;
      more = Cases k 0 n ∷ [];
      stack = stack;
      same =
          ap (λ m. o.own k ++ cases o (whole o nodes) k 0 m) all
          ∙ sym (is ∙ ap (λ b. o.own k ++ below o (whole o nodes) k b (o.count k)) are);
      falls = omega (arith, some);
      pending = (omega (arith, all), tt);
    }

    pub none_left :
        o.has_cases k ≡ false → o.count k ≡ 0 → (new : List Pending) → new ≡ old →
        DrawsNext o nodes (Tree k) old new before after_it
    none_left alone none new stack = record {
      drawn = o.own k;
      page = page;
      more = [];
      stack = stack ∙ sym (append-nil old);
      same =
          sym
          (is ∙ ap (λ b. o.own k ++ below o (whole o nodes) k b (o.count k)) alone
          ∙ ap (λ n. o.own k ++ below o (whole o nodes) k false n) none);
      falls = omega arith;
      pending = tt;
    }

    pub child_left :
        o.has_cases k ≡ false → (m : ℕ) → o.count k ≡ suc m → (c : ℕ) → c ≡ o.first k → (new : List Pending) →
        new ≡ old ++ Tree c ∷ [] → DrawsNext o nodes (Tree k) old new before after_it
    child_left alone m one c first new stack = record {
      drawn = o.own k;
      page = page;
      more = Tree c ∷ [];
      stack = stack;
      same =
          ap (λ j. o.own k ++ whole o nodes j) first
          ∙ sym
          (is ∙ ap (λ b. o.own k ++ below o (whole o nodes) k b (o.count k)) alone
          ∙ ap (λ n. o.own k ++ below o (whole o nodes) k false n) one);
      falls = omega (arith, some);
      pending = (tt, tt);
    }

  pub no_case_left :
      (k i n : ℕ) → n ≡ 0 → (old : List Pending) (page : PageValue) → page ≡ after page [] →
      DrawsNext o nodes (Cases k i n) old old page page
  no_case_left k i n none old page same_page_is = record {
    drawn = [];
    page = same_page_is;
    more = [];
    stack = sym (append-nil old);
    same = sym (ap (λ m. cases o (whole o nodes) k i m) none);
    falls = omega arith;
    pending = tt;
  }

  -- a case is begun, and its child, its end and the other cases are left
  pub case_begun :
      (k i n : ℕ) → i + suc n ≡ o.count k → 0 < length (o.heading k i) → (c : ℕ) → c ≡ o.first k + i →
      (old : List Pending) (before after_it : PageValue) →
      after_it ≡ after before (begins Case ∷ o.heading k i) →
      DrawsNext o nodes (Cases k i (suc n)) old (old ++ Cases k (suc i) n ∷ EndCase ∷ Tree c ∷ []) before after_it
  case_begun k i n all some c child old before after_it page = record {
    drawn = begins Case ∷ o.heading k i;
    page = page;
    more = Cases k (suc i) n ∷ EndCase ∷ Tree c ∷ [];
    stack = refl;
    same =
        ap (λ j. (begins Case ∷ o.heading k i) ++ (whole o nodes j ++ ends Case ∷ [] ++ others)) child
        ∙ ap (λ es. begins Case ∷ es)
        (sym (append_assoc (o.heading k i) (whole o nodes (o.first k + i) ++ ends Case ∷ []) others)
        ∙ ap (λ es. es ++ others)
        (sym (append_assoc (o.heading k i) (whole o nodes (o.first k + i)) (ends Case ∷ []))));
    falls = omega (arith, some);
    pending = (omega (arith, all), (tt, (tt, tt)));
  }
    where
      others : List Event
      others = cases o (whole o nodes) k (suc i) n

  -- the same, as the numbers are counted
  pub case_next :
      (k i n j m : ℕ) → j ≡ i + 1 → n ≡ suc m → i + n ≡ o.count k → 0 < length (o.heading k i) → (c : ℕ) →
      c ≡ o.first k + i → (old new : List Pending) (before after_it : PageValue) →
      after_it ≡ after before (begins Case ∷ o.heading k i) →
      new ≡ old ++ Cases k j m ∷ EndCase ∷ Tree c ∷ [] → DrawsNext o nodes (Cases k i n) old new before after_it
  case_next k i n j m next fewer all some c child old new before after_it page stack =
      let after_one : j ≡ suc i = omega (arith, next) in
      let same : old ++ Cases k (suc i) m ∷ EndCase ∷ Tree c ∷ [] ≡ new =
      ap (λ x. old ++ Cases k x m ∷ EndCase ∷ Tree c ∷ []) (sym after_one) ∙ sym stack in
      subst (λ x. DrawsNext o nodes (Cases k i x) old new before after_it) (sym fewer)
      (subst (λ ps. DrawsNext o nodes (Cases k i (suc m)) old ps before after_it) same
      (case_begun k i m (omega (arith, all, fewer)) some c child old before after_it page))
