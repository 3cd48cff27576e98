-- Orderings of the same levels that arrange arguments alike are the same, as those by number are.
use Rattle.std.proofs.Common.{◌≡◌, ◌∙◌, ℕ, zero, suc, ◌+◌, ◌≤◌, ◌<◌, List, Some, None, length, get_or, map, ap, sym}
use Rattle.std.proofs.Common.{subst, refl, inl, inr, arith}
use Rattle.std.proofs.lemmas.List.{get_or-map}
use Rattle.std.proofs.lemmas.List.FromFn.{length-range_with_len, get_or-range_with_len}
use Rattle.std.proofs.lemmas.Option.{slice_get-map, slice_get_cases}
use Rattle.std.specs.Prelude.{option_map}
use Rattle.std.specs.List.{range_with_len}
use Rattle.term_core.specs.Tree.{Tree, Trees, var, app, list_of}
use Rattle.term_core.specs.Precedence.{Precedence, level, status, by_number, written_by_number}
use Rattle.term_core.proofs.Statuses.{written-level}
use Rattle.term_core.proofs.Trees.{list_of-trees_of}
use Rattle.path_order.specs.Above.{Above, SomeReaches, AboveAll, Falls, by_argument, by_head, by_arguments, this_is}
use Rattle.path_order.specs.Above.{this_above, later, all_none, all_some, here, further}
use Rattle.path_order.specs.Arranged.{numbered, picked, arranged}
use Rattle.path_order.specs.ArrangedLaws.{Count, same-numbered, count-picked, arranged-cases}
use Rattle.path_order.specs.ByNumber.{OrdersByNumber}

module _ (o p : Precedence) (levels : (f : ℕ) → level o f ≡ level p f)
    (orders : (f : ℕ) (ts : Trees) → arranged o f ts ≡ arranged p f ts) where
  mutual
    as-above : {t s : Tree} → Above o t s → Above p t s
    as-above (by_argument r) = by_argument (as-reaches r)
    as-above (by_head {f = f} {g = g} l a) =
        by_head (omega (arith, l, levels f, levels g)) (as-all a)
    as-above (by_arguments {f = f} {g = g} {ts = ts} {ss = ss} e w) =
        by_arguments (sym (levels g) ∙ e ∙ levels f)
        (subst (λ us. Falls p (app f ts) us (arranged p g ss)) (orders f ts)
        (subst (λ us. Falls p (app f ts) (arranged o f ts) us) (orders g ss) (as-falls w)))

    as-reaches : {ts : Trees} {s : Tree} → SomeReaches o ts s → SomeReaches p ts s
    as-reaches this_is = this_is
    as-reaches (this_above a) = this_above (as-above a)
    as-reaches (later r) = later (as-reaches r)

    as-all : {t : Tree} {ss : Trees} → AboveAll o t ss → AboveAll p t ss
    as-all all_none = all_none
    as-all (all_some a rest) = all_some (as-above a) (as-all rest)

    as-falls : {t : Tree} {ts ss : Trees} → Falls o t ts ss → Falls p t ts ss
    as-falls (here e a rest) = here e (as-above a) (as-all rest)
    as-falls (further w) = further (as-falls w)

-- numbers in their order pick the terms as they are
picked-as-written :
    (ps : List ℕ) (ts : Trees) → ((k : ℕ) → k < length ps → get_or ps k 0 ≡ k + 1) →
    length ps ≡ Count ts → picked ps ts ≡ ts
picked-as-written ps ts h c =
    same-numbered (picked ps ts) ts (count-picked ps ts ∙ c) (λ n l. at n (l.0, omega (arith, l.1, count-picked ps ts)))
  where
    at :
        (n : ℕ) → (1 ≤ n) × (n ≤ length ps) →
        numbered (list_of (picked ps ts)) n ≡ numbered (list_of ts) n
    at zero l = absurd (omega (arith, l.0))
    at (suc k) l =
        let here : k < length ps = omega (arith, l.1) in
        let k1 : get_or ps k 0 ≡ suc k = omega (arith, h k here) in
        ap (λ us. get_or us k (var 0)) (list_of-trees_of (map (numbered (list_of ts)) ps))
        ∙ get_or-map (numbered (list_of ts)) ps k 0 (var 0) here
        ∙ ap (λ m. numbered (list_of ts) m) k1

module _ (arities : List ℕ) where
  in-its-order :
      (f : ℕ) (ps : List ℕ) → status (written_by_number arities) f ≡ Some ps → (k : ℕ) →
      k < length ps → get_or ps k 0 ≡ k + 1
  in-its-order f ps e k l =
      let at = sym (slice_get-map (range_with_len 1) arities f) ∙ e in
      elim (slice_get_cases arities f).1 [
        | inl h ↦
            let same : range_with_len 1 h.0 ≡ ps =
            let q : Some (range_with_len 1 h.0) ≡ Some ps = ap (option_map (range_with_len 1)) (sym h.2) ∙ at in
            cc
            in
            let here : k < h.0 = omega (arith, l, length-range_with_len 1 h.0, ap (λ qs. length qs) same) in
            ap (λ qs. get_or qs k 0) (sym same) ∙ get_or-range_with_len 1 h.0 k 0 here
            ∙ (let r : 1 + k ≡ k + 1 = omega arith in r)
        | inr h ↦
            let q : None ≡ Some ps = ap (option_map (range_with_len 1)) (sym h.1) ∙ at in
            absurd (none_is_no_list q)
      ]
    where
      none_is_no_list : {ps : List ℕ} → None ≡ Some ps → ⊥
      none_is_no_list q = cc

  order-is : (f : ℕ) (ts : Trees) → arranged (written_by_number arities) f ts ≡ ts
  order-is f ts =
      arranged-cases (λ us. us ≡ ts) (status (written_by_number arities) f) ts refl
      (λ ps e stands c. picked-as-written ps ts (in-its-order f ps e) c)

-- written out for symbols of any numbers of arguments, levels and statuses order terms by number
pub written_orders : OrdersByNumber
written_orders arities t s =
    let o = written_by_number arities in
    let levels = written-level arities in
    let orders = order-is arities in
    (as-above o by_number levels orders, as-above by_number o (λ f. sym (levels f)) (λ f ts. sym (orders f ts)))
