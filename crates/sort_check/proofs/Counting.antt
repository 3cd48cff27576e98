-- How often numbers are there, counted by a loop.
use Rattle.std.proofs.Common.{◌≡◌, ◌≢◌, ℕ, zero, suc, ◌+◌, ◌-◌, ◌<◌, ◌≤◌, inl, inr, Bool, true, false, List, [], ◌∷◌}
use Rattle.std.proofs.Common.{◌++◌, length, map, take, get_or, set, refl, ap, sym, ◌∙◌, arith, add-one}
use Rattle.std.proofs.Common.{get_or-set_same, get_or-set_other}
use Rattle.std.specs.Prelude.{◌==◌, ◌&&◌}
use Rattle.std.specs.List.{list_all, range_with_len}
use Rattle.std.proofs.lemmas.List.{take_more, ext_get_or}
use Rattle.std.proofs.lemmas.List.Folds.{list_all-append}
use Rattle.std.proofs.lemmas.List.FromFn.{length-map-range_with_len, get_or-map-range_with_len, map-range_with_len_more}
use Rattle.term_core.specs.Precedence.{times, has_once}
use Rattle.term_core.proofs.Statuses.{times-here, times-other}
use Rattle.term_core.proofs.Numbers.{same_or_not}

both_ways : (a b : Bool) → (a && (b && true)) ≡ (b && a)
both_ways true true = refl
both_ways true false = refl
both_ways false true = refl
both_ways false false = refl

-- each number from 1 to m is there once if it is counted once
pub once-counts :
    (m : ℕ) (ps : List ℕ) →
    list_all (λ n. n == 1) (map (λ n. times n ps) (range_with_len 1 m)) ≡ has_once m ps
once-counts zero ps = refl
once-counts (suc m) ps =
    let more :
    map (λ n. times n ps) (range_with_len 1 (suc m))
    ≡ map (λ n. times n ps) (range_with_len 1 m) ++ times (suc m) ps ∷ [] =
    ap (λ k. map (λ n. times n ps) (range_with_len 1 k)) (sym (add-one m))
    ∙ map-range_with_len_more (λ n. times n ps) 1 m (suc m) (omega arith)
    in
    ap (λ ns. list_all (λ n. n == 1) ns) more
    ∙ list_all-append (λ n. n == 1) (map (λ n. times n ps) (range_with_len 1 m)) (times (suc m) ps ∷ [])
    ∙ ap (λ b. b && ((times (suc m) ps == 1) && true)) (once-counts m ps)
    ∙ both_ways (has_once m ps) (times (suc m) ps == 1)

times-last : (n p : ℕ) (ps : List ℕ) → times n (ps ++ p ∷ []) ≡ times n ps + times n (p ∷ [])
times-last n p [] = omega arith
times-last n p (q ∷ qs) = omega (arith, times-last n p qs)

-- a number is there no more often than there are numbers
pub times-few : (n : ℕ) (ps : List ℕ) → times n ps ≤ length ps
times-few n [] = omega arith
times-few n (p ∷ ps) =
    elim (same_or_not p n) [
      | inl e ↦ omega (arith, times-here n p ps e, times-few n ps)
      | inr d ↦ omega (arith, times-other n p ps d, times-few n ps)
    ]

-- one more number p, if each of those before it is counted; k is a place among the counts
module _
    (numbers counts : List ℕ) (i p : ℕ) (lt : i < length numbers) (is : p ≡ get_or numbers i 0)
    (each : (k : ℕ) → k < length numbers → get_or counts k 0 ≡ times (suc k) (take i numbers))
    (k : ℕ) (within : k < length numbers) where
  here-is : take (i + 1) numbers ≡ take i numbers ++ p ∷ []
  here-is = take_more numbers i 0 lt ∙ ap (λ q. take i numbers ++ q ∷ []) (sym is)

  pub count-miss : p ≢ suc k → get_or counts k 0 ≡ times (suc k) (take (i + 1) numbers)
  count-miss d =
      each k within
      ∙ sym (ap (λ ps. times (suc k) ps) here-is ∙ times-last (suc k) p (take i numbers)
      ∙ (let none : times (suc k) (p ∷ []) ≡ 0 = times-other (suc k) p [] d in omega (arith, none)))

  pub count-hit :
      (v : ℕ) → 1 ≤ p → p ≤ length counts → v ≡ get_or counts (p - 1) 0 →
      get_or (set counts (p - 1) (v + 1)) k 0 ≡ times (suc k) (take (i + 1) numbers)
  count-hit v low high read =
      elim (same_or_not k (p - 1)) [
        | inl e ↦
            let same : p ≡ suc k = omega (arith, low, e) in
            let inside : p - 1 < length counts = omega (arith, low, high) in
            let one : times (suc k) (p ∷ []) ≡ 1 = times-here (suc k) p [] same in
            let was : v ≡ times (suc k) (take i numbers) = read ∙ ap (λ j. get_or counts j 0) (sym e) ∙ each k within in
            ap (λ j. get_or (set counts (p - 1) (v + 1)) j 0) e
            ∙ get_or-set_same counts (p - 1) (v + 1) 0 inside
            ∙ sym (ap (λ ps. times (suc k) ps) here-is ∙ times-last (suc k) p (take i numbers)
            ∙ (omega (arith, one, was)))
        | inr d ↦
            get_or-set_other counts (p - 1) k (v + 1) 0 d
            ∙ count-miss (λ same. d (omega (arith, same)))
      ]

pub counts-made :
    (numbers counts : List ℕ) (i : ℕ) → length counts ≡ length numbers →
    ((k : ℕ) → k < length numbers → get_or counts k 0 ≡ times (suc k) numbers) →
    counts ≡ map (λ n. times n numbers) (range_with_len 1 (length numbers))
counts-made numbers counts i long each =
    ext_get_or 0 counts (map (λ n. times n numbers) (range_with_len 1 (length numbers)))
    (long ∙ sym (length-map-range_with_len (λ n. times n numbers) 1 (length numbers)))
    (λ k lt.
    let within : k < length numbers = omega (arith, lt, long) in
    let e : 1 + k ≡ suc k = omega arith in
    each k within
    ∙ sym (get_or-map-range_with_len (λ n. times n numbers) 1 (length numbers) k (suc k) 0 within e))
