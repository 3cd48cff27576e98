-- A round over the constructors lowers a number, or all are settled.
use Rattle.std.proofs.Common.{◌≡◌, ◌≢◌, ℕ, ◌+◌, ◌<◌, ◌≤◌, List, Bool, true, false, Some, ◌⊎◌, inl, inr, ap, sym, ◌∙◌}
use Rattle.std.proofs.Common.{subst, arith, length, min, set, length-set, get_or-set_same, get_or-set_other}
use Rattle.std.specs.Prelude.{slice_index, sum, MatchBool}
use Rattle.std.proofs.lemmas.List.Sums.{sum_by-set}
use Rattle.term_core.specs.Tree.{app}
use Rattle.spec_core.specs.declared.records.SymInfo.{SymInfo}
use Rattle.spec_core.specs.Sig.{Sig, info_of, IsConstructor, SortsAreInRange}
use Rattle.spec_core.specs.Sorts.{IsValue}
use Rattle.spec_core.specs.Small.{sort_of_number}
use Rattle.spec_core.specs.Sizes.{sum_of, IsReached, AreReached, IsSettledAt, AreSettled}
use Rattle.spec_core.proofs.LeastSizes.{reach_made}
use Rattle.term_core.proofs.Numbers.{same_or_not, below_or_last}

-- a number that falls makes the sum less
pub sum_set : (xs : List ℕ) (i v : ℕ) → i < length xs → v < slice_index xs i → sum (set xs i v) < sum xs
sum_set xs i v h l = omega (arith, sum_by-set (λ (n : ℕ). n) xs i v 0 h)

-- one more constructor is settled
settled_more : (sig : Sig) (least : List ℕ) (n : ℕ) (i : SymInfo) → info_of sig n ≡ Some i →
    slice_index least i.result.0 ≤ min (1 + sum_of least i.args) 256 →
    ((c : ℕ) → c < n → IsSettledAt sig least c) → (c : ℕ) → c < n + 1 → IsSettledAt sig least c
settled_more sig least n i e l before c h = by (below_or_last c n h)
  where
    by : (c < n) ⊎ (c ≡ n) → IsSettledAt sig least c
    by (inl b) = before c b
    by (inr q) = λ j k.
        let z : Some i ≡ Some j = sym e ∙ ap (λ m. info_of sig m) (sym q) ∙ k in
        let is : i ≡ j = cc in
        subst (λ (x : SymInfo). slice_index least x.result.0 ≤ min (1 + sum_of least x.args) 256) is l

-- what the constructors so far have done: they lowered a number, or each of them is settled
abbrev pub Turns : Sig → List ℕ → List ℕ → ℕ → Bool → Type 0
Turns sig initial least n lowered = MatchBool lowered (sum least < sum initial) ((sum least ≡ sum initial)
    × ((c : ℕ) → c < n → IsSettledAt sig least c))

-- a constructor that lowers nothing
pub turns_same : (sig : Sig) (initial least : List ℕ) (n : ℕ) (b : Bool) (i : SymInfo) →
    info_of sig n ≡ Some i → slice_index least i.result.0 ≤ min (1 + sum_of least i.args) 256 →
    Turns sig initial least n b → Turns sig initial least (n + 1) b
turns_same sig initial least n true i e l t = t
turns_same sig initial least n false i e l t = (t.0, settled_more sig least n i e l t.1)

-- a constructor that lowers a number
pub turns_lower : (sig : Sig) (initial least : List ℕ) (n p v : ℕ) (b : Bool) → p < length least →
    v < slice_index least p → Turns sig initial least n b → sum (set least p v) < sum initial
turns_lower sig initial least n p v true h l t = omega (arith, sum_set least p v h l, t)
turns_lower sig initial least n p v false h l t = omega (arith, sum_set least p v h l, t.0)

-- after the last constructor
pub turns_end : (sig : Sig) (initial least : List ℕ) (n : ℕ) (b : Bool) → sig.constructors ≤ n →
    Turns sig initial least n b → MatchBool b (sum least < sum initial) (AreSettled sig least)
turns_end sig initial least n true l t = t
turns_end sig initial least n false l t = λ c h. t.1 c (omega arith)

-- a number that a constructor lowers is reached
pub reached_lower : (sig : Sig) (least : List ℕ) (c v : ℕ) (i : SymInfo) → SortsAreInRange sig →
    AreReached sig least → IsConstructor sig c → info_of sig c ≡ Some i →
    v ≡ min (1 + sum_of least i.args) 256 → v < slice_index least i.result.0 → AreReached sig (set least i.result.0 v)
reached_lower sig least c v i w r b e n l = record {
  long = omega (arith, length-set least i.result.0 v, r.long);
  bounded = λ s. bounds s (same_or_not s i.result.0);
  reached = λ s h q. at s (same_or_not s i.result.0) h q;
}
  where
    place : i.result.0 < length least
    place = omega (arith, r.long, (w c i e).0)

    few : 1 + sum_of least i.args ≤ 255
    few = omega (arith, r.bounded i.result.0)

    here : (s : ℕ) → s ≡ i.result.0 → slice_index (set least i.result.0 v) s ≡ v
    here s q = ap (λ k. slice_index (set least i.result.0 v) k) q ∙ get_or-set_same least i.result.0 v 0 place

    bounds : (s : ℕ) → (s ≡ i.result.0) ⊎ (s ≢ i.result.0) → slice_index (set least i.result.0 v) s ≤ 256
    bounds s (inl q) = omega (arith, here s q)
    bounds s (inr q) = omega (arith, get_or-set_other least i.result.0 s v 0 q, r.bounded s)

    at : (s : ℕ) → (s ≡ i.result.0) ⊎ (s ≢ i.result.0) → s < length sig.sorts →
        slice_index (set least i.result.0 v) s ≤ 255 → IsReached sig (set least i.result.0 v) s
    at s (inl q) h k =
        let made = reach_made sig least r.reached c i b e (w c i e).1 few in (
          app c made.0,
          subst (λ m. IsValue sig (sort_of_number m) (app c made.0)) (sym q) made.1,
          omega (arith, made.2, here s q),
        )
    at s (inr q) h k =
        let o = get_or-set_other least i.result.0 s v 0 q in
        let x = r.reached s h (omega (arith, o)) in
        (x.0, x.1, omega (arith, x.2, o))

-- both at once, at what the code writes
pub lowered_all : (sig : Sig) (initial least new : List ℕ) (c v : ℕ) (i : SymInfo) (b : Bool) →
    SortsAreInRange sig → AreReached sig least → IsConstructor sig c → info_of sig c ≡ Some i →
    v ≡ min (1 + sum_of least i.args) 256 → v < slice_index least i.result.0 → Turns sig initial least c b →
    new ≡ set least i.result.0 v → AreReached sig new × (sum new < sum initial)
lowered_all sig initial least new c v i b w r k e n l t is =
    let place : i.result.0 < length least = omega (arith, r.long, (w c i e).0) in
    let P : List ℕ → Type 0 = λ xs. AreReached sig xs × (sum xs < sum initial) in
    subst P (sym is) (
      reached_lower sig least c v i w r k e n l,
      turns_lower sig initial least c i.result.0 v b place l t,
    )

-- a round that lowered nothing
pub settled_by : (sig : Sig) (least : List ℕ) (A : Type 0) (b : Bool) → b ≡ false →
    MatchBool b A (AreSettled sig least) → AreSettled sig least
settled_by sig least A true e m = absurd (let q : true ≡ false = e in cc)
settled_by sig least A false e m = m
