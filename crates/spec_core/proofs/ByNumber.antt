-- The order by number has an entry for each symbol and is a precedence.
use Rattle.std.proofs.Common.{◌≡◌, ◌∙◌, ℕ, zero, suc, ◌+◌, List, [], ◌∷◌, ◌++◌, Some, None, length, map, get_or, ap}
use Rattle.std.proofs.Common.{arith}
use Rattle.std.specs.Prelude.{slice_get, option_map}
use Rattle.std.specs.List.{range_with_len}
use Rattle.std.proofs.lemmas.List.{length-map}
use Rattle.std.proofs.lemmas.List.FromFn.{length-range_with_len}
use Rattle.term_core.proofs.Statuses.{written-is-precedence}
use Rattle.spec_core.specs.declared.records.SymInfo.{SymInfo}
use Rattle.spec_core.specs.Sig.{Sig, info_of}
use Rattle.spec_core.specs.Orders.{IsOrderOf, arities, order_by_number}

pub count-arities : (sig : Sig) → length (arities sig) ≡ length sig.table
count-arities sig = length-map sig.table (λ (e : List ℕ × SymInfo). length e.1.args)

pub is_order_by_number : (sig : Sig) → IsOrderOf sig (order_by_number sig)
is_order_by_number sig = (
  length-range_with_len 0 (length (arities sig)) ∙ count-arities sig,
  written-is-precedence (arities sig),
)

-- one number more
pub range-more :
    (a n : ℕ) → range_with_len a (suc n) ≡ range_with_len a n ++ (a + n) ∷ []
range-more a zero = ap (λ k. k ∷ []) (let e : a ≡ a + 0 = omega arith in e)
range-more a (suc n) =
    let e : a + 1 + n ≡ a + suc n = omega arith in
    ap (λ ks. a ∷ ks) (range-more (a + 1) n ∙ ap (λ k. range_with_len (a + 1) n ++ k ∷ []) e)

arity-in :
    (es : List (List ℕ × SymInfo)) (f : ℕ) (i : SymInfo) →
    option_map (λ (e : List ℕ × SymInfo). e.1) (slice_get es f) ≡ Some i →
    get_or (map (λ (e : List ℕ × SymInfo). length e.1.args) es) f 0 ≡ length i.args
arity-in [] f i h = absurd (let q : None ≡ Some i = h in cc)
arity-in (e ∷ es) zero i h =
    let q : Some e.1 ≡ Some i = h in
    let k : e.1 ≡ i = cc in
    ap (λ (j : SymInfo). length j.args) k
arity-in (e ∷ es) (suc f) i h = arity-in es f i h

pub arity-at :
    (sig : Sig) (f : ℕ) (i : SymInfo) → info_of sig f ≡ Some i →
    get_or (arities sig) f 0 ≡ length i.args
arity-at sig f i h = arity-in sig.table f i h
