-- The sorts of what is declared are in range.
use Rattle.std.proofs.Common.{◌≡◌, ℕ, zero, suc, ◌+◌, List, [], ◌∷◌, ◌++◌, Some, None, sym, subst, arith, length}
use Rattle.std.specs.Prelude.{slice_get, option_map}
use Rattle.std.specs.List.{AllByRecursion}
use Rattle.spec_core.specs.declared.records.SymInfo.{SymInfo}
use Rattle.spec_core.specs.Sig.{Sig, SortsAreInRange}
use Rattle.spec_core.specs.Declarations.{IsBelow, IsDeclared, declared_by, bool_symbols, all_symbols}
use Rattle.term_core.proofs.Items.{all_append}

-- what holds of each declaration holds of what a symbol is declared with
at : (n : ℕ) (es : List (List ℕ × SymInfo)) (f : ℕ) (i : SymInfo) → AllByRecursion (IsBelow n) es →
    option_map (λ (e : List ℕ × SymInfo). e.1) (slice_get es f) ≡ Some i → IsBelow n ([], i)
at n [] f i a e = absurd (let q : None ≡ Some i = e in cc)
at n (x ∷ xs) zero i a e =
    let q : Some x.1 ≡ Some i = e in
    let k : x.1 ≡ i = cc in
    subst (λ j. IsBelow n ([], j)) k a.0
at n (x ∷ xs) (suc f) i a e = at n xs f i a.1 e

-- if the sorts of the declarations are in range, so are those of the signature that they make
pub declared_in_range : (sorts : List (List ℕ)) (cs fs : List (List ℕ × SymInfo)) →
    AllByRecursion (IsBelow (1 + length sorts)) cs → AllByRecursion (IsBelow (1 + length sorts)) fs →
    SortsAreInRange (declared_by sorts cs fs)
declared_in_range sorts cs fs c d f i e =
    let n = 1 + length sorts in
    let m : n ≡ suc (length sorts) = omega arith in
    let bools : AllByRecursion (IsBelow n) bool_symbols = ((omega arith, tt), ((omega arith, tt), tt)) in
    let all = all_append (IsBelow n) bool_symbols (cs ++ fs) bools (all_append (IsBelow n) cs fs c d) in
    subst (λ k. IsBelow k ([], i)) m (at n (all_symbols cs fs) f i all e)

-- so are those of each declared signature
pub sorts_in_range : (sig : Sig) → IsDeclared sig → SortsAreInRange sig
sorts_in_range sig d = subst SortsAreInRange (sym d.is)
    (declared_in_range d.sorts d.constructors d.functions d.constructors_in_range d.functions_in_range)
