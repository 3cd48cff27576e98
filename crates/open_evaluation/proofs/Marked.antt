-- One more name, one more constant and one more symbol.
use Rattle.std.proofs.Common.{◌≡◌, ◌≤◌, ◌<◌, ◌+◌, ℕ, zero, suc, List, [], ◌∷◌, ◌++◌, Some, refl, ap, ◌∙◌, get_or}
use Rattle.std.proofs.Common.{length, take, drop, add-one, arith}
use Rattle.std.specs.Prelude.{slice_get}
use Rattle.std.proofs.lemmas.List.{take_more, drop-append-le, length-take-le}
use Rattle.std.proofs.lemmas.Option.{slice_get_within, get_or_from_slice_get}
use Rattle.term_core.specs.declared.ids.SortId.{SortId}
use Rattle.spec_core.specs.declared.records.SymInfo.{SymInfo}
use Rattle.open_evaluation.specs.Shifted.{constant_of, constants_of}
use Rattle.open_evaluation.specs.Marks.{marks, marks_from, marked_constants}

pub marks_from_long : (n k : ℕ) → length (marks_from n k) ≡ k
marks_from_long n zero = refl
marks_from_long n (suc k) = ap suc (marks_from_long (suc n) k)

marks_last : (n k : ℕ) → marks_from n (suc k) ≡ marks_from n k ++ marks (n + k) ∷ []
marks_last n zero = let e : n ≡ n + 0 = omega arith in ap (λ m. marks m ∷ []) e
marks_last n (suc k) =
    let e : suc n + k ≡ n + suc k = omega arith in
    ap (λ ns. marks n ∷ ns) (marks_last (suc n) k) ∙ ap (λ m. marks n ∷ (marks_from (suc n) k ++ marks m ∷ [])) e

-- one more name
pub marks_more : (n k : ℕ) → marks_from n (k + 1) ≡ marks_from n k ++ marks (n + k) ∷ []
marks_more n k = rw add-one (marks_last n k)

marked-append : (n : ℕ) (ss : List SortId) (s : SortId) →
    marked_constants n (ss ++ s ∷ []) ≡ marked_constants n ss ++ constant_of (marks (n + length ss)) s ∷ []
marked-append n [] s = let e : n ≡ n + 0 = omega arith in ap (λ m. constant_of (marks m) s ∷ []) e
marked-append n (t ∷ ss) s =
    let e : suc n + length ss ≡ n + suc (length ss) = omega arith in
    ap (λ es. constant_of (marks n) t ∷ es) (marked-append (suc n) ss s)
    ∙ ap (λ m. constant_of (marks n) t ∷ (marked_constants (suc n) ss ++ constant_of (marks m) s ∷ [])) e

-- one more constant
pub marked_more : (n : ℕ) (ss : List SortId) (i : ℕ) (s : SortId) → i < length ss →
    marked_constants n (take (i + 1) ss) ≡ marked_constants n (take i ss)
    ++ constant_of (marks (n + i)) (get_or ss i s) ∷ []
marked_more n ss i s h =
    let x = get_or ss i s in
    ap (λ xs. marked_constants n xs) (take_more ss i s h)
    ∙ marked-append n (take i ss) x
    ∙ ap (λ k. marked_constants n (take i ss) ++ constant_of (marks (n + k)) x ∷ []) (length-take-le i ss (omega arith))

pub constant_is : (name : List ℕ) (args : List SortId) (s : SortId) (n : ℕ) → name ≡ marks n → args ≡ [] →
    ◌≡◌ {A = List ℕ × SymInfo} (name, record { args = args; result = s }) (constant_of (marks n) s)
constant_is name args s n e h = λ i. (e i, record { args = h i; result = s })

-- the constants are constants under these names
pub marked_are : (n : ℕ) (ss : List SortId) → marked_constants n ss ≡ constants_of (marks_from n (length ss)) ss
marked_are n [] = refl
marked_are n (s ∷ ss) = ap (λ es. constant_of (marks n) s ∷ es) (marked_are (suc n) ss)

-- one more item of the part of a list
pub part_more : {X : Type 0} (xs : List X) (i n : ℕ) (x : X) → slice_get xs n ≡ Some x → i ≤ n →
    drop i (take (n + 1) xs) ≡ drop i (take n xs) ++ x ∷ []
part_more xs i n x at h =
    let within = slice_get_within xs n x at in
    let here : get_or xs n x ≡ x = get_or_from_slice_get xs n x x at in
    ap (λ ys. drop i ys) (take_more xs n x within ∙ ap (λ y. take n xs ++ y ∷ []) here)
    ∙ drop-append-le i (take n xs) (x ∷ []) (omega (arith, length-take-le n xs (omega arith)))
