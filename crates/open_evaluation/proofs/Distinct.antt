-- Names of question marks are distinct, and none of them is the name of another symbol.
use Rattle.std.proofs.Common.{◌≡◌, ◌<◌, ◌+◌, ℕ, zero, suc, List, [], ◌∷◌, ◌++◌, ap, sym, subst, length, arith}
use Rattle.std.specs.Prelude.{codes, map}
use Rattle.std.specs.List.{AllByRecursion}
use Rattle.std.proofs.lemmas.List.{length-replicate}
use Rattle.term_core.specs.declared.ids.SortId.{SortId}
use Rattle.term_core.proofs.Items.{all_append}
use Rattle.spec_core.specs.declared.records.SymInfo.{SymInfo}
use Rattle.spec_core.specs.Declarations.{IsNewAmong, AreNewAfter, AreFresh, AreNewNames, bool_symbols, all_symbols}
use Rattle.spec_core.proofs.Fresh.{fresh_parts, fresh_whole}
use Rattle.open_evaluation.specs.Marks.{marks_from, marked_constants, AreWithin}

pub all_left : {X : Type 0} (P : X → Type 0) (xs ys : List X) → AllByRecursion P (xs ++ ys) → AllByRecursion P xs
all_left P [] ys a = tt
all_left P (x ∷ xs) ys a = (a.0, all_left P xs ys a.1)

pub all_right : {X : Type 0} (P : X → Type 0) (xs ys : List X) → AllByRecursion P (xs ++ ys) → AllByRecursion P ys
all_right P [] ys a = a
all_right P (x ∷ xs) ys a = all_right P xs ys a.1

pub all_weaker : {X : Type 0} (P Q : X → Type 0) → ((x : X) → P x → Q x) → (xs : List X) → AllByRecursion P xs →
    AllByRecursion Q xs
all_weaker P Q h [] a = tt
all_weaker P Q h (x ∷ xs) a = (h x a.0, all_weaker P Q h xs a.1)

module _ {X : Type 0} (name_of : X → List ℕ) where
  abbrev IsShorter : ℕ → X → Type 0
  IsShorter n x = length (name_of x) < n

  -- the items' names have the lengths n, n + 1 and so on
  abbrev Ascend : ℕ → List X → Type 0
  Ascend n [] = Unit {0}
  Ascend n (x ∷ xs) = (length (name_of x) ≡ n) × Ascend (suc n) xs

  -- a longer name is new, and so is a shorter one
  longer_new : (name : List ℕ) (xs : List X) → AllByRecursion (IsShorter (length name)) xs → IsNewAmong name_of name xs
  longer_new name [] a = tt
  longer_new name (x ∷ xs) a = (
    λ e. let l : length name ≡ length (name_of x) = ap (λ (ys : List ℕ). length ys)
        e in omega (arith, a.0),
    longer_new name xs a.1,
  )

  shorter_new : (n : ℕ) (name : List ℕ) (xs : List X) → length name < n → Ascend n xs → IsNewAmong name_of name xs
  shorter_new n name [] h a = tt
  shorter_new n name (x ∷ xs) h a = (
    λ e. let l : length name ≡ length (name_of x) = ap
        (λ (ys : List ℕ). length ys) e in omega (arith, a.0),
    shorter_new (suc n) name xs (omega arith) a.1,
  )

  ascending_new : (n : ℕ) (seen xs : List X) → AllByRecursion (IsShorter n) seen → Ascend n xs →
      AreNewAfter name_of seen xs
  ascending_new n seen [] s a = tt
  ascending_new n seen (x ∷ xs) s a =
      let e : n ≡ length (name_of x) = sym a.0 in
      let here = longer_new (name_of x) seen (subst (λ k. AllByRecursion (IsShorter k) seen) e s) in
      let last : length (name_of x) < suc n = omega (arith, a.0) in
      let more = all_append (IsShorter (suc n)) seen (x ∷ [])
      (all_weaker (IsShorter n) (IsShorter (suc n)) (λ y h. omega arith) seen s) (last, tt) in
      (here, ascending_new (suc n) (seen ++ x ∷ []) xs more a.1)

  new_left : (name : List ℕ) (xs ys : List X) → IsNewAmong name_of name (xs ++ ys) → IsNewAmong name_of name xs
  new_left name [] ys h = tt
  new_left name (x ∷ xs) ys h = (h.0, new_left name xs ys h.1)

  new_right : (name : List ℕ) (xs ys : List X) → IsNewAmong name_of name (xs ++ ys) → IsNewAmong name_of name ys
  new_right name [] ys h = h
  new_right name (x ∷ xs) ys h = new_right name xs ys h.1

  new_both : (name : List ℕ) (xs ys : List X) → IsNewAmong name_of name xs → IsNewAmong name_of name ys →
      IsNewAmong name_of name (xs ++ ys)
  new_both name [] ys a b = b
  new_both name (x ∷ xs) ys a b = (a.0, new_both name xs ys a.1 b)

  -- what is new after some items is new after others, if each short name that is new among those is new among these
  new_after : (n : ℕ) (seen others xs : List X) →
      ((name : List ℕ) → length name < n → IsNewAmong name_of name seen → IsNewAmong name_of name others) →
      AllByRecursion (IsShorter n) xs → AreNewAfter name_of seen xs → AreNewAfter name_of others xs
  new_after n seen others [] h s a = tt
  new_after n seen others (x ∷ xs) h s a =
      let step : (name : List ℕ) → length name < n → IsNewAmong name_of name (seen ++ x ∷ []) →
      IsNewAmong name_of name (others ++ x ∷ []) = λ name short b. new_both name others (x ∷ [])
      (h name short (new_left name seen (x ∷ []) b)) (new_right name seen (x ∷ []) b) in
      (h (name_of x) s.0 a.0, new_after n (seen ++ x ∷ []) (others ++ x ∷ []) xs step s.1 a.1)

abbrev symbol_name : List ℕ × SymInfo → List ℕ
symbol_name e = e.0

marks_ascend : (n k : ℕ) → Ascend (λ (name : List ℕ). name) n (marks_from n k)
marks_ascend n zero = tt
marks_ascend n (suc k) = (length-replicate n 63, marks_ascend (suc n) k)

constants_ascend : (n : ℕ) (ss : List SortId) → Ascend symbol_name n (marked_constants n ss)
constants_ascend n [] = tt
constants_ascend n (s ∷ ss) = (length-replicate n 63, constants_ascend (suc n) ss)

-- the names of sorts
pub sorts_distinct : (k : ℕ) → AreNewNames [] (codes "Bool" ∷ marks_from 5 k)
sorts_distinct k = (
  tt,
  ascending_new (λ (name : List ℕ). name) 5 (codes "Bool" ∷ []) (marks_from 5 k)
      (omega arith, tt) (marks_ascend 5 k),
)

-- the names of symbols, with constants whose names are longer
pub symbols_distinct : (n : ℕ) (cs fs : List (List ℕ × SymInfo)) (ss : List SortId) →
    AllByRecursion (IsShorter symbol_name n) (all_symbols cs fs) → AreFresh [] (all_symbols cs fs) →
    AreFresh [] (all_symbols (cs ++ marked_constants n ss) fs)
symbols_distinct n cs fs ss short fresh =
    let ks = marked_constants n ss in
    let bools = fresh_parts [] bool_symbols (cs ++ fs) fresh in
    let both = fresh_parts bool_symbols cs fs bools.1 in
    let rest = all_right (IsShorter symbol_name n) bool_symbols (cs ++ fs) short in
    let before = all_append (IsShorter symbol_name n) bool_symbols cs
    (all_left (IsShorter symbol_name n) bool_symbols (cs ++ fs) short)
    (all_left (IsShorter symbol_name n) cs fs rest) in
    let constants : AreFresh (bool_symbols ++ cs) ks = ascending_new symbol_name n (bool_symbols ++ cs) ks
    before (constants_ascend n ss) in
    let wider : (name : List ℕ) → length name < n → IsNewAmong symbol_name name (bool_symbols ++ cs) →
    IsNewAmong symbol_name name (bool_symbols ++ (cs ++ ks)) = λ name h a. new_both symbol_name name
    bool_symbols (cs ++ ks) (new_left symbol_name name bool_symbols cs a)
    (new_both symbol_name name cs ks (new_right symbol_name name bool_symbols cs a)
    (shorter_new symbol_name n name ks h (constants_ascend n ss))) in
    let functions : AreFresh (bool_symbols ++ (cs ++ ks)) fs = new_after symbol_name n (bool_symbols ++ cs)
    (bool_symbols ++ (cs ++ ks)) fs wider (all_right (IsShorter symbol_name n) cs fs rest) both.1 in
    fresh_whole [] bool_symbols ((cs ++ ks) ++ fs) bools.0
    (fresh_whole bool_symbols (cs ++ ks) fs (fresh_whole bool_symbols cs ks both.0 constants) functions)

-- what is known of the names is known of the symbols
pub symbols_within : (n : ℕ) (es : List (List ℕ × SymInfo)) →
    AreWithin n (map (λ (e : List ℕ × SymInfo). e.0) es) → AllByRecursion (IsShorter symbol_name (n + 1)) es
symbols_within n [] a = tt
symbols_within n (e ∷ es) a = (omega (arith, a.0), symbols_within n es a.1)
