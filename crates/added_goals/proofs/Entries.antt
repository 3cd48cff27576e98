-- Entries of tables, and tables that have the same entries.
use Rattle.std.proofs.Common.{◌≡◌, ℕ, zero, suc, List, [], ◌∷◌, Some, None, refl, ap, sym, ◌∙◌, take, Bool, true, false, not}
use Rattle.std.specs.Prelude.{◌↔◌, Option, map, slice_get, option_map}
use Rattle.std.proofs.lemmas.Option.{slice_get-map}
use Rattle.std.proofs.lemmas.Slice.Eq.{bytes_eq-Decides}
use Rattle.std.specs.Str.{bytes_eq}
use Rattle.spec_core.specs.declared.records.SymInfo.{SymInfo}

-- a name and what the symbol is declared with
abbrev pub Entry : Type 0
Entry = List ℕ × SymInfo

entry_of : (found : Option Entry) (name : List ℕ) (info : SymInfo) →
    option_map (λ (e : Entry). e.0) found ≡ Some name → option_map (λ (e : Entry). e.1) found ≡ Some info →
    found ≡ Some (name, info)
entry_of None name info a b = absurd (let q : None ≡ Some name = a in cc)
entry_of (Some e) name info a b =
    let n : e.0 ≡ name = let q : Some e.0 ≡ Some name = a in cc in
    let i : e.1 ≡ info = let q : Some e.1 ≡ Some info = b in cc in
    λ k. Some (n k, i k)

-- the entry of a table, by its name and by what it is declared with
pub entry_at : (table : List Entry) (number : ℕ) (name : List ℕ) (info : SymInfo) →
    slice_get (map (λ (e : Entry). e.0) table) number ≡ Some name →
    option_map (λ (e : Entry). e.1) (slice_get table number) ≡ Some info →
    slice_get table number ≡ Some (name, info)
entry_at table number name info a b =
    entry_of (slice_get table number) name info (sym (slice_get-map (λ (e : Entry). e.0) table number) ∙ a) b

-- two tables have one entry if its names and what they are declared with are the same
pub same_entries : (one other : List Entry) (number : ℕ) (name again : List ℕ) (info another : SymInfo) →
    slice_get one number ≡ Some (name, info) → slice_get other number ≡ Some (again, another) →
    ((name ≡ again) × (info ≡ another)) ↔ (slice_get one number ≡ slice_get other number)
same_entries one other number name again info another a b = (
  (λ e. a ∙ (λ k. Some (e.0 k, e.1 k)) ∙ sym b),
  (λ e.
      let q : ◌≡◌ {A = Option Entry} (Some (name, info)) (Some (again, another)) = sym a ∙ e ∙ b in
      let p : ◌≡◌ {A = Entry} (name, info) (again, another) = cc in
      ((λ k. (p k).0), (λ k. (p k).1))),
)

-- what a test of names that differ says
pub same_if_not : (name again : List ℕ) (b : Bool) → b ≡ not (bytes_eq name again) → b ≡ false → name ≡ again
same_if_not name again b tells is =
    (bytes_eq-Decides name again).0 (by (bytes_eq name again) (sym tells ∙ is))
  where
    by : (b : Bool) → not b ≡ false → b ≡ true
    by true h = refl
    by false h = absurd (let q : true ≡ false = h in cc)

pub differ_if : (name again : List ℕ) (b : Bool) → b ≡ not (bytes_eq name again) → b ≡ true → name ≡ again → ⊥
differ_if name again b tells is same =
    by (bytes_eq name again) (sym tells ∙ is) ((bytes_eq-Decides name again).1 same)
  where
    by : (b : Bool) → not b ≡ true → b ≡ true → ⊥
    by true h t = let q : false ≡ true = h in cc
    by false h t = let q : false ≡ true = t in cc

-- one entry has one name
pub same_names : (one other : List Entry) (number : ℕ) (name again : List ℕ) →
    slice_get (map (λ (e : Entry). e.0) one) number ≡ Some name →
    slice_get (map (λ (e : Entry). e.0) other) number ≡ Some again →
    slice_get one number ≡ slice_get other number → name ≡ again
same_names one other number name again a b same =
    let q : Some name ≡ Some again =
    sym a ∙ slice_get-map (λ (e : Entry). e.0) one number
    ∙ ap (λ found. option_map (λ (e : Entry). e.0) found) same
    ∙ sym (slice_get-map (λ (e : Entry). e.0) other number) ∙ b in
    cc

-- one item more, as far as two lists are the same
pub take_next : {X : Type 0} (xs ys : List X) (i : ℕ) → take i xs ≡ take i ys →
    slice_get xs i ≡ slice_get ys i → take (suc i) xs ≡ take (suc i) ys
take_next [] [] i same at = refl
take_next {X} [] (y ∷ ys) zero same at = absurd (let q : None ≡ Some y = at in cc)
take_next [] (y ∷ ys) (suc i) same at = absurd (let q : [] ≡ y ∷ take i ys = same in cc)
take_next (x ∷ xs) [] zero same at = absurd (let q : Some x ≡ None = at in cc)
take_next (x ∷ xs) [] (suc i) same at = absurd (let q : x ∷ take i xs ≡ [] = same in cc)
take_next (x ∷ xs) (y ∷ ys) zero same at =
    let e : x ≡ y = let q : Some x ≡ Some y = at in cc in ap (λ z. z ∷ []) e
take_next (x ∷ xs) (y ∷ ys) (suc i) same at =
    let q : x ∷ take i xs ≡ y ∷ take i ys = same in
    let head : x ≡ y = cc in
    let tail : take i xs ≡ take i ys = cc in
    let more = take_next xs ys i tail at in
    λ k. head k ∷ more k
