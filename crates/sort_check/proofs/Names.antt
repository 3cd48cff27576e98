-- Names of which no two are the same.
use Rattle.std.proofs.Common.{◌≡◌, ℕ, zero, suc, ◌+◌, ◌<◌, ◌≤◌, List, [], ◌∷◌, ◌++◌, Bool, true, false, not, cond}
use Rattle.std.proofs.Common.{Option, None, Some, refl, ap, sym, ◌∙◌, subst, arith, length, take, position}
use Rattle.std.proofs.Common.{append_assoc}
use Rattle.std.specs.Prelude.{nat_lt, slice_get, option_map, map, MatchOption, is_some}
use Rattle.std.specs.List.{prefix_len}
use Rattle.std.specs.Str.{bytes_eq}
use Rattle.std.proofs.lemmas.Bool.Decides.{nat_tests}
use Rattle.std.proofs.lemmas.List.{append-nil, map-append}
use Rattle.std.proofs.lemmas.Slice.Eq.{bytes_eq-Decides}
use Rattle.term_core.specs.declared.ids.SortId.{SortId}
use Rattle.term_core.specs.declared.ids.SymId.{SymId}
use Rattle.spec_core.specs.declared.records.SymInfo.{SymInfo}
use Rattle.spec_core.specs.declared.records.VarInfo.{VarInfo}
use Rattle.spec_core.specs.Declarations.{IsNew, AreFresh, IsNewName, AreNewNames, IsDeclared, all_symbols}
use Rattle.spec_core.specs.Sig.{Sig, names_of}
use Rattle.spec_core.specs.TermText.{variable_names}
use Rattle.spec_core.proofs.Names.{position-map}

-- a name that is new is none of the names
pub new_not : (name : List ℕ) (names : List (List ℕ)) (i : ℕ) → IsNewName name names → slice_get names i ≡ Some name → ⊥
new_not name [] i new at = let q : None ≡ Some name = at in absurd (cc)
new_not name (n ∷ ns) zero new at = let q : Some n ≡ Some name = at in let e : name ≡ n = cc in new.0 e
new_not name (n ∷ ns) (suc i) new at = new_not name ns i new.1 at

-- a name without a place is new
pub absent_new : (name : List ℕ) (names : List (List ℕ)) → ((i : ℕ) → slice_get names i ≡ Some name → ⊥) →
    IsNewName name names
absent_new name [] absent = tt
absent_new name (n ∷ ns) absent = (
  (λ e. absent 0 (ap (λ m. Some m) (sym e))),
  absent_new name ns (λ i at. absent (suc i) at),
)

-- the first place of a name
module _ (name : List ℕ) where
  at_first : (names : List (List ℕ)) (i : ℕ) → prefix_len (λ n. not (bytes_eq name n)) names ≡ i →
      i < length names → slice_get names i ≡ Some name
  at_first [] i is lt = absurd (omega arith)
  at_first (n ∷ ns) i is lt = by n ns (bytes_eq name n) (bytes_eq-Decides name n).0 i is lt (λ j e l. at_first ns j e l)
    where
      by : (n : List ℕ) (ns : List (List ℕ)) (b : Bool) → (b ≡ true → name ≡ n) → (j : ℕ) →
          cond (not b) (1 + prefix_len (λ m. not (bytes_eq name m)) ns) 0 ≡ j → j < suc (length ns) →
          ((j : ℕ) → prefix_len (λ m. not (bytes_eq name m)) ns ≡ j → j < length ns →
          slice_get ns j ≡ Some name) → slice_get (n ∷ ns) j ≡ Some name
      by n ns true d zero e l rest = ap (λ m. Some m) (sym (d refl))
      by n ns true d (suc j) e l rest = absurd (omega arith)
      by n ns false d zero e l rest = absurd (omega arith)
      by n ns false d (suc j) e l rest = rest j (omega arith) (omega arith)

  none_first : (names : List (List ℕ)) → length names ≤ prefix_len (λ n. not (bytes_eq name n)) names →
      IsNewName name names
  none_first [] none = tt
  none_first (n ∷ ns) none = by n ns (bytes_eq name n) (bytes_eq-Decides name n).1 none (λ le. none_first ns le)
    where
      by : (n : List ℕ) (ns : List (List ℕ)) (b : Bool) → (name ≡ n → b ≡ true) →
          suc (length ns) ≤ cond (not b) (1 + prefix_len (λ m. not (bytes_eq name m)) ns) 0 →
          (length ns ≤ prefix_len (λ m. not (bytes_eq name m)) ns → IsNewName name ns) →
          (name ≡ n → ⊥) × IsNewName name ns
      by n ns true d le rest = absurd (omega arith)
      by n ns false d le rest = (λ e. absurd (let q : false ≡ true = d e in cc), rest (omega arith))

  past_all : (m n : ℕ) → cond (nat_lt m n) (Some m) None ≡ None → n ≤ m
  past_all m n e = grind (arith, nat_tests)

  before_end : (m n i : ℕ) → cond (nat_lt m n) (Some m) None ≡ Some i → (m ≡ i) × (i < n)
  before_end m n i e = by (nat_lt m n) refl e
    where
      less : nat_lt m n ≡ true → m ≡ i → (m ≡ i) × (i < n)
      less t q = let lt : m < n = grind (arith, nat_tests) in (q, omega arith)

      by : (b : Bool) → nat_lt m n ≡ b → cond b (Some m) None ≡ Some i → (m ≡ i) × (i < n)
      by true t h = let s : Some m ≡ Some i = h in less t (cc)
      by false t h = absurd (let s : None ≡ Some i = h in cc)

  pub place_is : (names : List (List ℕ)) (i : ℕ) → position (bytes_eq name) names ≡ Some i →
      slice_get names i ≡ Some name
  place_is names i is = let h = before_end _ _ i is in at_first names i h.0 h.1

  pub no_place : (names : List (List ℕ)) → position (bytes_eq name) names ≡ None → IsNewName name names
  no_place names is = none_first names (past_all _ _ is)

-- places of a list and of its beginning
pub get_take : (xs : List (List ℕ)) (k i : ℕ) (x : List ℕ) → i < k → slice_get xs i ≡ Some x →
    slice_get (take k xs) i ≡ Some x
get_take [] k i x lt at = let q : None ≡ Some x = at in absurd (cc)
get_take (a ∷ xs) zero i x lt at = absurd (omega arith)
get_take (a ∷ xs) (suc k) zero x lt at = at
get_take (a ∷ xs) (suc k) (suc i) x lt at = get_take xs k i x (omega arith) at

pub take_get : (xs : List (List ℕ)) (k i : ℕ) (x : List ℕ) → slice_get (take k xs) i ≡ Some x →
    (i < k) × (slice_get xs i ≡ Some x)
take_get [] zero i x at = let q : None ≡ Some x = at in absurd (cc)
take_get [] (suc k) i x at = let q : None ≡ Some x = at in absurd (cc)
take_get (a ∷ xs) zero i x at = let q : None ≡ Some x = at in absurd (cc)
take_get (a ∷ xs) (suc k) zero x at = (omega arith, at)
take_get (a ∷ xs) (suc k) (suc i) x at = let r = take_get xs k i x at in let lt : i < k = r.0 in (omega arith, r.1)

-- whether a search by name found something
pub found_not : (name : List ℕ) (names : List (List ℕ)) (r : Option SymId) →
    MatchOption r (IsNewName name names) (λ (f : SymId). slice_get names f.0 ≡ Some name) → is_some r ≡ true →
    IsNewName name names → ⊥
found_not name names None is some new = let q : false ≡ true = some in absurd (cc)
found_not name names (Some f) is some new = new_not name names f.0 new is

pub unfound_new : (name : List ℕ) (names : List (List ℕ)) (r : Option SymId) →
    MatchOption r (IsNewName name names) (λ (f : SymId). slice_get names f.0 ≡ Some name) → is_some r ≡ false →
    IsNewName name names
unfound_new name names None is none = is
unfound_new name names (Some f) is none = let q : true ≡ false = none in absurd (cc)

-- what a search by name finds
pub symbol_is : (name : List ℕ) (names : List (List ℕ)) (r : Option SymId) →
    option_map (λ (f : SymId). f.0) r ≡ position (bytes_eq name) names →
    MatchOption r (IsNewName name names) (λ (f : SymId). slice_get names f.0 ≡ Some name)
symbol_is name names None is = no_place name names (sym is)
symbol_is name names (Some f) is = place_is name names f.0 (sym is)

pub sort_is : (name : List ℕ) (names : List (List ℕ)) (r : Option SortId) →
    option_map (λ (s : SortId). s.0) r ≡ position (bytes_eq name) names →
    MatchOption r (IsNewName name names) (λ (s : SortId). slice_get names s.0 ≡ Some name)
sort_is name names None is = no_place name names (sym is)
sort_is name names (Some s) is = place_is name names s.0 (sym is)

pub variable_is : (name : List ℕ) (vars : List VarInfo) (r : Option ℕ) →
    r ≡ position (λ (v : VarInfo). bytes_eq name v.name) vars →
    MatchOption r (IsNewName name (variable_names vars)) (λ n. slice_get (variable_names vars) n ≡ Some name)
variable_is name vars None is = no_place name (variable_names vars)
    (position-map (bytes_eq name) (λ (v : VarInfo). v.name) vars ∙ sym is)
variable_is name vars (Some n) is = place_is name (variable_names vars) n
    (position-map (bytes_eq name) (λ (v : VarInfo). v.name) vars ∙ sym is)

-- a name that is none of two lists'
pub new_in_both : (name : List ℕ) (xs ys : List (List ℕ)) → IsNewName name xs → IsNewName name ys →
    IsNewName name (xs ++ ys)
new_in_both name [] ys a b = b
new_in_both name (x ∷ xs) ys a b = (a.0, new_in_both name xs ys a.1 b)

pub new_in_first : (name : List ℕ) (xs ys : List (List ℕ)) → IsNewName name (xs ++ ys) →
    IsNewName name xs × IsNewName name ys
new_in_first name [] ys a = (tt, a)
new_in_first name (x ∷ xs) ys a = let r = new_in_first name xs ys a.1 in ((a.0, r.0), r.1)

-- one more name
pub new_names_and_one : (seen xs : List (List ℕ)) (x : List ℕ) → AreNewNames seen xs →
    IsNewName x (seen ++ xs) → AreNewNames seen (xs ++ x ∷ [])
new_names_and_one seen [] x all one = (subst (λ zs. IsNewName x zs) (append-nil seen) one, tt)
new_names_and_one seen (y ∷ ys) x all one = (
  all.0,
  new_names_and_one (seen ++ y ∷ []) ys x all.1
      (subst (λ zs. IsNewName x zs) (sym (append_assoc seen (y ∷ []) ys)) one),
)

-- names that are new to fewer names
fewer_seen : (others seen names : List (List ℕ)) → AreNewNames (others ++ seen) names → AreNewNames seen names
fewer_seen others seen [] all = tt
fewer_seen others seen (n ∷ ns) all = (
  (new_in_first n others seen all.0).1,
  fewer_seen others (seen ++ n ∷ []) ns (subst (λ s. AreNewNames s ns) (append_assoc others seen (n ∷ [])) all.1),
)

pub only_distinct : (seen names : List (List ℕ)) → AreNewNames seen names → AreNewNames [] names
only_distinct seen names all = fewer_seen seen [] names (subst (λ s. AreNewNames s names) (sym (append-nil seen)) all)

-- each of the names is new to those before them
pub new_at : (seen names : List (List ℕ)) (i : ℕ) (x : List ℕ) → AreNewNames seen names →
    slice_get names i ≡ Some x → IsNewName x seen
new_at seen [] i x all at = let q : None ≡ Some x = at in absurd (cc)
new_at seen (n ∷ ns) zero x all at = let q : Some n ≡ Some x = at in let e : n ≡ x = cc in
    subst (λ m. IsNewName m seen) e all.0
new_at seen (n ∷ ns) (suc i) x all at = (new_in_first x seen (n ∷ []) (new_at (seen ++ n ∷ []) ns i x all.1 at)).0

-- a name has one place
pub one_place : (seen names : List (List ℕ)) (i j : ℕ) (x : List ℕ) → AreNewNames seen names →
    slice_get names i ≡ Some x → slice_get names j ≡ Some x → i ≡ j
one_place seen [] i j x all a b = let q : None ≡ Some x = a in absurd (cc)
one_place seen (n ∷ ns) zero zero x all a b = refl
one_place seen (n ∷ ns) zero (suc j) x all a b =
    let q : Some n ≡ Some x = a in
    let e : x ≡ n = cc in
    absurd ((new_in_first x seen (n ∷ []) (new_at (seen ++ n ∷ []) ns j x all.1 b)).1.0 e)
one_place seen (n ∷ ns) (suc i) zero x all a b =
    let q : Some n ≡ Some x = b in
    let e : x ≡ n = cc in
    absurd ((new_in_first x seen (n ∷ []) (new_at (seen ++ n ∷ []) ns i x all.1 a)).1.0 e)
one_place seen (n ∷ ns) (suc i) (suc j) x all a b = ap suc (one_place (seen ++ n ∷ []) ns i j x all.1 a b)

new_names : (name : List ℕ) (es : List (List ℕ × SymInfo)) → IsNew name es →
    IsNewName name (map (λ (e : List ℕ × SymInfo). e.0) es)
new_names name [] new = tt
new_names name (e ∷ es) new = (new.0, new_names name es new.1)

fresh_names : (seen es : List (List ℕ × SymInfo)) → AreFresh seen es →
    AreNewNames (map (λ (e : List ℕ × SymInfo). e.0) seen) (map (λ (e : List ℕ × SymInfo). e.0) es)
fresh_names seen [] all = tt
fresh_names seen (e ∷ es) all = (
  new_names e.0 seen all.0,
  subst (λ ns. AreNewNames ns (map (λ (e : List ℕ × SymInfo). e.0) es))
      (map-append (λ (e : List ℕ × SymInfo). e.0) seen (e ∷ [])) (fresh_names (seen ++ e ∷ []) es all.1),
)

-- the symbols of a declared signature have distinct names, and so have its sorts
pub symbols_distinct : (sig : Sig) → IsDeclared sig → AreNewNames [] (names_of sig)
symbols_distinct sig d = subst (λ (s : Sig). AreNewNames [] (names_of s)) (sym d.is)
    (fresh_names [] (all_symbols d.constructors d.functions) d.distinct.1)

pub sorts_distinct : (sig : Sig) → IsDeclared sig → AreNewNames [] sig.sorts
sorts_distinct sig d = subst (λ (s : Sig). AreNewNames [] s.sorts) (sym d.is) d.distinct.0

-- and to the names before it
pub new_before : (seen names : List (List ℕ)) (i : ℕ) (x : List ℕ) → AreNewNames seen names →
    slice_get names i ≡ Some x → IsNewName x (take i names)
new_before seen names i x all at = absent_new x (take i names) (λ j there. let r = take_get names i j x there in
    let e : j ≡ i = one_place seen names j i x all r.1 at in let lt : j < i = r.0 in absurd (omega arith))
