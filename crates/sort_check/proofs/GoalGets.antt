-- Each sort that a variable of a goal is found to have is one that it gets.
use Rattle.std.proofs.Common.{◌≡◌, ◌<◌, ℕ, zero, suc, List, [], ◌∷◌, ◌++◌, Option, Some, None, option_map, inl, inr}
use Rattle.std.proofs.Common.{refl, ap, sym, ◌∙◌, subst, arith, length, position, map, get_or-set_other}
use Rattle.std.proofs.Common.{get_or-set_same}
use Rattle.std.specs.List.{AllByRecursion, Contains}
use Rattle.std.specs.Prelude.{slice_get, unwrap_or}
use Rattle.std.specs.Str.{bytes_eq}
use Rattle.std.proofs.lemmas.List.{length-map, map-set}
use Rattle.std.proofs.lemmas.List.Quantifiers.{position-Some}
use Rattle.term_core.specs.declared.ids.SortId.{SortId}
use Rattle.spec_core.specs.declared.records.VarInfo.{VarInfo}
use Rattle.spec_core.specs.Sig.{Sig, names_of}
use Rattle.spec_core.specs.Declarations.{IsNewName}
use Rattle.spec_core.specs.Small.{sort_of_number}
use Rattle.spec_core.specs.Findings.{Clean}
use Rattle.spec_core.proofs.Names.{position-map}
use Rattle.spec_grammar.specs.RawTree.{RawTree, RawTrees, word, none as no_raws, some as more_raws}
use Rattle.spec_grammar.specs.declared.raw.RawBind.{RawBind}
use Rattle.spec_grammar.specs.declared.raw.RawEq.{RawEq}
use Rattle.spec_grammar.specs.declared.raw.RawGoal.{RawGoal}
use Rattle.sort_check.specs.Entries.{entry_named, entry_names, known_sorts, sort_at, sort_so_far, given, with_variable}
use Rattle.sort_check.specs.Words.{symbol_named, info_at, after_word, entries_after, entries_after_all, other_tests}
use Rattle.sort_check.specs.Words.{word_tests, term_tests, terms_tests}
use Rattle.sort_check.specs.GoalTests.{own_sort, wanted, in_turn, left_by, sides_tests, after_sides, opposed_tests}
use Rattle.sort_check.specs.GoalTests.{opposite_tests, after_opposed, after_opposite, opposed_by, bound as bound_entry}
use Rattle.sort_check.specs.Inference.{IsBareVariable, IsSymbol, HasResult, IsTaken, IsAnyTaken, IsEquation, Gets}
use Rattle.sort_check.specs.Inference.{bound, left_argument, right_argument, left_side, right_side}
use Rattle.sort_check.specs.Over.{variables_of}
use Rattle.sort_check.specs.declared.entries.Entry.{Entry}
use Rattle.sort_check.specs.declared.faults.SortKind.{SortKind}
use Rattle.sort_check.specs.declared.faults.SortKind.TheVariants.{WrongSort}
use Rattle.sort_check.specs.declared.faults.Part.{Part}
use Rattle.sort_check.specs.declared.faults.Part.TheVariants.{Goal}
use Rattle.sort_check.proofs.Names.{place_is, no_place}
use Rattle.sort_check.proofs.Growth.{given_names}
use Rattle.sort_check.proofs.Facts.{info_known}
use Rattle.term_core.proofs.Numbers.{same_or_not}
use Rattle.term_core.proofs.Members.{In}

-- what holds of the names and sorts of variables
module _ (P : List ℕ → SortId → Type 0) where
  abbrev pub Holds : List Entry → Type 0
  Holds es = (n : ℕ) (s : SortId) (x : List ℕ) → sort_so_far es n ≡ Some s →
      slice_get (entry_names es) n ≡ Some x → P x s

  given_holds : (es : List Entry) (m : ℕ) (name : List ℕ) (place known : Option SortId) → Holds es →
      m < length es → slice_get (entry_names es) m ≡ Some name → ((s : SortId) → place ≡ Some s → P name s) →
      Holds (given es m place known)
  given_holds es m name place (Some u) h lt at g n s x k e = h n s x k e
  given_holds es m name None None h lt at g n s x k e = h n s x k e
  given_holds es m name (Some u) None h lt at g n s x k e = elim (same_or_not n m) [
    | inl q ↦
        let same_name : Some name ≡ Some x = sym at ∙ ap (λ i. slice_get (entry_names es) i) (sym q)
        ∙ ap (λ ns. slice_get ns n) (sym (given_names es m (Some u) None)) ∙ e in
        let long : m < length (known_sorts es) = omega (arith, length-map es (λ (e : Entry). e.sort)) in
        let here : sort_at (known_sorts (given es m (Some u) None)) m ≡ Some u = ap (λ ks. sort_at ks m)
        (map-set (λ (e : Entry). e.sort) es m _) ∙ get_or-set_same (known_sorts es) m (Some u) None long in
        let same_sort : Some u ≡ Some s = sym here
        ∙ ap (λ i. sort_at (known_sorts (given es m (Some u) None)) i) (sym q) ∙ k in
        let a : name ≡ x = cc in
        let b : u ≡ s = cc in
        subst (λ y. P y s) a (subst (λ v. P name v) b (g u refl))
    | inr q ↦
        let there : sort_at (known_sorts es) n ≡ Some s = sym
        (ap (λ ks. sort_at ks n) (map-set (λ (e : Entry). e.sort) es m _)
        ∙ get_or-set_other (known_sorts es) m n (Some u) None q) ∙ k in
        h n s x there (ap (λ ns. slice_get ns n) (sym (given_names es m (Some u) None)) ∙ e)
  ]

  append_holds : (es : List Entry) (name : List ℕ) (at : ℕ) (place : Option SortId) → Holds es →
      ((s : SortId) → place ≡ Some s → P name s) → Holds (es ++ record { name = name; at = at; sort = place } ∷ [])
  append_holds [] name at place h g zero s x k e = let z : Some name ≡ Some x = e in let a : name ≡ x = cc in
      subst (λ y. P y s) a (g s k)
  append_holds [] name at place h g (suc n) s x k e = absurd (let z : None ≡ Some s = k in cc)
  append_holds (f ∷ es) name at place h g zero s x k e = h 0 s x k e
  append_holds (f ∷ es) name at place h g (suc n) s x k e = append_holds es name at place
      (λ m u y i j. h (suc m) u y i j) g n s x k e

  variable_holds : (es : List Entry) (name : List ℕ) (at : ℕ) (place : Option SortId) (o : Option ℕ) →
      entry_named es name ≡ o → Holds es → ((s : SortId) → place ≡ Some s → P name s) →
      Holds (with_variable es name at place o)
  variable_holds es name at place (Some m) q h g =
      let p = position-Some (λ (v : Entry). bytes_eq name v.name) es m (record { name = []; at = 0; sort = None }) q in
      given_holds es m name place (sort_so_far es m) h p.0
      (place_is name (entry_names es) m (position-map (bytes_eq name) (λ (e : Entry). e.name) es ∙ q)) g
  variable_holds es name at place None q h g = append_holds es name at place h g

  module _ (sig : Sig) where
    symbol_is : (name : List ℕ) (f : ℕ) → symbol_named sig name ≡ Some f → IsSymbol sig name (info_at sig f)
    symbol_is name f k = (f, place_is name (names_of sig) f k, info_known sig name f k)

    other_holds : (part : Part) (es : List Entry) (wrong : SortKind) (name : List ℕ) (at : ℕ) (args : RawTrees)
        (place : Option SortId) → symbol_named sig name ≡ None →
        Clean (other_tests part es wrong name at args place) → Holds es →
        ((x : List ℕ) (s : SortId) → IsBareVariable sig x (word name at args) → place ≡ Some s → P x s) →
        Holds (with_variable es name at place (entry_named es name))
    other_holds part es wrong name at no_raws place k c h g = variable_holds es name at place
        (entry_named es name) refl h (λ s e. g name s (refl, refl, no_place name (names_of sig) k) e)
    other_holds part es wrong name at (more_raws t ts) place k c h g = absurd (c tt)

    word_holds : (part : Part) (es : List Entry) (wrong : SortKind) (name : List ℕ) (at : ℕ) (args : RawTrees)
        (place : Option SortId) (o : Option ℕ) → symbol_named sig name ≡ o →
        Clean (word_tests sig part es wrong name at args place
        (λ f. terms_tests sig part es args (info_at sig f).args) o) → Holds es →
        ((x : List ℕ) (s : SortId) → IsBareVariable sig x (word name at args) → place ≡ Some s → P x s) →
        ((f : ℕ) → o ≡ Some f → Clean (terms_tests sig part es args (info_at sig f).args) →
        Holds (entries_after_all sig es args (info_at sig f).args)) →
        Holds (after_word sig es name at place (λ f. entries_after_all sig es args (info_at sig f).args) o)
    word_holds part es wrong name at args place (Some f) k c h v r = r f refl c.1
    word_holds part es wrong name at args place None k c h v r = other_holds part es wrong name at args place k c h v

    mutual
      -- after a term in which each variable at a place has the property with the place's sort
      pub holds_after : (part : Part) (es : List Entry) (wrong : SortKind) (r : RawTree)
          (place : Option SortId) → Clean (term_tests sig part es wrong r place) → Holds es →
          ((x : List ℕ) (s : SortId) → IsBareVariable sig x r → place ≡ Some s → P x s) →
          ((x : List ℕ) (s : SortId) → IsTaken sig x s r → P x s) → Holds (entries_after sig es r place)
      holds_after part es wrong (word name at args) place c h v t = word_holds part es wrong name at args place
          (symbol_named sig name) refl c h v (λ f k d. holds_after_all part es args (info_at sig f).args d h
          (λ x s a. t x s (info_at sig f, symbol_is name f k, a)))

      pub holds_after_all : (part : Part) (es : List Entry) (rs : RawTrees) (ss : List SortId) →
          Clean (terms_tests sig part es rs ss) → Holds es →
          ((x : List ℕ) (s : SortId) → IsAnyTaken sig x s rs ss → P x s) → Holds (entries_after_all sig es rs ss)
      holds_after_all part es no_raws ss c h t = h
      holds_after_all part es (more_raws r rs) [] c h t = h
      holds_after_all part es (more_raws r rs) (u ∷ us) c h t = holds_after_all part
          (entries_after sig es r (Some u)) rs us c.1
          (holds_after part es WrongSort r (Some u) c.0 h (λ x s v e. let z : Some u ≡ Some s = e in
          let q : u ≡ s = cc in t x s (inl (v, q))) (λ x s a. t x s (inr (inl a)))) (λ x s a. t x s (inr (inr a)))

-- the sorts that a goal's variables get
module _ (sig : Sig) (raw : RawGoal) where
  abbrev pub Got : List ℕ → SortId → Type 0
  Got x s = Gets sig raw x s

  own_result : (r : RawTree) (s : SortId) → own_sort sig r ≡ Some s → HasResult sig r s
  own_result (word name at args) s e = by (symbol_named sig name) refl e
    where
      by : (o : Option ℕ) → symbol_named sig name ≡ o → option_map (λ f. (info_at sig f).result) o ≡ Some s →
          HasResult sig (word name at args) s
      by None k e = absurd (let z : None ≡ Some s = e in cc)
      by (Some f) k e = let z : Some (info_at sig f).result ≡ Some s = e in
          let q : (info_at sig f).result ≡ s = cc in
          (info_at sig f, (f, place_is name (names_of sig) f k, info_known sig name f k), q)

  own_no_variable : (r : RawTree) (u : SortId) (x : List ℕ) → own_sort sig r ≡ Some u → IsBareVariable sig x r → ⊥
  own_no_variable (word name at args) u x e v = by (symbol_named sig name) refl e
    where
      by : (o : Option ℕ) → symbol_named sig name ≡ o → option_map (λ f. (info_at sig f).result) o ≡ Some u → ⊥
      by None k e = let z : None ≡ Some u = e in cc
      by (Some f) k e = Rattle.sort_check.proofs.Names.new_not name (names_of sig) f v.2
          (place_is name (names_of sig) f k)

  -- the sides of equations
  pub sides_hold : (es : List Entry) (eqs : List RawEq) → ((e : RawEq) → In e eqs → IsEquation sig raw e) →
      Clean (in_turn (sides_tests sig) (after_sides sig) es eqs) → Holds Got es →
      Holds Got (left_by (after_sides sig) es eqs)
  sides_hold es [] i c h = h
  sides_hold es (e ∷ eqs) i c h =
      let here = i e (inl refl) in
      let mid = entries_after sig es e.left None in
      let place = wanted (own_sort sig e.left) (own_sort sig e.right) in
      let first = holds_after Got sig Goal es WrongSort e.left None c.0.0 h
      (λ x s v q. absurd (let z : None ≡ Some s = q in cc)) (λ x s t. left_argument e here t) in
      let second = holds_after Got sig Goal mid WrongSort e.right place c.0.1 first
      (λ x s v q. absurd (wanted_no_variable (own_sort sig e.left) (own_sort sig e.right) s x refl q v))
      (λ x s t. right_argument e here t) in
      sides_hold (after_sides sig es e) eqs (λ d j. i d (inr j)) c.1 second
    where
      wanted_no_variable : (a b : Option SortId) (s : SortId) (x : List ℕ) → own_sort sig e.right ≡ b →
          wanted a b ≡ Some s → IsBareVariable sig x e.right → ⊥
      wanted_no_variable (Some u) (Some w) s x q k v = own_no_variable e.right w x q v
      wanted_no_variable (Some u) None s x q k v = let z : None ≡ Some s = k in cc
      wanted_no_variable None b s x q k v = let z : None ≡ Some s = k in cc

  -- the equations of a variable and a term
  pub opposites_hold : (es : List Entry) (eqs : List RawEq) → ((e : RawEq) → In e eqs → IsEquation sig raw e) →
      Clean (in_turn (opposite_tests sig) (after_opposite sig) es eqs) → Holds Got es →
      Holds Got (opposed_by sig es eqs)
  opposites_hold es [] i c h = h
  opposites_hold es (e ∷ eqs) i c h = opposites_hold (after_opposite sig es e) eqs (λ d j. i d (inr j)) c.1
      (by (own_sort sig e.left) (own_sort sig e.right) refl refl c.0)
    where
      by : (a b : Option SortId) → own_sort sig e.left ≡ a → own_sort sig e.right ≡ b →
          Clean (opposed_tests sig es e a b) → Holds Got (after_opposed sig es e a b)
      by (Some u) None q r d = holds_after Got sig Goal es WrongSort e.right (Some u) d h
          (λ x s v k. right_side e (i e (inl refl)) v (own_result e.left s (q ∙ k)))
          (λ x s t. right_argument e (i e (inl refl)) t)
      by None (Some u) q r d = holds_after Got sig Goal es WrongSort e.left (Some u) d h
          (λ x s v k. left_side e (i e (inl refl)) v (own_result e.right s (r ∙ k)))
          (λ x s t. left_argument e (i e (inl refl)) t)
      by (Some u) (Some w) q r d = h
      by None None q r d = h

  -- bindings
  pub binds_hold : (bs : List RawBind) → ((b : RawBind) → In b bs → Contains raw.binds b) →
      Holds Got (map (bound_entry sig) bs)
  binds_hold [] i n s x k e = absurd (let z : None ≡ Some s = k in cc)
  binds_hold (b ∷ bs) i zero s x k e = by (position (bytes_eq b.sort.name) sig.sorts) refl k
    where
      by : (o : Option ℕ) → position (bytes_eq b.sort.name) sig.sorts ≡ o →
          option_map (λ n. record { 0 = n }) o ≡ Some s → Got x s
      by None q k = absurd (let z : None ≡ Some s = k in cc)
      by (Some m) q k =
          let z : Some (sort_of_number m) ≡ Some s = k in
          let w : Some b.name.name ≡ Some x = e in
          let there : slice_get sig.sorts s.0 ≡ Some b.sort.name = ap
          (λ (o : Option SortId). slice_get sig.sorts (unwrap_or o (record { 0 = m })).0) (sym z)
          ∙ place_is b.sort.name sig.sorts m q in
          let name : b.name.name ≡ x = cc in
          bound b (i b (inl refl)) name there
  binds_hold (b ∷ bs) i (suc n) s x k e = binds_hold bs (λ d j. i d (inr j)) n s x k e

-- of each variable with the sort that is known of it
pub all_get : (P : List ℕ → SortId → Type 0) (es : List Entry) (known : List (Option SortId)) →
    ((n : ℕ) (s : SortId) (x : List ℕ) → sort_at known n ≡ Some s → slice_get (entry_names es) n ≡ Some x →
    P x s) → ((n : ℕ) → n < length es → (s : SortId) × (sort_at known n ≡ Some s)) →
    AllByRecursion (λ (v : VarInfo). P v.name v.sort) (variables_of es known)
all_get P [] known h k = tt
all_get P (e ∷ es) [] h k = tt
all_get P (e ∷ es) (o ∷ os) h k =
    let s = k 0 (omega arith) in (
      subst (λ u. P e.name (unwrap_or u Rattle.spec_core.specs.Declarations.bool_sort)) (sym s.1)
          (h 0 s.0 e.name s.1 refl),
      all_get P es os (λ n u x i j. h (suc n) u x i j) (λ n lt. k (suc n) (omega arith)),
    )
