-- The names of a goal's variables.
use Rattle.std.proofs.Common.{◌≡◌, ℕ, suc, List, [], ◌∷◌, ◌++◌, Option, Some, None, option_map, refl, ap, sym, ◌∙◌}
use Rattle.std.proofs.Common.{subst, arith, length, position, map, take, append_assoc}
use Rattle.std.specs.List.{AllByRecursion, AllZip}
use Rattle.std.specs.Prelude.{slice_get, unwrap_or}
use Rattle.std.specs.Str.{bytes_eq}
use Rattle.std.proofs.lemmas.List.{append-nil, map-append}
use Rattle.term_core.specs.declared.ids.SortId.{SortId}
use Rattle.spec_core.specs.Sig.{Sig, names_of}
use Rattle.spec_core.specs.Small.{sort_of_number}
use Rattle.spec_core.specs.Declarations.{IsNewName, AreNewNames}
use Rattle.spec_core.specs.Findings.{Clean, each_after}
use Rattle.spec_grammar.specs.RawTree.{RawTree, RawTrees, word, none as no_raws, some as more_raws}
use Rattle.spec_grammar.specs.declared.raw.RawBind.{RawBind}
use Rattle.spec_grammar.specs.declared.raw.RawEq.{RawEq}
use Rattle.sort_check.specs.Entries.{entry_named, entry_names, sort_at, sort_so_far, with_variable}
use Rattle.sort_check.specs.Words.{symbol_named, info_at, after_word, entries_after, entries_after_all}
use Rattle.sort_check.specs.Occurrence.{with_name, after_word as names_after_word, names_after, names_after_all}
use Rattle.sort_check.specs.Occurrence.{names_after_sides}
use Rattle.sort_check.specs.GoalTests.{bind_names, bind_tests, bound, own_sort, wanted, in_turn, left_by, sides_tests}
use Rattle.sort_check.specs.GoalTests.{after_sides, after_opposed, after_opposite, opposed_by}
use Rattle.sort_check.specs.Goals.{VariableStands}
use Rattle.sort_check.specs.Over.{variable_of, variables_of}
use Rattle.sort_check.specs.Parts.{IsFound, AreFound}
use Rattle.sort_check.specs.declared.entries.Entry.{Entry}
use Rattle.sort_check.specs.declared.faults.SortKind.TheVariants.{WrongSort}
use Rattle.sort_check.specs.declared.faults.Part.TheVariants.{Goal}
use Rattle.sort_check.proofs.Names.{place_is, no_place, new_in_both, new_names_and_one}
use Rattle.sort_check.proofs.DeclaringTests.{new_indeed}
use Rattle.sort_check.proofs.Growth.{given_names}
use Rattle.sort_check.proofs.Facts.{names_after_are}
use Rattle.sort_check.proofs.PairFacts.{found_more}

module _ (sig : Sig) where
  pub bind_entry_names : (bs : List RawBind) → entry_names (map (bound sig) bs) ≡ bind_names bs
  bind_entry_names [] = refl
  bind_entry_names (b ∷ bs) = ap (λ ns. b.name.name ∷ ns) (bind_entry_names bs)

  -- the names after the sides of equations
  pub walked_names : (es : List Entry) (eqs : List RawEq) →
      Clean (in_turn (sides_tests sig) (after_sides sig) es eqs) →
      entry_names (left_by (after_sides sig) es eqs) ≡ names_after_sides sig (entry_names es) eqs
  walked_names es [] c = refl
  walked_names es (e ∷ eqs) c =
      let mid = entries_after sig es e.left None in
      let here : entry_names (after_sides sig es e) ≡ names_after sig (names_after sig (entry_names es) e.left)
      e.right = names_after_are sig Goal mid WrongSort e.right
      (wanted (own_sort sig e.left) (own_sort sig e.right)) c.0.1
      ∙ ap (λ ns. names_after sig ns e.right) (names_after_are sig Goal es WrongSort e.left None c.0.0) in
      walked_names (after_sides sig es e) eqs c.1 ∙ ap (λ ns. names_after_sides sig ns eqs) here

  -- a variable that is found adds no name
  found_names : (es : List Entry) (r : RawTree) (place : Option SortId) → IsFound sig es r →
      own_sort sig r ≡ None → entry_names (entries_after sig es r place) ≡ entry_names es
  found_names es (word name at args) place f o = by (symbol_named sig name) o
    where
      known : (q : Option ℕ) → (n : ℕ) × (q ≡ Some n) → entry_names (with_variable es name at place q) ≡ entry_names es
      known (Some n) h = given_names es n place (sort_so_far es n)
      known None h = absurd (let z : None ≡ Some h.0 = h.1 in cc)

      by : (q : Option ℕ) → option_map (λ f. (info_at sig f).result) q ≡ None →
          entry_names (after_word sig es name at place (λ f. entries_after_all sig es args (info_at sig f).args)
          q) ≡ entry_names es
      by (Some g) e = absurd (let z : Some (info_at sig g).result ≡ None = e in cc)
      by None e = known (entry_named es name) (f o)

  pub opposed_names : (es : List Entry) (eqs : List RawEq) → AllByRecursion (AreFound sig es) eqs →
      entry_names (opposed_by sig es eqs) ≡ entry_names es
  opposed_names es [] h = refl
  opposed_names es (e ∷ eqs) h =
      let here = by (own_sort sig e.left) (own_sort sig e.right) refl refl in
      opposed_names (after_opposite sig es e) eqs (found_more sig es (after_opposite sig es e) (
        [],
        here ∙ sym (append-nil (entry_names es)),
      ) eqs h.1) ∙ here
    where
      by : (a b : Option SortId) → own_sort sig e.left ≡ a → own_sort sig e.right ≡ b →
          entry_names (after_opposed sig es e a b) ≡ entry_names es
      by (Some s) None q r = found_names es e.right (Some s) h.0.1 r
      by None (Some s) q r = found_names es e.left (Some s) h.0.0 q
      by (Some s) (Some u) q r = refl
      by None None q r = refl

  -- names that no symbol has stay distinct
  fresh_name : (seen : List (List ℕ)) (name : List ℕ) → IsNewName name (names_of sig) →
      AreNewNames (names_of sig) seen → (o : Option ℕ) → position (bytes_eq name) seen ≡ o →
      AreNewNames (names_of sig) (with_name seen name o)
  fresh_name seen name new all (Some i) e = all
  fresh_name seen name new all None e = new_names_and_one (names_of sig) seen name all
      (new_in_both name (names_of sig) seen new (no_place name seen e))

  fresh_word : (seen : List (List ℕ)) (name : List ℕ) (after : List (List ℕ)) →
      AreNewNames (names_of sig) seen → AreNewNames (names_of sig) after → (o : Option ℕ) →
      symbol_named sig name ≡ o → AreNewNames (names_of sig) (names_after_word seen name after o)
  fresh_word seen name after all h (Some f) k = h
  fresh_word seen name after all h None k = fresh_name seen name (no_place name (names_of sig) k) all
      (position (bytes_eq name) seen) refl

  mutual
    fresh_after : (seen : List (List ℕ)) (r : RawTree) → AreNewNames (names_of sig) seen →
        AreNewNames (names_of sig) (names_after sig seen r)
    fresh_after seen (word name at args) all = fresh_word seen name (names_after_all sig seen args) all
        (fresh_after_all seen args all) (symbol_named sig name) refl

    fresh_after_all : (seen : List (List ℕ)) (rs : RawTrees) → AreNewNames (names_of sig) seen →
        AreNewNames (names_of sig) (names_after_all sig seen rs)
    fresh_after_all seen no_raws all = all
    fresh_after_all seen (more_raws r rs) all = fresh_after_all (names_after sig seen r) rs (fresh_after seen r all)

  pub fresh_sides : (seen : List (List ℕ)) (eqs : List RawEq) → AreNewNames (names_of sig) seen →
      AreNewNames (names_of sig) (names_after_sides sig seen eqs)
  fresh_sides seen [] all = all
  fresh_sides seen (e ∷ eqs) all = fresh_sides (names_after sig (names_after sig seen e.left) e.right) eqs
      (fresh_after (names_after sig seen e.left) e.right (fresh_after seen e.left all))

  -- the names of bindings
  binds_after : (before bs : List RawBind) → Clean (each_after (bind_tests sig) before bs) →
      AreNewNames (names_of sig ++ bind_names before) (bind_names bs)
  binds_after before [] c = tt
  binds_after before (b ∷ bs) c =
      let rest = binds_after (before ++ b ∷ []) bs c.1 in
      let same : names_of sig ++ bind_names (before ++ b ∷ []) ≡ (names_of sig ++ bind_names before)
      ++ b.name.name ∷ [] = ap (λ ns. names_of sig ++ ns)
      (map-append (λ (d : RawBind). d.name.name) before (b ∷ []))
      ∙ sym (append_assoc (names_of sig) (bind_names before) (b.name.name ∷ [])) in (
        new_indeed b.name.name (names_of sig ++ bind_names before) c.0.0,
        subst (λ ns. AreNewNames ns (bind_names bs)) same rest,
      )

  pub binds_fresh : (bs : List RawBind) → Clean (each_after (bind_tests sig) [] bs) →
      AreNewNames (names_of sig) (bind_names bs)
  binds_fresh bs c = subst (λ ns. AreNewNames ns (bind_names bs)) (append-nil (names_of sig)) (binds_after [] bs c)

  -- the bound variables come first, with the sorts of their bindings
  bound_sort : (before : List RawBind) (b : RawBind) → Clean (bind_tests sig before b) →
      (m : ℕ) × ((bound sig b).sort ≡ Some (sort_of_number m)) × (slice_get sig.sorts m ≡ Some b.sort.name)
  bound_sort before b c = by (position (bytes_eq b.sort.name) sig.sorts) refl
    where
      by : (o : Option ℕ) → position (bytes_eq b.sort.name) sig.sorts ≡ o →
          (m : ℕ) × (option_map sort_of_number o ≡ Some (sort_of_number m)) × (slice_get sig.sorts m ≡ Some b.sort.name)
      by (Some m) e = (m, refl, place_is b.sort.name sig.sorts m e)
      by None e = absurd (c.1 (no_place b.sort.name sig.sorts e))

  pub bound_first : (before bs : List RawBind) (es : List Entry) (known : List (Option SortId))
      (more : List (List ℕ)) → Clean (each_after (bind_tests sig) before bs) → length known ≡ length es →
      entry_names es ≡ bind_names bs ++ more →
      ((n : ℕ) (s : SortId) → sort_so_far (map (bound sig) bs) n ≡ Some s → sort_at known n ≡ Some s) →
      AllZip (VariableStands sig) bs (take (length bs) (variables_of es known))
  bound_first before [] es known more c l e k = tt
  bound_first before (b ∷ bs) [] known more c l e k = absurd
      (let z : [] ≡ b.name.name ∷ (bind_names bs ++ more) = e in cc)
  bound_first before (b ∷ bs) (x ∷ es) [] more c l e k = absurd (omega arith)
  bound_first before (b ∷ bs) (x ∷ es) (o ∷ os) more c l e k =
      let z : x.name ∷ entry_names es ≡ b.name.name ∷ (bind_names bs ++ more) = e in
      let name : x.name ≡ b.name.name = cc in
      let rest : entry_names es ≡ bind_names bs ++ more = cc in
      let s = bound_sort before b c.0 in
      let found : o ≡ Some (sort_of_number s.0) = k 0 (sort_of_number s.0) s.1 in
      let stands : slice_get sig.sorts (variable_of x o).sort.0 ≡ Some b.sort.name = ap
      (λ (u : Option SortId). slice_get sig.sorts
      (unwrap_or u Rattle.spec_core.specs.Declarations.bool_sort).0) found ∙ s.2 in
      ((name, stands), bound_first (before ++ b ∷ []) bs es os more c.1 (omega arith) rest (λ n u h. k (suc n) u h))
