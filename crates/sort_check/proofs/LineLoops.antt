-- One more name of an equal line, one more line, and one more weight.
use Rattle.std.proofs.Common.{◌≡◌, ◌≢◌, ℕ, ◌+◌, ◌<◌, ◌≤◌, Bool, false, Option, Some, List, [], ◌∷◌, ◌++◌, length, map}
use Rattle.std.proofs.Common.{take, drop, get_or, set, ap, sym, ◌∙◌, subst, arith, append_assoc, max, refl, replicate}
use Rattle.std.specs.Prelude.{unwrap_or, if◌then◌else◌}
use Rattle.std.specs.List.{range_with_len}
use Rattle.std.proofs.lemmas.List.{append-nil, ext_get_or, map_more, map-append, take_all, length-map, get_or-map}
use Rattle.std.proofs.lemmas.List.{get_or-replicate}
use Rattle.std.proofs.lemmas.List.FromFn.{length-map-range_with_len, get_or-map-range_with_len, get_or-range_with_len}
use Rattle.term_core.specs.declared.ids.SymId.{SymId}
use Rattle.term_core.proofs.Items.{drop_past, taken_next}
use Rattle.spec_core.specs.Sig.{Sig}
use Rattle.spec_core.specs.Orders.{arities}
use Rattle.spec_core.specs.Findings.{Clean}
use Rattle.spec_core.proofs.ByNumber.{count-arities}
use Rattle.spec_grammar.specs.declared.raw.RawName.{RawName}
use Rattle.spec_grammar.specs.declared.raw.RawEqual.{RawEqual}
use Rattle.spec_grammar.specs.declared.raw.RawStatus.{RawStatus}
use Rattle.spec_grammar.specs.declared.raw.RawWeight.{RawWeight}
use Rattle.sort_check.specs.Orders.{is_among, greatest, symbol_number, symbol_numbers, level_in, status_in, weight_in}
use Rattle.sort_check.specs.Orders.{all_numbers}
use Rattle.sort_check.specs.OrderTests.{arity, names_in, heads_of, weighed_names, equal_tests, IsUnlikeFirst}
use Rattle.sort_check.specs.Marks.{AreMarks, numbers_of, wanted_arity}
use Rattle.sort_check.proofs.Levels.{greatest-more, names_in-more, heads_of-more, level-next, numbers-append}
use Rattle.sort_check.proofs.FirstLines.{given-next}
use Rattle.sort_check.proofs.Precedences.{line-apart}

-- what is written to a part that is the whole
pub written-whole :
    {A : Type 0} (xs ys : List A) (n : ℕ) → n ≡ length xs → length ys ≤ length xs →
    take n (xs ++ drop (length xs) ys) ≡ xs
written-whole xs ys n e le =
    ap (λ zs. take n (xs ++ zs)) (drop_past ys (length xs) le)
    ∙ ap (λ zs. take n zs) (append-nil xs)
    ∙ take_all n xs (omega arith)

-- what is written to a vector by its slice is what it holds then, and it is as long as before
pub slice-written :
    {A : Type 0} (new slice old : List A) (n : ℕ) → slice ≡ old → n ≡ length slice → length new ≡ length slice →
    (take n (new ++ drop (length new) old) ≡ new)
    × (length (take n (new ++ drop (length new) old)) ≡ length old)
slice-written new slice old n same whole long =
    let as_long : length new ≡ length old = long ∙ ap (λ xs. length xs) same in
    let is = written-whole new old n (whole ∙ sym long) (omega (arith, as_long)) in
    (is, ap (λ xs. length xs) is ∙ as_long)

pub greatest-next :
    (fs : List SymId) (i : ℕ) (f : SymId) → i < length fs →
    max (greatest (numbers_of (take i fs))) (get_or fs i f).0 ≡ greatest (numbers_of (take (i + 1) fs))
greatest-next fs i f lt =
    sym (ap greatest (map_more (λ (g : SymId). g.0) fs i f lt)
    ∙ greatest-more (numbers_of (take i fs)) (get_or fs i f).0)

module _ (sig : Sig) where
  -- the functions of a line have the number of arguments of its first
  pub unlike_first :
      (line : List RawName) (raw : RawName) (wanted : Option ℕ) (count : ℕ) →
      wanted ≡ wanted_arity sig line → count ≡ arity sig raw → unwrap_or wanted count ≢ count →
      IsUnlikeFirst sig line raw
  unlike_first [] raw wanted count e a d = d (ap (λ o. unwrap_or o count) e)
  unlike_first (m ∷ ms) raw wanted count e a d =
      λ same. d (ap (λ o. unwrap_or o count) e ∙ sym (a ∙ same))

  pub like_first :
      (line : List RawName) (raw : RawName) (wanted : Option ℕ) (count : ℕ) →
      wanted ≡ wanted_arity sig line → count ≡ arity sig raw → unwrap_or wanted count ≡ count →
      IsUnlikeFirst sig line raw → ⊥
  like_first [] raw wanted count e a s h = h
  like_first (m ∷ ms) raw wanted count e a s h =
      h (sym a ∙ sym s ∙ ap (λ o. unwrap_or o count) e)

  pub wanted-next :
      (line : List RawName) (raw : RawName) (wanted : Option ℕ) (count : ℕ) →
      wanted ≡ wanted_arity sig line → count ≡ arity sig raw → unwrap_or wanted count ≡ count →
      Some count ≡ wanted_arity sig (line ++ raw ∷ [])
  wanted-next [] raw wanted count e a s = ap (λ n. Some n) a
  wanted-next (m ∷ ms) raw wanted count e a s =
      ap (λ n. Some n) (sym s ∙ ap (λ o. unwrap_or o count) e)

  module _ (raws : List RawName) (i : ℕ) (raw : RawName) (lt : i < length raws) (is : raw ≡ get_or raws i raw) where
    pub numbers-next :
        symbol_numbers sig (take i raws) ++ symbol_number sig raw ∷ []
        ≡ symbol_numbers sig (take (i + 1) raws)
    numbers-next =
        sym (ap (symbol_numbers sig) (taken_next raws i raw lt is)
        ∙ numbers-append sig (take i raws) (raw ∷ []))

    pub functions-next :
        (fs made : List SymId) (f : SymId) → numbers_of fs ≡ symbol_numbers sig (take i raws) →
        symbol_number sig raw ≡ f.0 → made ≡ fs ++ f ∷ [] →
        numbers_of made ≡ symbol_numbers sig (take (i + 1) raws)
    functions-next fs made f before here pushed =
        ap numbers_of pushed ∙ map-append (λ (g : SymId). g.0) fs (f ∷ [])
        ∙ ap (λ ns. ns ++ f.0 ∷ []) before
        ∙ ap (λ n. symbol_numbers sig (take i raws) ++ n ∷ []) (sym here) ∙ numbers-next

    pub seen-next :
        (seen : List ℕ) (f : ℕ) (marks : List Bool) → symbol_number sig raw ≡ f →
        AreMarks ((seen ++ symbol_numbers sig (take i raws)) ++ f ∷ []) marks →
        AreMarks (seen ++ symbol_numbers sig (take (i + 1) raws)) marks
    seen-next seen f marks here are =
        subst (λ ns. AreMarks ns marks)
        (append_assoc seen (symbol_numbers sig (take i raws)) (f ∷ [])
        ∙ ap (λ n. seen ++ (symbol_numbers sig (take i raws) ++ n ∷ [])) (sym here)
        ∙ ap (λ ns. seen ++ ns) numbers-next)
        are

    pub wanted_next :
        (wanted : Option ℕ) (count : ℕ) → wanted ≡ wanted_arity sig (take i raws) →
        count ≡ arity sig raw → unwrap_or wanted count ≡ count →
        Some count ≡ wanted_arity sig (take (i + 1) raws)
    wanted_next wanted count e a s =
        wanted-next (take i raws) raw wanted count e a s
        ∙ ap (wanted_arity sig) (sym (taken_next raws i raw lt is))

  -- Equal lines.

  module _ (raws : List RawEqual) (i : ℕ) (raw : RawEqual) (lt : i < length raws) (is : raw ≡ get_or raws i raw) where
    pub names-next :
        symbol_numbers sig (names_in (take i raws)) ++ symbol_numbers sig raw.names
        ≡ symbol_numbers sig (names_in (take (i + 1) raws))
    names-next =
        sym (ap (λ ls. symbol_numbers sig (names_in ls)) (taken_next raws i raw lt is)
        ∙ names_in-more sig (take i raws) raw)

    pub levels-next :
        (f before after : ℕ) (fs : List ℕ) →
        Clean (equal_tests sig (take i raws) raw) → fs ≡ symbol_numbers sig raw.names →
        before ≡ level_in sig (take i raws) f →
        after ≡ (if is_among f fs then greatest fs else before) →
        after ≡ level_in sig (take (i + 1) raws) f
    levels-next f before after fs clean named was made =
        made ∙ ap (λ ns. if is_among f ns then greatest ns else before) named
        ∙ ap (λ n. if is_among f (symbol_numbers sig raw.names) then greatest (symbol_numbers sig raw.names) else n) was
        ∙ level-next sig f (take i raws) raw
        (line-apart sig (symbol_numbers sig (names_in (take i raws))) [] raw.names clean f)
        ∙ ap (λ ls. level_in sig ls f) (sym (taken_next raws i raw lt is))

  pub levels-begin : (f : ℕ) (levels : List ℕ) → levels ≡ all_numbers sig → f < length sig.table → get_or levels f 0 ≡ f
  levels-begin f levels e lt =
      ap (λ ls. get_or ls f 0) e
      ∙ (let k : get_or (all_numbers sig) f 0 ≡ 0 + f = get_or-range_with_len 0 (length sig.table) f 0 lt in
      omega (arith, k))

  -- a list that has the values of a function at the numbers of all symbols
  pub all-made :
      {X : Type 0} (d : X) (g : ℕ → X) (xs : List X) → length xs ≡ length sig.table →
      ((f : ℕ) → f < length sig.table → get_or xs f d ≡ g f) → xs ≡ map g (all_numbers sig)
  all-made d g xs long each =
      ext_get_or d xs (map g (all_numbers sig))
      (long ∙ sym (length-map-range_with_len g 0 (length sig.table)))
      (λ f lt.
      let within : f < length sig.table = omega (arith, lt, long) in
      let e : 0 + f ≡ f = omega arith in
      each f within ∙ sym (get_or-map-range_with_len g 0 (length sig.table) f f d within e))

  -- Status lines.

  module _ (raws : List RawStatus) (i : ℕ) (raw : RawStatus) (lt : i < length raws) (is : raw ≡ get_or raws i raw) where
    pub heads-next :
        (marks : List Bool) (f : ℕ) → symbol_number sig raw.head ≡ f →
        AreMarks (symbol_numbers sig (heads_of (take i raws)) ++ f ∷ []) marks →
        AreMarks (symbol_numbers sig (heads_of (take (i + 1) raws))) marks
    heads-next marks f here are =
        subst (λ ns. AreMarks ns marks)
        (ap (λ n. symbol_numbers sig (heads_of (take i raws)) ++ n ∷ []) (sym here)
        ∙ sym (ap (λ ls. symbol_numbers sig (heads_of ls)) (taken_next raws i raw lt is)
        ∙ heads_of-more sig (take i raws) raw))
        are

    pub statuses-next :
        (f g : ℕ) (statuses : List (List ℕ)) → g < length statuses → symbol_number sig raw.head ≡ g →
        is_among g (symbol_numbers sig (heads_of (take i raws))) ≡ false →
        get_or statuses f [] ≡ status_in sig (take i raws) f →
        get_or (set statuses g raw.numbers) f [] ≡ status_in sig (take (i + 1) raws) f
    statuses-next f g =
        given-next (λ (line : RawStatus). symbol_number sig line.head) (λ (line : RawStatus). line.numbers)
        (λ lines. symbol_numbers sig (heads_of lines)) (status_in sig) refl (λ l ls. refl) (λ l ls k. refl)
        raws i raw lt is f g []

  pub statuses-begin :
      (f : ℕ) (statuses : List (List ℕ)) → statuses ≡ map (range_with_len 1) (arities sig) →
      f < length sig.table → get_or statuses f [] ≡ status_in sig [] f
  statuses-begin f statuses e lt =
      ap (λ ss. get_or ss f []) e
      ∙ get_or-map (range_with_len 1) (arities sig) f 0 [] (omega (arith, lt, count-arities sig))

  pub statuses-long :
      (statuses : List (List ℕ)) → statuses ≡ map (range_with_len 1) (arities sig) →
      length statuses ≡ length sig.table
  statuses-long statuses e =
      ap (λ ss. length ss) e ∙ length-map (arities sig) (range_with_len 1) ∙ count-arities sig

  -- Weights.

  module _ (raws : List RawWeight) (i : ℕ) (raw : RawWeight) (lt : i < length raws) (is : raw ≡ get_or raws i raw) where
    pub weighed-next :
        (marks : List Bool) → AreMarks (symbol_numbers sig (weighed_names (take i raws ++ raw ∷ []))) marks →
        AreMarks (symbol_numbers sig (weighed_names (take (i + 1) raws))) marks
    weighed-next marks are =
        subst (λ ws. AreMarks (symbol_numbers sig (weighed_names ws)) marks) (sym (taken_next raws i raw lt is)) are

    pub weights-next :
        (f g : ℕ) (weights : List ℕ) → g < length weights → symbol_number sig raw.name ≡ g →
        is_among g (symbol_numbers sig (weighed_names (take i raws))) ≡ false →
        get_or weights f 0 ≡ weight_in sig (take i raws) f →
        get_or (set weights g raw.weight) f 0 ≡ weight_in sig (take (i + 1) raws) f
    weights-next f g =
        given-next (λ (w : RawWeight). symbol_number sig w.name) (λ (w : RawWeight). w.weight)
        (λ ws. symbol_numbers sig (weighed_names ws)) (weight_in sig) refl (λ l ls. refl) (λ l ls k. refl)
        raws i raw lt is f g 0

  pub weights-begin :
      (f : ℕ) (weights : List ℕ) → weights ≡ replicate (length sig.table) 1 → f < length sig.table →
      get_or weights f 0 ≡ weight_in sig [] f
  weights-begin f weights e lt =
      ap (λ ws. get_or ws f 0) e ∙ get_or-replicate (length sig.table) f 1 0 lt
